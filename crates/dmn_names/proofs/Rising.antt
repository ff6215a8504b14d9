-- No name stands twice among names that rise.
use Rattle.std.proofs.Common.{◌≡◌, ap, ap₂, refl, List, [], ◌∷◌, true, false, not, ◌&&◌, ◌||◌, Greater, is_lt}
use Rattle.feel_text.specs.NameOrder.{name_cmp, IsBefore}
use Rattle.feel_text.proofs.NameOrder.{before_later, less_turned, unlike}
use Rattle.feel_value.specs.Distinct.{is_among, are_distinct}
use Rattle.dmn_form.specs.Model.{Name}
use Rattle.dmn_names.specs.Names.{have_twice}
use Rattle.dmn_names.proofs.NamesBack.{both}
use Rattle.dmn_names.specs.Rising.{rise_from, are_rising}

-- a name before all of them is none of them
before_all : (k m : Name) (ns : List Name) → IsBefore k m → rise_from m ns ≡ true → is_among ns k ≡ false
before_all k m [] b e = refl
before_all k m (n ∷ ns) b e =
    let parts = both (is_lt (name_cmp m n)) (rise_from n ns) e in
    let next : IsBefore k n = before_later k m n b parts.0 in
    ap₂ (λ x y. x || y) (unlike n k Greater (less_turned k n next) refl) (before_all k n ns next parts.1)

first_of_rising : (m : Name) (ns : List Name) → rise_from m ns ≡ true → is_among ns m ≡ false
first_of_rising m [] e = refl
first_of_rising m (n ∷ ns) e =
    let parts = both (is_lt (name_cmp m n)) (rise_from n ns) e in
    let next : IsBefore m n = parts.0 in
    ap₂ (λ x y. x || y) (unlike n m Greater (less_turned m n next) refl) (before_all m n ns next parts.1)

rising_from : (m : Name) (ns : List Name) → rise_from m ns ≡ true → are_distinct (m ∷ ns) ≡ true
rising_from m [] e = refl
rising_from m (n ∷ ns) e =
    ap₂ (λ x y. not x && y) (first_of_rising m (n ∷ ns) e) (rising_from n ns (both (is_lt (name_cmp m n)) (rise_from n ns) e).1)

pub rising_once : (ns : List Name) → are_rising ns ≡ true → have_twice ns ≡ false
rising_once [] e = refl
rising_once (n ∷ ns) e = ap not (rising_from n ns e)
