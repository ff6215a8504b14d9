-- Needed names, and what was found for them.
use Rattle.std.proofs.Common.{◌≡◌, ◌∙◌, sym, ap, refl, subst, ◌-◌, ℕ, zero, suc, ◌+◌, ◌<◌, ◌≤◌, Bool, true, false, List, [], ◌∷◌, ◌++◌, map, take, length, get_or, Option, Some, None, is_some, unwrap_or, option_map, bytes_eq, if◌then◌else◌, ◌&&◌, MatchOption, arith}
use Rattle.std.specs.List.{list_all}
use Rattle.std.proofs.lemmas.List.{map-append, length-map, get_or-map, take_more, take-map, take_all, length-take-le, get_or-take}
use Rattle.std.proofs.lemmas.List.Folds.{list_all-map}
use Rattle.std.proofs.lemmas.Option.{same_Some}
use Rattle.feel_value.specs.Datum.{Datum, null}
use Rattle.feel_value.specs.Found.{◌>>=◌}
use Rattle.feel_value.specs.declared.feel.Outcome.{Outcome}
use Rattle.feel_text.specs.Meaning.{Bindings, bound, first_some}
use Rattle.feel_text.specs.Needed.{Places, named_places, names_of, found_at, bindings_from, is_found, lent_to, need_at, value_at, AreLent}
use Rattle.feel_text.specs.NameOrder.{IsBefore, IsInOrder, IsNameAt, name_ranked}
use Rattle.feel_text.specs.Places.{place_after, last_place}
use Rattle.feel_text.specs.declared.needs.Need.{Need}
use Rattle.feel_text.proofs.Bindings.{last_place-push, same_text, text_itself}
use Rattle.feel_text.proofs.Ordered.{one_behind, same_position}

-- ---- positions of the last of a name

abbrev pub place_of : Need → List ℕ × ℕ
place_of n = (n.name, n.place)

-- the same names up to a place
pub last_up_to : (name : List ℕ) (xs : List Need) (i : ℕ) (x : Need) → x ≡ get_or xs i x → i < length xs
    → last_place name (take (i + 1) (named_places xs)) ≡ (if bytes_eq name (x.name) then Some i else last_place name (take i (named_places xs)))
last_up_to name xs i x e h =
    let cut : last_place name (map place_of (take i xs)) ≡ last_place name (take i (named_places xs)) = ap (last_place name) (sym (take-map place_of i xs)) in
    ap (last_place name) (take-map place_of (i + 1) xs)
    ∙ ap (λ ys. last_place name (map place_of ys)) (take_more xs i x h)
    ∙ ap (λ (y : Need). last_place name (map place_of (take i xs ++ y ∷ []))) (sym e)
    ∙ ap (last_place name) (map-append place_of (take i xs) (x ∷ []))
    ∙ last_place-push name (map place_of (take i xs)) (place_of x)
    ∙ ap (λ n. if bytes_eq name (x.name) then Some n else last_place name (map place_of (take i xs))) (length-map (take i xs) place_of ∙ length-take-le i xs (omega (arith, h)))
    ∙ ap (λ o. if bytes_eq name (x.name) then Some i else o) cut

-- a name stands nowhere
none_named : (name : List ℕ) (xs : List Need) → ((i : ℕ) → i < length (names_of xs) → bytes_eq name (get_or (names_of xs) i []) ≡ false) → last_place name (named_places xs) ≡ None
none_named name [] h = refl
none_named name (x ∷ xs) h =
    ap (λ o. place_after o (if bytes_eq name x.name then Some 0 else None)) (none_named name xs (λ i w. h (suc i) (omega (arith, w))))
    ∙ ap (λ t. if t then Some 0 else None) (h 0 (omega arith))

unnamed : (name : List ℕ) (xs : List Need) (i : ℕ) → last_place name (named_places xs) ≡ None → i < length (names_of xs) → bytes_eq name (get_or (names_of xs) i []) ≡ false
unnamed name [] i e h = absurd (omega (arith, h))
unnamed name (x ∷ xs) i e h = go (last_place name (named_places xs)) (bytes_eq name x.name) i refl (λ k f w. unnamed name xs k f w) e h
  where
    go : (o : Option ℕ) (t : Bool) (i : ℕ) → bytes_eq name x.name ≡ t → ((k : ℕ) → o ≡ None → k < length (names_of xs) → bytes_eq name (get_or (names_of xs) k []) ≡ false)
        → place_after o (if t then Some 0 else None) ≡ None → i < suc (length (names_of xs)) → bytes_eq name (get_or (names_of (x ∷ xs)) i []) ≡ false
    go None true i s g f w = cc
    go None false zero s g f w = s
    go None false (suc i) s g f w = g i refl (omega (arith, w))
    go (Some k) t i s g f w = cc

-- the name stands at its last place
last_named : (name : List ℕ) (xs : List Need) (j : ℕ) → last_place name (named_places xs) ≡ Some j → (j < length (names_of xs)) × (bytes_eq name (get_or (names_of xs) j []) ≡ true)
last_named name [] j e = cc
last_named name (x ∷ xs) j e = go (last_place name (named_places xs)) (bytes_eq name x.name) j refl (λ k f. last_named name xs k f) e
  where
    go : (o : Option ℕ) (t : Bool) (j : ℕ) → bytes_eq name x.name ≡ t → ((k : ℕ) → o ≡ Some k → (k < length (names_of xs)) × (bytes_eq name (get_or (names_of xs) k []) ≡ true))
        → place_after o (if t then Some 0 else None) ≡ Some j → (j < suc (length (names_of xs))) × (bytes_eq name (get_or (names_of (x ∷ xs)) j []) ≡ true)
    go None true j s g f =
        let z : 0 ≡ j = same_Some 0 j f in
        (omega (arith, z), subst (λ k. bytes_eq name (get_or (names_of (x ∷ xs)) k []) ≡ true) z s)
    go None false j s g f = cc
    go (Some k) t j s g f =
        let z : suc k ≡ j = same_Some (suc k) j f in
        let there = g k refl in
        (omega (arith, z, there.0), subst (λ m. bytes_eq name (get_or (names_of (x ∷ xs)) m []) ≡ true) z there.1)

-- where no name stands twice, each is the last of its name
each_last : (xs : List Need) (order : List ℕ) (i : ℕ) → IsInOrder (names_of xs) order → i < length (names_of xs) → last_place (get_or (names_of xs) i []) (named_places xs) ≡ Some i
each_last xs order i h w = go (last_place (get_or (names_of xs) i []) (named_places xs)) refl
  where
    go : (o : Option ℕ) → last_place (get_or (names_of xs) i []) (named_places xs) ≡ o → o ≡ Some i
    go None e = let no : true ≡ false = sym (text_itself (get_or (names_of xs) i [])) ∙ unnamed (get_or (names_of xs) i []) xs i e w in cc
    go (Some j) e =
        let there = last_named (get_or (names_of xs) i []) xs j e in
        ap Some (same_position (names_of xs) order j i h there.0 w (sym (same_text (get_or (names_of xs) i []) (get_or (names_of xs) j []) there.1)))

-- what was found in the order
pub found_in_order : (name : List ℕ) (xs : List Need) (order : List ℕ) (o : Option ℕ) → IsInOrder (names_of xs) order
    → MatchOption o ((i : ℕ) → i < length xs → bytes_eq name (get_or (names_of xs) i []) ≡ false) (IsNameAt (names_of xs) name) → o ≡ last_place name (named_places xs)
found_in_order name xs order None h e = sym (none_named name xs (λ i w. e i (rw (sym (length-map xs (λ (n : Need). n.name))) w)))
found_in_order name xs order (Some i) h e = sym (each_last xs order i h e.0) ∙ ap (λ n. last_place n (named_places xs)) e.1

-- one more need, which comes behind all
pub listed_more : (xs : List Need) (x : Need) (order : List ℕ) → IsInOrder (names_of xs) order → (0 < length xs → IsBefore (name_ranked (names_of xs) order (length xs - 1)) x.name) → IsInOrder (names_of (xs ++ x ∷ [])) order
listed_more xs x order h behind =
    let size : length (names_of xs) ≡ length xs = length-map xs (λ (n : Need). n.name) in
    subst (λ ns. IsInOrder ns order) (sym (map-append (λ (n : Need). n.name) xs (x ∷ [])))
    (one_behind (names_of xs) x.name order h (λ l. subst (λ k. IsBefore (name_ranked (names_of xs) order (k - 1)) x.name) (sym size) (behind (omega (arith, l, size)))))

-- the last of a name, where each is the last of its name
pub stands_last : (name : List ℕ) (xs : List Need) (order : List ℕ) (i : ℕ) (x : Need) → IsInOrder (names_of xs) order → x ≡ get_or xs i x → i < length xs → bytes_eq name (x.name) ≡ true → last_place name (named_places xs) ≡ Some i
stands_last name xs order i x h there within e =
    let named : get_or (names_of xs) i [] ≡ name = get_or-map (λ (n : Need). n.name) xs i x [] within ∙ ap (λ (y : Need). y.name) (sym there) ∙ sym (same_text name (x.name) e) in
    ap (λ m. last_place m (named_places xs)) (sym named) ∙ each_last xs order i h (rw (length-map xs (λ (n : Need). n.name)) within)

-- the place of a need
pub place_there : (xs : List Need) (i : ℕ) (x : Need) → x ≡ get_or xs i x → i < length xs → x.place ≡ (need_at (named_places xs) i).1
place_there xs i x e h = ap (λ (y : Need). y.place) e ∙ sym (ap (λ (p : List ℕ × ℕ). p.1) (get_or-map place_of xs i x ([], 0) h))

-- ---- what was found

pub all_found : (found : List Outcome) (xs : List Need) → list_all (λ n. is_some (found_at found n.place)) xs ≡ list_all (is_found found) (named_places xs)
all_found found xs = sym (list_all-map (is_found found) place_of xs)

one_found : (o : Option Datum) → is_some o ≡ true → o ≡ Some (unwrap_or o null)
one_found None e = cc
one_found (Some d) e = refl

both_true : (b c : Bool) → (b && c) ≡ true → (b ≡ true) × (c ≡ true)
both_true true true e = (refl, refl)
both_true true false e = cc
both_true false c e = cc

-- where a value was found for each, these are the bindings
pub lent_whole : (found : List Outcome) (ns : Places) → list_all (is_found found) ns ≡ true → bindings_from found ns ≡ Some (lent_to found ns)
lent_whole found [] e = refl
lent_whole found (n ∷ ns) e =
    let parts = both_true (is_found found n) (list_all (is_found found) ns) e in
    ap (λ o. (o >>= λ v. Some (n.0, v)) >>= λ y. bindings_from found ns >>= λ ys. Some (y ∷ ys)) (one_found (found_at found n.1) parts.0)
    ∙ ap (λ o. o >>= λ ys. Some ((n.0, unwrap_or (found_at found n.1) null) ∷ ys)) (lent_whole found ns parts.1)

none_first : {X Y : Type 0} (o : Option X) (p : Option (List Y)) (f : X → Y) (t : Bool) → (is_some o && t) ≡ false → (t ≡ false → p ≡ None) → ((o >>= λ v. Some (f v)) >>= λ y. p >>= λ ys. Some (y ∷ ys)) ≡ None
none_first None p f t e g = refl
none_first (Some v) p f t e g = ap (λ q. q >>= λ ys. Some (f v ∷ ys)) (g e)

-- where none was found for one, there are none
pub lent_none : (found : List Outcome) (ns : Places) → list_all (is_found found) ns ≡ false → bindings_from found ns ≡ None
lent_none found [] e = cc
lent_none found (n ∷ ns) e = none_first (found_at found n.1) (bindings_from found ns) (λ v. (n.0, v)) (list_all (is_found found) ns) e (λ f. lent_none found ns f)

same_list : {X : Type 0} (o : Option X) (p : Option (List X)) (y : X) (ys : List X) → (o >>= λ y. p >>= λ ys. Some (y ∷ ys)) ≡ Some (y ∷ ys) → (o ≡ Some y) × (p ≡ Some ys)
same_list None p y ys e = cc
same_list (Some x) None y ys e = cc
same_list (Some x) (Some xs) y ys e = (cc, cc)

same_pair : (o : Option Datum) (n : List ℕ) (d : Datum) (b : List ℕ × Datum) → (o >>= λ v. Some (n, v)) ≡ Some b → b.1 ≡ d → o ≡ Some d
same_pair None n d b e f = cc
same_pair (Some v) n d b e f = ap (λ (p : List ℕ × Datum). Some p.1) (same_Some (n, v) b e) ∙ ap Some f

-- then the value at each position is the one found at its place
pub found_there : (found : List Outcome) (ns : Places) (i : ℕ) → bindings_from found ns ≡ Some (lent_to found ns) → i < length ns
    → found_at found (need_at ns i).1 ≡ Some (value_at (lent_to found ns) i)
found_there found [] i e h = absurd (omega (arith, h))
found_there found (n ∷ ns) zero e h =
    same_pair (found_at found n.1) n.0 (unwrap_or (found_at found n.1) null) (n.0, unwrap_or (found_at found n.1) null) (same_list (found_at found n.1 >>= λ v. Some (n.0, v)) (bindings_from found ns) (n.0, unwrap_or (found_at found n.1) null) (lent_to found ns) e).0 refl
found_there found (n ∷ ns) (suc i) e h =
    found_there found ns i (same_list (found_at found n.1 >>= λ v. Some (n.0, v)) (bindings_from found ns) (n.0, unwrap_or (found_at found n.1) null) (lent_to found ns) e).1 (omega (arith, h))

-- ---- bindings by positions

first_of : (t : Bool) (d : Datum) (bs : Bindings) (b : List ℕ × Datum) → b.1 ≡ d → (if t then Some d else None) ≡ option_map (value_at (b ∷ bs)) (if t then Some 0 else None)
first_of true d bs b e = ap Some (sym e)
first_of false d bs b e = refl

joined : (o : Option ℕ) (t : Bool) (bs : Bindings) (b : List ℕ × Datum)
    → first_some (option_map (value_at bs) o) (if t then Some b.1 else None) ≡ option_map (value_at (b ∷ bs)) (place_after o (if t then Some 0 else None))
joined None t bs b = first_of t b.1 bs b refl
joined (Some i) t bs b = refl

-- a name is bound to the value at the position of its last binding
pub bound_at : (name : List ℕ) (bs : Bindings) → bound name bs ≡ option_map (value_at bs) (last_place name bs)
bound_at name [] = refl
bound_at name (b ∷ bs) =
    ap (λ o. first_some o (if bytes_eq name b.0 then Some b.1 else None)) (bound_at name bs)
    ∙ joined (last_place name bs) (bytes_eq name b.0) bs b

-- the last of a name stands where it stands without its value, among the first so many too
pub same_place : (name : List ℕ) (found : List Outcome) (ns : Places) (c : ℕ) → last_place name (take c (lent_to found ns)) ≡ last_place name (take c ns)
same_place name found ns zero = refl
same_place name found [] (suc c) = refl
same_place name found (n ∷ ns) (suc c) = ap (λ o. place_after o (if bytes_eq name n.0 then Some 0 else None)) (same_place name found ns c)

behind : (i c : ℕ) (o q : Option ℕ) (t : Bool) → place_after o (if t then Some 0 else None) ≡ Some (suc i) → (o ≡ Some i → q ≡ Some i) → place_after q (if t then Some 0 else None) ≡ Some (suc i)
behind i c None q true e g = cc
behind i c None q false e g = cc
behind i c (Some j) q t e g = let there : Some j ≡ Some i = cc in ap (λ p. place_after p (if t then Some 0 else None)) (g there)

no_later : (o : Option ℕ) (t : Bool) → place_after o (if t then Some 0 else None) ≡ Some 0 → (o ≡ None) × (t ≡ true)
no_later None true e = (refl, refl)
no_later None false e = cc
no_later (Some j) t e = cc

none_taken : {X : Type 0} (name : List ℕ) (ns : List (List ℕ × X)) (c : ℕ) → last_place name ns ≡ None → last_place name (take c ns) ≡ None
none_taken name ns zero e = refl
none_taken name [] (suc c) e = refl
none_taken name (n ∷ ns) (suc c) e = go (last_place name ns) (bytes_eq name n.0) (λ f. none_taken name ns c f) e
  where
    go : (o : Option ℕ) (t : Bool) → (o ≡ None → last_place name (take c ns) ≡ None) → place_after o (if t then Some 0 else None) ≡ None → place_after (last_place name (take c ns)) (if t then Some 0 else None) ≡ None
    go None true g f = cc
    go None false g f = ap (λ p. place_after p None) (g refl)
    go (Some j) t g f = cc

-- the last of a name is the last of it among the first, where it is one of these
pub last_taken : {X : Type 0} (name : List ℕ) (ns : List (List ℕ × X)) (i c : ℕ) → last_place name ns ≡ Some i → i < c → last_place name (take c ns) ≡ Some i
last_taken name ns i zero e h = absurd (omega (arith, h))
last_taken name [] i (suc c) e h = cc
last_taken name (n ∷ ns) zero (suc c) e h =
    let first = no_later (last_place name ns) (bytes_eq name n.0) e in
    ap (λ o. place_after o (if bytes_eq name n.0 then Some 0 else None)) (none_taken name ns c first.0)
    ∙ ap (λ t. place_after None (if t then Some 0 else None)) first.1
last_taken name (n ∷ ns) (suc i) (suc c) e h =
    behind i c (last_place name ns) (last_place name (take c ns)) (bytes_eq name n.0) e (λ f. last_taken name ns i c f (omega (arith, h)))

-- the last of a name among so many is one of these
pub last_within : {X : Type 0} (name : List ℕ) (ns : List (List ℕ × X)) (i : ℕ) → last_place name ns ≡ Some i → i < length ns
last_within name [] i e = cc
last_within name (n ∷ ns) i e = go (last_place name ns) (bytes_eq name n.0) i (λ j f. last_within name ns j f) e
  where
    go : (o : Option ℕ) (t : Bool) (i : ℕ) → ((j : ℕ) → o ≡ Some j → j < length ns) → place_after o (if t then Some 0 else None) ≡ Some i → i < suc (length ns)
    go None true i g f = let z : Some 0 ≡ Some i = f in let y : 0 ≡ i = same_Some 0 i z in omega (arith, y)
    go None false i g f = cc
    go (Some j) t i g f = let z : Some (suc j) ≡ Some i = f in let y : suc j ≡ i = same_Some (suc j) i z in let k = g j refl in omega (arith, y, k)

-- ---- what is lent

-- the value at a position among those that count
pub value_there : (found : List Outcome) (ns : Places) (count i : ℕ) (bs : Bindings) → AreLent found ns count → take count (lent_to found ns) ≡ bs → i < length bs
    → found_at found (need_at ns i).1 ≡ Some (value_at bs i)
value_there found ns count i bs h e within =
    let whole = lent_to found ns in
    let size : length whole ≡ length ns = length-map ns (λ n. (n.0, unwrap_or (found_at found n.1) null)) in
    let cut : length bs ≡ count = ap length (sym e) ∙ length-take-le count whole (omega (arith, size, h.size)) in
    let inside : i < length ns = omega (arith, within, cut, h.size) in
    found_there found ns i h.whole inside
    ∙ ap (λ (b : List ℕ × Datum). Some b.1) (sym (get_or-take count whole i ([], null) (omega (arith, within, cut)))) ∙ ap (λ ys. Some (value_at ys i)) e

-- the last of a name among those that count
pub last_lent : (name : List ℕ) (found : List Outcome) (ns : Places) (count : ℕ) (bs : Bindings) → take count (lent_to found ns) ≡ bs → last_place name (take count ns) ≡ last_place name bs
last_lent name found ns count bs e = sym (same_place name found ns count) ∙ ap (last_place name) e

-- where all count
pub last_of_all : (name : List ℕ) (ns : Places) (count : ℕ) → length ns ≤ count → last_place name ns ≡ last_place name (take count ns)
last_of_all name ns count h = ap (last_place name) (sym (take_all count ns h))

pub lent_length : (found : List Outcome) (ns : Places) → length (lent_to found ns) ≡ length ns
lent_length found ns = length-map ns (λ n. (n.0, unwrap_or (found_at found n.1) null))
