-- Values that no value of a class equals.
use Rattle.std.proofs.Common.{◌≡◌, ◌∙◌, ap, sym, refl, ℕ, Bool, true, false, not, ◌||◌, List, [], ◌∷◌, bytes_eq, nat_eq, IsTrue}
use Rattle.std.specs.List.{All}
use Rattle.std.proofs.lemmas.List.Elements.{All-head, All-tail}
use Rattle.std.proofs.lemmas.Slice.Eq.{bytes_eq-Decides}
use Rattle.feel_value.specs.Comparison.{equal}
use Rattle.feel_value.specs.Datum.{Datum, null, boolean, number, text, list, context}
use Rattle.feel_value.specs.Logic.{decided, is_yes}
use Rattle.feel_value.specs.View.{items_view}
use Rattle.feel_value.specs.declared.value.Value.{Value}
use Rattle.feel_text.specs.Classes.{IsApart, is_in_class, mark_of}
use Rattle.feel_text.specs.Satisfied.{is_member}
use Rattle.feel_text.specs.declared.class.Class.{Class}
use Rattle.feel_text.specs.declared.class.Class.TheVariants as class

pub none_equal : (c : Class) (ds : List Value) → All (λ d. IsApart c d) ds → (v : Datum) → is_in_class c v ≡ true → is_member v (items_view ds) ≡ false
none_equal c [] h v e = refl
none_equal c (d ∷ ds) h v e =
    ap (λ b. b || is_member v (items_view ds)) (All-head (IsApart c) d ds h v e) ∙ none_equal c ds (All-tail (IsApart c) d ds h) v e

-- a text of another mark is another text
pub other_text : (other mark : ℕ) (t : List ℕ) → mark ≡ mark_of t → IsTrue (not (nat_eq mark other)) → (v : Datum) → is_in_class (class.Texts other) v ≡ true → is_yes (equal v (text t)) ≡ false
other_text other mark t is h null e = cc
other_text other mark t is h (boolean b) e = cc
other_text other mark t is h (number z) e = cc
other_text other mark t is h (list ds) e = cc
other_text other mark t is h (context es) e = cc
other_text other mark t is h (text s) e = go (bytes_eq s t) refl
  where
    go : (b : Bool) → bytes_eq s t ≡ b → is_yes (decided (bytes_eq s t)) ≡ false
    go false f = ap (λ b. is_yes (decided b)) f
    go true f =
        let same : nat_eq mark other ≡ true = ap (λ k. nat_eq k other) (is ∙ ap mark_of (sym ((bytes_eq-Decides s t).0 f))) ∙ e in
        let no : false ≡ true = sym (ap not same) ∙ h in
        cc
