-- Values and decisions under distinct names.
use Rattle.std.proofs.Common.{◌≡◌, ◌∙◌, sym, ap, refl, List, [], ◌∷◌, Bool, true, false, ◌||◌, ◌&&◌, not, None, Some}
use Rattle.std.specs.Prelude.{bytes_eq, if◌then◌else◌}
use Rattle.std.specs.List.{list_any, zip}
use Rattle.std.proofs.lemmas.Slice.Eq.{bytes_eq-Decides}
use Rattle.feel_value.specs.Datum.{Datum}
use Rattle.feel_value.specs.Distinct.{are_distinct}
use Rattle.dmn_form.specs.Model.{Name}
use Rattle.dmn_service.specs.Decision.{Given, given_value}
use Rattle.dmn_graph.specs.Reach.{Each}

pub two_true : (a b : Bool) → (a && b) ≡ true → (a ≡ true) × (b ≡ true)
two_true true b e = (refl, e)
two_true false b e = absurd (cc)

pub not_true : (b : Bool) → not b ≡ true → b ≡ false
not_true true e = absurd (cc)
not_true false e = refl

pub both_false : (a b : Bool) → (a || b) ≡ false → (a ≡ false) × (b ≡ false)
both_false true b e = absurd (cc)
both_false false b e = (refl, e)

-- a name that is none of these has no value among them
pub not_given : (n : Name) (ns : List Name) (vs : List Datum) → list_any (bytes_eq n) ns ≡ false → given_value (zip ns vs) n ≡ None
not_given n [] vs e = refl
not_given n (k ∷ ks) [] e = refl
not_given n (k ∷ ks) (v ∷ vs) e =
    let two = both_false (bytes_eq n k) (list_any (bytes_eq n) ks) e in
    ap (λ b. if b then Some v else given_value (zip ks vs) n) two.0 ∙ not_given n ks vs two.1

pub swap : (a b : Name) → bytes_eq a b ≡ false → bytes_eq b a ≡ false
swap a b e = go (bytes_eq b a) refl
  where
    go : (t : Bool) → bytes_eq b a ≡ t → t ≡ false
    go false h = refl
    go true h =
        let same : b ≡ a = (bytes_eq-Decides b a).0 h in
        let equal : bytes_eq a b ≡ true = (bytes_eq-Decides a b).1 (sym same) in
        sym equal ∙ e

passed : (n : Name) (v : Datum) (whole : Given) (ns : List Name) (vs : List Datum) → list_any (bytes_eq n) ns ≡ false
    → Each (λ e. given_value whole e.0 ≡ Some e.1) (zip ns vs) → Each (λ e. given_value ((n, v) ∷ whole) e.0 ≡ Some e.1) (zip ns vs)
passed n v whole [] vs e h = tt
passed n v whole (k ∷ ks) [] e h = tt
passed n v whole (k ∷ ks) (w ∷ ws) e h =
    let two = both_false (bytes_eq n k) (list_any (bytes_eq n) ks) e in
    (ap (λ b. if b then Some v else given_value whole k) (swap n k two.0) ∙ h.0, passed n v whole ks ws two.1 h.1)

-- under distinct names each has its own value
pub zip_given : (ns : List Name) (vs : List Datum) → are_distinct ns ≡ true → Each (λ e. given_value (zip ns vs) e.0 ≡ Some e.1) (zip ns vs)
zip_given [] vs d = tt
zip_given (n ∷ ns) [] d = tt
zip_given (n ∷ ns) (v ∷ vs) d =
    let two = two_true (not (list_any (bytes_eq n) ns)) (are_distinct ns) d in
    let itself : bytes_eq n n ≡ true = (bytes_eq-Decides n n).1 refl in (
      ap (λ b. if b then Some v else given_value (zip ns vs) n) itself,
      passed n v (zip ns vs) ns vs (not_true (list_any (bytes_eq n) ns) two.0) (zip_given ns vs two.1),
    )
