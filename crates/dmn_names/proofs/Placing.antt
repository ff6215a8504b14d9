-- The places that a model gives to names.
use Rattle.std.proofs.Common.{◌≡◌, ℕ, ◌+◌, ◌<◌, suc, List, [], ◌∷◌, ◌++◌, map, drop, get_or, length, Option, Some, None, option_map, refl, sym, ap, ap₂, ◌∙◌, Bool, true, false, if◌then◌else◌, string_bytes, arith}
use Rattle.std.specs.Prelude.{bytes_eq}
use Rattle.std.proofs.lemmas.List.{length-map, at_drop_more}
use Rattle.dmn_form.specs.Model.{Name}
use Rattle.dmn_form.specs.ModelView.{model_view}
use Rattle.dmn_form.specs.declared.written.WrittenModel.{WrittenModel}
use Rattle.dmn_form.specs.declared.written.WrittenDecision.{WrittenDecision}
use Rattle.dmn_form.specs.Draft.{Draft}
use Rattle.feel_value.specs.Found.{◌>>=◌, each}
use Rattle.dmn_form.proofs.Readings.{read_after, read_after-more}
use Rattle.dmn_names.specs.Parts.{decision_names}
use Rattle.dmn_names.specs.Places.{place_among, input_place, decision_place, value_place}
use Rattle.dmn_names.specs.Index.{first_of}
use Rattle.dmn_names.proofs.Walks.{decision_names_view}

within_rest : (b : Bool) (o : Option ℕ) (l i : ℕ) → ((k : ℕ) → o ≡ Some k → k < l) → (if b then Some 0 else option_map suc o) ≡ Some i → i < suc l
within_rest true o l i h e = let zero_is : 0 ≡ i = cc in omega arith
within_rest false None l i h e = cc
within_rest false (Some k) l i h e = let is : suc k ≡ i = cc in let lt = h k refl in omega arith

-- a place is one of the list
pub place_within : (ns : List Name) (n : Name) (i : ℕ) → place_among ns n ≡ Some i → i < length ns
place_within [] n i e = cc
place_within (m ∷ ms) n i e = within_rest (bytes_eq n m) (place_among ms n) (length ms) i (place_within ms n) e

pub decision_within : (ds : List WrittenDecision) (n : Name) (i : ℕ) → Some i ≡ place_among (map (λ d. string_bytes d.name) ds) n → i < length ds
decision_within ds n i e = rw length-map at (place_within (map (λ d. string_bytes d.name) ds) n i (sym e))

-- a decision stands behind the inputs
pub behind_inputs : (m : WrittenModel) (n : Name) (o : Option ℕ) (inputs : ℕ) → o ≡ place_among (map (λ d. string_bytes d.name) m.decisions.items) n → inputs ≡ length m.inputs.items
    → option_map (λ i. inputs + i) o ≡ decision_place (model_view m) n
behind_inputs m n o inputs e l =
    ap₂ (λ (k : ℕ) (p : Option ℕ). option_map (λ i. k + i) p) (l ∙ sym (length-map m.inputs.items string_bytes))
    (e ∙ ap (λ ns. place_among ns n) (sym (decision_names_view m.decisions.items)))

behind_one : (b : Bool) (o p : Option ℕ) (l : ℕ)
    → (if b then Some 0 else option_map suc (first_of o (option_map (λ i. l + i) p)))
    ≡ first_of (if b then Some 0 else option_map suc o) (option_map (λ i. suc l + i) p)
behind_one true o p l = refl
behind_one false (Some i) p l = refl
behind_one false None None l = refl
behind_one false None (Some i) l = ap Some (omega arith)

place_in_both : (xs ys : List Name) (n : Name) → place_among (xs ++ ys) n ≡ first_of (place_among xs n) (option_map (λ i. length xs + i) (place_among ys n))
place_in_both [] ys n = from_none (place_among ys n)
  where
    from_none : (o : Option ℕ) → o ≡ option_map (λ i. 0 + i) o
    from_none None = refl
    from_none (Some i) = ap Some (omega arith)
place_in_both (x ∷ xs) ys n =
    ap (λ o. if bytes_eq n x then Some 0 else option_map suc o) (place_in_both xs ys n)
    ∙ behind_one (bytes_eq n x) (place_among xs n) (place_among ys n) (length xs)

-- the inputs stand before the decisions
pub inputs_first : (m : Draft) (n : Name) → value_place m n ≡ first_of (input_place m n) (decision_place m n)
inputs_first m n = place_in_both m.inputs (decision_names m) n

-- what f gives for one more of xs
pub placed_turn : {W X Y : Type 0} (f : X → Option Y) (v : W → X) (xs : List W) (i : ℕ) (x : W) (ys zs : List Y) (y : Y) (whole : Option (List Y))
    → whole ≡ read_after ys (each f (map v (drop i xs))) → x ≡ get_or xs i x → i < length xs → Some y ≡ f (v x) → zs ≡ ys ++ y ∷ []
    → whole ≡ read_after zs (each f (map v (drop (i + 1) xs)))
placed_turn f v xs i x ys zs y whole before e h found pushed =
    let rest = each f (map v (drop (i + 1) xs)) in
    before ∙ at_drop_more (λ ws. read_after ys (each f (map v ws))) xs i x h
    ∙ ap (λ w. read_after ys (f (v w) >>= λ z. rest >>= λ us. Some (z ∷ us))) (sym e)
    ∙ ap (λ o. read_after ys (o >>= λ z. rest >>= λ us. Some (z ∷ us))) (sym found)
    ∙ read_after-more ys y rest ∙ ap (λ us. read_after us rest) (sym pushed)
