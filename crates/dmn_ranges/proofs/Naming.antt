-- Names as the code has them, found by the place of the last of each.
use Rattle.std.proofs.Common.{◌≡◌, ◌∙◌, refl, sym, ap, subst, ℕ, suc, ◌<◌, ◌≤◌, List, [], ◌∷◌, ◌++◌, length, take, get_or, Bool, true, false, Option, None, Some, if◌then◌else◌, arith}
use Rattle.std.specs.Prelude.{bytes_eq}
use Rattle.std.proofs.lemmas.List.{length-take, take-append-le}
use Rattle.feel_text.specs.Places.{last_place, place_after}
use Rattle.feel_eval.specs.Index.{named_by, IsIndexed}
use Rattle.dmn_ranges.specs.Names.{scope_of, name_of, no_value, hidden_of, members_if}
use Rattle.dmn_ranges.specs.Ranges.{Extent, Scope, named_or, extent_named, null_alone, plain}
use Rattle.dmn_ranges.specs.declared.names.Binding.{Binding}

abbrev pub extent_in : Binding → Extent
extent_in b = (b.range, members_if b.parameter)

-- one binding more
pub scope_push : (bs : List Binding) (b : Binding) → scope_of (bs ++ b ∷ []) ≡ scope_of bs ++ (name_of b, extent_in b) ∷ []
scope_push [] b = refl
scope_push (x ∷ bs) b = ap (λ (xs : Scope). (name_of x, extent_in x) ∷ xs) (scope_push bs b)

scope_length : (bs : List Binding) → length (scope_of bs) ≡ length bs
scope_length [] = refl
scope_length (b ∷ bs) = ap suc (scope_length bs)

-- the first of them, without the last one
pub scope_before : (i : ℕ) (bs : List Binding) (b : Binding) → i ≤ length bs → take i (scope_of (bs ++ b ∷ [])) ≡ take i (scope_of bs)
scope_before i bs b h = ap (take i) (scope_push bs b) ∙ take-append-le i (scope_of bs) ((name_of b, extent_in b) ∷ []) (rw scope_length h)

-- it is what the binding at the place says; the other one where there is none
abbrev pub IsExtentAt : Extent → Extent → List Binding → Option ℕ → Type 0
IsExtentAt other r bs None = r ≡ other
IsExtentAt other r bs (Some i) = (i < length bs) × ((b : Binding) → r ≡ extent_in (get_or bs i b))

range_after : (t : Bool) (x : Binding) (bs : List Binding) (other r : Extent) (o : Option ℕ) → IsExtentAt (if t then extent_in x else other) r bs o
    → IsExtentAt other r (x ∷ bs) (place_after o (if t then Some 0 else None))
range_after true x bs other r None h = (omega arith, λ b. h)
range_after false x bs other r None h = h
range_after true x bs other r (Some i) h = (omega (arith, h.0), λ b. h.1 b)
range_after false x bs other r (Some i) h = (omega (arith, h.0), λ b. h.1 b)

range_at : (q : List ℕ) (bs : List Binding) (other : Extent) → IsExtentAt other (named_or other (scope_of bs) q) bs (last_place q (named_by name_of no_value bs))
range_at q [] other = refl
range_at q (x ∷ bs) other =
    let before : Extent = if bytes_eq q (name_of x) then extent_in x else other in
    range_after (bytes_eq q (name_of x)) x bs other (named_or before (scope_of bs) q) (last_place q (named_by name_of no_value bs)) (range_at q bs before)

-- what is at the place of a name is what it stands for
pub found_at : (q : List ℕ) (bs : List Binding) (place : List ℕ → Option ℕ) (o : Option ℕ) → IsIndexed name_of no_value hidden_of bs place → o ≡ place q → IsExtentAt (plain null_alone) (extent_named (scope_of bs) q) bs o
found_at q bs place o h e = subst (λ p. IsExtentAt (plain null_alone) (extent_named (scope_of bs) q) bs p) (sym (e ∙ h.last q)) (range_at q bs (plain null_alone))

length_within : (xs old : Scope) → take (length xs) old ≡ xs → length xs ≤ length old
length_within xs old h = omega (arith, ap length h, length-take (length xs) old)

-- the first names are kept where one more is bound
pub kept_more : (xs old next : Scope) (x : List ℕ × Extent) → take (length xs) old ≡ xs → next ≡ old ++ x ∷ [] → take (length xs) next ≡ xs
kept_more xs old next x before bound =
    ap (take (length xs)) bound ∙ take-append-le (length xs) old (x ∷ []) (length_within xs old before) ∙ before

-- cutting gives them back
pub cut_back : (xs cur back : Scope) (n : ℕ) → n ≡ length xs → take (length xs) cur ≡ xs → back ≡ take n cur → back ≡ xs
cut_back xs cur back n count kept cut = cut ∙ ap (λ k. take k cur) count ∙ kept
