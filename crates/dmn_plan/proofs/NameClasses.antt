-- Names whose classes are marked.
use Rattle.std.proofs.Common.{◌≡◌, ◌∙◌, sym, ap, refl, subst, ℕ, List, [], ◌∷◌, Bool, true, false, true≢false, Option, Some, None, Ordering, Less, Equal, Greater, length, set, ◌<◌, inl, inr, arith}
use Rattle.std.specs.Prelude.{slice_index_or, ◌≢◌}
use Rattle.std.specs.Ordering.{nat_cmp, match_ordering, is_eq}
use Rattle.std.specs.Cmp.Lexicographic.{slice_cmp}
use Rattle.std.proofs.lemmas.Bool.{cases_eq}
use Rattle.std.proofs.lemmas.Map.Text.{is_eq-slice_cmp}
use Rattle.std.proofs.lemmas.List.{get_or-set_same, get_or-set_other}
use Rattle.serde_json.specs.Data as json
use Rattle.serde_json.specs.Find.{get, get_member}
use Rattle.feel_text.proofs.Bindings.{same_text}
use Rattle.feel_value.specs.Datum.{null}
use Rattle.dmn_plan.specs.Request.{value_under}
use Rattle.dmn_plan.specs.Classes.{class_of, AreMarked, AreClassesOf}

-- all that is marked in one is marked in the other
abbrev pub IsMore : List Bool → List Bool → Type 0
IsMore old new = (i : ℕ) → slice_index_or old i false ≡ true → slice_index_or new i false ≡ true

-- a name whose class isn't marked is none of them
missing_here : (classes : List Bool) (k l : List ℕ) (d : json.Data) (rest : Option json.Data) → slice_index_or classes (class_of l) false ≡ true → slice_index_or classes (class_of k) false ≡ false
    → rest ≡ None → (o : Ordering) → slice_cmp nat_cmp k l ≡ o → match_ordering o rest (Some d) rest ≡ None
missing_here classes k l d rest marked f none Less e = none
missing_here classes k l d rest marked f none Greater e = none
missing_here classes k l d rest marked f none Equal e =
    let same : k ≡ l = same_text k l (sym (is_eq-slice_cmp k l) ∙ ap is_eq e) in
    absurd (true≢false (sym (ap (λ n. slice_index_or classes (class_of n) false) same ∙ marked) ∙ f))

missing : (classes : List Bool) (k : List ℕ) (ms : json.Members) → AreMarked classes ms → slice_index_or classes (class_of k) false ≡ false → get_member k ms ≡ None
missing classes k json.no_members h f = refl
missing classes k (json.member l d ms) h f = missing_here classes k l d (get_member k ms) h.0 f (missing classes k ms h.1 f) (slice_cmp nat_cmp k l) refl

pub missing_in : (classes : List Bool) (k : List ℕ) (d : json.Data) → AreClassesOf classes d → slice_index_or classes (class_of k) false ≡ false → get k d ≡ None
missing_in classes k json.null h f = refl
missing_in classes k (json.boolean b) h f = refl
missing_in classes k (json.number n) h f = refl
missing_in classes k (json.string s) h f = refl
missing_in classes k (json.array ds) h f = refl
missing_in classes k (json.object ms) h f = missing classes k ms h f

-- one more that is marked
pub more_marked : (old m : List Bool) (p : ℕ) → p < length old → IsMore (set old p true) m → IsMore old m
more_marked old m p h more i e = more i (elim (cases_eq i p) [
  | inl same ↦ subst (λ j. slice_index_or (set old p true) j false ≡ true) (sym same) (get_or-set_same old p true false h)
  | inr other ↦ get_or-set_other old p i true false other ∙ e
])

pub is_marked : (old m : List Bool) (p : ℕ) → p < length old → IsMore (set old p true) m → slice_index_or m p false ≡ true
is_marked old m p h more = more p (get_or-set_same old p true false h)

-- a missing name has the value null
pub missing_value : (classes : List Bool) (k : List ℕ) (d : json.Data) → AreClassesOf classes d → slice_index_or classes (class_of k) false ≡ false → value_under (get k d) ≡ Some null
missing_value classes k d h f = ap value_under (missing_in classes k d h f)
