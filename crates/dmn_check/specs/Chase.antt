-- Internal, cited by no public contract: what a chase along needs keeps.
use Rattle.std.specs.Prelude.{◌≡◌, ◌⊎◌, ℕ, suc, ◌+◌, length, List, [], ◌∷◌, Bool, true, false, slice_index_or}
use Rattle.dmn_graph.specs.Reach.{Leads}
use Rattle.dmn_graph.specs.Needs.{needs_of}
use Rattle.dmn_graph.specs.Members.{IsIn}
use Rattle.std.specs.Prelude.{nat_eq}
use Rattle.dmn_check.specs.declared.chase.Chase.{Chase}

-- whether a place was met
abbrev pub is_met : Chase → ℕ → Bool
is_met w q = slice_index_or w.met.items q false

-- how many places were not met
abbrev pub unmet : List Bool → ℕ
unmet [] = 0
unmet (true ∷ bs) = unmet bs
unmet (false ∷ bs) = suc (unmet bs)

-- what is left to do
abbrev pub left : Chase → ℕ
left w = unmet w.met.items + length w.waiting.items

-- these places were met, and no others
pub record HasMet (old : Chase) (qs : List ℕ) (new : Chase) : Type 0 where
  pub size : length new.met.items ≡ length old.met.items
  pub kept : (q : ℕ) → is_met old q ≡ true → is_met new q ≡ true
  pub met : (q : ℕ) → IsIn q qs → is_met new q ≡ true
  pub from : (q : ℕ) → is_met new q ≡ true → (is_met old q ≡ true) ⊎ (IsIn q qs × IsIn q new.waiting.items)
  pub waits : (q : ℕ) → IsIn q old.waiting.items → IsIn q new.waiting.items
  pub within : (q : ℕ) → IsIn q new.waiting.items → IsIn q old.waiting.items ⊎ IsIn q qs
  pub left : left new ≡ left old

-- what was met is what the place leads to, and what that needs was met or waits
pub record IsChase (needs : List (List ℕ)) (place : ℕ) (w : Chase) : Type 0 where
  pub size : length w.met.items ≡ length needs
  pub leads : (q : ℕ) → is_met w q ≡ true → Leads nat_eq (needs_of needs) place q
  pub begun : (q : ℕ) → IsIn q (needs_of needs place) → is_met w q ≡ true
  pub passed : (q y : ℕ) → is_met w q ≡ true → IsIn y (needs_of needs q) → IsIn q w.waiting.items ⊎ (is_met w y ≡ true)
  pub waiting : (q : ℕ) → IsIn q w.waiting.items → is_met w q ≡ true
