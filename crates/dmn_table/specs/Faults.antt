-- Which texts and columns make a table.
use Rattle.std.specs.Prelude.{ℕ, List, [], ◌∷◌, Bool, true, false, not, ◌&&◌, if◌then◌else◌, nat_eq, nat_lt, length, Option, None, Some, bytes_eq, codes}
use Rattle.std.specs.List.{list_all}
use Rattle.feel_value.specs.Distinct.{are_distinct}
use Rattle.dmn_table.specs.declared.hit_policy.HitPolicy.{HitPolicy}
use Rattle.dmn_table.specs.declared.hit_policy.HitPolicy.TheVariants.{Unique, Any, Priority, First, OutputOrder, RuleOrder, Collect, Sum, Least, Greatest, Count}
use Rattle.dmn_table.specs.declared.fault.TableFault.{TableFault}
use Rattle.dmn_table.specs.declared.fault.TableFault.TheVariants.{Hit, Columns, Operator}

-- the eleven hit policies, by their texts
abbrev pub hit_policies : List (List ℕ × HitPolicy)
hit_policies =
    (codes "U", Unique) ∷ (codes "A", Any) ∷ (codes "P", Priority) ∷ (codes "F", First) ∷ (codes "R", RuleOrder)
    ∷ (codes "O", OutputOrder) ∷ (codes "C", Collect) ∷ (codes "C+", Sum) ∷ (codes "C<", Least) ∷ (codes "C>", Greatest)
    ∷ (codes "C#", Count) ∷ []

abbrev pub policy_among : List (List ℕ × HitPolicy) → List ℕ → Option HitPolicy
policy_among [] s = None
policy_among (p ∷ ps) s = if bytes_eq p.0 s then Some p.1 else policy_among ps s

abbrev pub policy_of : List ℕ → Option HitPolicy
policy_of = policy_among hit_policies

-- the text of a hit policy
abbrev pub policy_text : HitPolicy → List ℕ
policy_text Unique = codes "U"
policy_text Any = codes "A"
policy_text Priority = codes "P"
policy_text First = codes "F"
policy_text RuleOrder = codes "R"
policy_text OutputOrder = codes "O"
policy_text Collect = codes "C"
policy_text Sum = codes "C+"
policy_text Least = codes "C<"
policy_text Greatest = codes "C>"
policy_text Count = codes "C#"

-- the policies that make one number of the outputs
abbrev pub is_operator : HitPolicy → Bool
is_operator Sum = true
is_operator Least = true
is_operator Greatest = true
is_operator Count = true
is_operator _ = false

-- the policies that put the hits in the order of their output values
abbrev pub goes_by_priority : HitPolicy → Bool
goes_by_priority Priority = true
goes_by_priority OutputOrder = true
goes_by_priority _ = false

-- a rule's entries are as many as the columns; e has the number of its tests and of its outputs
abbrev pub fits_columns : ℕ → ℕ → (ℕ × ℕ) → Bool
fits_columns inputs outputs e = nat_eq e.0 inputs && nat_eq e.1 outputs

-- the columns are lawful: at least one output, each name once, and each rule fits
abbrev pub columns_fit : ℕ → List (List ℕ) → List (ℕ × ℕ) → Bool
columns_fit inputs names rules = nat_lt 0 (length names) && are_distinct names && list_all (fits_columns inputs (length names)) rules

-- a policy that makes one number stands over one output
abbrev pub operator_fits : HitPolicy → List (List ℕ) → Bool
operator_fits p names = not (is_operator p && nat_lt 1 (length names))

-- The first fault, in the order hit, columns, operator, of a table with this hit policy, if its text is one, this many input
-- columns, output columns of these names, and rules of these numbers of entries.
abbrev pub fault_under : Option HitPolicy → ℕ → List (List ℕ) → List (ℕ × ℕ) → Option TableFault
fault_under None inputs names rules = Some Hit
fault_under (Some p) inputs names rules =
    if not (columns_fit inputs names rules) then Some Columns
    else (if not (operator_fits p names) then Some Operator else None)

abbrev pub table_fault : List ℕ → ℕ → List (List ℕ) → List (ℕ × ℕ) → Option TableFault
table_fault hit inputs names rules = fault_under (policy_of hit) inputs names rules
