-- Distinct names, one output after another.
use Rattle.std.proofs.Common.{◌≡◌, ℕ, ◌+◌, ◌<◌, List, ◌∷◌, refl, sym, ◌∙◌, ap, Bool, true, false, not, map, ◌&&◌, if◌then◌else◌, Option, Some, None, length, drop, get_or, arith}
use Rattle.std.specs.Prelude.{bytes_eq, nat_lt, nat_eq}
use Rattle.std.specs.Arc.{arc_str_bytes}
use Rattle.std.specs.List.{list_any, list_all}
use Rattle.std.proofs.lemmas.List.{at_drop_more}
use Rattle.dmn_table.specs.declared.table.Output.{Output}
use Rattle.feel_value.specs.Distinct.{are_distinct}
use Rattle.dmn_table.specs.declared.table.Rule.{Rule}
use Rattle.dmn_table.specs.Faults.{columns_fit, fits_columns, operator_fits, fault_under}
use Rattle.dmn_table.specs.declared.fault.TableFault.TheVariants.{Hit, Columns, Operator}
use Rattle.dmn_table.specs.declared.hit_policy.HitPolicy.{HitPolicy}
use Rattle.dmn_table.specs.Parts.{entry_counts}
use Rattle.dmn_table.proofs.MappedTests.{list_any-map, list_all-map}
use Rattle.std.proofs.lemmas.List.{length-map}
use Rattle.std.proofs.lemmas.Bool.Decides.{nat_tests}

abbrev pub distinct_outputs : List Output → Bool
distinct_outputs os = are_distinct (map (λ o. arc_str_bytes o.name) os)

abbrev pub named_later : Output → List Output → Bool
named_later o os = list_any (λ p. bytes_eq (arc_str_bytes o.name) (arc_str_bytes p.name)) os

distinct_cons : (o : Output) (os : List Output) → distinct_outputs (o ∷ os) ≡ (not (named_later o os) && distinct_outputs os)
distinct_cons o os = ap (λ b. not b && distinct_outputs os) (list_any-map (λ p. arc_str_bytes p.name) (bytes_eq (arc_str_bytes o.name)) os)

pub distinct_at : (os : List Output) (i : ℕ) (o : Output) (later : List Output) → i < length os → o ≡ get_or os i o → later ≡ drop (i + 1) os
    → distinct_outputs (drop i os) ≡ (not (named_later o later) && distinct_outputs (drop (i + 1) os))
distinct_at os i o later l e f =
    at_drop_more distinct_outputs os i o l ∙ distinct_cons (get_or os i o) (drop (i + 1) os)
    ∙ ap (λ p. not (named_later p (drop (i + 1) os)) && distinct_outputs (drop (i + 1) os)) (sym e)
    ∙ ap (λ ps. not (named_later o ps) && distinct_outputs (drop (i + 1) os)) (sym f)

-- a step of the walk: s is the name of the output o at i, and b tells whether a later one has it
module _ (os : List Output) (i : ℕ) (o : Output) (later : List Output) (s : List ℕ) (b : Bool)
    (invariant : distinct_outputs os ≡ distinct_outputs (drop i os)) (l : i < length os) (is : o ≡ get_or os i o)
    (rest : later ≡ drop (i + 1) os) (text : s ≡ arc_str_bytes o.name) (tested : b ≡ list_any (λ p. bytes_eq s (arc_str_bytes p.name)) later) where
  here : distinct_outputs os ≡ (not b && distinct_outputs (drop (i + 1) os))
  here =
      let named : b ≡ named_later o later = tested ∙ ap (λ (t : List ℕ). list_any (λ p. bytes_eq t (arc_str_bytes p.name)) later) text in
      invariant ∙ distinct_at os i o later l is rest ∙ ap (λ c. not c && distinct_outputs (drop (i + 1) os)) (sym named)

  pub distinct_more : b ≡ false → distinct_outputs os ≡ distinct_outputs (drop (i + 1) os)
  distinct_more e = here ∙ ap (λ c. not c && distinct_outputs (drop (i + 1) os)) e

  pub distinct_no_more : b ≡ true → false ≡ distinct_outputs os
  distinct_no_more e = sym (here ∙ ap (λ c. not c && distinct_outputs (drop (i + 1) os)) e)

-- with at least one output, and distinct names, the columns fit where the rules do
pub fit_by_rules : (inputs : ℕ) (os : List Output) (rules : List Rule) (r : Bool) → nat_eq (length os) 0 ≡ false → true ≡ distinct_outputs os
    → r ≡ list_all (λ q. fits_columns inputs (length os) (length q.tests.items, length q.gives.items)) rules
    → r ≡ columns_fit inputs (map (λ o. arc_str_bytes o.name) os) (entry_counts rules)
fit_by_rules inputs os rules r some distinct e =
    let n : length (map (λ o. arc_str_bytes o.name) os) ≡ length os = length-map os (λ o. arc_str_bytes o.name) in
    let lt : nat_lt 0 (length os) ≡ true = grind (arith, nat_tests) in
    let all : r ≡ list_all (fits_columns inputs (length os)) (entry_counts rules) = e ∙ sym (list_all-map (λ q. (length q.tests.items, length q.gives.items)) (fits_columns inputs (length os)) rules) in
    rw (n, lt, ← distinct) all

-- the columns don't fit where a name stands twice
unfit : (inputs : ℕ) (names : List (List ℕ)) (rules : List (ℕ × ℕ)) → are_distinct names ≡ false → columns_fit inputs names rules ≡ false
unfit inputs names rules e = ap (λ b. nat_lt 0 (length names) && b && list_all (fits_columns inputs (length names)) rules) e ∙ and_none (nat_lt 0 (length names)) (list_all (fits_columns inputs (length names)) rules)
  where
    and_none : (a b : Bool) → (a && false && b) ≡ false
    and_none true b = refl
    and_none false b = refl

-- where a name stands twice, the fault is that of the columns, unless the hit policy is none
pub twice_columns : (o : Option HitPolicy) (p : HitPolicy) (inputs : ℕ) (names : List (List ℕ)) (rules : List (ℕ × ℕ)) → o ≡ Some p → are_distinct names ≡ false
    → fault_under o inputs names rules ≡ Some Columns
twice_columns o p inputs names rules is e =
    ap (λ q. fault_under q inputs names rules) is ∙ ap (λ b. if not b then Some Columns else (if not (operator_fits p names) then Some Operator else None)) (unfit inputs names rules e)

pub no_policy : (o : Option HitPolicy) (inputs : ℕ) (names : List (List ℕ)) (rules : List (ℕ × ℕ)) → o ≡ None → fault_under o inputs names rules ≡ Some Hit
no_policy o inputs names rules is = ap (λ q. fault_under q inputs names rules) is
