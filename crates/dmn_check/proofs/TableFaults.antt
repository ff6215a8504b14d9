-- The fault of a table, by its tests one after another.
use Rattle.std.proofs.Common.{◌≡◌, ℕ, List, [], ◌∷◌, map, length, refl, sym, ap, ap₂, ◌∙◌, Bool, true, false, not, ◌&&◌, if◌then◌else◌, nat_lt, Option, None, Some, option_map, string_bytes}
use Rattle.std.proofs.lemmas.List.{length-map}
use Rattle.dmn_table.specs.Faults.{policy_of, is_operator, columns_fit, fits_columns, operator_fits, fault_under, table_fault}
use Rattle.dmn_table.specs.declared.hit_policy.HitPolicy.{HitPolicy}
use Rattle.dmn_table.specs.declared.fault.TableFault.TheVariants.{Columns, Operator}
use Rattle.dmn_form.specs.Draft as spec
use Rattle.dmn_form.specs.FormView.{column_view, rule_view, table_view}
use Rattle.dmn_form.specs.declared.written.WrittenRule.{WrittenRule}
use Rattle.dmn_form.specs.declared.written.WrittenTable.{WrittenTable}
use Rattle.dmn_names.proofs.Walks.{map_twice}
use Rattle.dmn_check.specs.Refused.{fault_of_table}

abbrev pub pair : ℕ → ℕ → ℕ × ℕ
pair m n = (m, n)

abbrev pub shown_count : spec.WrittenRule → ℕ × ℕ
shown_count r = (length r.tests, length r.gives)

abbrev pub count : WrittenRule → ℕ × ℕ
count r = (length r.tests.items, length r.gives.items)

abbrev pub names : WrittenTable → List (List ℕ)
names t = map (λ c. string_bytes c.name) t.outputs.items

abbrev pub entries : WrittenTable → List (ℕ × ℕ)
entries t = map count t.rules.items

counts : (rs : List WrittenRule) → map shown_count (map rule_view rs) ≡ map count rs
counts [] = refl
counts (r ∷ rs) = ap₂ (λ (p : ℕ × ℕ) ps. p ∷ ps) (ap₂ pair (length-map r.tests.items string_bytes) (length-map r.gives.items string_bytes)) (counts rs)

fault_view : (t : WrittenTable) → table_fault (string_bytes t.hit) (length t.inputs.items) (names t) (entries t) ≡ fault_of_table (table_view t)
fault_view t =
    sym (ap (λ n. table_fault (string_bytes t.hit) n (map (λ c. c.name) (map column_view t.outputs.items)) (map shown_count (map rule_view t.rules.items))) (length-map t.inputs.items string_bytes)
    ∙ ap₂ (table_fault (string_bytes t.hit) (length t.inputs.items)) (map_twice (λ c. c.name) column_view t.outputs.items) (counts t.rules.items))

under_columns : (o : Option HitPolicy) (b : Bool) (n : ℕ) (ns : List (List ℕ)) (es : List (ℕ × ℕ)) → Some b ≡ option_map is_operator o → columns_fit n ns es ≡ false
    → Some Columns ≡ fault_under o n ns es
under_columns None b n ns es e f = cc
under_columns (Some p) b n ns es e f = ap (λ c. if not c then Some Columns else (if not (operator_fits p ns) then Some Operator else None)) (sym f)

under_operator : (o : Option HitPolicy) (b : Bool) (n : ℕ) (ns : List (List ℕ)) (es : List (ℕ × ℕ)) → Some b ≡ option_map is_operator o → columns_fit n ns es ≡ true
    → not (b && nat_lt 1 (length ns)) ≡ false → Some Operator ≡ fault_under o n ns es
under_operator None b n ns es e f g = cc
under_operator (Some p) b n ns es e f g =
    let same : b ≡ is_operator p = cc in
    ap₂ (λ c d. if not c then Some Columns else (if not d then Some Operator else None)) (sym f) (sym (ap (λ d. not (d && nat_lt 1 (length ns))) (sym same) ∙ g))

under_none : (o : Option HitPolicy) (b : Bool) (n : ℕ) (ns : List (List ℕ)) (es : List (ℕ × ℕ)) → Some b ≡ option_map is_operator o → columns_fit n ns es ≡ true
    → not (b && nat_lt 1 (length ns)) ≡ true → None ≡ fault_under o n ns es
under_none None b n ns es e f g = cc
under_none (Some p) b n ns es e f g =
    let same : b ≡ is_operator p = cc in
    ap₂ (λ c d. if not c then Some Columns else (if not d then Some Operator else None)) (sym f) (sym (ap (λ d. not (d && nat_lt 1 (length ns))) (sym same) ∙ g))

as_named : (t : WrittenTable) (n : ℕ) → n ≡ length t.outputs.items → (b : Bool) → not (b && nat_lt 1 (length (names t))) ≡ not (b && nat_lt 1 n)
as_named t n e b = ap (λ k. not (b && nat_lt 1 k)) (length-map t.outputs.items (λ c. string_bytes c.name) ∙ sym e)

pub told_columns : (t : WrittenTable) (hit : List ℕ) (b fits : Bool) → hit ≡ string_bytes t.hit → Some b ≡ option_map is_operator (policy_of hit) → fits ≡ columns_fit (length t.inputs.items) (names t) (entries t)
    → fits ≡ false → Some Columns ≡ fault_of_table (table_view t)
told_columns t hit b fits h e f g =
    under_columns (policy_of (string_bytes t.hit)) b (length t.inputs.items) (names t) (entries t) (e ∙ ap (λ s. option_map is_operator (policy_of s)) h) (sym f ∙ g) ∙ fault_view t

pub told_operator : (t : WrittenTable) (hit : List ℕ) (b fits may : Bool) (n : ℕ) → hit ≡ string_bytes t.hit → Some b ≡ option_map is_operator (policy_of hit)
    → fits ≡ columns_fit (length t.inputs.items) (names t) (entries t) → fits ≡ true → n ≡ length t.outputs.items → may ≡ not (b && nat_lt 1 n) → may ≡ false → Some Operator ≡ fault_of_table (table_view t)
told_operator t hit b fits may n h e f g k m off =
    under_operator (policy_of (string_bytes t.hit)) b (length t.inputs.items) (names t) (entries t) (e ∙ ap (λ s. option_map is_operator (policy_of s)) h) (sym f ∙ g) (as_named t n k b ∙ sym m ∙ off) ∙ fault_view t

pub told_none : (t : WrittenTable) (hit : List ℕ) (b fits may : Bool) (n : ℕ) → hit ≡ string_bytes t.hit → Some b ≡ option_map is_operator (policy_of hit)
    → fits ≡ columns_fit (length t.inputs.items) (names t) (entries t) → fits ≡ true → n ≡ length t.outputs.items → may ≡ not (b && nat_lt 1 n) → may ≡ true → None ≡ fault_of_table (table_view t)
told_none t hit b fits may n h e f g k m on =
    under_none (policy_of (string_bytes t.hit)) b (length t.inputs.items) (names t) (entries t) (e ∙ ap (λ s. option_map is_operator (policy_of s)) h) (sym f ∙ g) (as_named t n k b ∙ sym m ∙ on) ∙ fault_view t

-- whether a rule fits, as it is written
pub fits_as_written : (inputs outputs : ℕ) (r : WrittenRule) → fits_columns inputs outputs (length r.tests.items, length r.gives.items) ≡ fits_columns inputs outputs (shown_count (rule_view r))
fits_as_written inputs outputs r =
    ap₂ (λ m n. fits_columns inputs outputs (pair m n)) (sym (length-map r.tests.items string_bytes)) (sym (length-map r.gives.items string_bytes))
