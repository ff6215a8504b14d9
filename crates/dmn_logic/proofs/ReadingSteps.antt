-- Reading tables and contexts from their parts.
use Rattle.std.proofs.Common.{◌≡◌, ℕ, List, [], ◌∷◌, map, length, refl, sym, ap, ap₂, ◌∙◌, false, Option, Some, None, Vec, Box, String, Global}
use Rattle.feel_text.specs.Expr.{Expr}
use Rattle.dmn_table.specs.declared.fault.TableFault.{TableFault}
use Rattle.dmn_table.specs.declared.table.Output.{Output}
use Rattle.dmn_table.specs.declared.table.Rule as rule
use Rattle.dmn_table.specs.Faults.{policy_of, fault_under, table_fault}
use Rattle.feel_value.specs.Distinct.{are_distinct}
use Rattle.dmn_table.specs.declared.hit_policy.HitPolicy.{HitPolicy}
use Rattle.dmn_table.specs.Parts.{column_view, rule_view, names_of, entry_counts, fault_of_parts, MakesTable}
use Rattle.dmn_table.specs.Table.{Column, Rule, Table}
use Rattle.dmn_table.proofs.Distinct.{twice_columns}
use Rattle.dmn_table.proofs.Outputs.{names_same}
use Rattle.dmn_form.specs.Model.{Name, context, entries_of}
use Rattle.dmn_form.specs.LogicView.{logic_view as written_view, entry_view as written_entry}
use Rattle.dmn_form.specs.declared.written.WrittenLogic.{WrittenLogic}
use Rattle.dmn_form.specs.declared.written.WrittenLogic as written
use Rattle.dmn_form.proofs.LogicSteps.{logic_view-Context as written_view-Context, logic_view-ContextWith as written_view-ContextWith}
use Rattle.dmn_logic.specs.LogicView.{Read, logic_view, entry_view, entries_view}
use Rattle.dmn_logic.specs.Reading.{mapped, both, made_under, made_table, context_of, logic_reading, entries_reading}
use Rattle.dmn_logic.specs.declared.logic.Logic.{Logic, ContextWith}
use Rattle.dmn_logic.specs.declared.reading.Reading.{Reading}
use Rattle.dmn_logic.specs.declared.reading.Reading.TheVariants.{Found, Refused, Unread}
use Rattle.dmn_logic.proofs.Boxes.{Named, logic_view-ContextWith}

-- ---- tables

counts_same : (rs : List rule.Rule) → map (λ r. (length r.tests, length r.gives)) (map rule_view rs) ≡ entry_counts rs
counts_same [] = refl
counts_same (r ∷ rs) = ap (λ ns. (length r.tests.items, length r.gives.items) ∷ ns) (counts_same rs)

fault_same : (hit : List ℕ) (inputs : List Expr) (outputs : List Output) (rules : List rule.Rule)
    → table_fault hit (length inputs) (map (λ c. c.name) (map column_view outputs)) (map (λ r. (length r.tests, length r.gives)) (map rule_view rules)) ≡ fault_of_parts hit inputs outputs rules
fault_same hit inputs outputs rules = ap₂ (λ ns cs. table_fault hit (length inputs) ns cs) (names_same outputs) (counts_same rules)

pub made_found : (hit : List ℕ) (inputs : List Expr) (outputs : List Output) (rules : List rule.Rule) (t : Table) → MakesTable hit inputs outputs rules t
    → Found t ≡ made_table hit inputs (map column_view outputs) (map rule_view rules)
made_found hit inputs outputs rules t m =
    ap Found m.parts
    ∙ sym (ap₂ (λ f p. made_under f p inputs (map column_view outputs) (map rule_view rules)) (fault_same hit inputs outputs rules ∙ m.lawful) m.policy)

pub made_refused : (hit : List ℕ) (inputs : List Expr) (outputs : List Output) (rules : List rule.Rule) (f : TableFault) → fault_of_parts hit inputs outputs rules ≡ Some f
    → Refused ≡ made_table hit inputs (map column_view outputs) (map rule_view rules)
made_refused hit inputs outputs rules f e =
    sym (ap (λ o. made_under o (policy_of hit) inputs (map column_view outputs) (map rule_view rules)) (fault_same hit inputs outputs rules ∙ e))

refused_by : (o : Option HitPolicy) (inputs : List Expr) (outputs : List Column) (rules : List Rule) (n : ℕ) (ns : List (List ℕ)) (counts : List (ℕ × ℕ)) → are_distinct ns ≡ false
    → Refused ≡ made_under (fault_under o n ns counts) o inputs outputs rules
refused_by None inputs outputs rules n ns counts e = refl
refused_by (Some p) inputs outputs rules n ns counts e = sym (ap (λ f. made_under f (Some p) inputs outputs rules) (twice_columns (Some p) p n ns counts refl e))

-- a table of which two output columns have one name
pub made_with_twice : (hit : List ℕ) (inputs : List Expr) (outputs : List Output) (rules : List rule.Rule) → are_distinct (names_of outputs) ≡ false
    → Refused ≡ made_table hit inputs (map column_view outputs) (map rule_view rules)
made_with_twice hit inputs outputs rules e =
    refused_by (policy_of hit) inputs (map column_view outputs) (map rule_view rules) (length inputs) (map (λ c. c.name) (map column_view outputs)) (map (λ r. (length r.tests, length r.gives)) (map rule_view rules))
    (ap are_distinct (names_same outputs) ∙ e)

-- ---- contexts

abbrev pub entries_found : Reading (Vec Named Global) → Reading (List (Name × Read))
entries_found r = mapped (λ v. map entry_view v.items) r

abbrev pub context_found : Reading (Vec Named Global) → Reading Read
context_found r = mapped (λ v. context (entries_view v.items)) r

context_mapped : (r : Reading (Vec Named Global)) → mapped (λ fs. context (entries_of fs)) (entries_found r) ≡ context_found r
context_mapped (Found v) = refl
context_mapped Refused = refl
context_mapped Unread = refl

-- a written context, whose entries stand in v
pub context_read : (logic : WrittenLogic) (v : Vec (String Global × WrittenLogic) Global) (es : List (String Global × WrittenLogic)) (r : Reading (Vec Named Global))
    → logic ≡ written.Context v → es ≡ v.items → entries_found r ≡ entries_reading (entries_of (map written_entry es)) → logic_reading (written_view logic) ≡ context_found r
context_read logic v es r is e read =
    ap (λ l. logic_reading (written_view l)) is ∙ ap logic_reading (written_view-Context v)
    ∙ ap (λ (xs : List (String Global × WrittenLogic)). mapped (λ fs. context (entries_of fs)) (entries_reading (entries_of (map written_entry xs)))) (sym e)
    ∙ ap (mapped (λ fs. context (entries_of fs))) (sym read) ∙ context_mapped r

-- a written context with a result
pub context_with_read : (logic : WrittenLogic) (v : Vec (String Global × WrittenLogic) Global) (b : Box WrittenLogic Global) (es : List (String Global × WrittenLogic)) (x : WrittenLogic)
    → logic ≡ written.ContextWith v b → es ≡ v.items → x ≡ b.value
    → logic_reading (written_view logic) ≡ both context_of (entries_reading (entries_of (map written_entry es))) (logic_reading (written_view x))
context_with_read logic v b es x is e f =
    ap (λ l. logic_reading (written_view l)) is ∙ ap logic_reading (written_view-ContextWith v b)
    ∙ ap₂ (λ (xs : List (String Global × WrittenLogic)) y. both context_of (entries_reading (entries_of (map written_entry xs))) (logic_reading (written_view y))) (sym e) (sym f)

pub context_with_found : (entries : Reading (Vec Named Global)) (last : Reading Logic) (v : Vec Named Global) (x : Logic) (b : Box Logic Global)
    → entries ≡ Found v → last ≡ Found x → b.value ≡ x → Found (logic_view (ContextWith v b)) ≡ both context_of (entries_found entries) (mapped logic_view last)
context_with_found entries last v x b e f g =
    ap Found (logic_view-ContextWith v b ∙ ap (λ y. context_of (map entry_view v.items) (logic_view y)) g)
    ∙ sym (ap₂ (λ p q. both context_of (entries_found p) (mapped logic_view q)) e f)
