-- What a look finds in boxed expressions as the code has them.
use Rattle.std.proofs.Common.{◌≡◌, List, ◌++◌, map, sym, ap, ◌∙◌, String, Vec, Box, Global, rules}
use Rattle.dmn_form.specs.Model.{entries_of}
use Rattle.dmn_form.specs.FormView.{table_view}
use Rattle.dmn_form.specs.LogicView.{logic_view, entry_view}
use Rattle.dmn_form.specs.declared.written.WrittenTable.{WrittenTable}
use Rattle.dmn_form.specs.declared.written.WrittenLogic.{WrittenLogic, Table, List as ListOf, Context, ContextWith, the_lemmas}
use Rattle.dmn_form.proofs.LogicSteps.{logic_view-Context, logic_view-ContextWith}
use Rattle.dmn_names.specs.Parts.{entry_names}
use Rattle.dmn_names.proofs.Walks.{entry_names_view}
use Rattle.dmn_check.specs.declared.place.Step.TheVariants as step
use Rattle.dmn_check.specs.declared.place.Key.TheVariants as key
use Rattle.dmn_check.specs.Findings.{Finding, behind}
use Rattle.dmn_check.specs.Look.{Look, logic_findings, entry_findings}
use Rattle.dmn_check.specs.LookView.{members_findings_view, entries_findings_view, context_findings_view}
use Rattle.dmn_check.specs.Notes.{Notes, into, out, with_all}
use Rattle.dmn_check.proofs.Walking.{then, through, along}

module _ (k : Look) where
  at_table : (t : WrittenTable) → logic_findings k (logic_view (Table t)) ≡ behind (step.Key key.Table) (k.table (table_view t))
  at_table t = search (rules, the_lemmas)

  at_list : (v : Vec WrittenLogic Global) → logic_findings k (logic_view (ListOf v)) ≡ behind (step.Key key.List) (members_findings_view k 0 v.items)
  at_list v = search (rules, the_lemmas)

  at_entries : (es : List (String Global × WrittenLogic))
      → behind (step.Key key.Context) (k.entries (entry_names (entries_of (map entry_view es))) ++ entry_findings k 0 (entries_of (map entry_view es))) ≡ context_findings_view k es
  at_entries es = ap (λ ns. behind (step.Key key.Context) (k.entries ns ++ entries_findings_view k 0 es)) (entry_names_view es)

  at_context : (v : Vec (String Global × WrittenLogic) Global) → logic_findings k (logic_view (Context v)) ≡ context_findings_view k v.items
  at_context v = ap (logic_findings k) (logic_view-Context v) ∙ at_entries v.items

  at_context_with : (v : Vec (String Global × WrittenLogic) Global) (b : Box WrittenLogic Global)
      → logic_findings k (logic_view (ContextWith v b)) ≡ context_findings_view k v.items ++ behind (step.Key key.Result) (logic_findings k (logic_view b.value))
  at_context_with v b =
      ap (logic_findings k) (logic_view-ContextWith v b)
      ∙ ap (λ fs. fs ++ behind (step.Key key.Result) (logic_findings k (logic_view b.value))) (at_entries v.items)

  of_logic : (logic shown : WrittenLogic) (fs : List Finding) (c d : Notes) → logic ≡ shown → logic_findings k (logic_view shown) ≡ fs → with_all c fs ≡ d → with_all c (logic_findings k (logic_view logic)) ≡ d
  of_logic logic shown fs c d is e walked = ap (λ l. with_all c (logic_findings k (logic_view l))) is ∙ ap (with_all c) e ∙ walked

  pub walked_table : (logic : WrittenLogic) (t : WrittenTable) (c c1 c2 c3 : Notes) → logic ≡ Table t → c1 ≡ into (step.Key key.Table) c → with_all c1 (k.table (table_view t)) ≡ c2 → c3 ≡ out c2
      → with_all c (logic_findings k (logic_view logic)) ≡ c3
  walked_table logic t c c1 c2 c3 is entered walked left =
      of_logic logic (Table t) (behind (step.Key key.Table) (k.table (table_view t))) c c3 is (at_table t) (through (step.Key key.Table) (k.table (table_view t)) c c1 c2 c3 entered walked left)

  pub walked_list : (logic : WrittenLogic) (v : Vec WrittenLogic Global) (bs : List WrittenLogic) (c c1 c2 c3 : Notes) → logic ≡ ListOf v → bs ≡ v.items
      → c1 ≡ into (step.Key key.List) c → with_all c1 (members_findings_view k 0 bs) ≡ c2 → c3 ≡ out c2 → with_all c (logic_findings k (logic_view logic)) ≡ c3
  walked_list logic v bs c c1 c2 c3 is same entered walked left =
      of_logic logic (ListOf v) (behind (step.Key key.List) (members_findings_view k 0 v.items)) c c3 is (at_list v)
      (through (step.Key key.List) (members_findings_view k 0 v.items) c c1 c2 c3 entered (along (members_findings_view k 0) v.items bs c1 c2 same walked) left)

  pub walked_context : (logic : WrittenLogic) (v : Vec (String Global × WrittenLogic) Global) (es : List (String Global × WrittenLogic)) (c d : Notes) → logic ≡ Context v → es ≡ v.items
      → with_all c (context_findings_view k es) ≡ d → with_all c (logic_findings k (logic_view logic)) ≡ d
  walked_context logic v es c d is same walked =
      of_logic logic (Context v) (context_findings_view k v.items) c d is (at_context v) (along (context_findings_view k) v.items es c d same walked)

  pub walked_with : (logic : WrittenLogic) (v : Vec (String Global × WrittenLogic) Global) (b : Box WrittenLogic Global) (es : List (String Global × WrittenLogic)) (last : WrittenLogic) (c c1 c2 c3 c4 : Notes)
      → logic ≡ ContextWith v b → es ≡ v.items → last ≡ b.value → with_all c (context_findings_view k es) ≡ c1
      → c2 ≡ into (step.Key key.Result) c1 → with_all c2 (logic_findings k (logic_view last)) ≡ c3 → c4 ≡ out c3
      → with_all c (logic_findings k (logic_view logic)) ≡ c4
  walked_with logic v b es last c c1 c2 c3 c4 is same value first entered walked left =
      of_logic logic (ContextWith v b) (context_findings_view k v.items ++ behind (step.Key key.Result) (logic_findings k (logic_view b.value))) c c4 is (at_context_with v b)
      (then (context_findings_view k v.items) (behind (step.Key key.Result) (logic_findings k (logic_view b.value))) c c1 c4
      (along (context_findings_view k) v.items es c c1 same first)
      (through (step.Key key.Result) (logic_findings k (logic_view b.value)) c1 c2 c3 c4 entered
      (ap (λ l. with_all c2 (logic_findings k (logic_view l))) (sym value) ∙ walked) left))
