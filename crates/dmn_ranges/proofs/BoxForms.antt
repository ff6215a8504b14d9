-- What is told of the forms of boxed expressions that the code has.
use Rattle.std.proofs.Common.{◌≡◌, ◌∙◌, sym, ap, subst, true, Bool, Vec, Box, Global, rules}
use Rattle.feel_text.specs.Expr.{Expr}
use Rattle.feel_text.specs.Meaning.{Bindings}
use Rattle.dmn_table.specs.Result.{table_result}
use Rattle.dmn_table.specs.Table.{Table}
use Rattle.dmn_form.specs.Model.{Boxed, expression, table, list, context, context_with}
use Rattle.dmn_logic.proofs.Boxes.{Named, logic_view-Context, logic_view-ContextWith}
use Rattle.dmn_logic.specs.LogicView.{logic_view, members_view, entries_view}
use Rattle.dmn_logic.specs.declared.logic.Logic.{Logic, Expression, Table as TableIn, List, Context, ContextWith, the_lemmas}
use Rattle.dmn_ranges.specs.Boxes.{TellsBox, TellsEntries}
use Rattle.dmn_ranges.specs.Ranges.{Scope, Fits, covers}
use Rattle.dmn_ranges.specs.Steps.{limited, list_of, outcomes}
use Rattle.dmn_ranges.specs.Tables.{some_context}
use Rattle.dmn_ranges.specs.declared.outcomes.Outcomes.{Outcomes}
use Rattle.dmn_ranges.specs.declared.parts.Parts.{Parts}
use Rattle.dmn_ranges.proofs.Sound.{sound}
use Rattle.dmn_ranges.proofs.SoundBoxes.{some_context_told, result_told}

pub expression_in : (e : Expr) → logic_view (Expression e) ≡ expression e
expression_in e = search (rules, the_lemmas)

pub table_in : (t : Table) → logic_view (TableIn t) ≡ table t
table_in t = search (rules, the_lemmas)

pub list_in : (v : Vec Logic Global) → logic_view (List v) ≡ list (members_view v.items)
list_in v = search (rules, the_lemmas)

tells_as : (xs : Scope) (b c : Boxed Expr Table) (o p : Outcomes) → b ≡ c → p ≡ o → TellsBox xs c o → TellsBox xs b p
tells_as xs b c o p same is told = subst (λ d. TellsBox xs d p) (sym same) (subst (TellsBox xs c) (sym is) told)

pub expression_told : (xs : Scope) (l : Logic) (e : Expr) (o : Outcomes) → l ≡ Expression e → o ≡ outcomes e xs → TellsBox xs (logic_view l) o
expression_told xs l e o form is = tells_as xs (logic_view l) (expression e) (outcomes e xs) o (ap logic_view form ∙ expression_in e) is (λ m f. sound e xs m f)

pub table_told : (xs : Scope) (l : Logic) (t : Table) (o : Outcomes) → l ≡ TableIn t → ((m : Bindings) → Fits xs m → covers o (table_result t m) ≡ true) → TellsBox xs (logic_view l) o
table_told xs l t o form told = subst (λ b. TellsBox xs b o) (sym (ap logic_view form ∙ table_in t)) (λ m f. told m f)

pub list_told : (xs : Scope) (l : Logic) (v : Vec Logic Global) (p : Parts) (o : Outcomes) → l ≡ List v → o ≡ list_of p → TellsBox xs (list (members_view v.items)) (list_of p) → TellsBox xs (logic_view l) o
list_told xs l v p o form is told = tells_as xs (logic_view l) (list (members_view v.items)) (list_of p) o (ap logic_view form ∙ list_in v) is told

pub context_told : (xs : Scope) (l : Logic) (v : Vec Named Global) (o : Outcomes) → l ≡ Context v → o ≡ some_context → TellsBox xs (logic_view l) o
context_told xs l v o form is = tells_as xs (logic_view l) (context (entries_view v.items)) some_context o (ap logic_view form ∙ logic_view-Context v) is (some_context_told xs (entries_view v.items))

pub with_told : (xs ys : Scope) (l : Logic) (v : Vec Named Global) (b : Box Logic Global) (limit : Bool) (o p : Outcomes) → l ≡ ContextWith v b → p ≡ limited limit o → TellsEntries xs (entries_view v.items) limit ys → TellsBox ys (logic_view b.value) o
    → TellsBox xs (logic_view l) p
with_told xs ys l v b limit o p form is entries told =
    tells_as xs (logic_view l) (context_with (entries_view v.items) (logic_view b.value)) (limited limit o) p (ap logic_view form ∙ logic_view-ContextWith v b) is (result_told xs ys (entries_view v.items) (logic_view b.value) limit o entries told)
