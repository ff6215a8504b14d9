-- There is an unread text exactly where the model has the fault.
use Rattle.std.proofs.Common.{◌≡◌, ℕ, List, ◌++◌, length, refl, ◌∙◌, Bool, true, false, ◌||◌, nat_lt, Option, None, Some, option_to_list}
use Rattle.std.specs.List.{list_any}
use Rattle.dmn_form.specs.Draft.{WrittenColumn, WrittenRule, WrittenTable, Draft}
use Rattle.dmn_logic.specs.Parts.{texts_in, tables_in}
use Rattle.dmn_logic.specs.Faults.{has_no_expression, is_unread_column, is_unread_rule, is_unread_table, has_unread_text}
use Rattle.dmn_check.specs.declared.place.Step.TheVariants as step
use Rattle.dmn_check.specs.declared.place.Key.TheVariants as key
use Rattle.dmn_check.specs.declared.finding.TextKind.{TextKind}
use Rattle.dmn_check.specs.declared.finding.TextKind.TheVariants.{Expression, UnaryTests, Literal}
use Rattle.dmn_check.specs.declared.finding.Mistake.TheVariants as mistake
use Rattle.dmn_check.specs.Findings.{behind, each_of}
use Rattle.dmn_check.specs.Told.{have_any, capped}
use Rattle.dmn_check.specs.Unread.{is_unread, unread, default_texts, column_texts, rule_texts, table_texts, unread_look, unread_texts}
use Rattle.dmn_check.proofs.Presence.{any-here, any-both, any-inside, any-each_of, any-decisions}
use Rattle.dmn_check.proofs.ToldLaws.{some_told}

any-text : (k : TextKind) (s : List ℕ) → have_any (unread k s) ≡ is_unread k s
any-text k s = any-here (mistake.Expression k) (is_unread k s)

any-texts : (k : TextKind) (ss : List (List ℕ)) → have_any (each_of (unread k) ss) ≡ list_any (is_unread k) ss
any-texts k ss = any-each_of (unread k) (is_unread k) (any-text k) ss

alone : (b : Bool) → b ≡ (b || false)
alone true = refl
alone false = refl

any-default : (o : Option (List ℕ)) → have_any (default_texts o) ≡ has_no_expression (option_to_list o)
any-default None = refl
any-default (Some s) = any-inside (step.Key key.Default) (unread Expression s) _ (any-text Expression s) ∙ alone (is_unread Expression s)

any-column : (c : WrittenColumn) → have_any (column_texts c) ≡ is_unread_column c
any-column c =
    any-both (behind (step.Key key.Values) (each_of (unread Literal) c.values)) (default_texts c.fallback) _ _
    (any-inside (step.Key key.Values) (each_of (unread Literal) c.values) _ (any-texts Literal c.values)) (any-default c.fallback)

any-rule : (r : WrittenRule) → have_any (rule_texts r) ≡ is_unread_rule r
any-rule r =
    any-both (behind (step.Key key.When) (each_of (unread UnaryTests) r.tests)) (behind (step.Key key.Then) (each_of (unread Expression) r.gives)) _ _
    (any-inside (step.Key key.When) (each_of (unread UnaryTests) r.tests) _ (any-texts UnaryTests r.tests))
    (any-inside (step.Key key.Then) (each_of (unread Expression) r.gives) _ (any-texts Expression r.gives))

any-table : (t : WrittenTable) → have_any (table_texts t) ≡ is_unread_table t
any-table t =
    any-both (behind (step.Key key.Inputs) (each_of (unread Expression) t.inputs))
    (behind (step.Key key.Outputs) (each_of column_texts t.outputs) ++ behind (step.Key key.Rules) (each_of rule_texts t.rules)) _ _
    (any-inside (step.Key key.Inputs) (each_of (unread Expression) t.inputs) _ (any-texts Expression t.inputs))
    (any-both (behind (step.Key key.Outputs) (each_of column_texts t.outputs)) (behind (step.Key key.Rules) (each_of rule_texts t.rules)) _ _
    (any-inside (step.Key key.Outputs) (each_of column_texts t.outputs) _ (any-each_of column_texts is_unread_column any-column t.outputs))
    (any-inside (step.Key key.Rules) (each_of rule_texts t.rules) _ (any-each_of rule_texts is_unread_rule any-rule t.rules)))

pub any-unread : (m : Draft) → have_any (unread_texts m) ≡ has_unread_text m.decisions
any-unread m =
    any-decisions unread_look (λ s. is_unread Expression s) is_unread_table (any-text Expression) any-table (λ ns. refl)
    (λ d. list_any (λ s. is_unread Expression s) (texts_in d.logic) || list_any is_unread_table (tables_in d.logic)) (λ d. refl) m.decisions

pub unread_exactly : (m : Draft) → nat_lt 0 (capped (length (unread_texts m))) ≡ has_unread_text m.decisions
unread_exactly m = some_told (unread_texts m) ∙ any-unread m
