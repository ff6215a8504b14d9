use Rattle.std.proofs.Common.{◌∙◌, ◌++◌, refl, sym, ap, [], ◌∷◌, map}
use Rattle.std.specs.List.{slice_get}
use Rattle.dmn_table.specs.Parts.{rule_view}
use Rattle.dmn_analysis.specs.Kinds.{column_tests, kinds_of, tests_of_entry}
use Rattle.dmn_analysis.specs.Seeing.{seen_kinds, with_kinds}
use Rattle.dmn_analysis.proofs.Seeings.{done, turn}
use Rattle.dmn_analysis.proofs.kinds.Seen.of.Goals as goal

pub loop-rule-init : goal.loop-rule-init
loop-rule-init c = ap (λ k. with_kinds k (kinds_of (column_tests (map rule_view c.args.rules.now) c.args.place))) c.nothing-seen.ensures

pub loop-rule-preserved : goal.loop-rule-preserved
loop-rule-preserved c =
    let place = c.args.place in
    turn (λ rs. column_tests (map rule_view rs) place) (λ r. tests_of_entry (slice_get (rule_view r).tests place)) (λ r rs. refl) c.args.rules.now c.loop-rule.rule-index c.rule-item.result
    (seen_kinds c.loop-rule.seen) (seen_kinds c.see_entry.new.self) _ c.loop-rule.invariant c.rule-item.is c.loop-rule-test.true
    (c.in_ok-see_entry.ensures ∙ ap (λ o. with_kinds (seen_kinds c.loop-rule.seen) (kinds_of (tests_of_entry o))) (c.entry_at.ensures ∙ ap (λ ts. slice_get ts place) c.deref.ensures.value))

pub returns : goal.returns
returns c = done (λ rs. column_tests (map rule_view rs) c.args.place) refl c.args.rules.now c.loop-rule.rule-index (seen_kinds c.loop-rule.seen) _ c.loop-rule-test.false c.loop-rule.invariant
