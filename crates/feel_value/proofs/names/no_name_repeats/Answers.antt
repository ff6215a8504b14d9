use Rattle.std.proofs.Common.{◌∙◌, sym, ap, ◌+◌, ◌&&◌, not, drop}
use Rattle.feel_value.specs.Limits.{names_differ}
use Rattle.feel_value.specs.View.{datum_of, entries_view}
use Rattle.feel_value.proofs.DistinctNames.{differ_step}
use Rattle.feel_value.proofs.names.no_name_repeats.Goals as goal

pub returns-then-is_some : goal.returns-then-is_some
returns-then-is_some c =
    sym (c.loop-i.invariant ∙ differ_step (λ v. datum_of v.now) c.args.entries.now c.loop-i.i c.index-entries-i.result c.find.result c.as_str.result.now
    c.index-entries-i.is c.loop-i-test.true c.as_str.ensures.value c.find.ensures
    ∙ ap (λ b. not b && names_differ (entries_view (drop (c.loop-i.i + 1) c.args.entries.now))) (sym c.is_some.ensures ∙ c.if-is_some.true))

pub loop-i-preserved : goal.loop-i-preserved
loop-i-preserved c =
    c.loop-i.invariant ∙ differ_step (λ v. datum_of v.now) c.args.entries.now c.loop-i.i c.index-entries-i.result c.find.result c.as_str.result.now
    c.index-entries-i.is c.loop-i-test.true c.as_str.ensures.value c.find.ensures
    ∙ ap (λ b. not b && names_differ (entries_view (drop (c.loop-i.i + 1) c.args.entries.now))) (sym c.is_some.ensures ∙ c.if-is_some.false)
