use Rattle.std.proofs.Common.{ap, ap₂, sym, ◌∙◌, ◌&&◌}
use Rattle.feel_value.specs.Comparison.{values_equal, names_within}
use Rattle.feel_value.specs.Limits.{names_differ}
use Rattle.feel_value.proofs.OtherCounts.{sized_distinct, other_counts}
use Rattle.feel_value.proofs.comparison.differ_in_count.Goals as goal

pub returns-then-is_some : goal.returns-then-is_some
returns-then-is_some c = λ h.
    let xs = c.entries.result.now in
    let ys = c.entries-2.result.now in
    let first = ap names_differ c.entries.ensures ∙ sized_distinct c.args.a.now c.size.result c.size.ensures (sym c.is_some.ensures ∙ c.if-is_some.true) in
    let second = ap names_differ c.entries-2.ensures ∙ sized_distinct c.args.b.now c.size-then-is_some.result c.size-then-is_some.ensures (sym c.is_some-then-is_some.ensures ∙ h) in
    ap₂ (λ ds es. values_equal ds es && names_within es ds) (sym c.entries.ensures) (sym c.entries-2.ensures)
    ∙ other_counts xs ys first second c.if-entries.false
