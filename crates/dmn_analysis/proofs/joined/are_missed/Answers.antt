use Rattle.dmn_table.specs.Table.{Rule}
use Rattle.dmn_analysis.specs.Searching.{CannotHit}
use Rattle.dmn_analysis.proofs.Turning.{all_of, one_more}
use Rattle.dmn_analysis.proofs.joined.are_missed.Goals as goal

pub loop-row-preserved : goal.loop-row-preserved
loop-row-preserved c =
    one_more (λ (r : Rule). CannotHit c.args.words.now c.args.cells.now r) c.args.rows.now c.loop-row.row-index c.row-item.result c.loop-row-test.true c.row-item.is c.loop-row.invariant
    (c.cannot_hit.ensures c.if-not-cannot_hit.false)

pub returns-clause-missed : goal.returns-clause-missed
returns-clause-missed c = λ _. all_of (λ (r : Rule). CannotHit c.args.words.now c.args.cells.now r) c.args.rows.now c.loop-row.row-index c.loop-row-test.false c.loop-row.invariant
