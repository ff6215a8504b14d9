use Rattle.std.proofs.Common.{◌∙◌, sym, ap, subst, length, map}
use Rattle.std.specs.List.{All}
use Rattle.dmn_table.specs.Table.{Rule}
use Rattle.dmn_analysis.specs.Joining.{AreMissed}
use Rattle.dmn_analysis.specs.Searching.{CannotHit}
use Rattle.dmn_analysis.proofs.Turning.{all_of, one_more}
use Rattle.dmn_analysis.proofs.joined.are_all_missed.Goals as goal

pub loop-one-preserved : goal.loop-one-preserved
loop-one-preserved c =
    let words = c.args.words.now in
    let rules = c.args.rows.now in
    let missed = c.are_missed.ensures.missed c.if-not-are_missed.false in
    one_more (AreMissed words rules c.args.count) c.args.all.now c.loop-one.one-index c.one-item.result c.loop-one-test.true c.one-item.is c.loop-one.invariant
    (record {
      long = ap length (sym c.deref.ensures.value) ∙ c.are_missed.ensures.long c.if-not-are_missed.false;
      none = subst (λ cs. All (λ (r : Rule). CannotHit words cs r) rules) c.deref.ensures.value missed;
    })

pub returns : goal.returns
returns c = λ _. all_of (AreMissed c.args.words.now c.args.rows.now c.args.count) c.args.all.now c.loop-one.one-index c.loop-one-test.false c.loop-one.invariant
