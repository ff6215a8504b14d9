use Rattle.std.proofs.Common.{◌<◌, ◌+◌, sym, subst, length, get_or}
use Rattle.std.specs.List.{All}
use Rattle.std.proofs.lemmas.List.Elements.{All-get_or, All-push}
use Rattle.std.proofs.lemmas.Option.{slice_get-get_or}
use Rattle.dmn_analysis.specs.Sharing.{IsMustHit}
use Rattle.dmn_analysis.proofs.Places.{at_place}
use Rattle.dmn_analysis.proofs.Sharings.{AreSome, some_in, some_out}
use Rattle.dmn_analysis.proofs.searching.sure_rules.Goals as goal

pub loop-number-preserved-then-not-must_hit : goal.loop-number-preserved-then-not-must_hit
loop-number-preserved-then-not-must_hit c = (
  c.loop-number.invariant.0,
  λ rising. some_out c.args.left.now c.loop-number.sure.items c.loop-number.number-index (c.loop-number.invariant.1 rising),
)

pub loop-number-preserved : goal.loop-number-preserved
loop-number-preserved c =
    let left = c.args.left.now in
    let all = c.args.rows.now in
    let i = c.loop-number.number-index in
    let rule = c.index-rows-rule.result in (
      subst (All (IsMustHit c.args.words.now all c.args.cells.now)) (sym c.in_ok-push.ensures.items) (All-push (IsMustHit c.args.words.now all c.args.cells.now) c.loop-number.sure.items (get_or left i 0) c.loop-number.invariant.0 (record {
        rule = rule;
        there = at_place all (get_or left i 0) rule (All-get_or (λ r. r < length all) left i 0 c.loop-number-test.true c.requires) c.index-rows-rule.is;
        must = c.must_hit.ensures c.if-not-must_hit.false;
      })),
      λ rising.
          subst (λ ks. AreSome left ks (i + 1)) (sym c.in_ok-push.ensures.items)
          (some_in left c.loop-number.sure.items i (get_or left i 0) rising (slice_get-get_or left i 0 c.loop-number-test.true) (c.loop-number.invariant.1 rising)),
    )

pub returns-clause-rising : goal.returns-clause-rising
returns-clause-rising c = λ rising. (c.loop-number.invariant.1 rising).rising

pub returns-clause-must : goal.returns-clause-must
returns-clause-must c = c.loop-number.invariant.0
