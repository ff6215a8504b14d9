use Rattle.std.proofs.Common.{◌∙◌, ◌+◌, ◌<◌, sym, ap, subst, arith, length, get_or}
use Rattle.std.specs.List.{slice_get, All}
use Rattle.std.proofs.lemmas.List.Elements.{All-push}
use Rattle.std.proofs.lemmas.Option.{same_Some, slice_get-get_or, slice_get_within}
use Rattle.dmn_analysis.specs.Searching.{CannotHit, IsAmong}
use Rattle.dmn_analysis.proofs.Places.{All-at, at_place}
use Rattle.dmn_analysis.proofs.Searches.{Sifted, left_sifted, sifted_in, sifted_out}
use Rattle.dmn_analysis.proofs.Sharings.{AreSome, some_in, some_out}
use Rattle.dmn_analysis.proofs.searching.possible.Goals as goal

pub loop-number-preserved-then-number-rows : goal.loop-number-preserved-then-number-rows
loop-number-preserved-then-number-rows c = (
  λ s words rules before.
      let left = c.args.left.now in
      let i = c.loop-number.number-index in
      let r = get_or left i 0 in
      sifted_out s c.args.cells.now left c.loop-number.kept.items i r (c.loop-number.invariant.0 s words rules before) (slice_get-get_or left i 0 c.loop-number-test.true)
      (λ rule of. absurd (omega (arith, slice_get_within s.rules r rule of, ap length rules, c.if-number-rows.true))),
  c.loop-number.invariant.1,
  λ rising. some_out c.args.left.now c.loop-number.kept.items c.loop-number.number-index (c.loop-number.invariant.2 rising),
)

pub loop-number-preserved-then-cannot_hit : goal.loop-number-preserved-then-cannot_hit
loop-number-preserved-then-cannot_hit c = (
  λ s words rules before.
      let left = c.args.left.now in
      let i = c.loop-number.number-index in
      let r = get_or left i 0 in
      let one = c.index-rows-number.result in
      let there = at_place c.args.rows.now r one c.if-number-rows.false c.index-rows-number.is in
      sifted_out s c.args.cells.now left c.loop-number.kept.items i r (c.loop-number.invariant.0 s words rules before) (slice_get-get_or left i 0 c.loop-number-test.true)
      (λ rule of.
      let same = same_Some one rule (sym there ∙ ap (λ rs. slice_get rs r) (sym rules) ∙ of) in
      subst (λ ws. CannotHit ws c.args.cells.now rule) (sym words) (subst (CannotHit c.args.words.now c.args.cells.now) same (c.cannot_hit.ensures c.if-cannot_hit.true))),
  c.loop-number.invariant.1,
  λ rising. some_out c.args.left.now c.loop-number.kept.items c.loop-number.number-index (c.loop-number.invariant.2 rising),
)

pub loop-number-preserved : goal.loop-number-preserved
loop-number-preserved c = (
  λ s words rules before.
      let left = c.args.left.now in
      let i = c.loop-number.number-index in
      let r = get_or left i 0 in
      let kept = c.loop-number.kept.items in
      let there = slice_get-get_or left i 0 c.loop-number-test.true in
      let sifted = c.loop-number.invariant.0 s words rules before in
      subst (λ ks. Sifted s c.args.cells.now left ks (i + 1)) (sym c.in_ok-push.ensures.items)
      (sifted_in s c.args.cells.now left kept i r sifted there (All-push (IsAmong s.first) kept r sifted.among (All-at (IsAmong s.first) left i r before.among there))),
  subst (All (λ r. r < length c.args.rows.now)) (sym c.in_ok-push.ensures.items) (All-push (λ r. r < length c.args.rows.now) c.loop-number.kept.items _ c.loop-number.invariant.1 c.if-number-rows.false),
  λ rising.
      let left = c.args.left.now in
      let i = c.loop-number.number-index in
      subst (λ ks. AreSome left ks (i + 1)) (sym c.in_ok-push.ensures.items)
      (some_in left c.loop-number.kept.items i (get_or left i 0) rising (slice_get-get_or left i 0 c.loop-number-test.true) (c.loop-number.invariant.2 rising)),
)

pub returns-clause-rising : goal.returns-clause-rising
returns-clause-rising c = λ rising. (c.loop-number.invariant.2 rising).rising

pub returns-clause-left : goal.returns-clause-left
returns-clause-left c = λ s words rules before. left_sifted s c.args.cells.now c.args.left.now c.loop-number.kept.items c.loop-number.number-index before (c.loop-number.invariant.0 s words rules before) (omega (arith, c.loop-number-test.false, c.loop-number.auto.number-index-end))

pub returns-clause-there : goal.returns-clause-there
returns-clause-there c = c.loop-number.invariant.1
