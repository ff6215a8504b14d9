use Rattle.std.proofs.Common.{◌<◌, ◌∙◌, sym, ap, subst, inl, inr, arith, length, map, get_or}
use Rattle.std.specs.List.{slice_get}
use Rattle.std.proofs.lemmas.List.Elements.{All-get_or}
use Rattle.std.proofs.lemmas.Option.{same_Some, slice_get-get_or, slice_get_within}
use Rattle.dmn_analysis.specs.Sharing.{IsMustHit}
use Rattle.dmn_analysis.proofs.Places.{All-from_places, at_place, below_next}
use Rattle.dmn_analysis.proofs.searching.first_unsure.Goals as goal

pub returns-in-Some-clause-entry : goal.returns-in-Some-clause-entry
returns-in-Some-clause-entry c =
    let left = c.args.left.now in
    let all = c.args.rows.now in
    let i = c.loop-number.number-index in
    let rule = c.index-rows-rule.result in
    record {
      rule = rule;
      there = at_place all (get_or left i 0) rule (All-get_or (λ r. r < length all) left i 0 c.loop-number-test.true c.requires) c.index-rows-rule.is;
      entry = c.in-Some.ensures.entry;
      cell = c.in-Some.ensures.cell;
    }

pub loop-number-preserved : goal.loop-number-preserved
loop-number-preserved c = λ k r less here.
    let left = c.args.left.now in
    let all = c.args.rows.now in
    let i = c.loop-number.number-index in
    let rule = c.index-rows-rule.result in
    elim (below_next k i less) [
      | inl before ↦ c.loop-number.invariant k r before here
      | inr at ↦
          let same = same_Some (get_or left i 0) r (sym (slice_get-get_or left i 0 c.loop-number-test.true) ∙ ap (slice_get left) (sym at) ∙ here) in
          subst (IsMustHit c.args.words.now all c.args.cells.now) same (record {
            rule = rule;
            there = at_place all (get_or left i 0) rule (All-get_or (λ r. r < length all) left i 0 c.loop-number-test.true c.requires) c.index-rows-rule.is;
            must = c.first_unsettled.ensures.must c.in_default.is;
          })
    ]

pub returns-clause-must : goal.returns-clause-must
returns-clause-must c = λ _. All-from_places (IsMustHit c.args.words.now c.args.rows.now c.args.cells.now) c.args.left.now
    (λ k r here. c.loop-number.invariant k r (omega (arith, slice_get_within c.args.left.now k r here, c.loop-number-test.false)) here)
