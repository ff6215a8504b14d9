use Rattle.std.proofs.Common.{rules, ◌<◌, length, get_or}
use Rattle.std.proofs.lemmas.List.Elements.{All-get_or}
use Rattle.std.proofs.lemmas.Option.{slice_get-get_or}
use Rattle.dmn_analysis.proofs.Places.{at_place}
use Rattle.dmn_analysis.proofs.searching.outlook_for.Goals as goal

pub returns-in_default : goal.returns-in_default
returns-in_default c =
    let left = c.args.left.now in
    let all = c.args.rows.now in
    let within : 0 < length left = search rules in
    let rule = c.index-rows-rule.result in
    record {
      among = record { place = 0; there = slice_get-get_or left 0 0 within };
      rule = rule;
      there = at_place all (get_or left 0 0) rule (All-get_or (λ r. r < length all) left 0 0 within c.requires) c.index-rows-rule.is;
      must = c.first_unsettled.ensures.must c.in_default.is;
    }

pub returns-then-must_hit : goal.returns-then-must_hit
returns-then-must_hit c =
    let left = c.args.left.now in
    let all = c.args.rows.now in
    let i = c.loop-other.other in
    let rule = c.index-rows-rule-in-loop-other.result in
    record {
      among = record { place = i; there = slice_get-get_or left i 0 c.loop-other-test.true };
      rule = rule;
      there = at_place all (get_or left i 0) rule (All-get_or (λ r. r < length all) left i 0 c.loop-other-test.true c.requires) c.index-rows-rule-in-loop-other.is;
      must = c.must_hit.ensures c.if-must_hit.true;
    }

pub returns : goal.returns
returns c =
    let left = c.args.left.now in
    let all = c.args.rows.now in
    let within : 0 < length left = search rules in
    let rule = c.index-rows-rule.result in
    record {
      rule = rule;
      there = at_place all (get_or left 0 0) rule (All-get_or (λ r. r < length all) left 0 0 within c.requires) c.index-rows-rule.is;
      entry = c.in-Some.ensures.entry;
      cell = c.in-Some.ensures.cell;
    }
