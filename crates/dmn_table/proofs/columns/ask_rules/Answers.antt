use Rattle.std.proofs.Common.{◌≡◌, ◌+◌, ◌∙◌, ◌∷◌, ap, refl, List, false}
use Rattle.feel_value.specs.Datum.{Datum}
use Rattle.dmn_table.specs.Columns.{hits_from, once_asked}
use Rattle.dmn_table.proofs.OneByOne.{one_asked, one_kept, one_left_out, all_asked}
use Rattle.dmn_table.proofs.columns.ask_rules.Goals as goal

pub loop-one-preserved : goal.loop-one-preserved
loop-one-preserved c =
    let m = c.args.env.now in
    let v = c.args.value.now in
    let k = c.args.column in
    let asked = c.args.asked.now in
    let i = c.loop-one.one-index in
    let x = c.one-item.result in
    let left = c.loop-one.left.items in
    let asks : (values : List Datum) → hits_from m (v ∷ values) k (x.rule.now, x.is_hit) ≡ hits_from m values (k + 1) (x.rule.now, c.in-Some.is_hit) =
    λ values. c.in_ok-is_hit.ensures values ∙ ap (once_asked m values (k + 1) x.rule.now) c.in-Some.is in
    record {
      goes_on = one_asked asked i x c.one-item.is c.loop-one-test.true m v k left c.loop-one.invariant.goes_on _ c.push.new.self.items c.in_ok-push.ensures.items refl asks;
      keep = λ kept. one_kept asked i x c.one-item.is c.loop-one-test.true left _ c.push.new.self.items c.in_ok-push.ensures.items refl (c.loop-one.invariant.keep kept) (c.requires kept);
    }

pub loop-one-preserved-then-keep_limits : goal.loop-one-preserved-then-keep_limits
loop-one-preserved-then-keep_limits c =
    let m = c.args.env.now in
    let v = c.args.value.now in
    let k = c.args.column in
    let x = c.one-item.result in
    let asks : (values : List Datum) → hits_from m (v ∷ values) k (x.rule.now, x.is_hit) ≡ hits_from m values (k + 1) (x.rule.now, false) =
    λ values. c.in_ok-is_hit.ensures values ∙ ap (once_asked m values (k + 1) x.rule.now) c.in-Some.is ∙ ap (λ b. hits_from m values (k + 1) (x.rule.now, b)) c.if-not-is_hit.true in
    record {
      goes_on = one_left_out c.args.asked.now c.loop-one.one-index x c.one-item.is c.loop-one-test.true m v k c.loop-one.left.items c.loop-one.invariant.goes_on (c.requires c.if-keep_limits.true) asks;
      keep = c.loop-one.invariant.keep;
    }

pub returns-clause-left : goal.returns-clause-left
returns-clause-left c = all_asked c.args.asked.now c.loop-one.one-index c.args.env.now c.args.value.now c.args.column _ c.loop-one.invariant.goes_on c.loop-one-test.false
