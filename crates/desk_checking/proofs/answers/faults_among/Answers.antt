use Rattle.std.proofs.Common.{◌∙◌, ◌++◌, ◌∷◌, [], ap, arith, map, subst, sym, take}
use Rattle.std.proofs.lemmas.List.{length-take-le, take_all, take_more}
use Rattle.dmn_table.specs.Parts.{rule_view}
use Rattle.desk_checking.specs.Answering.{AreAgainst}
use Rattle.desk_checking.proofs.Judging.{none_against, one_more}
use Rattle.desk_checking.proofs.answers.faults_among.Goals as goal

pub loop-place-init : goal.loop-place-init
loop-place-init c = none_against c.args.policy (map rule_view c.args.rules.now) _ c.none-faults.ensures.places c.none-faults.ensures.first

pub loop-place-preserved : goal.loop-place-preserved
loop-place-preserved c =
    let p = c.args.policy in
    let rules = map rule_view c.args.rules.now in
    let found = c.args.found.now in
    let place = c.loop-place.place in
    let o = c.index-found-place.result in
    let more = take_more found place o c.loop-place-test.true ∙ ap (λ x. take place found ++ x ∷ []) (sym c.index-found-place.is) in
    subst (λ os. AreAgainst p rules os c.add.new.self) (sym more)
    (one_more p rules (take place found) o c.is_against-answer.result place c.loop-place.faults c.add.new.self c.loop-place.invariant (length-take-le place found (omega arith)) c.is_against-answer.ensures
    c.in_ok-add.ensures.places c.in_ok-add.ensures.first)

pub returns : goal.returns
returns c =
    subst (λ os. AreAgainst c.args.policy (map rule_view c.args.rules.now) os c.loop-place.faults) (take_all c.loop-place.place c.args.found.now (omega (arith, c.loop-place-test.false)))
    c.loop-place.invariant
