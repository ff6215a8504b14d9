use Rattle.std.proofs.Common.{◌∙◌, [], ◌∷◌, ap, arith}
use Rattle.std.proofs.lemmas.List.{map-append}
use Rattle.desk_checking.specs.ComesView.{number_view, number_views}
use Rattle.desk_checking.proofs.TableNumbers.{numbers_begin, numbers_end, numbers_turn}
use Rattle.desk_checking.proofs.walk.add_numbers.Goals as goal

pub loop-number-init : goal.loop-number-init
loop-number-init c = numbers_begin (number_views c.args.numbers.now.items) c.args.decision c.args.count

pub loop-number-preserved : goal.loop-number-preserved
loop-number-preserved c =
    let old = c.loop-number.numbers.items in
    numbers_turn (number_views old) (number_views c.push.new.self.items) _ c.args.decision c.loop-number.number c.args.count c.loop-number.invariant c.loop-number-test.true
    (ap number_views c.in_ok-push.ensures.items ∙ map-append number_view old (record { decision = c.args.decision; number = c.loop-number.number } ∷ []))

pub returns : goal.returns
returns c = numbers_end (number_views c.loop-number.numbers.items) _ c.args.decision c.loop-number.number c.args.count c.loop-number.invariant (omega (arith, c.loop-number-test.false))
