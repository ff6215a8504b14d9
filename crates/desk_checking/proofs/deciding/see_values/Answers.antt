use Rattle.std.proofs.Common.{◌≡◌, subst, true}
use Rattle.std.specs.List.{All}
use Rattle.std.proofs.lemmas.List.{take_all}
use Rattle.feel_value.specs.Limits.{is_value}
use Rattle.dmn_analysis.specs.Asked.{is_in_utf8}
use Rattle.desk_checking.proofs.Deciders.{all_next}
use Rattle.desk_checking.proofs.deciding.see_values.Goals as goal

pub loop-value-preserved : goal.loop-value-preserved
loop-value-preserved c =
    all_next (λ v. (is_value v ≡ true) × (is_in_utf8 v ≡ true)) c.args.values.now c.loop-value.value-index c.value-item.result c.loop-value-test.true c.value-item.is
    (c.see_value.ensures.lawful, c.see_value.ensures.utf8) c.loop-value.invariant

pub returns : goal.returns
returns c =
    subst (All (λ v. (is_value v ≡ true) × (is_in_utf8 v ≡ true))) (take_all c.loop-value.value-index c.args.values.now c.loop-value-test.false) c.loop-value.invariant
