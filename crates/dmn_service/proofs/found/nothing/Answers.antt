use Rattle.std.proofs.Common.{arith, ap, length, ◌∙◌, ◌∷◌, []}
use Rattle.std.proofs.lemmas.List.{length-append}
use Rattle.feel_value.specs.declared.feel.Outcome.TheVariants.{Limit}
use Rattle.dmn_service.proofs.Kept.{nothing_more}
use Rattle.dmn_service.proofs.found.nothing.Goals as goal

pub loop-preserved : goal.loop-preserved
loop-preserved c =
    let more = ap length c.in_ok-push.ensures.items ∙ length-append c.loop.found.items (Limit ∷ []) in record {
      count = omega (arith, more, c.loop.invariant.count);
      nothing = rw c.in_ok-push.ensures.items (nothing_more c.loop.found.items c.loop.invariant.nothing);
    }
