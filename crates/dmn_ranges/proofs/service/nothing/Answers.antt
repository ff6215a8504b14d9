use Rattle.std.proofs.Common.{arith, ap, length, ◌∙◌, ◌∷◌, []}
use Rattle.std.proofs.lemmas.List.{length-append}
use Rattle.dmn_ranges.proofs.SoundServices.{none_more}
use Rattle.dmn_ranges.proofs.service.nothing.Goals as goal

pub loop-preserved : goal.loop-preserved
loop-preserved c =
    let more = ap length c.in_ok-push.ensures.items ∙ length-append c.loop.told.items (c.not_found.result ∷ []) in record {
      count = omega (arith, more, c.loop.invariant.count);
      nothing = rw (c.in_ok-push.ensures.items, c.not_found.ensures) (none_more c.loop.told.items c.loop.invariant.nothing);
    }
