use Rattle.std.proofs.Common.{subst}
use Rattle.desk_checking.specs.Deciding.{Hits, IsFirst}
use Rattle.desk_checking.proofs.deciding.decides_from.Goals as goal

pub returns-in_default : goal.returns-in_default
returns-in_default c = λ yes.
    let t = c.args.table.now in
    let m = c.args.env.now in
    let hit = subst (λ vs. Hits t m vs c.args.rule) c.deref.ensures.value (c.in_ok-hit.ensures c.if-not-hit.false) in
    let first = subst (λ vs. IsFirst t m vs c.args.rule hit.rule) c.deref-in-loop-turn.ensures.value (c.in_ok-other.ensures c.in_default.is hit.rule hit.there) in
    record { names = m; values = c.loop-turn.values.items; hits = hit; first = first }
