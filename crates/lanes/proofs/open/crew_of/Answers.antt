use Rattle.std.proofs.lemmas.Result.{err_from_is_err_and}
use Rattle.std.proofs.Common.{◌≡◌, suc, ◌+◌, ap, ◌∙◌, arith, rules, map, ◌++◌, ◌∷◌, []}
use Rattle.std.proofs.lemmas.List.{map-append}
use Rattle.lanes.specs.Links.{empties}
use Rattle.lanes.specs.Workers.{ports_of}
use Rattle.lanes.proofs.Making.{empties_more}
use Rattle.lanes.proofs.open.crew_of.Goals as goal

pub loop-preserved : goal.loop-preserved
loop-preserved g c =
    let inv = c.loop.invariant in
    let next : suc c.loop.counter ≡ c.loop.counter + 1 = omega arith in
    record {
      empty = ap (map ports_of) c.in_ok-push.ensures.items ∙ map-append ports_of c.loop.crew.items (c.without_lanes.result ∷ []) ∙ (λ i. inv.empty i ++ c.without_lanes.ensures i ∷ []) ∙ empties_more c.loop.counter ∙ ap (λ n. empties n) next;
      len = search rules;
    }

pub returns-in_err-push : goal.returns-in_err-push
returns-in_err-push g c =
    let e = (err_from_is_err_and c.from_residual-in_err-push.result c.from_residual-in_err-push.ensures.1).1 in
    record {
      empty = rw e tt;
      len = rw e tt;
    }
