use Rattle.std.proofs.Common.{◌∷◌, [], ◌<◌, length, take, get_or, subst, sym, arith, List, ℕ}
use Rattle.std.proofs.lemmas.List.{take_more}
use Rattle.dmn_graph.proofs.SearchSteps.{all_in}
use Rattle.dmn_graph.proofs.WalkSteps.{in_at}
use Rattle.dmn_check.specs.Chase.{HasMet}
use Rattle.dmn_check.proofs.Chasing.{met_none, met_then}
use Rattle.dmn_check.proofs.chase.Chase.meet_all.Goals as goal

pub loop-place-init : goal.loop-place-init
loop-place-init c = met_none c.args.self.now

pub meet-requires : goal.meet-requires
meet-requires c =
    let l : c.loop-place.place-index < length c.args.places.now = omega arith in
    let b = all_in (λ q. q < length c.args.self.now.met.items) c.args.places.now (get_or c.args.places.now c.loop-place.place-index 0) c.requires (in_at c.args.places.now c.loop-place.place-index 0 l) in
    omega (arith, c.loop-place.invariant.size)

pub loop-place-preserved : goal.loop-place-preserved
loop-place-preserved c =
    let l : c.loop-place.place-index < length c.args.places.now = omega arith in
    subst (λ (qs : List ℕ). HasMet c.args.self.now qs c.meet.new.self) (sym (take_more c.args.places.now c.loop-place.place-index 0 l))
    (met_then c.args.self.now c.loop-place.self c.meet.new.self (take c.loop-place.place-index c.args.places.now) (get_or c.args.places.now c.loop-place.place-index 0 ∷ []) c.loop-place.invariant c.in_ok-meet.ensures)
