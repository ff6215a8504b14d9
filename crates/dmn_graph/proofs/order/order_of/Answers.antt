-- At the end each place is done, and the order is whole.
use Rattle.std.proofs.Common.{reverse, subst, arith, List, refl}
use Rattle.std.proofs.lemmas.Bool.Decides.{when_false}
use Rattle.std.proofs.lemmas.List.{length-map}
use Rattle.dmn_graph.specs.declared.search.Visit.{Visit}
use Rattle.dmn_graph.specs.Needs.{needs_view, HasCycle}
use Rattle.dmn_graph.specs.SearchState.{IsSearch, IsLookedAt}
use Rattle.dmn_graph.proofs.Cycles.{cycle_leads, no_cycle_leads}
use Rattle.dmn_graph.proofs.SearchSteps.{search_ended, search_ended_sound}
use Rattle.dmn_graph.proofs.order.order_of.Goals as goal

pub returns-clause-order : goal.returns-clause-order
returns-clause-order c =
    search_ended (needs_view c.args.needs.now) c.loop-place.search.marks.items c.loop-place.search.order.items
    (subst (λ (trail : List Visit). IsSearch (needs_view c.args.needs.now) c.loop-place.search.marks.items (reverse trail) c.loop-place.search.order.items) c.loop-place.invariant.rest c.loop-place.invariant.state)
    (λ q l u. let n = length-map c.args.needs.now (λ v. v.items) in c.loop-place.invariant.touched q (omega arith) u)

pub returns-then-not-branch-clause-exactly : goal.returns-then-not-branch-clause-exactly
returns-then-not-branch-clause-exactly c = (
  (λ e. cycle_leads (needs_view c.args.needs.now)
      (when_false (IsLookedAt (needs_view c.args.needs.now) c.loop-place.search c.loop-place.place c.look_at.new.self) (HasCycle (needs_view c.args.needs.now)) c.if-not-branch.true c.in_ok-look_at.ensures)),
  (λ w. refl),
)

pub returns-clause-sound : goal.returns-clause-sound
returns-clause-sound c =
    search_ended_sound (needs_view c.args.needs.now) c.loop-place.search.marks.items c.loop-place.search.order.items
    (subst (λ (trail : List Visit). IsSearch (needs_view c.args.needs.now) c.loop-place.search.marks.items (reverse trail) c.loop-place.search.order.items) c.loop-place.invariant.rest c.loop-place.invariant.state)
    (λ q l u. let n = length-map c.args.needs.now (λ v. v.items) in c.loop-place.invariant.touched q (omega arith) u)

pub returns-clause-exactly : goal.returns-clause-exactly
returns-clause-exactly c = ((λ e. absurd (cc)), (λ w. absurd (no_cycle_leads (needs_view c.args.needs.now) (returns-clause-sound c) w.0 w.1)))
