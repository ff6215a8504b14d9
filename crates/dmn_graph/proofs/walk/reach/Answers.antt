use Rattle.std.proofs.Common.{rules, ◌<◌, ℕ, List, get_or, subst, sym, arith}
use Rattle.std.specs.Prelude.{All}
use Rattle.std.proofs.lemmas.Bool.Decides.{when_true, when_false}
use Rattle.std.proofs.lemmas.List.{length-map}
use Rattle.dmn_graph.specs.Needs.{needs_view, needs_of, AreNeedsBelow}
use Rattle.dmn_graph.specs.WalkState.{HasMet, IsUnlisted}
use Rattle.dmn_graph.proofs.ReachSteps.{reached_begun, reached_on, missed_start, missed_need, reached_listed, reach_found}
use Rattle.dmn_graph.proofs.walk.reach.Goals as goal

pub returns-then-not-branch-clause-listed : goal.returns-then-not-branch-clause-listed
returns-then-not-branch-clause-listed c =
    missed_start (needs_view c.args.needs.now) c.args.through.now c.args.given.now c.args.starts.now c.in_ok-walk.walk c.in_ok-walk.ensures.throughs c.in_ok-walk.ensures.givens
    (when_false (HasMet c.in_ok-walk.walk c.args.starts.now c.meet_all.new.self) (IsUnlisted c.in_ok-walk.walk c.args.starts.now) c.if-not-branch.true c.in_ok-meet_all.ensures)

pub loop-next-init : goal.loop-next-init
loop-next-init c =
    reached_begun (needs_view c.args.needs.now) c.args.through.now c.args.given.now c.args.starts.now c.in_ok-walk.walk c.meet_all.new.self c.in_ok-walk.ensures.none c.in_ok-walk.ensures.throughs c.in_ok-walk.ensures.givens
    (subst (λ (n : ℕ). All (λ q. q < n) c.args.starts.now) (sym (length-map c.args.needs.now (λ v. v.items))) c.requires.starts)
    (when_true (HasMet c.in_ok-walk.walk c.args.starts.now c.meet_all.new.self) (IsUnlisted c.in_ok-walk.walk c.args.starts.now) c.if-not-branch.false c.in_ok-meet_all.ensures)

pub pass-requires-clause-places : goal.pass-requires-clause-places
pass-requires-clause-places c q i = let l = c.loop-next.invariant.places q i in omega (arith, length-map c.args.needs.now (λ v. v.items))

pub returns-then-not-branch-2-clause-listed : goal.returns-then-not-branch-2-clause-listed
returns-then-not-branch-2-clause-listed c =
    let qs : List ℕ = needs_of (needs_view c.args.needs.now) (get_or c.loop-next.walk.found.items c.loop-next.next 0) in
    missed_need (needs_view c.args.needs.now) c.args.through.now c.args.given.now c.args.starts.now c.loop-next.walk c.loop-next.next c.loop-next.invariant (search rules)
    (when_false (HasMet c.loop-next.walk qs c.pass.new.self) (IsUnlisted c.loop-next.walk qs) c.if-not-branch-2.true c.in_ok-pass.ensures)

pub loop-next-preserved : goal.loop-next-preserved
loop-next-preserved c =
    let qs : List ℕ = needs_of (needs_view c.args.needs.now) (get_or c.loop-next.walk.found.items c.loop-next.next 0) in
    reached_on (needs_view c.args.needs.now) c.args.through.now c.args.given.now c.args.starts.now c.loop-next.walk c.pass.new.self c.loop-next.next
    (subst (λ (n : ℕ). AreNeedsBelow n (needs_view c.args.needs.now)) (sym (length-map c.args.needs.now (λ v. v.items))) c.requires.inside)
    c.loop-next.invariant (search rules)
    (when_true (HasMet c.loop-next.walk qs c.pass.new.self) (IsUnlisted c.loop-next.walk qs) c.if-not-branch-2.false c.in_ok-pass.ensures)

pub returns-clause-listed : goal.returns-clause-listed
returns-clause-listed c steps l =
    reached_listed (needs_view c.args.needs.now) c.args.through.now c.args.given.now c.args.starts.now c.loop-next.walk c.loop-next.next c.loop-next.invariant (search rules) steps

pub returns-clause-found : goal.returns-clause-found
returns-clause-found c =
    reach_found (needs_view c.args.needs.now) c.args.through.now c.args.given.now c.args.starts.now c.loop-next.walk c.loop-next.next c.loop-next.invariant (search rules)
