use Rattle.std.proofs.Common.{length, refl, sym, ap, ◌∙◌, arith, false}
use Rattle.std.proofs.lemmas.List.{length-map, get_or_read}
use Rattle.dmn_graph.specs.Needs.{needs_view}
use Rattle.dmn_check.proofs.Chasing.{may_meet, waits_below, chase_begun, chase_on, chase_ended, nothing_left, size_none}
use Rattle.dmn_check.proofs.chase.needs_itself.Goals as goal

pub meet_all-requires : goal.meet_all-requires
meet_all-requires c =
    may_meet (needs_view c.args.needs.now) (length c.args.needs.now) c.args.place c.needed_by.result.now c.in_ok-chase.chase.met.items c.requires.inside c.needed_by.ensures
    (ap length c.in_ok-chase.ensures.met ∙ size_none (length c.args.needs.now))

pub loop-next-init : goal.loop-next-init
loop-next-init c =
    chase_begun (needs_view c.args.needs.now) c.args.place c.in_ok-chase.chase c.meet_all.new.self (length c.args.needs.now) c.needed_by.result.now
    (sym (length-map c.args.needs.now (λ v. v.items))) c.in_ok-chase.ensures.met c.in_ok-chase.ensures.waiting c.needed_by.ensures c.in_ok-meet_all.ensures

pub needed_by-requires-in-Some : goal.needed_by-requires-in-Some
needed_by-requires-in-Some c =
    let b = waits_below (needs_view c.args.needs.now) c.args.place c.loop-next.chase c.pop.new.self.items c.in-Some.next c.loop-next.invariant c.in-Some.ensures.items in
    omega (arith, length-map c.args.needs.now (λ v. v.items))

pub meet_all-requires-in-Some : goal.meet_all-requires-in-Some
meet_all-requires-in-Some c =
    may_meet (needs_view c.args.needs.now) (length c.args.needs.now) c.in-Some.next c.needed_by-in-Some.result.now c.loop-next.chase.met.items c.requires.inside c.needed_by-in-Some.ensures
    (c.loop-next.invariant.size ∙ length-map c.args.needs.now (λ v. v.items))

pub loop-next-preserved : goal.loop-next-preserved
loop-next-preserved c =
    chase_on (needs_view c.args.needs.now) c.args.place c.loop-next.chase (record { met = c.loop-next.chase.met; waiting = c.pop.new.self }) c.meet_all-in-Some.new.self c.in-Some.next c.needed_by-in-Some.result.now
    c.loop-next.invariant refl c.in-Some.ensures.items c.needed_by-in-Some.ensures c.in_ok-meet_all-2.ensures

pub returns : goal.returns
returns c = λ steps enough.
    get_or_read c.loop-next.chase.met.items c.args.place c.index.result.now (let s = c.loop-next.invariant.size in omega (arith, length-map c.args.needs.now (λ v. v.items), c.requires.place)) c.index.ensures false
    ∙ chase_ended (needs_view c.args.needs.now) c.args.place c.loop-next.chase c.loop-next.invariant
    (nothing_left c.loop-next.chase.waiting.items (omega (arith, c.in_default.ensures.cases.0, c.loop-next.chase.waiting.ok.0))) steps enough
