-- Each way out of a step is one of the steps of the state.
use Rattle.std.proofs.Common.{◌<◌, ◌∷◌, length, reverse, arith, refl, rules, ◌∙◌, ap, ◌++◌, []}
use Rattle.std.proofs.lemmas.List.{length-map}
use Rattle.dmn_graph.specs.declared.search.Mark.TheVariants.{Untouched, Open, Done}
use Rattle.dmn_graph.specs.Needs.{needs_view, needs_of}
use Rattle.dmn_graph.proofs.SearchSteps.{begun, visited_within, next_needed, need_within, mark_read, search_cycle, stepped_closed, stepped_passed, stepped_opened}
use Rattle.dmn_graph.proofs.search.Search.step.Goals as goal

pub next_need-requires : goal.next_need-requires
next_need-requires c =
    let inside = visited_within (needs_view c.args.needs.now) c.args.self.now.marks.items c.args.visit (reverse c.args.self.now.trail.items) c.args.self.now.order.items c.requires.search in
    let sized = c.requires.search.sized in
    omega (arith, length-map c.args.needs.now (λ v. v.items))

pub close-requires : goal.close-requires
close-requires c =
    visited_within (needs_view c.args.needs.now) c.args.self.now.marks.items c.args.visit (reverse c.args.self.now.trail.items) c.args.self.now.order.items c.requires.search

pub returns-in_default : goal.returns-in_default
returns-in_default c =
    stepped_closed (needs_view c.args.needs.now) c.args.self.now c.args.visit c.close.new.self c.requires.search
    c.in_default.ensures c.in_ok-close.ensures.marks c.in_ok-close.ensures.trail c.in_ok-close.ensures.order

pub index-requires : goal.index-requires
index-requires c =
    let w = need_within c.args.needs.now c.args.self.now.marks.items (c.args.visit ∷ reverse c.args.self.now.trail.items) c.args.self.now.order.items
    c.args.visit c.in-Some.need c.in-Some.later c.requires.inside c.requires.search c.in-Some.ensures in
    let inside : c.in-Some.need < length c.args.self.now.marks.items = w.0 in
    search rules

pub open-requires : goal.open-requires
open-requires c =
    (need_within c.args.needs.now c.args.self.now.marks.items (c.args.visit ∷ reverse c.args.self.now.trail.items) c.args.self.now.order.items
    c.args.visit c.in-Some.need c.in-Some.later c.requires.inside c.requires.search c.in-Some.ensures).0

pub returns-in-Open : goal.returns-in-Open
returns-in-Open c =
    let w = need_within c.args.needs.now c.args.self.now.marks.items (c.args.visit ∷ reverse c.args.self.now.trail.items) c.args.self.now.order.items
    c.args.visit c.in-Some.need c.in-Some.later c.requires.inside c.requires.search c.in-Some.ensures in
    search_cycle (needs_view c.args.needs.now) c.args.self.now.marks.items c.args.visit (reverse c.args.self.now.trail.items) c.args.self.now.order.items
    c.in-Some.need c.requires.search
    (next_needed (needs_of (needs_view c.args.needs.now)) c.args.visit c.in-Some.need c.in-Some.later c.in-Some.ensures)
    w.1 (mark_read c.args.self.now.marks.items c.in-Some.need c.index.result.now Open w.0 c.index.ensures c.in-Open.is)

pub returns-in-Done : goal.returns-in-Done
returns-in-Done c =
    let w = need_within c.args.needs.now c.args.self.now.marks.items (c.args.visit ∷ reverse c.args.self.now.trail.items) c.args.self.now.order.items
    c.args.visit c.in-Some.need c.in-Some.later c.requires.inside c.requires.search c.in-Some.ensures in
    stepped_passed (needs_view c.args.needs.now) c.args.self.now c.args.visit
    (record { marks = c.args.self.now.marks; trail = c.push.new.self; order = c.args.self.now.order }) c.requires.search
    c.in-Some.need c.in-Some.later c.in-Some.ensures
    (mark_read c.args.self.now.marks.items c.in-Some.need c.index.result.now Done w.0 c.index.ensures c.in-Done.is)
    refl c.in_ok-push.ensures.items refl

pub returns-in_ok-open-in-Untouched : goal.returns-in_ok-open-in-Untouched
returns-in_ok-open-in-Untouched c =
    let w = need_within c.args.needs.now c.args.self.now.marks.items (c.args.visit ∷ reverse c.args.self.now.trail.items) c.args.self.now.order.items
    c.args.visit c.in-Some.need c.in-Some.later c.requires.inside c.requires.search c.in-Some.ensures in
    stepped_opened (needs_view c.args.needs.now) c.args.self.now c.args.visit c.open.new.self c.requires.search
    c.in-Some.need c.in-Some.later c.in-Some.ensures
    (mark_read c.args.self.now.marks.items c.in-Some.need c.index.result.now Untouched w.0 c.index.ensures c.in-Untouched.is) w.1
    c.in_ok-open-in-Untouched.ensures.marks (c.in_ok-open-in-Untouched.ensures.trail ∙ ap (λ vs. vs ++ begun c.in-Some.need ∷ []) c.in_ok-push.ensures.items) c.in_ok-open-in-Untouched.ensures.order
