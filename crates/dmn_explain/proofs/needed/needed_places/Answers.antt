use Rattle.std.proofs.Common.{◌≡◌, ◌∙◌, ℕ, List, Bool, get_or, length, drop, ap, false, arith}
use Rattle.std.specs.Prelude.{nat_eq}
use Rattle.std.specs.List.{filter, flat_map}
use Rattle.std.proofs.lemmas.List.{take_at}
use Rattle.dmn_graph.specs.Reach.{has_same}
use Rattle.dmn_service.specs.Places.{needs_at}
use Rattle.dmn_explain.proofs.Marking.{filter_same, marks_begun}
use Rattle.dmn_explain.proofs.needed.needed_places.Goals as goal

pub returns : goal.returns
returns c =
    let items = c.args.items.now in
    let order = c.args.service.now.order.items in
    let marks = c.mark_needs.new.marks in
    let begun = c.deref_mut.ensures.value in
    let count : length marks ≡ c.in_ok-marks.marks.len = omega (arith, c.mark_needs.ensures.length, ap length begun, c.in_ok-marks.marks.ok.0) in
    let whole : c.deref-3.result.now ≡ marks = c.deref-3.ensures.value ∙ take_at marks (drop (length marks) c.in_ok-marks.marks.items) c.in_ok-marks.marks.len count in
    let marked : (q : ℕ) → get_or c.deref-3.result.now q false ≡ has_same nat_eq (flat_map (needs_at items) order) q =
    λ q. ap (λ (ms : List Bool). get_or ms q false) whole
    ∙ marks_begun c.deref_mut.result.now (length items) q (has_same nat_eq (flat_map (needs_at items) c.deref.result.now) q) (get_or marks q false)
    (begun ∙ c.in_ok-marks.ensures.items_if_clones_equal (λ y e. e)) (c.mark_needs.ensures.marks q)
    ∙ ap (λ (qs : List ℕ). has_same nat_eq (flat_map (needs_at items) qs) q) c.deref.ensures.value in
    c.in_ok-found.ensures
    ∙ filter_same _ (has_same nat_eq (flat_map (needs_at items) order)) marked c.deref-2.result.now
    ∙ ap (filter (has_same nat_eq (flat_map (needs_at items) order))) c.deref-2.ensures.value
