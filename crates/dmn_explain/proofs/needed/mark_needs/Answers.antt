use Rattle.std.proofs.Common.{◌≡◌, ◌<◌, ◌∙◌, ℕ, [], List, get_or, length, sym, ap, subst, false, ◌||◌}
use Rattle.std.specs.Prelude.{nat_eq}
use Rattle.std.proofs.lemmas.List.{get_or-map}
use Rattle.dmn_graph.specs.Reach.{has_same}
use Rattle.dmn_service.specs.Places.{needs_at}
use Rattle.dmn_service.specs.declared.plan.Item.{Item}
use Rattle.dmn_explain.proofs.Marking.{needs_more}
use Rattle.dmn_explain.proofs.needed.mark_needs.Goals as goal

pub mark-requires : goal.mark-requires
mark-requires c =
    let items = c.args.items.now in
    let places = c.args.places.now in
    let i = c.loop-place.place-index in
    let p = get_or places i 0 in
    let x = c.index-items-place.result in
    let needs = c.deref.ensures.value in
    λ k d l.
    let within : get_or (get_or items p x).needs.items k d < length items = c.requires.needs p x (c.requires.places i 0 c.loop-place-test.true) k d (subst (λ (ns : List ℕ). k < length ns) needs l) in
    subst (λ n. get_or c.deref.result.now k d < n) (sym (c.loop-place.invariant.length ∙ c.requires.length)) (subst (λ (ns : List ℕ). get_or ns k d < length items) (sym needs) within)

pub loop-place-preserved : goal.loop-place-preserved
loop-place-preserved c =
    let items = c.args.items.now in
    let places = c.args.places.now in
    let i = c.loop-place.place-index in
    let p = get_or places i 0 in
    let x = c.index-items-place.result in
    let marks = c.loop-place.marks in
    let more = c.loop-place-test.true in
    let needs : c.deref.result.now ≡ needs_at items p = c.deref.ensures.value ∙ sym (get_or-map (λ (y : Item). y.needs.items) items p x [] (c.requires.places i 0 more)) in
    record {
      marks = λ q. needs_more (needs_at items) places i q marks c.mark.new.marks _ more
          (c.mark.ensures.marks q ∙ ap (λ (ns : List ℕ). has_same nat_eq ns q || get_or marks q false) needs) (c.loop-place.invariant.marks q);
      length = c.mark.ensures.length ∙ c.loop-place.invariant.length;
    }
