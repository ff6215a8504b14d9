use Rattle.std.proofs.Common.{◌∙◌, ◌<◌, sym, subst, length}
use Rattle.std.specs.List.{All}
use Rattle.dmn_told.proofs.Comings.{AddsRest, adds_ended, adds_turn, first_placed, others_placed}
use Rattle.dmn_told.proofs.coming.add_each.Goals as goal

pub returns : goal.returns
returns c = adds_ended c.args.columns.items c.loop-one.one-iterator.rest.items c.args.told.now.items c.loop-one.told.items c.loop-one.invariant.adds (sym c.loop-one.one-iterator.rest.ok.0 ∙ c.in-None.ensures.steps.0)

pub loop-one-preserved : goal.loop-one-preserved
loop-one-preserved c =
    let cs = c.args.columns.items in
    let old = c.args.told.now.items in
    let cur = c.loop-one.told.items in
    let next = c.add_tables.new.told.items in
    let one = c.in-Some.one in
    let rest = c.next.new.self.rest.items in
    let before = c.loop-one.invariant in record {
      adds = adds_turn cs rest old cur next one (subst (λ r. AddsRest cs old r cur) c.in-Some.ensures.steps.0 before.adds) c.in_ok-add_tables.ensures.keeps c.in_ok-add_tables.ensures.has c.in_ok-add_tables.ensures.count;
      count = c.in_ok-add_tables.ensures.count ∙ before.count;
      inside = others_placed (length old) one rest (subst (λ r. All (λ d. d.place < length old) r) c.in-Some.ensures.steps.0 before.inside);
    }

pub add_tables-requires : goal.add_tables-requires
add_tables-requires c =
    let old = c.args.told.now.items in
    let one = c.in-Some.one in
    let before = c.loop-one.invariant in
    subst (λ n. one.place < n) (sym before.count) (first_placed (length old) one c.next.new.self.rest.items (subst (λ r. All (λ d. d.place < length old) r) c.in-Some.ensures.steps.0 before.inside))
