use Rattle.std.proofs.Common.{◌∙◌, sym, ap, Some, None, arith}
use Rattle.feel_eval.specs.Index.{place_in}
use Rattle.dmn_ranges.specs.Ranges.{Extent, extent_named}
use Rattle.dmn_ranges.specs.declared.names.Binding.{Binding}
use Rattle.dmn_ranges.proofs.Naming.{found_at}
use Rattle.dmn_ranges.proofs.names.Names.range.Goals as goal

pub index-requires : goal.index-requires
index-requires c =
    let there = found_at c.args.name.now c.self.inside.bindings.items (place_in c.self.inside.places) (Some c.in-Some.place.now) c.self.invariant c.in-Some.ensures.value in
    omega (arith, there.0)

pub returns-in-Some : goal.returns-in-Some
returns-in-Some c =
    let there = found_at c.args.name.now c.self.inside.bindings.items (place_in c.self.inside.places) (Some c.in-Some.place.now) c.self.invariant c.in-Some.ensures.value in
    ap (λ (b : Binding). b.range) c.index.ensures ∙ sym (ap (λ (e : Extent). e.0) (there.1 c.index.result.now)) ∙ ap (λ xs. (extent_named xs c.args.name.now).0) c.self.view_is

pub returns-in-None : goal.returns-in-None
returns-in-None c =
    let there = found_at c.args.name.now c.self.inside.bindings.items (place_in c.self.inside.places) None c.self.invariant c.in-None.ensures.value in
    c.null.ensures ∙ sym (ap (λ (e : Extent). e.0) there) ∙ ap (λ xs. (extent_named xs c.args.name.now).0) c.self.view_is
