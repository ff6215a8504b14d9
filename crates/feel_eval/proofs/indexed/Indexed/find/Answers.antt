use Rattle.std.proofs.Common.{◌∙◌, sym, ap, Some, None, arith}
use Rattle.feel_text.specs.Meaning.{bound}
use Rattle.feel_eval.specs.Index.{name_of, value_of, hidden_of, place_in}
use Rattle.feel_eval.specs.declared.indexed.Binding.{Binding}
use Rattle.feel_eval.proofs.Index.{found_at}
use Rattle.feel_eval.proofs.indexed.Indexed.find.Goals as goal

pub returns-in_err-place : goal.returns-in_err-place
returns-in_err-place c =
    let name = c.args.name.now in
    rw c.from_residual.ensures (sym (found_at name_of value_of hidden_of name c.self.inside.bindings.items (place_in c.self.inside.places) None c.self.invariant c.in_err-place.ensures.value) ∙ ap (bound name) c.self.view_is)

pub index-requires : goal.index-requires
index-requires c =
    let there = found_at name_of value_of hidden_of c.args.name.now c.self.inside.bindings.items (place_in c.self.inside.places) (Some c.in_ok-place.field-0.now) c.self.invariant c.in_ok-place.ensures.value in
    omega (arith, there.0)

pub returns : goal.returns
returns c =
    let name = c.args.name.now in
    let there = found_at name_of value_of hidden_of name c.self.inside.bindings.items (place_in c.self.inside.places) (Some c.in_ok-place.field-0.now) c.self.invariant c.in_ok-place.ensures.value in
    ap (λ (b : Binding). Some b.value) c.index.ensures ∙ sym (there.1 c.index.result.now) ∙ ap (bound name) c.self.view_is
