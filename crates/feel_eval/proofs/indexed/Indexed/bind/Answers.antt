use Rattle.feel_eval.specs.Index.{name_of, value_of, hidden_of, place_in}
use Rattle.feel_eval.specs.declared.indexed.Binding.{Binding}
use Rattle.feel_eval.proofs.Index.{bound_more}
use Rattle.feel_eval.proofs.indexed.Indexed.bind.Goals as goal

pub invariant_of-self-2 : goal.invariant_of-self-2
invariant_of-self-2 c =
    let binding : Binding = record { name = c.args.name; value = c.args.value; hidden = c.in_ok-hidden.hidden } in
    rw (c.in_ok-push.ensures.items, c.in_ok-hidden.ensures.items) (bound_more name_of value_of hidden_of c.self.inside.bindings.items binding (place_in c.self.inside.places) (place_in c.placed.new.places) c.self.invariant
    c.in_ok-hidden.ensures.place c.in_ok-hidden.ensures.hidden)
