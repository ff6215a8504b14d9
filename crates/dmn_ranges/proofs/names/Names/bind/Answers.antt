use Rattle.std.specs.declared.borrow.CowStr.TheVariants.{Owned}
use Rattle.feel_eval.specs.Index.{place_in}
use Rattle.feel_eval.proofs.Index.{bound_more}
use Rattle.dmn_ranges.specs.Names.{name_of, no_value, hidden_of}
use Rattle.dmn_ranges.specs.declared.names.Binding.{Binding}
use Rattle.dmn_ranges.proofs.names.Names.bind.Goals as goal

pub invariant_of-self-2 : goal.invariant_of-self-2
invariant_of-self-2 c =
    let binding : Binding = record { name = Owned c.in_ok-text.text; range = c.args.range; parameter = c.args.parameter; hidden = c.in_ok-hidden.hidden } in
    rw (c.in_ok-push.ensures.items, c.in_ok-hidden.ensures.items) (bound_more name_of no_value hidden_of c.self.inside.bindings.items binding (place_in c.self.inside.places) (place_in c.placed.new.places) c.self.invariant
    c.in_ok-hidden.ensures.place c.in_ok-hidden.ensures.hidden)
