use Rattle.std.proofs.Common.{◌≡◌, ◌≤◌, length, take}
use Rattle.feel_eval.specs.Index.{bindings_of, name_of, value_of, hidden_of, place_in, IsIndexed}
use Rattle.feel_eval.proofs.indexed.Indexed.cut.Given as goal

abbrev pub invariant-loop-self : goal.invariant-loop-self
invariant-loop-self l = record {
  within : l.len ≤ length l.self-inside.bindings.items;
  indexed : IsIndexed name_of value_of hidden_of l.self-inside.bindings.items (place_in l.self-inside.places);
  kept : take l.len (bindings_of l.self-inside.bindings.items) ≡ take l.len (bindings_of l.initial.self-inside.bindings.items);
}

abbrev pub decreases-loop-self : goal.decreases-loop-self
decreases-loop-self l = length l.self-inside.bindings.items
