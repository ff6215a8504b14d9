use Rattle.std.proofs.Common.{◌≡◌, ◌≤◌, length, take}
use Rattle.feel_eval.specs.Index.{place_in, IsIndexed}
use Rattle.dmn_ranges.specs.Names.{scope_of, name_of, no_value, hidden_of}
use Rattle.dmn_ranges.proofs.names.Names.cut.Given as goal

abbrev pub invariant-loop-self : goal.invariant-loop-self
invariant-loop-self l = record {
  within : l.len ≤ length l.self-inside.bindings.items;
  indexed : IsIndexed name_of no_value hidden_of l.self-inside.bindings.items (place_in l.self-inside.places);
  kept : take l.len (scope_of l.self-inside.bindings.items) ≡ take l.len (scope_of l.initial.self-inside.bindings.items);
}

abbrev pub decreases-loop-self : goal.decreases-loop-self
decreases-loop-self l = length l.self-inside.bindings.items
