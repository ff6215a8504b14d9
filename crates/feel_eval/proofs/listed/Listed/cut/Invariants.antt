use Rattle.std.proofs.Common.{◌≡◌, ◌≤◌, length, take}
use Rattle.feel_eval.specs.Listed.{listed_of, AreListed}
use Rattle.feel_eval.proofs.listed.Listed.cut.Given as goal

abbrev pub invariant-loop-self : goal.invariant-loop-self
invariant-loop-self l = record {
  within : l.len ≤ length l.self-inside.bindings.items;
  scope : l.self-inside.scope.now ≡ l.initial.self-inside.scope.now;
  listed : AreListed l.self-inside.scope.now l.self-inside.bindings.items l.self-inside.slots.items;
  kept : take l.len (listed_of l.self-inside.scope.now l.self-inside.bindings.items) ≡ take l.len (listed_of l.initial.self-inside.scope.now l.initial.self-inside.bindings.items);
}

abbrev pub decreases-loop-self : goal.decreases-loop-self
decreases-loop-self l = length l.self-inside.bindings.items
