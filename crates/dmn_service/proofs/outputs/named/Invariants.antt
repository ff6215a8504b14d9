use Rattle.std.proofs.Common.{◌≡◌, ◌++◌, drop, map}
use Rattle.std.specs.List.{zip}
use Rattle.feel_value.proofs.Entries.{named}
use Rattle.dmn_service.specs.Places.{name_at}
use Rattle.dmn_service.proofs.outputs.named.Given as goal

abbrev pub invariant-loop-output : goal.invariant-loop-output
invariant-loop-output l =
    zip (map (name_at l.items) l.outputs) l.fn.values.items ≡ map named l.entries.items ++ zip (map (name_at l.items) (drop l.output-index l.outputs)) l.values.rest.items
