use Rattle.std.proofs.Common.{◌≡◌, ◌++◌, drop, map}
use Rattle.std.specs.Arc.{arc_str_bytes}
use Rattle.std.specs.List.{zip}
use Rattle.feel_value.proofs.Entries.{named}
use Rattle.dmn_table.proofs.output.named_values.Given as goal

abbrev pub invariant-loop-output : goal.invariant-loop-output
invariant-loop-output l = zip (map (λ o. arc_str_bytes o.name) l.outputs) l.fn.values.items ≡ map named l.entries.items ++ zip (map (λ o. arc_str_bytes o.name) (drop l.output-index l.outputs)) l.values.rest.items
