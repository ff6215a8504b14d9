use Rattle.std.proofs.Common.{◌≡◌, ◌++◌, drop, string_bytes}
use Rattle.dmn_check.specs.Pointer.{pointer_of}
use Rattle.dmn_check.proofs.place.Place.pointer.Given as goal

abbrev pub invariant-loop-step : goal.invariant-loop-step
invariant-loop-step l = pointer_of l.self.steps.items ≡ string_bytes l.text ++ pointer_of (drop l.step-index l.step-items)
