-- The name is none of those before.
use Rattle.std.proofs.Common.{◌≡◌, None, take, string_bytes}
use Rattle.std.specs.List.{position}
use Rattle.std.specs.Str.{bytes_eq}
use Rattle.desk_replaying.proofs.state.State.number_of.Given as goal

abbrev pub invariant-loop-number : goal.invariant-loop-number
invariant-loop-number g l = position (λ opened. bytes_eq (string_bytes opened) l.name) (take l.number l.self.names.items) ≡ None
