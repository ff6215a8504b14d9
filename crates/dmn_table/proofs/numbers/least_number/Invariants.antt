use Rattle.std.proofs.Common.{◌≡◌, drop}
use Rattle.std.proofs.Common.{fold}
use Rattle.dmn_table.specs.Result.{least_of}
use Rattle.std.specs.Int.{int_min}
use Rattle.dmn_table.proofs.numbers.least_number.Given as goal

abbrev pub invariant-loop-n : goal.invariant-loop-n
invariant-loop-n l = least_of l.numbers ≡ fold int_min l.least (drop l.n-index l.rest)
