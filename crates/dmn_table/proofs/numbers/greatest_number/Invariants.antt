use Rattle.std.proofs.Common.{◌≡◌, drop}
use Rattle.std.proofs.Common.{fold}
use Rattle.dmn_table.specs.Result.{greatest_of}
use Rattle.std.specs.Int.{int_max}
use Rattle.dmn_table.proofs.numbers.greatest_number.Given as goal

abbrev pub invariant-loop-n : goal.invariant-loop-n
invariant-loop-n l = greatest_of l.numbers ≡ fold int_max l.greatest (drop l.n-index l.rest)
