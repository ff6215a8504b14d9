-- The depth of several parts against a limit.
use Rattle.std.proofs.Common.{◌≡◌, ℕ, max, ◌&&◌, nat_le, arith}
use Rattle.std.proofs.lemmas.Bool.Decides.{nat_tests}

pub max_within : (x y l : ℕ) → nat_le (max x y) l ≡ (nat_le x l && nat_le y l)
max_within x y l = grind (arith, nat_tests)
