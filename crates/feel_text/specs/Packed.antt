-- Internal: no public contract cites these words. Short runs of bytes as numbers.
use Rattle.std.specs.Prelude.{◌≡◌, ◌<◌, ℕ, zero, suc, List, [], ◌∷◌, ◌++◌, length, ◌/◌, ◌%◌}

-- the last digits of a number in base 256, so many
abbrev pub digits : ℕ → ℕ → List ℕ
digits zero n = []
digits (suc k) n = digits k (n / 256) ++ (n % 256) ∷ []

-- The number is zero, or the bytes are its digits.
abbrev pub IsPacked : ℕ → List ℕ → Type 0
IsPacked n bytes = 0 < n → digits (length bytes) n ≡ bytes
