-- The first place of a byte.
use Rattle.std.proofs.Common.{◌≡◌, ◌==◌, ℕ, Bool, true, false, cond, nat_lt, List, length, Option, Some, None, arith}
use Rattle.std.proofs.lemmas.Bool.{false_from_ne_true, le-ltb, lt-ltb}
use Rattle.std.proofs.lemmas.List.Sums.{position_or_len_is}
use Rattle.std.specs.List.{position, position_or_len}
use Rattle.memchr.specs.Find.{IsFirstByte, is_byte}

shown : (xs : List ℕ) (place : ℕ) (b : ℕ) (inside : Bool) → position_or_len (λ x. x == b) xs ≡ place → nat_lt place (length xs) ≡ inside
    → cond inside (Some place) None ≡ position (λ x. x == b) xs
shown xs place b inside e f = rw (e, f)

pub first_place : (b : ℕ) (xs : List ℕ) (found : Option ℕ) → IsFirstByte (is_byte b) xs found → found ≡ position (λ x. x == b) xs
first_place b xs None h =
    shown xs (length xs) b false
    (position_or_len_is (λ x. x == b) xs (length xs) 0 (omega arith) (λ k lt. false_from_ne_true _ (h k (omega arith) lt)) (λ lt. absurd (omega (arith, lt))))
    (le-ltb (length xs) (length xs) (omega arith))
first_place b xs (Some place) h =
    shown xs place b true
    (position_or_len_is (λ x. x == b) xs place 0 (omega (arith, h.0.high)) (λ k lt. false_from_ne_true _ (h.0.before k (omega arith) lt)) (λ lt. h.1))
    (lt-ltb place (length xs) h.0.high)
