-- The first place at which a test passes.
use Rattle.std.proofs.Common.{◌≡◌, ℕ, ◌<◌, ◌≤◌, Bool, true, false, cond, nat_lt, List, length, take, get_or, Some, None, refl, ap, sym, ◌∙◌, arith}
use Rattle.std.specs.List.{position, position_or_len}
use Rattle.std.proofs.lemmas.Bool.{ltb-false, lt-ltb}
use Rattle.std.proofs.lemmas.List.{get_or-take, length-take-le}
use Rattle.std.proofs.lemmas.List.Sums.{position_or_len_is, fails_before_first}

none_where : (b : Bool) (n : ℕ) → cond b (Some n) None ≡ None → b ≡ false
none_where true n e = let wrong : ⊥ = cc in absurd wrong
none_where false n e = refl

some_where : (b : Bool) (m n : ℕ) → b ≡ true → m ≡ n → cond b (Some m) None ≡ Some n
some_where true m n on e = ap Some e
some_where false m n on e = let wrong : ⊥ = cc in absurd wrong

-- nothing before n passes, and what stands at n does
pub position_at : {X : Type 0} (p : X → Bool) (xs : List X) (n : ℕ) (x : X) → position p (take n xs) ≡ None → n < length xs
    → x ≡ get_or xs n x → p x ≡ true → Some n ≡ position p xs
position_at p xs n x before within is passes =
    let far : length (take n xs) ≤ position_or_len p (take n xs) =
    ltb-false (position_or_len p (take n xs)) (length (take n xs)) (none_where (nat_lt (position_or_len p (take n xs)) (length (take n xs))) (position_or_len p (take n xs)) before) in
    let len : length (take n xs) ≡ n = length-take-le n xs (omega (arith, within)) in
    let place : position_or_len p xs ≡ n =
    position_or_len_is p xs n x (omega (arith, within))
    (λ k below. sym (ap p (get_or-take n xs k x below)) ∙ fails_before_first p (take n xs) k x (omega (arith, below, far, len)))
    (λ h. sym (ap p is) ∙ passes) in
    let inside : nat_lt (position_or_len p xs) (length xs) ≡ true = lt-ltb (position_or_len p xs) (length xs) (omega (arith, place, within)) in
    sym (some_where (nat_lt (position_or_len p xs) (length xs)) (position_or_len p xs) n inside place)
