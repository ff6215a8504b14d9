-- The facts of the books that an end's value keeps, from those that its type keeps.
use Rattle.std.specs.Prelude.{◌≡◌, ℕ, suc, true, List, [], ◌∷◌, length, map}
use Rattle.std.proofs.Common.{refl, arith}
use Rattle.std.proofs.lemmas.Bool.Decides.{nat_tests}
use Rattle.box_core.specs.Answer.{Ticketed}
use Rattle.lanes.specs.Books.{ticket_of, counting, do_rise, CountsFrom, Rises}

module _ {W : Type 0} where
  counts_from : (k : ℕ) (xs : List (Ticketed W)) → CountsFrom ticket_of k xs → map ticket_of xs ≡ counting k (length xs)
  counts_from k [] c = refl
  counts_from k (x ∷ xs) c = (let rest = counts_from (suc k) xs c.1 in let first = c.0 in λ i. first i ∷ rest i)

  pub counts : (put : List (Ticketed W)) → CountsFrom ticket_of 0 put → map ticket_of put ≡ counting 0 (length put)
  counts put c = counts_from 0 put c

  rises_from : (xs : List (Ticketed W)) → Rises ticket_of xs → do_rise (map ticket_of xs) ≡ true
  rises_from [] r = refl
  rises_from (x ∷ []) r = refl
  rises_from (x ∷ (y ∷ ys)) r = (let below = r.0 0 x (omega arith) in let rest = rises_from (y ∷ ys) r.1 in grind (arith, nat_tests))

  pub rising : (taken : List (Ticketed W)) → Rises ticket_of taken → do_rise (map ticket_of taken) ≡ true
  rising taken r = rises_from taken r
