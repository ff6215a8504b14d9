-- A lane to which nothing was put.
use Rattle.std.proofs.Common.{◌≡◌, ℕ, List, [], refl, sym, subst, arith}
use Rattle.box_core.specs.Answer.{Ticketed}
use Rattle.box_core.specs.Mail.{Mail, fresh}
use Rattle.lanes.proofs.Accounting.{Fits, Credits}

module _ {W R O : Type 0} (request : W → R) (result_of : R → O) where
  pub fits_new : (put : List (Ticketed W)) (mail : Mail W O) (capacity : ℕ) → put ≡ [] → mail ≡ fresh 0 capacity → Fits request result_of put mail
  fits_new put mail capacity none new =
      subst (λ p. Fits request result_of p mail) (sym none)
      (subst (λ m. Fits request result_of [] m) (sym new) (record { numbered = tt; count = refl; works = refl; running = refl; due = refl }))

  pub credits_new : (put : List (Ticketed W)) (mail : Mail W O) (came : List (Ticketed W)) (capacity : ℕ) → put ≡ [] → mail ≡ fresh 0 capacity → came ≡ [] → Credits request result_of put mail came
  credits_new put mail came capacity none new nothing =
      subst (λ p. Credits request result_of p mail came) (sym none)
      (subst (λ m. Credits request result_of [] m came) (sym new)
      (subst (λ l. Credits request result_of [] (fresh 0 capacity) l) (sym nothing)
      (record { credited = λ k d h. absurd (omega (arith, h)); accounted = λ t h. absurd (omega (arith, h)); few = omega arith })))
