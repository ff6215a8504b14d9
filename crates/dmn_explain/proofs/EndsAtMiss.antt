-- The first entry of a rule that is not met, where those behind it break no limit.
use Rattle.std.proofs.Common.{◌≡◌, ℕ, ◌+◌, List, ◌∷◌, Bool, true, refl, Option, None, Some}
use Rattle.std.specs.Option.{is_some}
use Rattle.feel_text.specs.Satisfied.{Answer, Told, Broken, held_of}
use Rattle.feel_text.specs.declared.held.Held.TheVariants as held
use Rattle.feel_value.specs.Found.{◌>>=◌}
use Rattle.feel_value.specs.declared.logic.Truth.TheVariants.{Yes, No, Unknown}
use Rattle.dmn_table.specs.Hits.{is_satisfied}
use Rattle.dmn_table.specs.Misses.{missed_from}

-- an entry that is met
pub passed : (n : ℕ) (a : Answer) (rest : Option (List Bool)) → held.Yes ≡ held_of a → missed_from n None (is_satisfied a >>= λ y. rest >>= λ ys. Some (y ∷ ys)) ≡ missed_from (n + 1) None rest
passed n (Told Yes) None h = refl
passed n (Told Yes) (Some ys) h = refl
passed n (Told No) rest h = cc
passed n (Told Unknown) rest h = cc
passed n Broken rest h = cc

-- one that is not
pub missed : (n : ℕ) (a : Answer) (rest : Option (List Bool)) → held.No ≡ held_of a → is_some rest ≡ true → missed_from n None (is_satisfied a >>= λ y. rest >>= λ ys. Some (y ∷ ys)) ≡ Some (Some n)
missed n (Told Yes) rest h e = cc
missed n (Told No) None h e = cc
missed n (Told No) (Some ys) h e = refl
missed n (Told Unknown) None h e = cc
missed n (Told Unknown) (Some ys) h e = refl
missed n Broken rest h e = cc
