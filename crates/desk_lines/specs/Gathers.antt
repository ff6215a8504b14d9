-- Internal but for `Gathers`: what is said and waits to be written.
use Rattle.std.specs.Prelude.{◌≡◌, ℕ, List, [], ◌++◌, Option, Some}
use Rattle.std.specs.Io.KnownBytes.{Appends}

-- a text comes to what waits to be written; the first of it all is written out, and the rest waits
pub record Gathers (wrote wrote' : Option (List ℕ)) (waits text waits' : List ℕ) : Type 0 where
  pub out : List ℕ
  pub written : Appends wrote wrote' out
  pub is : waits ++ text ≡ out ++ waits'

-- a run whose text is said, as a writer over memory would have it, and of which the end may wait to be written
pub record Ended (Ends : Option (List ℕ) → Option (List ℕ) → Type 0) (wrote wrote' : Option (List ℕ)) (waits : List ℕ) : Type 0 where
  pub text : List ℕ
  pub gathers : Gathers wrote wrote' [] text waits
  pub ends : Ends (Some []) (Some text)
