-- Where the last of a name stands in a list.
use Rattle.std.specs.Prelude.{ℕ, suc, List, [], ◌∷◌, Option, Some, None, bytes_eq, if◌then◌else◌}

abbrev pub place_after : Option ℕ → Option ℕ → Option ℕ
place_after None o = o
place_after (Some i) o = Some (suc i)

-- where the last of the name stands
abbrev pub last_place : {X : Type 0} → List ℕ → List (List ℕ × X) → Option ℕ
last_place name [] = None
last_place name (b ∷ bs) = place_after (last_place name bs) (if bytes_eq name b.0 then Some 0 else None)
