-- Names that stand once.
use Rattle.std.specs.Prelude.{ℕ, List, [], ◌∷◌, Bool, true, not, ◌&&◌, bytes_eq}
use Rattle.std.specs.List.{list_any}

-- the name is one of these
abbrev pub is_among : List (List ℕ) → List ℕ → Bool
is_among ns n = list_any (bytes_eq n) ns

-- no name stands twice
abbrev pub are_distinct : List (List ℕ) → Bool
are_distinct [] = true
are_distinct (n ∷ ns) = not (is_among ns n) && are_distinct ns
