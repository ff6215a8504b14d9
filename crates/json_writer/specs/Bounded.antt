-- Texts that are kept up to a bound.
use Rattle.std.specs.Prelude.{ℕ, List, ◌++◌, length, nat_le, if◌then◌else◌, Option, Some, None}

-- the most bytes of a text that is kept: 64 MiB
abbrev pub most_bytes : ℕ
most_bytes = 67108864

-- a text as it is kept: none of one that is too long
abbrev pub kept_text : List ℕ → Option (List ℕ)
kept_text text = if nat_le (length text) most_bytes then Some text else None

-- a kept text and the next piece of it
abbrev pub longer : Option (List ℕ) → List ℕ → Option (List ℕ)
longer None piece = None
longer (Some text) piece = kept_text (text ++ piece)
