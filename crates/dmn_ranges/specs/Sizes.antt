-- How large values are: internal but for the size itself. A size is past where a list or a context of such parts can break a limit.
use Rattle.std.specs.Prelude.{ℕ, ◌+◌, ◌*◌, Bool, ◌&&◌, nat_lt, if◌then◌else◌}
use Rattle.feel_value.specs.Limits.{most_nodes, most_depth}
use Rattle.dmn_ranges.specs.declared.size.Size.{Size}

-- of no list and no context
abbrev pub no_size : Size
no_size = record { nodes = 0; depth = 0 }

-- of any value
abbrev pub any_size : Size
any_size = record { nodes = most_nodes; depth = most_depth }

abbrev pub more : ℕ → ℕ → ℕ
more a b = if nat_lt a b then b else a

-- as large as both
abbrev pub larger : Size → Size → Size
larger s t = record { nodes = more s.nodes t.nodes; depth = more s.depth t.depth }

-- as many nodes as no list and no context can have inside are not told apart
abbrev pub capped : ℕ → ℕ
capped n = if nat_lt n most_nodes then n else most_nodes

-- of the parts of both
abbrev pub beside : Size → Size → Size
beside s t = record { nodes = capped (s.nodes + t.nodes); depth = more s.depth t.depth }

-- of so many parts
abbrev pub times : ℕ → Size → Size
times n s = record { nodes = capped (n * s.nodes); depth = s.depth }

-- a list or a context of such parts keeps the limits of size
abbrev pub fits : Size → Bool
fits s = nat_lt s.nodes most_nodes && nat_lt s.depth most_depth

-- of a list or a context of such parts, if it is a value
abbrev pub around : Size → Size
around s = if fits s then record { nodes = s.nodes + 1; depth = s.depth + 1 } else any_size
