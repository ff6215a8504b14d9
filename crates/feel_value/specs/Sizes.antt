-- Internal to this crate: no public contract cites these words. The size that each list and each context keeps.
use Rattle.std.specs.Prelude.{◌≡◌, ◌+◌, ◌≤◌, ◌&&◌, max, nat_le, ℕ, List, Bool, true, Option, Some, None, if◌then◌else◌}
use Rattle.feel_value.specs.Datum.{Datum, list, context, items_of, entries_of, Items, Entries}
use Rattle.feel_value.specs.Limits.{nodes, items_nodes, entries_nodes, depth, items_depth, entries_depth, items_in_range, entries_in_range, items_distinct, entries_distinct, keeps_limits, is_value, most_nodes, most_depth}
use Rattle.feel_value.specs.declared.size.Size.{Size}

-- The nodes of the value, and how deep it is.
abbrev pub size : Datum → Size
size d = record { nodes = nodes d; levels = depth d }

-- The size of a value that keeps the limits and has distinct names; None of any other.
abbrev pub size_of : Datum → Option Size
size_of d = if is_value d then Some (size d) else None

-- A list or a context of the first size that takes a part of the second; None where it is too large or too deep then.
abbrev pub grown : Size → Size → Option Size
grown s t = if nat_le (1 + t.levels) most_depth && nat_le (s.nodes + t.nodes) most_nodes then Some (record { nodes = s.nodes + t.nodes; levels = max s.levels (1 + t.levels) }) else None

-- The same where one of the two may be no value.
abbrev pub grown_by : Option Size → Option Size → Option Size
grown_by None part = None
grown_by (Some s) None = None
grown_by (Some s) (Some t) = grown s t

-- The size of a list or a context of that size that takes parts of this range, depth and nodes, with or without distinct names.
abbrev pub with_parts : Size → Bool → Bool → ℕ → ℕ → Option Size
with_parts s range distinct x m = if range && (nat_le (1 + x) most_depth && nat_le (s.nodes + m) most_nodes) && distinct then Some (record { nodes = s.nodes + m; levels = max s.levels (1 + x) }) else None

abbrev pub with_items : Size → Items → Option Size
with_items s ds = with_parts s (items_in_range ds) (items_distinct ds) (items_depth ds) (items_nodes ds)

abbrev pub with_entries : Size → Entries → Option Size
with_entries s es = with_parts s (entries_in_range es) (entries_distinct es) (entries_depth es) (entries_nodes es)

-- The size of a whole of the first size that takes this value as one part more.
abbrev pub IsGrown : Size → Datum → Size → Type 0
IsGrown before d s = s ≡ record { nodes = before.nodes + nodes d; levels = max before.levels (1 + depth d) }

-- It is the size of a list or a context that breaks no limit.
abbrev pub IsKept : Size → Type 0
IsKept s = (s.nodes ≤ most_nodes) × (1 ≤ s.levels)

-- The list of the members is a value of that size.
abbrev pub IsList : List Datum → Size → Type 0
IsList ds s = (is_value (list (items_of ds)) ≡ true) × (s ≡ size (list (items_of ds)))

-- The context of the entries is of that size, and a value wherever their names differ.
abbrev pub IsContext : List (List ℕ × Datum) → Size → Type 0
IsContext es s = (keeps_limits (context (entries_of es)) ≡ true) × ((entries_distinct (entries_of es) ≡ true) × (s ≡ size (context (entries_of es))))
