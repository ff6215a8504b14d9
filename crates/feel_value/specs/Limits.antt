-- The limits that a value keeps: the size of its numbers, how deep it is and how many nodes it has. Beside them, that the
-- names of each context are distinct.
use Rattle.std.specs.Prelude.{ℕ, ◌+◌, max, ℤ, unsigned_abs, List, Bool, true, false, not, ◌&&◌, ◌||◌, nat_le, bytes_eq}
use Rattle.feel_value.specs.Datum.{Datum, null, boolean, number, text, list, context, Items, no_items, item, Entries, no_entries, entry}

abbrev pub greatest_number : ℕ
greatest_number = 9223372036854775807

abbrev pub most_nodes : ℕ
most_nodes = 10000

abbrev pub most_depth : ℕ
most_depth = 100

-- a number may be as far from 0 as the greatest number is
abbrev pub in_range : ℤ → Bool
in_range z = nat_le (unsigned_abs z) greatest_number

-- Every value is a node; a list and a context also have the nodes of their parts.
abbrev mutual
  pub nodes : Datum → ℕ
  nodes null = 1
  nodes (boolean b) = 1
  nodes (number z) = 1
  nodes (text s) = 1
  nodes (list ds) = 1 + items_nodes ds
  nodes (context es) = 1 + entries_nodes es

  pub items_nodes : Items → ℕ
  items_nodes no_items = 0
  items_nodes (item d ds) = nodes d + items_nodes ds

  pub entries_nodes : Entries → ℕ
  entries_nodes no_entries = 0
  entries_nodes (entry n d es) = nodes d + entries_nodes es

-- A list and a context are one deeper than their deepest part.
abbrev mutual
  pub depth : Datum → ℕ
  depth null = 1
  depth (boolean b) = 1
  depth (number z) = 1
  depth (text s) = 1
  depth (list ds) = 1 + items_depth ds
  depth (context es) = 1 + entries_depth es

  pub items_depth : Items → ℕ
  items_depth no_items = 0
  items_depth (item d ds) = max (depth d) (items_depth ds)

  pub entries_depth : Entries → ℕ
  entries_depth no_entries = 0
  entries_depth (entry n d es) = max (depth d) (entries_depth es)

-- Whether every number is in range.
abbrev mutual
  pub numbers_in_range : Datum → Bool
  numbers_in_range null = true
  numbers_in_range (boolean b) = true
  numbers_in_range (number z) = in_range z
  numbers_in_range (text s) = true
  numbers_in_range (list ds) = items_in_range ds
  numbers_in_range (context es) = entries_in_range es

  pub items_in_range : Items → Bool
  items_in_range no_items = true
  items_in_range (item d ds) = numbers_in_range d && items_in_range ds

  pub entries_in_range : Entries → Bool
  entries_in_range no_entries = true
  entries_in_range (entry n d es) = numbers_in_range d && entries_in_range es

-- whether it is no deeper, and has no more nodes, than a value may be and have
abbrev pub keeps_size : Datum → Bool
keeps_size d = nat_le (depth d) most_depth && nat_le (nodes d) most_nodes

-- whether it keeps every limit
abbrev pub keeps_limits : Datum → Bool
keeps_limits d = numbers_in_range d && keeps_size d

abbrev pub has_name : List ℕ → Entries → Bool
has_name name no_entries = false
has_name name (entry n d es) = bytes_eq name n || has_name name es

-- whether no two of the entries have one name
abbrev pub names_differ : Entries → Bool
names_differ no_entries = true
names_differ (entry n d es) = not (has_name n es) && names_differ es

-- Whether the entry names of each context are distinct.
abbrev mutual
  pub names_distinct : Datum → Bool
  names_distinct null = true
  names_distinct (boolean b) = true
  names_distinct (number z) = true
  names_distinct (text s) = true
  names_distinct (list ds) = items_distinct ds
  names_distinct (context es) = names_differ es && entries_distinct es

  pub items_distinct : Items → Bool
  items_distinct no_items = true
  items_distinct (item d ds) = names_distinct d && items_distinct ds

  pub entries_distinct : Entries → Bool
  entries_distinct no_entries = true
  entries_distinct (entry n d es) = names_distinct d && entries_distinct es

-- Whether it is a value of FEEL: it keeps the limits, and the names of each context are distinct.
abbrev pub is_value : Datum → Bool
is_value d = keeps_limits d && names_distinct d
