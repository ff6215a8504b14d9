-- Internal, cited by no public contract: when two values are one and the same, part by part.
use Rattle.std.specs.Prelude.{Bool, true, false, ◌&&◌, bytes_eq}
use Rattle.std.specs.Ordering.{int_eq}
use Rattle.feel_value.specs.Comparison.{bool_eq}
use Rattle.feel_value.specs.Datum.{Datum, null, boolean, number, text, list, context, Items, no_items, item, Entries, no_entries, entry}

-- of one kind, with the same parts in one order
abbrev mutual
  pub is_same : Datum → Datum → Bool
  is_same null null = true
  is_same (boolean b) (boolean c) = bool_eq b c
  is_same (number x) (number y) = int_eq x y
  is_same (text s) (text t) = bytes_eq s t
  is_same (list ds) (list es) = are_same_items ds es
  is_same (context ds) (context es) = are_same_entries ds es
  is_same d e = false

  pub are_same_items : Items → Items → Bool
  are_same_items no_items no_items = true
  are_same_items no_items (item e es) = false
  are_same_items (item d ds) no_items = false
  are_same_items (item d ds) (item e es) = is_same d e && are_same_items ds es

  pub are_same_entries : Entries → Entries → Bool
  are_same_entries no_entries no_entries = true
  are_same_entries no_entries (entry n e es) = false
  are_same_entries (entry n d ds) no_entries = false
  are_same_entries (entry n d ds) (entry m e es) = bytes_eq n m && (is_same d e && are_same_entries ds es)
