-- A path into a value leads to a value that is no larger.
use Rattle.std.proofs.Common.{◌≡◌, refl, ℕ, ◌+◌, ◌≤◌, max, List, Bool, true, false, Option, Some, if◌then◌else◌, arith}
use Rattle.std.specs.Prelude.{unwrap_or, bytes_eq}
use Rattle.std.proofs.Math.Nat.{le-max_left, le-max_right, max-le}
use Rattle.feel_value.proofs.Booleans.{both_true}
use Rattle.feel_value.specs.Datum.{Datum, null, boolean, number, text, list, context, Items, no_items, item, Entries, no_entries, entry, value_at}
use Rattle.feel_value.specs.Limits.{most_nodes, most_depth, nodes, items_nodes, entries_nodes, depth, items_depth, entries_depth, numbers_in_range, items_in_range, entries_in_range, names_differ, names_distinct, items_distinct, entries_distinct}
use Rattle.feel_text.specs.Meaning.{path_of, paths_of}
use Rattle.dmn_ranges.specs.Ranges.{keeps}
use Rattle.dmn_ranges.specs.declared.size.Size.{Size}
use Rattle.dmn_ranges.proofs.Joins.{and_both}
use Rattle.dmn_ranges.proofs.Sizes.{Kept, kept_value, kept_sizes, valued, is_valued, is_kept, at_most_along, one_more_within, both_within, same}

abbrev Holds : ℕ → ℕ → Datum → Type 0
Holds n k d = Kept (numbers_in_range d) (names_distinct d) (nodes d) (depth d) (record { nodes = n; depth = k })

wider : (n k m l : ℕ) (d : Datum) → n ≤ m → k ≤ l → Holds n k d → Holds m l d
wider n k m l d a b h = record { ranged = h.ranged; named = h.named; few = at_most_along (nodes d) n m h.few a; flat = at_most_along (depth d) k l h.flat b }

null_holds : (n k : ℕ) → 1 ≤ n → 1 ≤ k → Holds n k null
null_holds n k a b = record { ranged = refl; named = refl; few = a; flat = b }

chosen : (t : Bool) (n k : ℕ) (d : Datum) (o : Option Datum) → Holds n k d → Holds n k (unwrap_or o null) → Holds n k (unwrap_or (if t then Some d else o) null)
chosen true n k d o h i = h
chosen false n k d o h i = i

part_of : (a b : ℕ) → a ≤ 1 + (a + b)
part_of a b = omega arith

rest_of : (a b : ℕ) → 1 + b ≤ 1 + (a + b)
rest_of a b = omega arith

deeper : (a b : ℕ) → a ≤ b → a ≤ 1 + b
deeper a b h = omega (arith, h)

entry_holds : (name : List ℕ) (es : Entries) → entries_in_range es ≡ true → entries_distinct es ≡ true → Holds (1 + entries_nodes es) (1 + entries_depth es) (unwrap_or (value_at name es) null)
entry_holds name no_entries h k = null_holds 1 1 (same 1) (same 1)
entry_holds name (entry n d es) h k =
    let p = both_true (numbers_in_range d) (entries_in_range es) h in
    let q = both_true (names_distinct d) (entries_distinct es) k in
    let whole : ℕ = 1 + (nodes d + entries_nodes es) in
    let deep : ℕ = 1 + max (depth d) (entries_depth es) in
    let here : Holds whole deep d = record { ranged = p.0; named = q.0; few = part_of (nodes d) (entries_nodes es); flat = deeper (depth d) (max (depth d) (entries_depth es)) (le-max_left (depth d) (entries_depth es)) } in
    chosen (bytes_eq name n) whole deep d (value_at name es) here
    (wider (1 + entries_nodes es) (1 + entries_depth es) whole deep (unwrap_or (value_at name es) null) (rest_of (nodes d) (entries_nodes es)) (one_more_within (entries_depth es) (max (depth d) (entries_depth es)) (le-max_right (depth d) (entries_depth es))) (entry_holds name es p.1 q.1))

mutual
  path_holds : (name : List ℕ) (d : Datum) → numbers_in_range d ≡ true → names_distinct d ≡ true → Holds (nodes d) (depth d) (path_of name d)
  path_holds name null h k = null_holds 1 1 (same 1) (same 1)
  path_holds name (boolean b) h k = null_holds 1 1 (same 1) (same 1)
  path_holds name (number z) h k = null_holds 1 1 (same 1) (same 1)
  path_holds name (text s) h k = null_holds 1 1 (same 1) (same 1)
  path_holds name (list ds) h k = let p = paths_hold name ds h k in record { ranged = p.ranged; named = p.named; few = one_more_within (items_nodes (paths_of name ds)) (items_nodes ds) p.few; flat = one_more_within (items_depth (paths_of name ds)) (items_depth ds) p.flat }
  path_holds name (context es) h k = entry_holds name es h (both_true (names_differ es) (entries_distinct es) k).1

  paths_hold : (name : List ℕ) (ds : Items) → items_in_range ds ≡ true → items_distinct ds ≡ true
      → Kept (items_in_range (paths_of name ds)) (items_distinct (paths_of name ds)) (items_nodes (paths_of name ds)) (items_depth (paths_of name ds)) (record { nodes = items_nodes ds; depth = items_depth ds })
  paths_hold name no_items h k = record { ranged = refl; named = refl; few = same 0; flat = same 0 }
  paths_hold name (item d ds) h k =
      let p = both_true (numbers_in_range d) (items_in_range ds) h in
      let q = both_true (names_distinct d) (items_distinct ds) k in
      let one = path_holds name d p.0 q.0 in
      let others = paths_hold name ds p.1 q.1 in
      let whole : ℕ = max (depth d) (items_depth ds) in record {
        ranged = and_both (numbers_in_range (path_of name d)) (items_in_range (paths_of name ds)) one.ranged others.ranged;
        named = and_both (names_distinct (path_of name d)) (items_distinct (paths_of name ds)) one.named others.named;
        few = both_within (nodes (path_of name d)) (items_nodes (paths_of name ds)) (nodes d) (items_nodes ds) one.few others.few;
        flat = max-le (at_most_along (depth (path_of name d)) (depth d) whole one.flat (le-max_left (depth d) (items_depth ds))) (at_most_along (items_depth (paths_of name ds)) (items_depth ds) whole others.flat (le-max_right (depth d) (items_depth ds)));
      }

pub path_keeps : (name : List ℕ) (s : Size) (d : Datum) → keeps s d ≡ true → keeps s (path_of name d) ≡ true
path_keeps name s d h =
    let v = valued d (kept_value s d h) in
    let q = kept_sizes s d h in
    let p = path_holds name d v.ranged v.named in
    let e : Datum = path_of name d in
    is_kept s e (is_valued e p.ranged p.named (at_most_along (nodes e) (nodes d) most_nodes p.few v.few) (at_most_along (depth e) (depth d) most_depth p.flat v.flat))
    (at_most_along (nodes e) (nodes d) s.nodes p.few q.0) (at_most_along (depth e) (depth d) s.depth p.flat q.1)
