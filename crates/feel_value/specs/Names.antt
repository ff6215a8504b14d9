-- Internal to this crate: entries with their names in order, and compared place by place. No public contract cites these
-- words.
use Rattle.std.specs.Prelude.{◌≡◌, ℕ, List, map, Bool, true, false, ◌&&◌, bytes_eq}
use denote.Ref.{Bor}
use Rattle.std.specs.List.Sorted.{IsPermutation}
use Rattle.std.specs.Ordering.{nat_cmp, is_lt}
use Rattle.std.specs.Cmp.Lexicographic.{slice_cmp}
use Rattle.std.specs.declared.alloc.Global.{Global}
use Rattle.std.specs.declared.sync.ArcStr.{ArcStr}
use Rattle.feel_value.specs.Datum.{Entries, no_entries, entry}
use Rattle.feel_value.specs.Comparison.{equal}
use Rattle.feel_value.specs.Logic.{is_yes}
use Rattle.feel_value.specs.View.{entries_view}
use Rattle.feel_value.specs.declared.value.Value.{Value}

-- whether each name is after the one before it, and the first is after the given one
abbrev pub rises_after : List ℕ → Entries → Bool
rises_after last no_entries = true
rises_after last (entry n d es) = is_lt (slice_cmp nat_cmp last n) && rises_after n es

-- whether each name is after the one before it, in the order of their bytes
abbrev pub names_rise : Entries → Bool
names_rise no_entries = true
names_rise (entry n d es) = rises_after n es

-- the entries that loans lend
abbrev pub lent : List (Bor (ArcStr Global × Value)) → List (ArcStr Global × Value)
lent = map (λ e. e.now)

-- the loans lend all the entries, whose names rise in their order
abbrev pub IsByName : List (ArcStr Global × Value) → List (Bor (ArcStr Global × Value)) → Type 0
IsByName es loans = IsPermutation es (lent loans) × (names_rise (entries_view (lent loans)) ≡ true)

-- whether both have the same names in one order
abbrev pub same_names : Entries → Entries → Bool
same_names no_entries no_entries = true
same_names no_entries (entry n e es) = false
same_names (entry m d ds) no_entries = false
same_names (entry m d ds) (entry n e es) = bytes_eq m n && same_names ds es

-- whether both have the same names in one order, and equal values in their places
abbrev pub pairs_equal : Entries → Entries → Bool
pairs_equal no_entries no_entries = true
pairs_equal no_entries (entry n e es) = false
pairs_equal (entry m d ds) no_entries = false
pairs_equal (entry m d ds) (entry n e es) = bytes_eq m n && is_yes (equal d e) && pairs_equal ds es
