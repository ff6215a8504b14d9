-- The size of a list or a context, part by part.
use Rattle.std.proofs.Common.{◌≡◌, ℕ, ◌+◌, ◌<◌, max, Bool, true, ◌&&◌, Some, List, [], ◌∷◌, ◌++◌, map, length, get_or, drop, sym, ap, ◌∙◌, arith}
use Rattle.std.specs.Arc.{arc_str_bytes}
use Rattle.std.proofs.lemmas.List.{map-append}
use Rattle.std.proofs.lemmas.Bool.Decides.{nat_tests}
use Rattle.feel_value.specs.Datum.{Datum, null, list, context, Items, items_of, Entries, entry, entries_of}
use Rattle.feel_value.specs.Limits.{nodes, items_nodes, entries_nodes, depth, items_depth, entries_depth, numbers_in_range, items_in_range, entries_in_range, names_distinct, items_distinct, entries_distinct, names_differ}
use Rattle.feel_value.specs.Sizes.{size, size_of, grown, grown_by, with_parts, with_items, with_entries}
use Rattle.feel_value.specs.View.{datum_of, items_view, entries_view}
use Rattle.feel_value.specs.declared.size.Size.{Size}
use Rattle.feel_value.specs.declared.value.Value.{Value}
use Rattle.feel_value.proofs.Entries.{Entry, named, entries_from, entries_view-named}
use Rattle.feel_value.proofs.Growth.{more_nodes, more_depth, more_range, more_distinct, more_entry_nodes, more_entry_depth, more_entry_range, more_entry_distinct}

-- one entry more
entry_step : (s t u : Size) (n : List ℕ) (d : Datum) (es : Entries) → size_of d ≡ Some t → grown s t ≡ Some u → with_entries s (entry n d es) ≡ with_entries u es
entry_step s t u n d es h g = grind (arith, nat_tests)

pub entries_step : (s t u : Size) (xs : List Entry) (i : ℕ) (x : Entry) → x ≡ get_or xs i x → i < length xs → size_of (datum_of x.1) ≡ Some t → grown s t ≡ Some u
    → with_entries s (entries_view (drop i xs)) ≡ with_entries u (entries_view (drop (i + 1) xs))
entries_step s t u xs i x e h k g = ap (with_entries s) (entries_from xs i x e h) ∙ entry_step s t u (arc_str_bytes x.0) (datum_of x.1) (entries_view (drop (i + 1) xs)) k g

-- one part more behind the others
parts_more : (s : Size) (r1 n1 : Bool) (x m : ℕ) (d : Datum)
    → with_parts s (r1 && numbers_in_range d) (n1 && names_distinct d) (max x (depth d)) (m + nodes d) ≡ grown_by (with_parts s r1 n1 x m) (size_of d)
parts_more s r1 n1 x m d = grind (arith, nat_tests)

pub items_more : (s : Size) (vs : List Value) (v : Value) → with_items s (items_view (vs ++ v ∷ [])) ≡ grown_by (with_items s (items_view vs)) (size_of (datum_of v))
items_more s vs v =
    let ds = map datum_of vs in
    let d = datum_of v in
    ap (λ es. with_items s (items_of es)) (map-append datum_of vs (v ∷ []))
    ∙ (λ i. with_parts s (more_range ds d i) (more_distinct ds d i) (more_depth ds d i) (more_nodes ds d i))
    ∙ parts_more s (items_in_range (items_of ds)) (items_distinct (items_of ds)) (items_depth (items_of ds)) (items_nodes (items_of ds)) d

pub entries_more : (s : Size) (xs : List Entry) (x : Entry) → with_entries s (entries_view (xs ++ x ∷ [])) ≡ grown_by (with_entries s (entries_view xs)) (size_of (datum_of x.1))
entries_more s xs x =
    let es = map named xs in
    let n = arc_str_bytes x.0 in
    let d = datum_of x.1 in
    ap (with_entries s) (entries_view-named (xs ++ x ∷ []) ∙ ap entries_of (map-append named xs (x ∷ [])))
    ∙ (λ i. with_parts s (more_entry_range es n d i) (more_entry_distinct es n d i) (more_entry_depth es n d i) (more_entry_nodes es n d i))
    ∙ parts_more s (entries_in_range (entries_of es)) (entries_distinct (entries_of es)) (entries_depth (entries_of es)) (entries_nodes (entries_of es)) d
    ∙ ap (λ ds. grown_by (with_entries s ds) (size_of d)) (sym (entries_view-named xs))

-- the size of the whole
pub list_size : (ds : Items) → with_items (size null) ds ≡ size_of (list ds)
list_size ds = grind (arith, nat_tests)

pub context_size : (es : Entries) → names_differ es ≡ true → with_entries (size null) es ≡ size_of (context es)
context_size es h = grind (arith, nat_tests)
