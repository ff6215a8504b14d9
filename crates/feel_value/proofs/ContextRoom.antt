-- A context keeps the limits as the list of its values does.
use Rattle.std.proofs.Common.{◌≡◌, ℕ, ◌+◌, max, true, false, ◌&&◌, nat_le, List, [], ◌∷◌, ◌++◌, map, refl, sym, ap, ◌∙◌}
use Rattle.std.proofs.lemmas.List.{map-append}
use Rattle.feel_value.specs.Datum.{Datum, list, context, items_of, entries_of}
use Rattle.feel_value.specs.Limits.{nodes, items_nodes, entries_nodes, depth, items_depth, entries_depth, numbers_in_range, items_in_range, entries_in_range, keeps_limits, names_distinct, is_value, most_depth, most_nodes}
use Rattle.feel_value.proofs.Booleans.{both_true}
use Rattle.feel_value.proofs.Room.{behind-append, by_begin, limits_begin}

abbrev Pairs : Type 0
Pairs = List (List ℕ × Datum)

abbrev values : Pairs → List Datum
values es = map (λ e. e.1) es

same_nodes : (es : Pairs) → entries_nodes (entries_of es) ≡ items_nodes (items_of (values es))
same_nodes [] = refl
same_nodes (e ∷ es) = ap (λ n. nodes e.1 + n) (same_nodes es)

same_depth : (es : Pairs) → entries_depth (entries_of es) ≡ items_depth (items_of (values es))
same_depth [] = refl
same_depth (e ∷ es) = ap (λ n. max (depth e.1) n) (same_depth es)

same_range : (es : Pairs) → entries_in_range (entries_of es) ≡ items_in_range (items_of (values es))
same_range [] = refl
same_range (e ∷ es) = ap (λ b. numbers_in_range e.1 && b) (same_range es)

-- a context keeps the limits where the list of its values does
as_list : (es : Pairs) → keeps_limits (context (entries_of es)) ≡ keeps_limits (list (items_of (values es)))
as_list es =
    ap (λ b. b && (nat_le (1 + entries_depth (entries_of es)) most_depth && nat_le (1 + entries_nodes (entries_of es)) most_nodes)) (same_range es)
    ∙ ap (λ k. items_in_range (items_of (values es)) && (nat_le (1 + k) most_depth && nat_le (1 + entries_nodes (entries_of es)) most_nodes)) (same_depth es)
    ∙ ap (λ k. items_in_range (items_of (values es)) && (nat_le (1 + items_depth (items_of (values es))) most_depth && nat_le (1 + k) most_nodes)) (same_nodes es)

-- a context that begins with too much is no value
front_kept : (es fs : Pairs) → is_value (context (entries_of (es ++ fs))) ≡ true → keeps_limits (context (entries_of es)) ≡ true
front_kept es fs h =
    let whole = (both_true (keeps_limits (context (entries_of (es ++ fs)))) (names_distinct (context (entries_of (es ++ fs)))) h).0 in
    let parts = ap items_of (map-append (λ e. e.1) es fs) ∙ behind-append (values es) (values fs) in
    as_list es ∙ limits_begin (values es) (items_of (values fs)) (ap (λ xs. keeps_limits (list xs)) (sym parts) ∙ sym (as_list (es ++ fs)) ∙ whole)

pub too_many_entries : (es fs : Pairs) → keeps_limits (context (entries_of es)) ≡ false → is_value (context (entries_of (es ++ fs))) ≡ false
too_many_entries es fs h = by_begin (is_value (context (entries_of (es ++ fs)))) (keeps_limits (context (entries_of es))) (front_kept es fs) h
