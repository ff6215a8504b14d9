-- Lists and contexts that are formed of parts.
use Rattle.std.proofs.Common.{◌≡◌, refl, ℕ, suc, ◌+◌, ◌*◌, ◌≤◌, max, List, [], ◌∷◌, length, true, Option, None, Some, arith}
use Rattle.std.specs.List.{fold, list_all, zip}
use Rattle.std.proofs.Math.Nat.{le-max_left, le-max_right, max-le, suc-mul}
use Rattle.std.proofs.lemmas.Nat.{mul-le}
use Rattle.feel_value.proofs.Booleans.{both_true}
use Rattle.feel_value.specs.Distinct.{are_distinct}
use Rattle.feel_value.specs.Found.{value_of, ◌>>=◌, each}
use Rattle.dmn_table.proofs.Scalars.{differ}
use Rattle.feel_value.specs.Datum.{Datum, list, context, Items, item, items_of, Entries, entries_of}
use Rattle.feel_value.specs.Limits.{nodes, items_nodes, entries_nodes, depth, items_depth, entries_depth, numbers_in_range, items_in_range, entries_in_range, names_distinct, items_distinct, entries_distinct}
use Rattle.feel_value.specs.Outcome.{held}
use Rattle.feel_value.specs.declared.feel.Outcome.{Outcome}
use Rattle.feel_value.specs.declared.feel.Outcome.TheVariants.{Is, Limit}
use Rattle.feel_text.specs.Expr.{Exprs, none, more}
use Rattle.feel_text.specs.Meaning.{member_before, list_held}
use Rattle.dmn_ranges.specs.Ranges.{Scope, lies_in, covers}
use Rattle.dmn_ranges.specs.Sizes.{no_size, fits, times}
use Rattle.dmn_ranges.specs.Steps.{size_of, listed, named_parts, with_part, list_of, context_of, outcomes, members_parts}
use Rattle.dmn_ranges.specs.declared.outcomes.Outcomes.{Outcomes}
use Rattle.dmn_ranges.specs.declared.parts.Parts.{Parts}
use Rattle.dmn_ranges.specs.declared.range.Range.{Range}
use Rattle.dmn_ranges.specs.declared.size.Size.{Size}
use Rattle.dmn_ranges.proofs.Forms.{limited_covers}
use Rattle.dmn_ranges.proofs.Joins.{or_left, or_right, and_both}
use Rattle.dmn_ranges.proofs.Sizes.{Kept, ItemsFit, EntriesFit, ItemsBehind, more_behind, whole_fit, part_fits, list_covers, context_covers, none_behind, times_wide, at_most_along, both_within, least_of, same}

-- what is told of members that stand behind parts of a size
abbrev pub MembersTold : Size → Parts → Option Items → Type 0
MembersTold a p None = p.limit ≡ true
MembersTold a p (Some ds) = ItemsBehind a p.size ds

pub item_more : (p : Parts) (o : Outcomes) (t : Parts) (d : Datum) (ds : Items) → covers o (Is d) ≡ true → ItemsBehind (with_part p o).size t.size ds → ItemsBehind p.size t.size (item d ds)
item_more p o t d ds h rest =
    more_behind p.size (size_of o.range) t.size (numbers_in_range d) (names_distinct d) (items_in_range ds) (items_distinct ds) (nodes d) (depth d) (items_nodes ds) (items_depth ds) (part_fits o.range d h) rest

pub member_more : (p : Parts) (o : Outcomes) (q : Outcome) (t : Parts) (rest : Option Items) → covers o q ≡ true → ((with_part p o).limit ≡ true → t.limit ≡ true) → MembersTold (with_part p o).size t rest
    → MembersTold p.size t (member_before q rest)
member_more p o (Is d) t (Some ds) h keep told = item_more p o t d ds h told
member_more p o (Is d) t None h keep told = told
member_more p o Limit t rest h keep told = keep (or_right p.limit o.limit h)

pub limit_along : (es : Exprs) (xs : Scope) (p : Parts) → p.limit ≡ true → (members_parts p es xs).limit ≡ true
limit_along none xs p h = h
limit_along (more e es) xs p h = limit_along es xs (with_part p (outcomes e xs)) (or_left p.limit (outcomes e xs).limit h)

pub list_told : (p : Parts) (o : Option Items) → MembersTold no_size p o → covers (list_of p) (list_held o) ≡ true
list_told p None told = or_left p.limit (listed p.size).limit told
list_told p (Some ds) told = limited_covers p.limit (listed p.size) (held (list ds)) (list_covers p.size ds (whole_fit (items_in_range ds) (items_distinct ds) (items_nodes ds) (items_depth ds) p.size told))

-- ---- values one after the other

-- what is told of values that stand behind parts of a size
abbrev pub PartsTold : Size → Parts → Option (List Datum) → Type 0
PartsTold a p None = p.limit ≡ true
PartsTold a p (Some ds) = ItemsBehind a p.size (items_of ds)

pub part_more : (p : Parts) (o : Outcomes) (q : Outcome) (t : Parts) (rest : Option (List Datum)) → covers o q ≡ true → ((with_part p o).limit ≡ true → t.limit ≡ true) → PartsTold (with_part p o).size t rest
    → PartsTold p.size t (value_of q >>= λ d. rest >>= λ ds. Some (d ∷ ds))
part_more p o (Is d) t (Some ds) h keep told = item_more p o t d (items_of ds) h told
part_more p o (Is d) t None h keep told = told
part_more p o Limit t rest h keep told = keep (or_right p.limit o.limit h)

-- one part more for each element
abbrev pub gathered : {X : Type 0} → (X → Outcomes) → Parts → List X → Parts
gathered g p ys = fold (λ q y. with_part q (g y)) p ys

limit_gathered : {X : Type 0} (g : X → Outcomes) (ys : List X) (p : Parts) → p.limit ≡ true → (gathered g p ys).limit ≡ true
limit_gathered g [] p h = h
limit_gathered g (y ∷ ys) p h = limit_gathered g ys (with_part p (g y)) (or_left p.limit (g y).limit h)

pub each_told : {X : Type 0} (g : X → Outcomes) (v : X → Outcome) → ((y : X) → covers (g y) (v y) ≡ true) → (ys : List X) (p : Parts) → PartsTold p.size (gathered g p ys) (each (λ y. value_of (v y)) ys)
each_told g v told [] p = none_behind p.size
each_told g v told (y ∷ ys) p = part_more p (g y) (v y) (gathered g (with_part p (g y)) ys) (each (λ z. value_of (v z)) ys) (told y) (limit_gathered g ys (with_part p (g y))) (each_told g v told ys (with_part p (g y)))

-- ---- contexts

zip_kept : (ns : List (List ℕ)) (vs : List Datum) → items_in_range (items_of vs) ≡ true → items_distinct (items_of vs) ≡ true
    → Kept (entries_in_range (entries_of (zip ns vs))) (entries_distinct (entries_of (zip ns vs))) (entries_nodes (entries_of (zip ns vs))) (entries_depth (entries_of (zip ns vs))) (record { nodes = items_nodes (items_of vs); depth = items_depth (items_of vs) })
zip_kept [] vs h k = record { ranged = refl; named = refl; few = least_of (items_nodes (items_of vs)); flat = least_of (items_depth (items_of vs)) }
zip_kept (n ∷ ns) [] h k = record { ranged = refl; named = refl; few = least_of 0; flat = least_of 0 }
zip_kept (n ∷ ns) (v ∷ vs) h k =
    let p = both_true (numbers_in_range v) (items_in_range (items_of vs)) h in
    let q = both_true (names_distinct v) (items_distinct (items_of vs)) k in
    let rest = zip_kept ns vs p.1 q.1 in
    let es : Entries = entries_of (zip ns vs) in
    let ds : Items = items_of vs in record {
      ranged = and_both (numbers_in_range v) (entries_in_range (entries_of (zip ns vs))) p.0 rest.ranged;
      named = and_both (names_distinct v) (entries_distinct (entries_of (zip ns vs))) q.0 rest.named;
      few = both_within (nodes v) (entries_nodes es) (nodes v) (items_nodes ds) (same (nodes v)) rest.few;
      flat = max-le (le-max_left (depth v) (items_depth ds)) (at_most_along (entries_depth es) (items_depth ds) (max (depth v) (items_depth ds)) rest.flat (le-max_right (depth v) (items_depth ds)));
    }

zip_fits : (ns : List (List ℕ)) (vs : List Datum) (s : Size) → ItemsFit s (items_of vs) → EntriesFit s (entries_of (zip ns vs))
zip_fits ns vs s part h =
    let q = part h in
    let z = zip_kept ns vs q.ranged q.named in
    let es : Entries = entries_of (zip ns vs) in
    let ds : Items = items_of vs in
    record { ranged = z.ranged; named = z.named; few = at_most_along (entries_nodes es) (items_nodes ds) s.nodes z.few q.few; flat = at_most_along (entries_depth es) (items_depth ds) s.depth z.flat q.flat }

-- values under names
pub named_covers : (ns : List (List ℕ)) (vs : List Datum) (p : Parts) → ItemsBehind no_size p.size (items_of vs) → covers (context_of (are_distinct ns) p) (held (context (entries_of (zip ns vs)))) ≡ true
named_covers ns vs p told =
    limited_covers p.limit (named_parts (are_distinct ns) p.size) (held (context (entries_of (zip ns vs))))
    (context_covers (are_distinct ns) p.size (entries_of (zip ns vs)) (differ ns vs) (zip_fits ns vs p.size (whole_fit (items_in_range (items_of vs)) (items_distinct (items_of vs)) (items_nodes (items_of vs)) (items_depth (items_of vs)) p.size told)))

-- ---- so many values of a range

one_times : (a b n s : ℕ) → a ≤ s → b ≤ n * s → a + b ≤ suc n * s
one_times a b n s h k = let e : suc n * s ≡ n * s + s = suc-mul n s in omega (arith, e, h, k)

all_kept : (r : Range) (ds : List Datum) → fits (size_of r) ≡ true → list_all (lies_in r) ds ≡ true
    → Kept (items_in_range (items_of ds)) (items_distinct (items_of ds)) (items_nodes (items_of ds)) (items_depth (items_of ds)) (record { nodes = length ds * (size_of r).nodes; depth = (size_of r).depth })
all_kept r [] h all = record { ranged = refl; named = refl; few = least_of (0 * (size_of r).nodes); flat = least_of (size_of r).depth }
all_kept r (d ∷ ds) h all =
    let p = both_true (lies_in r d) (list_all (lies_in r) ds) all in
    let one = part_fits r d p.0 h in
    let rest = all_kept r ds h p.1 in record {
      ranged = and_both (numbers_in_range d) (items_in_range (items_of ds)) one.ranged rest.ranged;
      named = and_both (names_distinct d) (items_distinct (items_of ds)) one.named rest.named;
      few = one_times (nodes d) (items_nodes (items_of ds)) (length ds) (size_of r).nodes one.few rest.few;
      flat = max-le one.flat rest.flat;
    }

so_many : (a b c d : ℕ) → a ≤ b → b ≤ c → d ≡ c → a ≤ d
so_many a b c d h k e = omega (arith, h, k, e)

pub times_fit : (n : ℕ) (r : Range) (ds : List Datum) → 1 ≤ n → length ds ≤ n → list_all (lies_in r) ds ≡ true → ItemsFit (times n (size_of r)) (items_of ds)
times_fit n r ds some short all h =
    let w = times_wide n (size_of r) some h in
    let k = all_kept r ds w.1 all in
    let a : ℕ = (size_of r).nodes in
    record {
      ranged = k.ranged;
      named = k.named;
      few = so_many (items_nodes (items_of ds)) (length ds * a) (n * a) (times n (size_of r)).nodes k.few (mul-le (length ds) a n a short (same a)) w.0;
      flat = k.flat;
    }
