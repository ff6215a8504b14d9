-- Values with no parts: under names that stand once they make a value.
use Rattle.std.proofs.Common.{◌≡◌, ℕ, suc, ◌+◌, ◌<◌, ◌≤◌, List, [], ◌∷◌, map, length, All, Bool, true, false, not, ◌&&◌, ◌||◌, bytes_eq, if◌then◌else◌, refl, ap, ap₂, ◌∙◌, arith}
use Rattle.std.specs.Prelude.{nat_le}
use Rattle.std.specs.List.{zip}
use Rattle.std.specs.Option.{is_some}
use Rattle.std.proofs.lemmas.Bool.Decides.{nat_tests}
use Rattle.feel_value.specs.Datum.{Datum, context, entries_of}
use Rattle.feel_value.specs.Distinct.{are_distinct, is_among}
use Rattle.feel_value.specs.Found.{value_of}
use Rattle.feel_value.specs.Limits.{entries_nodes, entries_depth, entries_in_range, entries_distinct, numbers_in_range, keeps_limits, keeps_size, names_distinct, names_differ, has_name, is_value}
use Rattle.feel_value.specs.Outcome.{held}
use Rattle.feel_value.specs.declared.feel.Outcome.TheVariants.{Is, Limit}
use Rattle.feel_value.proofs.Room.{both}
use Rattle.dmn_table.specs.declared.table.Output.{Output}
use Rattle.dmn_table.specs.Hits.{one_or_context, output_of}
use Rattle.dmn_table.specs.Parts.{column_view, names_of}
use Rattle.dmn_table.specs.RuleOutputs.{IsScalar}
use Rattle.dmn_table.proofs.Outputs.{names_same}

-- the first is one, and so are the others
first_scalar : (d : Datum) (ds : List Datum) → All IsScalar (d ∷ ds) → IsScalar d
first_scalar d ds h = h 0 d (omega arith)

other_scalars : (d : Datum) (ds : List Datum) → All IsScalar (d ∷ ds) → All IsScalar ds
other_scalars d ds h = λ k e l. h (suc k) e (omega (arith, l))

few_nodes : (ns : List (List ℕ)) (ds : List Datum) → All IsScalar ds → entries_nodes (entries_of (zip ns ds)) ≤ length ds
few_nodes [] ds h = omega arith
few_nodes (n ∷ ns) [] h = omega arith
few_nodes (n ∷ ns) (d ∷ ds) h = let rest = few_nodes ns ds (other_scalars d ds h) in omega (arith, (first_scalar d ds h).single, rest)

not_deep : (ns : List (List ℕ)) (ds : List Datum) → All IsScalar ds → entries_depth (entries_of (zip ns ds)) ≤ 1
not_deep [] ds h = omega arith
not_deep (n ∷ ns) [] h = omega arith
not_deep (n ∷ ns) (d ∷ ds) h = let rest = not_deep ns ds (other_scalars d ds h) in omega (arith, (first_scalar d ds h).flat, rest)

parts : (d : Datum) → is_value d ≡ true → (numbers_in_range d ≡ true) × (names_distinct d ≡ true)
parts d h =
    let p = both (keeps_limits d) (names_distinct d) h in
    ((both (numbers_in_range d) (keeps_size d) p.0).0, p.1)

in_range : (ns : List (List ℕ)) (ds : List Datum) → All IsScalar ds → entries_in_range (entries_of (zip ns ds)) ≡ true
in_range [] ds h = refl
in_range (n ∷ ns) [] h = refl
in_range (n ∷ ns) (d ∷ ds) h = ap₂ (λ a b. a && b) (parts d (first_scalar d ds h).lawful).0 (in_range ns ds (other_scalars d ds h))

distinct_within : (ns : List (List ℕ)) (ds : List Datum) → All IsScalar ds → entries_distinct (entries_of (zip ns ds)) ≡ true
distinct_within [] ds h = refl
distinct_within (n ∷ ns) [] h = refl
distinct_within (n ∷ ns) (d ∷ ds) h = ap₂ (λ a b. a && b) (parts d (first_scalar d ds h).lawful).1 (distinct_within ns ds (other_scalars d ds h))

neither : (a b : Bool) → (a || b) ≡ false → (a ≡ false) × (b ≡ false)
neither true b h = cc
neither false b h = (refl, h)

negated : (b : Bool) → not b ≡ true → b ≡ false
negated true h = cc
negated false h = refl

not_named : (n : List ℕ) (ns : List (List ℕ)) (ds : List Datum) → is_among ns n ≡ false → has_name n (entries_of (zip ns ds)) ≡ false
not_named n [] ds h = refl
not_named n (m ∷ ns) [] h = refl
not_named n (m ∷ ns) (d ∷ ds) h =
    let p = neither (bytes_eq n m) (is_among ns n) h in
    ap₂ (λ a b. a || b) p.0 (not_named n ns ds p.1)

-- values under distinct names
pub differ : (ns : List (List ℕ)) (ds : List Datum) → are_distinct ns ≡ true → names_differ (entries_of (zip ns ds)) ≡ true
differ [] ds h = refl
differ (n ∷ ns) [] h = refl
differ (n ∷ ns) (d ∷ ds) h =
    let p = both (not (is_among ns n)) (are_distinct ns) h in
    ap₂ (λ a b. not a && b) (not_named n ns ds (negated (is_among ns n) p.0)) (differ ns ds p.1)

within : (a b : ℕ) → a ≤ b → nat_le a b ≡ true
within a b h = grind (arith, nat_tests)

scalars_fit : (ns : List (List ℕ)) (ds : List Datum) → are_distinct ns ≡ true → All IsScalar ds → length ds < 10000 → is_value (context (entries_of (zip ns ds))) ≡ true
scalars_fit ns ds h s few =
    let es = entries_of (zip ns ds) in
    let shallow : 1 + entries_depth es ≤ 100 = (let e = not_deep ns ds s in omega (arith, e)) in
    let small : 1 + entries_nodes es ≤ 10000 = (let e = few_nodes ns ds s in omega (arith, e, few)) in
    ap₂ (λ a b. a && b)
    (ap₂ (λ a b. a && b) (in_range ns ds s) (ap₂ (λ a b. a && b) (within (1 + entries_depth es) 100 shallow) (within (1 + entries_nodes es) 10000 small)))
    (ap₂ (λ a b. a && b) (differ ns ds h) (distinct_within ns ds s))

is_held : (d : Datum) → is_value d ≡ true → is_some (value_of (held d)) ≡ true
is_held d h = ap (λ b. is_some (value_of (if b then Is d else Limit))) h

by_names : (ns : List (List ℕ)) (ds : List Datum) → are_distinct ns ≡ true → All IsScalar ds → length ds < 10000 → is_some (value_of (one_or_context ns ds)) ≡ true
by_names [] ds h s few = is_held (context (entries_of (zip [] ds))) (scalars_fit [] ds h s few)
by_names (n ∷ []) [] h s few = is_held (context (entries_of (zip (n ∷ []) []))) (scalars_fit (n ∷ []) [] h s few)
by_names (n ∷ []) (d ∷ []) h s few = refl
by_names (n ∷ []) (d ∷ e ∷ ds) h s few = is_held (context (entries_of (zip (n ∷ []) (d ∷ e ∷ ds)))) (scalars_fit (n ∷ []) (d ∷ e ∷ ds) h s few)
by_names (n ∷ m ∷ ns) ds h s few = is_held (context (entries_of (zip (n ∷ m ∷ ns) ds))) (scalars_fit (n ∷ m ∷ ns) ds h s few)

-- values with no parts make an output
pub scalars_made : (os : List Output) (ds : List Datum) → are_distinct (names_of os) ≡ true → All IsScalar ds → length ds < 10000 → is_some (value_of (output_of (map column_view os) ds)) ≡ true
scalars_made os ds h s few = by_names (map (λ c. c.name) (map column_view os)) ds (ap are_distinct (names_same os) ∙ h) s few
