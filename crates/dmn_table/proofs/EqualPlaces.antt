-- The hits of a table have a place for each of its output columns.
use Rattle.std.proofs.Common.{eq-eqb, ◌≡◌, ℕ, zero, suc, ◌<◌, List, [], ◌∷◌, map, length, refl, sym, ap, ◌∙◌, subst, arith, Bool, true, false, ◌&&◌, Option, Some, None}
use Rattle.std.specs.Prelude.{⊤, nat_eq, nat_lt, slice_index_or}
use Rattle.std.specs.Arc.{arc_str_bytes}
use Rattle.std.specs.List.{AllPairs, list_all}
use Rattle.std.proofs.lemmas.Option.{same_Some}
use Rattle.std.proofs.lemmas.List.{length-map}
use Rattle.std.proofs.lemmas.Bool.Decides.{nat_tests}
use Rattle.feel_value.specs.Datum.{Datum}
use Rattle.feel_text.specs.Meaning.{Bindings}
use Rattle.dmn_table.specs.declared.priority.Hit as hit
use Rattle.dmn_table.specs.declared.table.Output.{Output}
use Rattle.dmn_table.specs.declared.table.Rule as rule
use Rattle.feel_value.specs.Found.{each, ◌>>=◌, value_of}
use Rattle.dmn_table.specs.RuleOutputs.{hits_among, have_entries}
use Rattle.dmn_table.proofs.Each.{each_length}
use Rattle.dmn_table.specs.Faults.{columns_fit, fits_columns}
use Rattle.feel_value.specs.Distinct.{are_distinct}
use Rattle.dmn_table.specs.Hits.{does_hit, hit_of, kept, values_of, output_of}
use Rattle.dmn_table.specs.Parts.{column_view, rule_view, names_of, entry_counts}
use Rattle.dmn_table.specs.Priority.{Hit, places_of}
use Rattle.dmn_table.specs.Table.{Column, Rule}
use Rattle.dmn_table.specs.View.{hit_view}

pub and_second : (a b : Bool) → (a && b) ≡ true → b ≡ true
and_second true b e = e
and_second false b e = cc

pub and_first : (a b : Bool) → (a && b) ≡ true → a ≡ true
and_first true b e = refl
and_first false b e = cc

places_length : (cs : List Column) (values : List Datum) → length values ≡ length cs → length (places_of cs values) ≡ length cs
places_length [] values e = refl
places_length (c ∷ cs) [] e = cc
places_length (c ∷ cs) (v ∷ values) e = ap suc (places_length cs values (omega arith))

pub hit_length : (cs : List Column) (m : Bindings) (r : Rule) (h : Hit) → length r.gives ≡ length cs → hit_of cs m r ≡ Some h → length h.places ≡ length cs
hit_length cs m r h fits e = from_values (values_of m r.gives) refl e
  where
    from_output : (ds : List Datum) → length ds ≡ length cs → (o : Option Datum) → (o >>= λ output. Some (record { places = places_of cs ds; output = output })) ≡ Some h → length h.places ≡ length cs
    from_output ds l None e = cc
    from_output ds l (Some d) e = sym (ap (λ (x : Hit). length x.places) (same_Some _ _ e)) ∙ places_length cs ds l

    from_values : (o : Option (List Datum)) → values_of m r.gives ≡ o → (o >>= λ ds. value_of (output_of cs ds) >>= λ output. Some (record { places = places_of cs ds; output = output })) ≡ Some h → length h.places ≡ length cs
    from_values None f e = cc
    from_values (Some ds) f e = from_output ds (each_length _ r.gives ds f ∙ fits) (value_of (output_of cs ds)) e

abbrev pub EachGives : ℕ → List Rule → Type 0
EachGives n [] = ⊤
EachGives n (r ∷ rs) = (length r.gives ≡ n) × EachGives n rs

abbrev pub EachPlaced : ℕ → List Hit → Type 0
EachPlaced n [] = ⊤
EachPlaced n (h ∷ hs) = (length h.places ≡ n) × EachPlaced n hs

kept_gives : (n : ℕ) (rs : List Rule) (answers : List Bool) → EachGives n rs → EachGives n (kept rs answers)
kept_gives n [] answers g = tt
kept_gives n (r ∷ rs) [] g = tt
kept_gives n (r ∷ rs) (true ∷ answers) g = (g.0, kept_gives n rs answers g.1)
kept_gives n (r ∷ rs) (false ∷ answers) g = kept_gives n rs answers g.1

pub each_placed : (cs : List Column) (m : Bindings) (rs : List Rule) (hs : List Hit) → EachGives (length cs) rs → each (hit_of cs m) rs ≡ Some hs → EachPlaced (length cs) hs
each_placed cs m [] hs g e = subst (EachPlaced (length cs)) (same_Some _ _ e) tt
each_placed cs m (r ∷ rs) hs g e = go (hit_of cs m r) refl (each (hit_of cs m) rs) (λ more f. each_placed cs m rs more g.1 f) e
  where
    go : (o : Option Hit) → hit_of cs m r ≡ o → (p : Option (List Hit)) → ((more : List Hit) → p ≡ Some more → EachPlaced (length cs) more) → (o >>= λ h. p >>= λ more. Some (h ∷ more)) ≡ Some hs → EachPlaced (length cs) hs
    go None f p later e = cc
    go (Some h) f None later e = cc
    go (Some h) f (Some more) later e = subst (EachPlaced (length cs)) (same_Some _ _ e) (hit_length cs m r h g.0 f, later more refl)

gives_fit : (inputs outputs : ℕ) (rules : List rule.Rule) → list_all (fits_columns inputs outputs) (entry_counts rules) ≡ true → EachGives outputs (map rule_view rules)
gives_fit inputs outputs [] e = tt
gives_fit inputs outputs (r ∷ rs) e =
    let one : fits_columns inputs outputs (length r.tests.items, length r.gives.items) ≡ true = and_first _ (list_all (fits_columns inputs outputs) (entry_counts rs)) e in
    let same : nat_eq (length r.gives.items) outputs ≡ true = and_second (nat_eq (length r.tests.items) inputs) _ one in
    let count : length r.gives.items ≡ outputs = grind (arith, nat_tests) in
    (count, gives_fit inputs outputs rs (and_second _ (list_all (fits_columns inputs outputs) (entry_counts rs)) e))

placed_at : (n : ℕ) (hs : List hit.Hit) → EachPlaced n (map hit_view hs) → (j : ℕ) (d : hit.Hit) → j < length hs → length (slice_index_or hs j d).places.items ≡ n
placed_at n [] g j d l = absurd (omega arith)
placed_at n (h ∷ hs) g zero d l = g.0
placed_at n (h ∷ hs) g (suc j) d l = placed_at n hs g.1 j d (omega arith)

each_have : (n : ℕ) (rs : List Rule) → EachGives n rs → have_entries n rs ≡ true
each_have n [] g = refl
each_have n (r ∷ rs) g =
    let one : nat_eq (length r.gives) n ≡ true = eq-eqb _ _ g.0 in
    ap (λ b. b && have_entries n rs) one ∙ each_have n rs g.1

pub have_each : (n : ℕ) (rs : List Rule) → have_entries n rs ≡ true → EachGives n rs
have_each n [] e = tt
have_each n (r ∷ rs) e =
    let one : nat_eq (length r.gives) n ≡ true = and_first _ (have_entries n rs) e in
    let count : length r.gives ≡ n = grind (arith, nat_tests) in
    (count, have_each n rs (and_second (nat_eq (length r.gives) n) _ e))

-- the rules that hit have an entry for each output, where all rules fit the columns
pub entries_of_hits : (inputs : ℕ) (os : List Output) (rules : List rule.Rule) (m : Bindings) (values : List Datum) (hits : List Rule) → columns_fit inputs (names_of os) (entry_counts rules) ≡ true
    → Some hits ≡ hits_among m values (map rule_view rules) → have_entries (length os) hits ≡ true
entries_of_hits inputs os rules m values hits fits found = go (each (does_hit m values) (map rule_view rules)) found
  where
    gives : EachGives (length os) (map rule_view rules)
    gives =
        let n = length (names_of os) in
        let all : list_all (fits_columns inputs n) (entry_counts rules) ≡ true = and_second (nat_lt 0 n && are_distinct (names_of os)) _ fits in
        subst (λ k. EachGives k (map rule_view rules)) (length-map os (λ o. arc_str_bytes o.name)) (gives_fit inputs n rules all)

    go : (o : Option (List Bool)) → Some hits ≡ (o >>= λ answers. Some (kept (map rule_view rules) answers)) → have_entries (length os) hits ≡ true
    go None e = cc
    go (Some answers) e = ap (have_entries (length os)) (same_Some _ _ e) ∙ each_have (length os) _ (kept_gives (length os) (map rule_view rules) answers gives)

-- each rule has an entry for each output column, where all rules fit the columns
pub rules_have_entries : (inputs : ℕ) (os : List Output) (rules : List rule.Rule) → columns_fit inputs (names_of os) (entry_counts rules) ≡ true → have_entries (length (map column_view os)) (map rule_view rules) ≡ true
rules_have_entries inputs os rules fits =
    let n = length (names_of os) in
    let all : list_all (fits_columns inputs n) (entry_counts rules) ≡ true = and_second (nat_lt 0 n && are_distinct (names_of os)) _ fits in
    let count : n ≡ length (map column_view os) = length-map os (λ o. arc_str_bytes o.name) ∙ sym (length-map os column_view) in
    ap (λ k. have_entries k (map rule_view rules)) (sym count) ∙ each_have n (map rule_view rules) (gives_fit inputs n rules all)

-- the names of columns that fit are distinct
pub fitting_distinct : (inputs : ℕ) (os : List Output) (counts : List (ℕ × ℕ)) → columns_fit inputs (names_of os) counts ≡ true → are_distinct (names_of os) ≡ true
fitting_distinct inputs os counts fits =
    let n = length (names_of os) in
    and_second (nat_lt 0 n) (are_distinct (names_of os)) (and_first (nat_lt 0 n && are_distinct (names_of os)) (list_all (fits_columns inputs n) counts) fits)

-- what is found for rules that have an entry for each output
pub equal_places : (os : List Output) (rules : List Rule) (m : Bindings) (hs : List hit.Hit) → have_entries (length os) rules ≡ true
    → Some (map hit_view hs) ≡ each (hit_of (map column_view os) m) rules
    → AllPairs (λ h k. length h.places.items ≡ length k.places.items) hs
equal_places os rules m hs fits found i j d below l =
    let gives : EachGives (length (map column_view os)) rules = subst (λ k. EachGives k rules) (sym (length-map os column_view)) (have_each (length os) rules fits) in
    let placed = each_placed (map column_view os) m rules (map hit_view hs) gives (sym found) in
    placed_at _ hs placed i d (omega arith) ∙ sym (placed_at _ hs placed j d l)
