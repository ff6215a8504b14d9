-- What is told of a rule holds of whether it hits and of what it gives.
use Rattle.std.proofs.Common.{◌≡◌, refl, subst, ℕ, suc, List, [], ◌∷◌, length, map, Bool, true, false, ◌&&◌, ◌||◌, Option, None, Some, nat_eq, if◌then◌else◌, arith}
use Rattle.std.specs.List.{fold, list_all, zip}
use Rattle.std.specs.Option.{is_none}
use Rattle.std.proofs.lemmas.Bool.Decides.{nat_tests}
use Rattle.feel_value.specs.Datum.{Datum, null, context, Entries, entries_of}
use Rattle.feel_value.specs.Found.{value_of, ◌>>=◌, each, outcome_from}
use Rattle.feel_value.specs.Distinct.{are_distinct}
use Rattle.feel_value.specs.Limits.{is_value}
use Rattle.feel_value.specs.Outcome.{held}
use Rattle.feel_value.specs.declared.feel.Outcome.{Outcome}
use Rattle.feel_value.specs.declared.feel.Outcome.TheVariants.{Is, Limit}
use Rattle.feel_value.specs.declared.logic.Truth.TheVariants.{Yes, No, Unknown}
use Rattle.feel_text.specs.Expr.{Expr}
use Rattle.feel_text.specs.Meaning.{Bindings, den}
use Rattle.feel_text.specs.Satisfied.{Answer, Told, Broken, satisfied}
use Rattle.feel_text.specs.Tests.{Tests}
use Rattle.dmn_table.specs.Hits.{is_satisfied, does_hit, values_of, output_of, hit_of}
use Rattle.dmn_table.specs.Priority.{Hit, places_of}
use Rattle.dmn_table.specs.Result.{default_of, default_values, defaults}
use Rattle.dmn_table.specs.Table.{Column, Rule}
use Rattle.dmn_ranges.specs.Asking.{AllIn}
use Rattle.dmn_ranges.specs.Ranges.{Scope, Fits, covers, null_alone}
use Rattle.dmn_ranges.specs.Steps.{outcomes, given, no_parts, named_parts, context_of}
use Rattle.dmn_ranges.specs.Sizes.{no_size}
use Rattle.dmn_ranges.specs.Entries.{entry_answers}
use Rattle.dmn_ranges.specs.Tables.{surely, with_entry, ask_entry, rule_hits, some_context, shape_of, expr_parts, only, rule_gives, fallback_outcomes, fallback_parts, fallbacks, default_outcomes, column_outcomes, some_limit}
use Rattle.dmn_ranges.specs.declared.entries.Answers.{Answers}
use Rattle.dmn_ranges.specs.declared.outcomes.Outcomes.{Outcomes}
use Rattle.dmn_ranges.specs.declared.parts.Parts.{Parts}
use Rattle.dmn_ranges.specs.declared.rule.Hits.{Hits}
use Rattle.dmn_ranges.proofs.Formed.{PartsTold, each_told, named_covers}
use Rattle.dmn_ranges.proofs.Joins.{or_left, or_right, and_both}
use Rattle.dmn_ranges.proofs.Sizes.{any_keeps}
use Rattle.dmn_ranges.proofs.Sound.{sound}
use Rattle.dmn_ranges.proofs.SoundEntries.{answers, entry_told}

-- ---- inputs

abbrev pub InputsTold : List Outcomes → Option (List Datum) → Type 0
InputsTold os None = some_limit os ≡ true
InputsTold os (Some vs) = AllIn os vs

one_more : (o : Outcomes) (os : List Outcomes) (p : Outcome) (rest : Option (List Datum)) → covers o p ≡ true → InputsTold os rest → InputsTold (o ∷ os) (value_of p >>= λ y. rest >>= λ ys. Some (y ∷ ys))
one_more o os Limit rest h k = or_left o.limit (some_limit os) h
one_more o os (Is d) None h k = or_right o.limit (some_limit os) k
one_more o os (Is d) (Some vs) h k = (h, k)

pub inputs_told : (es : List Expr) (xs : Scope) (m : Bindings) → Fits xs m → InputsTold (column_outcomes xs es) (values_of m es)
inputs_told [] xs m h = tt
inputs_told (e ∷ es) xs m h = one_more (outcomes e xs) (column_outcomes xs es) (den e m) (values_of m es) (sound e xs m h) (inputs_told es xs m h)

-- ---- hits

-- whether this can become of a rule
abbrev pub becomes : Hits → Option Bool → Bool
becomes h None = h.limit
becomes h (Some true) = h.hit
becomes h (Some false) = h.miss

entry_step : (h : Hits) (a : Answers) (o : Option Bool) (p : Answer) → becomes h o ≡ true → answers a p ≡ true → becomes (with_entry h a) (o >>= λ b. is_satisfied p >>= λ y. Some (b && y)) ≡ true
entry_step h a None p k l = or_left h.limit a.limit k
entry_step h a (Some b) Broken k l = or_right h.limit a.limit l
entry_step h a (Some true) (Told Yes) k l = and_both h.hit a.truth.yes k l
entry_step h a (Some true) (Told No) k l = or_right h.miss (a.truth.no || a.truth.unknown) (or_left a.truth.no a.truth.unknown l)
entry_step h a (Some true) (Told Unknown) k l = or_right h.miss (a.truth.no || a.truth.unknown) (or_right a.truth.no a.truth.unknown l)
entry_step h a (Some false) (Told t) k l = or_left h.miss (a.truth.no || a.truth.unknown) k

-- whether all were met so far, and are from here on
abbrev asked : Option Bool → Option (List Bool) → Option Bool
asked o ys = o >>= λ b. ys >>= λ zs. Some (b && list_all (λ yes. yes) zs)

regroup : (o x : Option Bool) (zs : Option (List Bool)) → asked (o >>= λ b. x >>= λ y. Some (b && y)) zs ≡ asked o (x >>= λ y. zs >>= λ ys. Some (y ∷ ys))
regroup None x zs = refl
regroup (Some b) None zs = refl
regroup (Some true) (Some y) None = refl
regroup (Some false) (Some y) None = refl
regroup (Some true) (Some y) (Some ys) = refl
regroup (Some false) (Some y) (Some ys) = refl

becomes_along : (h : Hits) (o p : Option Bool) → o ≡ p → becomes h o ≡ true → becomes h p ≡ true
becomes_along h o p e k = let P : Option Bool → Type 0 = λ q. becomes h q ≡ true in subst P e k

none_left : (o : Option Bool) → o ≡ asked o (Some [])
none_left None = refl
none_left (Some true) = refl
none_left (Some false) = refl

entries_told : (ts : List Tests) (os : List Outcomes) (vs : List Datum) (xs : Scope) (m : Bindings) → Fits xs m → AllIn os vs → (h : Hits) (o : Option Bool) → becomes h o ≡ true
    → becomes (fold (ask_entry xs) h (zip ts os)) (asked o (each (λ p. is_satisfied (satisfied p.0 p.1 m)) (zip ts vs))) ≡ true
entries_told [] os vs xs m f all h o k = becomes_along h o (asked o (Some [])) (none_left o) k
entries_told (t ∷ ts) [] [] xs m f all h o k = becomes_along h o (asked o (Some [])) (none_left o) k
entries_told (t ∷ ts) [] (v ∷ vs) xs m f all h o k = absurd all
entries_told (t ∷ ts) (c ∷ os) [] xs m f all h o k = absurd all
entries_told (t ∷ ts) (c ∷ os) (v ∷ vs) xs m f all h o k =
    becomes_along (fold (ask_entry xs) (ask_entry xs h (t, c)) (zip ts os))
    (asked (o >>= λ b. is_satisfied (satisfied t v m) >>= λ y. Some (b && y)) (each (λ p. is_satisfied (satisfied p.0 p.1 m)) (zip ts vs)))
    (asked o (is_satisfied (satisfied t v m) >>= λ y. each (λ p. is_satisfied (satisfied p.0 p.1 m)) (zip ts vs) >>= λ ys. Some (y ∷ ys)))
    (regroup o (is_satisfied (satisfied t v m)) (each (λ p. is_satisfied (satisfied p.0 p.1 m)) (zip ts vs)))
    (entries_told ts os vs xs m f all.1 (ask_entry xs h (t, c)) (o >>= λ b. is_satisfied (satisfied t v m) >>= λ y. Some (b && y))
    (entry_step h (entry_answers c.range xs t) o (satisfied t v m) k (entry_told t c.range xs m v f all.0)))

pub rule_told : (r : Rule) (os : List Outcomes) (vs : List Datum) (xs : Scope) (m : Bindings) → Fits xs m → AllIn os vs → becomes (rule_hits xs (zip r.tests os)) (does_hit m vs r) ≡ true
rule_told r os vs xs m f all = entries_told r.tests os vs xs m f all surely (Some true) refl

-- ---- output entries

-- the hit that values make
abbrev made : List Column → Option (List Datum) → Option Hit
made cs values = values >>= λ vs. value_of (output_of cs vs) >>= λ output. Some (record { places = places_of cs vs; output = output })

-- what a hit gives
abbrev pub output_in : Option Hit → Outcome
output_in h = outcome_from (λ k. Is k.output) h

pub context_if : (es : Entries) (t : Bool) → is_value (context es) ≡ t → covers some_context (if t then Is (context es) else Limit) ≡ true
context_if es true e = any_keeps (context es) e
context_if es false e = refl

through_hit : (o : Outcomes) (h : Outcome) (places : List ℕ) → covers o h ≡ true → covers o (output_in (value_of h >>= λ output. Some (record { places = places; output = output }))) ≡ true
through_hit o (Is d) places h = h
through_hit o Limit places h = h

no_column : (p : Parts) (values : Option (List Datum)) → PartsTold no_size p values → covers (context_of (are_distinct []) p) (output_in (made [] values)) ≡ true
no_column p None told = or_left p.limit (named_parts (are_distinct []) p.size).limit told
no_column p (Some vs) told = through_hit (context_of (are_distinct []) p) (held (context (entries_of (zip [] vs)))) (places_of [] vs) (named_covers [] vs p told)

abbrev names_in : List Column → List (List ℕ)
names_in cs = map (λ k. k.name) cs

many_columns : (c d : Column) (cs : List Column) (p : Parts) (values : Option (List Datum)) → PartsTold no_size p values → covers (context_of (are_distinct (names_in (c ∷ d ∷ cs))) p) (output_in (made (c ∷ d ∷ cs) values)) ≡ true
many_columns c d cs p None told = or_left p.limit (named_parts (are_distinct (names_in (c ∷ d ∷ cs))) p.size).limit told
many_columns c d cs p (Some vs) told =
    through_hit (context_of (are_distinct (names_in (c ∷ d ∷ cs))) p) (held (context (entries_of (zip (names_in (c ∷ d ∷ cs)) vs)))) (places_of (c ∷ d ∷ cs) vs) (named_covers (names_in (c ∷ d ∷ cs)) vs p told)

many_values : (c : Column) (p q : Outcome) (rest : Option (List Datum)) → covers some_context (output_in (made (c ∷ []) (value_of p >>= λ y. (value_of q >>= λ z. rest >>= λ zs. Some (z ∷ zs)) >>= λ ys. Some (y ∷ ys)))) ≡ true
many_values c Limit q rest = refl
many_values c (Is d) Limit rest = refl
many_values c (Is d) (Is e) None = refl
many_values c (Is d) (Is e) (Some zs) =
    let es : Entries = entries_of (zip (c.name ∷ []) (d ∷ e ∷ zs)) in
    through_hit some_context (held (context es)) (places_of (c ∷ []) (d ∷ e ∷ zs)) (context_if es (is_value (context es)) refl)

one_value : (c : Column) (o : Outcomes) (p : Outcome) → covers o p ≡ true → covers o (output_in (made (c ∷ []) (value_of p >>= λ y. Some (y ∷ [])))) ≡ true
one_value c o (Is d) h = h
one_value c o Limit h = h

only_told : (c : Column) (es : List Expr) (xs : Scope) (m : Bindings) → Fits xs m → covers (only xs es) (output_in (made (c ∷ []) (values_of m es))) ≡ true
only_told c [] xs m h = refl
only_told c (e ∷ []) xs m h = one_value c (outcomes e xs) (den e m) (sound e xs m h)
only_told c (e ∷ f ∷ es) xs m h = many_values c (den e m) (den f m) (values_of m es)

several : (n : ℕ) → nat_eq (suc (suc n)) 1 ≡ false
several n = grind (arith, nat_tests)

single_by : (t : Bool) (o p : Outcomes) (x : Outcome) → t ≡ false → covers p x ≡ true → covers (if t then o else p) x ≡ true
single_by true o p x e h = cc
single_by false o p x e h = h

pub gives_told : (cs : List Column) (r : Rule) (xs : Scope) (m : Bindings) → Fits xs m → covers (rule_gives (shape_of cs) xs r.gives) (output_in (hit_of cs m r)) ≡ true
gives_told [] r xs m h = no_column (expr_parts xs r.gives) (values_of m r.gives) (each_told (λ e. outcomes e xs) (λ e. den e m) (λ e. sound e xs m h) r.gives no_parts)
gives_told (c ∷ []) r xs m h = only_told c r.gives xs m h
gives_told (c ∷ d ∷ cs) r xs m h =
    single_by (nat_eq (length (c ∷ d ∷ cs)) 1) (only xs r.gives) (context_of (are_distinct (names_in (c ∷ d ∷ cs))) (expr_parts xs r.gives)) (output_in (hit_of (c ∷ d ∷ cs) m r)) (several (length cs))
    (many_columns c d cs (expr_parts xs r.gives) (values_of m r.gives) (each_told (λ e. outcomes e xs) (λ e. den e m) (λ e. sound e xs m h) r.gives no_parts))

-- ---- defaults

fallback_told : (o : Option Expr) (xs : Scope) (m : Bindings) → Fits xs m → covers (fallback_outcomes xs o) (default_of m o) ≡ true
fallback_told None xs m h = refl
fallback_told (Some e) xs m h = sound e xs m h

one_default : (c : Column) (o : Outcomes) (p : Outcome) → covers o p ≡ true → covers o (outcome_from (output_of (c ∷ [])) (value_of p >>= λ y. Some (y ∷ []))) ≡ true
one_default c o (Is d) h = h
one_default c o Limit h = h

many_defaults : (c d : Column) (cs : List Column) (p : Parts) (values : Option (List Datum)) → PartsTold no_size p values → covers (context_of (are_distinct (names_in (c ∷ d ∷ cs))) p) (outcome_from (output_of (c ∷ d ∷ cs)) values) ≡ true
many_defaults c d cs p None told = or_left p.limit (named_parts (are_distinct (names_in (c ∷ d ∷ cs))) p.size).limit told
many_defaults c d cs p (Some vs) told = named_covers (names_in (c ∷ d ∷ cs)) vs p told

fallbacks_told : (cs : List Column) (xs : Scope) (m : Bindings) → Fits xs m → covers (fallbacks (are_distinct (names_in cs)) xs cs) (outcome_from (output_of cs) (default_values cs m)) ≡ true
fallbacks_told [] xs m h = refl
fallbacks_told (c ∷ []) xs m h = one_default c (fallback_outcomes xs c.fallback) (default_of m c.fallback) (fallback_told c.fallback xs m h)
fallbacks_told (c ∷ d ∷ cs) xs m h =
    many_defaults c d cs (fallback_parts xs (c ∷ d ∷ cs)) (default_values (c ∷ d ∷ cs) m)
    (each_told (λ (k : Column). fallback_outcomes xs k.fallback) (λ (k : Column). default_of m k.fallback) (λ (k : Column). fallback_told k.fallback xs m h) (c ∷ d ∷ cs) no_parts)

default_by : (t : Bool) (o : Outcomes) (p : Outcome) → covers o p ≡ true → covers (if t then given null_alone else o) (if t then Is null else p) ≡ true
default_by true o p h = refl
default_by false o p h = h

pub defaults_told : (cs : List Column) (xs : Scope) (m : Bindings) → Fits xs m → covers (default_outcomes (shape_of cs).distinct xs cs) (defaults cs m) ≡ true
defaults_told cs xs m h =
    default_by (list_all (λ c. is_none c.fallback) cs) (fallbacks (are_distinct (names_in cs)) xs cs) (outcome_from (output_of cs) (default_values cs m)) (fallbacks_told cs xs m h)
