-- What is told of rules together holds of the outputs of those that hit.
use Rattle.std.proofs.Common.{◌≡◌, ◌∙◌, refl, sym, ap, subst, ℤ, pos, ◌+ℤ◌, List, [], ◌∷◌, ◌++◌, map, append_assoc, append-nil, Bool, true, false, ◌&&◌, ◌||◌, Option, None, Some, if◌then◌else◌, arith}
use Rattle.std.specs.Prelude.{int_le}
use Rattle.std.specs.List.{fold, list_all, zip}
use Rattle.std.proofs.lemmas.Int.{ints}
use Rattle.feel_value.specs.Datum.{Datum, null, boolean, number, text, list, context}
use Rattle.feel_value.specs.Found.{◌>>=◌, each}
use Rattle.feel_value.specs.Limits.{in_range}
use Rattle.feel_text.specs.Meaning.{Bindings}
use Rattle.dmn_table.specs.Hits.{does_hit, kept, hit_of}
use Rattle.dmn_table.specs.Priority.{Hit}
use Rattle.dmn_table.specs.Result.{number_in}
use Rattle.dmn_table.specs.Table.{Column, Rule}
use Rattle.dmn_ranges.specs.Asking.{AllIn}
use Rattle.dmn_ranges.specs.Numbers.{sum}
use Rattle.dmn_ranges.specs.Ranges.{Scope, Fits, inside, within, lies_in, covers}
use Rattle.dmn_ranges.specs.Tables.{or_zero, zero_alone, share, unless_past, plus, joined_if, blank, tally_with, tally_rule, tally_rules, rule_hits, rule_gives}
use Rattle.dmn_ranges.specs.declared.bounded.Bounded.{Bounded}
use Rattle.dmn_ranges.specs.declared.interval.Interval.{Interval}
use Rattle.dmn_ranges.specs.declared.outcomes.Outcomes.{Outcomes}
use Rattle.dmn_ranges.specs.declared.range.Range.{Range}
use Rattle.dmn_ranges.specs.declared.rule.Hits.{Hits}
use Rattle.dmn_ranges.specs.declared.rule.Shape.{Shape}
use Rattle.dmn_ranges.specs.declared.tally.Tally.{Tally}
use Rattle.dmn_ranges.proofs.Forms.{joined_one, joined_other}
use Rattle.dmn_ranges.proofs.Intervals.{Met, sum_met, le_trans, low_of, high_of, least_one, least_other, greatest_one, greatest_other}
use Rattle.dmn_ranges.proofs.Joins.{or_left, or_right, and_both}
use Rattle.dmn_ranges.proofs.SoundRules.{becomes, output_in, rule_told}

-- ---- sums

-- the sum of these, behind another number, where all are numbers
abbrev pub total_of : ℤ → List Datum → Option ℤ
total_of z [] = Some z
total_of z (d ∷ ds) = number_in d >>= λ w. total_of (z +ℤ w) ds

abbrev pub sums_to : Option Interval → ℤ → Bool
sums_to None z = true
sums_to (Some i) z = inside i z

total_more : (z : ℤ) (ds : List Datum) (d : Datum) → total_of z (ds ++ d ∷ []) ≡ (total_of z ds >>= λ y. number_in d >>= λ w. Some (y +ℤ w))
total_more z [] d = refl
total_more z (number w ∷ ds) d = total_more (z +ℤ w) ds d
total_more z (null ∷ ds) d = refl
total_more z (boolean b ∷ ds) d = refl
total_more z (text s ∷ ds) d = refl
total_more z (list es ∷ ds) d = refl
total_more z (context es ∷ ds) d = refl

inside_by : (l : Bool) (b : Bounded) (z : ℤ) (r : Bool) → in_range z ≡ r → Met b z → b.limit ≡ l → sums_to (if l then None else Some b.numbers) z ≡ true
inside_by true b z r e met q = refl
inside_by false b z true e met q = met.0 e
inside_by false b z false e met q = let past : b.limit ≡ true = met.1 e in cc

inside_if : (b : Bounded) (z : ℤ) → Met b z → sums_to (unless_past b) z ≡ true
inside_if b z met = inside_by b.limit b z (in_range z) refl met refl

plus_told : (o : Option Interval) (i : Interval) (y w : ℤ) → sums_to o y ≡ true → inside i w ≡ true → sums_to (plus o i) (y +ℤ w) ≡ true
plus_told None i y w h k = refl
plus_told (Some x) i y w h k = inside_if (sum x i) (y +ℤ w) (sum_met x i y w h k)

number_or_zero : (x : Interval) (w : ℤ) → inside x w ≡ true → inside (or_zero x) w ≡ true
number_or_zero x w h =
    and_both (int_le (or_zero x).low w) (int_le w (or_zero x).high)
    (le_trans (or_zero x).low x.low w (least_one x.low (pos 0)) (low_of x w h))
    (le_trans w x.high (or_zero x).high (high_of x w h) (greatest_one x.high (pos 0)))

zero_or_zero : (x : Interval) → inside (or_zero x) (pos 0) ≡ true
zero_or_zero x = and_both (int_le (or_zero x).low (pos 0)) (int_le (pos 0) (or_zero x).high) (least_other x.low (pos 0)) (greatest_other x.high (pos 0))

-- a rule that hits adds a number of its share
share_of_hit : (hit miss limit : Bool) (o : Option Interval) (w : ℤ) → hit ≡ true → within o w ≡ true → inside (share (record { hit = hit; miss = miss; limit = limit }) o) w ≡ true
share_of_hit hit miss limit None w e h = cc
share_of_hit true true limit (Some x) w e h = number_or_zero x w h
share_of_hit true false limit (Some x) w e h = h
share_of_hit false miss limit (Some x) w e h = cc

-- a rule that misses adds nothing
share_of_miss : (hit miss limit : Bool) (o : Option Interval) → miss ≡ true → inside (share (record { hit = hit; miss = miss; limit = limit }) o) (pos 0) ≡ true
share_of_miss hit miss limit None e = refl
share_of_miss true true limit (Some x) e = zero_or_zero x
share_of_miss true false limit (Some x) e = cc
share_of_miss false miss limit (Some x) e = refl

add_nothing : (z : ℤ) → z +ℤ pos 0 ≡ z
add_nothing z = grind (arith, ints)

-- ---- what is told of outputs

abbrev pub first_told : Tally → List Datum → Bool
first_told t [] = t.may_be_none
first_told t (d ∷ ds) = lies_in t.first d

abbrev pub some_told : Tally → List Datum → Bool
some_told t [] = true
some_told t (d ∷ ds) = t.may_be_some

abbrev pub several_told : Tally → List Datum → Bool
several_told t [] = true
several_told t (d ∷ []) = true
several_told t (d ∷ e ∷ ds) = t.may_be_several

pub record Tells (t : Tally) (ds : List Datum) : Type 0 where
  pub outputs : list_all (lies_in t.outputs) ds ≡ true
  pub first : first_told t ds ≡ true
  pub some : some_told t ds ≡ true
  pub several : several_told t ds ≡ true
  pub total : (z : ℤ) → total_of (pos 0) ds ≡ Some z → sums_to t.total z ≡ true

-- ---- one rule more

joined_if_one : (b : Bool) (r s : Range) (d : Datum) → lies_in r d ≡ true → lies_in (joined_if b r s) d ≡ true
joined_if_one true r s d h = joined_one r s d h
joined_if_one false r s d h = h

joined_if_other : (b : Bool) (r s : Range) (d : Datum) → b ≡ true → lies_in s d ≡ true → lies_in (joined_if b r s) d ≡ true
joined_if_other true r s d e h = joined_other r s d h
joined_if_other false r s d e h = cc

all_joined_by : (b : Bool) (r s : Range) (d : Datum) (ds : List Datum) (t : Bool) → lies_in r d ≡ t → (t && list_all (lies_in r) ds) ≡ true → (list_all (lies_in r) ds ≡ true → list_all (lies_in (joined_if b r s)) ds ≡ true) → list_all (lies_in (joined_if b r s)) (d ∷ ds) ≡ true
all_joined_by b r s d ds true e h k = and_both (lies_in (joined_if b r s) d) (list_all (lies_in (joined_if b r s)) ds) (joined_if_one b r s d e) (k h)
all_joined_by b r s d ds false e h k = cc

all_joined : (b : Bool) (r s : Range) (ds : List Datum) → list_all (lies_in r) ds ≡ true → list_all (lies_in (joined_if b r s)) ds ≡ true
all_joined b r s [] h = refl
all_joined b r s (d ∷ ds) h = all_joined_by b r s d ds (lies_in r d) refl h (λ l. all_joined b r s ds l)

all_more_here : (p q s : Bool) → (p && q) ≡ true → (q ≡ true → s ≡ true) → (p && s) ≡ true
all_more_here true q s h k = k h
all_more_here false q s h k = cc

all_more : (r : Range) (ds : List Datum) (e : Datum) → list_all (lies_in r) ds ≡ true → lies_in r e ≡ true → list_all (lies_in r) (ds ++ e ∷ []) ≡ true
all_more r [] e h k = and_both (lies_in r e) true k refl
all_more r (d ∷ ds) e h k = all_more_here (lies_in r d) (list_all (lies_in r) ds) (list_all (lies_in r) (ds ++ e ∷ [])) h (λ l. all_more r ds e l k)

hit_first : (t : Tally) (o : Outcomes) (h : Hits) (ds : List Datum) (d : Datum) → h.hit ≡ true → lies_in o.range d ≡ true → first_told t ds ≡ true → first_told (tally_with t h o) (ds ++ d ∷ []) ≡ true
hit_first t o h [] d e k l = joined_if_other (h.hit && t.may_be_none) t.first o.range d (and_both h.hit t.may_be_none e l) k
hit_first t o h (c ∷ ds) d e k l = joined_if_one (h.hit && t.may_be_none) t.first o.range c l

hit_some : (t : Tally) (o : Outcomes) (h : Hits) (ds : List Datum) (d : Datum) → h.hit ≡ true → some_told (tally_with t h o) (ds ++ d ∷ []) ≡ true
hit_some t o h [] d e = or_right t.may_be_some h.hit e
hit_some t o h (c ∷ ds) d e = or_right t.may_be_some h.hit e

hit_several : (t : Tally) (o : Outcomes) (h : Hits) (ds : List Datum) (d : Datum) → h.hit ≡ true → some_told t ds ≡ true → several_told t ds ≡ true → several_told (tally_with t h o) (ds ++ d ∷ []) ≡ true
hit_several t o h [] d e k l = refl
hit_several t o h (b ∷ []) d e k l = or_right t.may_be_several (t.may_be_some && h.hit) (and_both t.may_be_some h.hit k e)
hit_several t o h (b ∷ c ∷ ds) d e k l = or_left t.may_be_several (t.may_be_some && h.hit) l

hit_total_by : (t : Option Interval) (s : Option Interval) (h : Hits) (d : Datum) (before : Option ℤ) (z : ℤ) → h.hit ≡ true → ((w : ℤ) → d ≡ number w → within s w ≡ true) → ((y : ℤ) → before ≡ Some y → sums_to t y ≡ true)
    → (before >>= λ y. number_in d >>= λ w. Some (y +ℤ w)) ≡ Some z → sums_to (plus t (share h s)) z ≡ true
hit_total_by t s h d None z e k l q = cc
hit_total_by t s h (number w) (Some y) z e k l q =
    let same : y +ℤ w ≡ z = cc in
    let P : ℤ → Type 0 = λ x. sums_to (plus t (share h s)) x ≡ true in
    subst P same (plus_told t (share h s) y w (l y refl) (share_of_hit h.hit h.miss h.limit s w e (k w refl)))
hit_total_by t s h null (Some y) z e k l q = cc
hit_total_by t s h (boolean b) (Some y) z e k l q = cc
hit_total_by t s h (text x) (Some y) z e k l q = cc
hit_total_by t s h (list es) (Some y) z e k l q = cc
hit_total_by t s h (context es) (Some y) z e k l q = cc

number_here : (r : Range) (d : Datum) (w : ℤ) → lies_in r d ≡ true → d ≡ number w → within r.numbers w ≡ true
number_here r d w h e = let P : Datum → Type 0 = λ c. lies_in r c ≡ true in subst P e h

hit_told : (t : Tally) (h : Hits) (o : Outcomes) (ds : List Datum) (d : Datum) → Tells t ds → h.hit ≡ true → lies_in o.range d ≡ true → Tells (tally_with t h o) (ds ++ d ∷ [])
hit_told t h o ds d tells e k = record {
  outputs = all_more (joined_if h.hit t.outputs o.range) ds d (all_joined h.hit t.outputs o.range ds tells.outputs) (joined_if_other h.hit t.outputs o.range d e k);
  first = hit_first t o h ds d e k tells.first;
  some = hit_some t o h ds d e;
  several = hit_several t o h ds d e tells.some tells.several;
  total = λ z q. hit_total_by t.total o.range.numbers h d (total_of (pos 0) ds) z e (λ w same. number_here o.range d w k same) tells.total (sym (total_more (pos 0) ds d) ∙ q);
}

miss_first : (t : Tally) (o : Outcomes) (h : Hits) (ds : List Datum) → h.miss ≡ true → first_told t ds ≡ true → first_told (tally_with t h o) ds ≡ true
miss_first t o h [] e l = and_both t.may_be_none h.miss l e
miss_first t o h (c ∷ ds) e l = joined_if_one (h.hit && t.may_be_none) t.first o.range c l

miss_some : (t : Tally) (o : Outcomes) (h : Hits) (ds : List Datum) → some_told t ds ≡ true → some_told (tally_with t h o) ds ≡ true
miss_some t o h [] l = refl
miss_some t o h (c ∷ ds) l = or_left t.may_be_some h.hit l

miss_several : (t : Tally) (o : Outcomes) (h : Hits) (ds : List Datum) → several_told t ds ≡ true → several_told (tally_with t h o) ds ≡ true
miss_several t o h [] l = refl
miss_several t o h (b ∷ []) l = refl
miss_several t o h (b ∷ c ∷ ds) l = or_left t.may_be_several (t.may_be_some && h.hit) l

miss_total : (t s : Option Interval) (h : Hits) (z : ℤ) → h.miss ≡ true → sums_to t z ≡ true → sums_to (plus t (share h s)) z ≡ true
miss_total t s h z e k =
    let P : ℤ → Type 0 = λ x. sums_to (plus t (share h s)) x ≡ true in
    subst P (add_nothing z) (plus_told t (share h s) z (pos 0) k (share_of_miss h.hit h.miss h.limit s e))

miss_told : (t : Tally) (h : Hits) (o : Outcomes) (ds : List Datum) → Tells t ds → h.miss ≡ true → Tells (tally_with t h o) ds
miss_told t h o ds tells e = record {
  outputs = all_joined h.hit t.outputs o.range ds tells.outputs;
  first = miss_first t o h ds e tells.first;
  some = miss_some t o h ds tells.some;
  several = miss_several t o h ds tells.several;
  total = λ z q. miss_total t.total o.range.numbers h z e (tells.total z q);
}

-- ---- the rules along

-- what is told of the outputs that were found, or that a limit was broken
abbrev pub FoundTold : Tally → Option (List Datum) → Type 0
FoundTold t None = t.limit ≡ true
FoundTold t (Some ds) = Tells t ds

abbrev pub outputs_of_hits : List Hit → List Datum
outputs_of_hits hs = map (λ h. h.output) hs

-- the outputs so far, behind which one rule gives its output if it hits
abbrev next : List Datum → Option Bool → Option Hit → Option (List Datum)
next ds None k = None
next ds (Some true) None = None
next ds (Some true) (Some k) = Some (ds ++ k.output ∷ [])
next ds (Some false) k = Some ds

rule_more : (t : Tally) (h : Hits) (o : Outcomes) (found : Option (List Datum)) (b : Option Bool) (k : Option Hit) → FoundTold t found → becomes h b ≡ true → covers o (output_in k) ≡ true → FoundTold (tally_with t h o) (found >>= λ ds. next ds b k)
rule_more t h o None b k f i j = or_left t.limit (h.limit || (h.hit && o.limit)) f
rule_more t h o (Some ds) None k f i j = or_right t.limit (h.limit || (h.hit && o.limit)) (or_left h.limit (h.hit && o.limit) i)
rule_more t h o (Some ds) (Some true) None f i j = or_right t.limit (h.limit || (h.hit && o.limit)) (or_right h.limit (h.hit && o.limit) (and_both h.hit o.limit i j))
rule_more t h o (Some ds) (Some true) (Some k) f i j = hit_told t h o ds k.output f i j
rule_more t h o (Some ds) (Some false) k f i j = miss_told t h o ds f i

-- the hits of these rules
abbrev pub hits_among : Bindings → List Datum → List Column → List Rule → Option (List Hit)
hits_among m vs cs rs = each (does_hit m vs) rs >>= λ ys. each (hit_of cs m) (kept rs ys)

abbrev behind : Option (List Datum) → Option (List Hit) → Option (List Datum)
behind found hits = found >>= λ ds. hits >>= λ hs. Some (ds ++ outputs_of_hits hs)

hit_behind : (ds : List Datum) (k : Option Hit) (hits : Option (List Hit)) → behind (next ds (Some true) k) hits ≡ behind (Some ds) (k >>= λ h. hits >>= λ hs. Some (h ∷ hs))
hit_behind ds None hits = refl
hit_behind ds (Some h) None = refl
hit_behind ds (Some h) (Some hs) = ap Some (append_assoc ds (h.output ∷ []) (outputs_of_hits hs))

none_behind : (ds : List Datum) (k : Option Hit) → behind (next ds (Some true) k) None ≡ None
none_behind ds None = refl
none_behind ds (Some h) = refl

regroup : (m : Bindings) (cs : List Column) (r : Rule) (rs : List Rule) (found : Option (List Datum)) (b : Option Bool) (ys : Option (List Bool))
    → behind (found >>= λ ds. next ds b (hit_of cs m r)) (ys >>= λ zs. each (hit_of cs m) (kept rs zs)) ≡ behind found ((b >>= λ y. ys >>= λ zs. Some (y ∷ zs)) >>= λ zs. each (hit_of cs m) (kept (r ∷ rs) zs))
regroup m cs r rs None b ys = refl
regroup m cs r rs (Some ds) None ys = refl
regroup m cs r rs (Some ds) (Some false) None = refl
regroup m cs r rs (Some ds) (Some false) (Some zs) = refl
regroup m cs r rs (Some ds) (Some true) None = none_behind ds (hit_of cs m r)
regroup m cs r rs (Some ds) (Some true) (Some zs) = hit_behind ds (hit_of cs m r) (each (hit_of cs m) (kept rs zs))

found_along : (t : Tally) (o p : Option (List Datum)) → o ≡ p → FoundTold t o → FoundTold t p
found_along t o p e h = let P : Option (List Datum) → Type 0 = λ q. FoundTold t q in subst P e h

nothing_behind : (found : Option (List Datum)) → found ≡ behind found (Some [])
nothing_behind None = refl
nothing_behind (Some ds) = ap Some (sym (append-nil ds))

rules_along : (shape : Shape) (os : List Outcomes) (vs : List Datum) (cs : List Column) (xs : Scope) (m : Bindings) → Fits xs m → AllIn os vs
    → ((r : Rule) → covers (rule_gives shape xs r.gives) (output_in (hit_of cs m r)) ≡ true) → (rs : List Rule) (t : Tally) (found : Option (List Datum)) → FoundTold t found
    → FoundTold (fold (tally_rule shape os xs) t rs) (behind found (hits_among m vs cs rs))
rules_along shape os vs cs xs m f all gives [] t found h = found_along t found (behind found (Some [])) (nothing_behind found) h
rules_along shape os vs cs xs m f all gives (r ∷ rs) t found h =
    found_along (fold (tally_rule shape os xs) (tally_rule shape os xs t r) rs)
    (behind (found >>= λ ds. next ds (does_hit m vs r) (hit_of cs m r)) (hits_among m vs cs rs))
    (behind found (hits_among m vs cs (r ∷ rs)))
    (regroup m cs r rs found (does_hit m vs r) (each (does_hit m vs) rs))
    (rules_along shape os vs cs xs m f all gives rs (tally_rule shape os xs t r) (found >>= λ ds. next ds (does_hit m vs r) (hit_of cs m r))
    (rule_more t (rule_hits xs (zip r.tests os)) (rule_gives shape xs r.gives) found (does_hit m vs r) (hit_of cs m r) h (rule_told r os vs xs m f all) (gives r)))

nothing_told : Tells blank []
nothing_told = record {
  outputs = refl;
  first = refl;
  some = refl;
  several = refl;
  total = λ z q. (let same : pos 0 ≡ z = cc in let P : ℤ → Type 0 = λ x. inside zero_alone x ≡ true in subst P same refl);
}

pub rules_told : (shape : Shape) (os : List Outcomes) (vs : List Datum) (cs : List Column) (xs : Scope) (m : Bindings) → Fits xs m → AllIn os vs
    → ((r : Rule) → covers (rule_gives shape xs r.gives) (output_in (hit_of cs m r)) ≡ true) → (rs : List Rule)
    → FoundTold (tally_rules shape os xs rs) (hits_among m vs cs rs >>= λ hs. Some (outputs_of_hits hs))
rules_told shape os vs cs xs m f all gives rs = rules_along shape os vs cs xs m f all gives rs blank (Some []) nothing_told
