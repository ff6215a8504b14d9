-- Where the keys of each object rise, what is read has distinct names; and its numbers are in range. So only its size can refuse it.
use Rattle.std.proofs.Common.{◌≡◌, ℕ, ℤ, Bool, true, false, ◌&&◌, ◌||◌, not, if◌then◌else◌, Option, Some, None, option_map, option_and_then, List, [], ◌∷◌, refl, sym, ap, ap₂, ◌∙◌, Less, is_lt, nat_cmp, String, Global, BTreeMap, string_bytes, string_cmp}
use Rattle.std.specs.Cmp.Lexicographic.{slice_cmp}
use Rattle.std.specs.List.{AllByRecursion}
use Rattle.std.specs.List.Sorted.{IsStrictlySortedBy}
use Rattle.std.specs.Map.{keys_of}
use Rattle.std.specs.BTreeMap.{IsOrdered}
use Rattle.serde_json.specs.Data as json
use Rattle.serde_json.specs.Find.{as_integer}
use Rattle.serde_json.specs.View as seen
use Rattle.serde_json.specs.declared.value.Value as json_value
use Rattle.feel_value.specs.Datum.{Datum, null, boolean, number, text, list, context, Items, no_items, item, Entries, no_entries, entry}
use Rattle.feel_value.specs.Limits.{has_name, names_differ, names_distinct, items_distinct, entries_distinct, in_range, numbers_in_range, items_in_range, entries_in_range}
use Rattle.feel_value.specs.Json.{value_of_json, items_of_json, entries_of_json, whole_number}
use Rattle.feel_value.specs.JsonKeys.{is_before, in_order, keys_rise, items_rise, members_rise}
use Rattle.feel_value.proofs.DistinctNames.{other_name}
use Rattle.feel_value.proofs.Booleans.{both_true}

abbrev pub Member : Type 0
Member = String Global × json_value.Value

before_all : (k : String Global) (ms : List Member) → AllByRecursion (λ l. string_cmp k l ≡ Less) (keys_of ms) → is_before (string_bytes k) (seen.members_view ms) ≡ true
before_all k [] h = refl
before_all k (m ∷ ms) h = ap₂ (λ a b. a && b) (ap is_lt h.0) (before_all k ms h.1)

sorted_in_order : (ms : List Member) → IsStrictlySortedBy string_cmp (keys_of ms) → in_order (seen.members_view ms) ≡ true
unfolding IsStrictlySortedBy
sorted_in_order [] h = refl
sorted_in_order (m ∷ ms) h = ap₂ (λ a b. a && b) (before_all m.0 ms h.0) (sorted_in_order ms h.1)

-- The keys of an object rise: `ordered` is what each of the map's `iter`, `keys`, `values` and `len` ensures of it.
pub members_in_order : (m : BTreeMap (String Global) json_value.Value) → IsOrdered string_cmp m → in_order (seen.members_view m.entries) ≡ true
members_in_order m ordered = sorted_in_order m.entries ordered

-- two results that were joined
joined_items : (Q : Items → Bool) (o : Option Datum) (p : Option Items) (es : Items) → ((e : Datum) (r : Items) → o ≡ Some e → p ≡ Some r → Q (item e r) ≡ true)
    → option_and_then (λ e. option_map (item e) p) o ≡ Some es → Q es ≡ true
joined_items Q None p es all h = cc
joined_items Q (Some e) None es all h = cc
joined_items Q (Some e) (Some r) es all h = let same : item e r ≡ es = cc in ap Q (sym same) ∙ all e r refl refl

joined_entries : (Q : Entries → Bool) (b : Bool) (n : List ℕ) (o : Option Datum) (p : Option Entries) (es : Entries) → ((e : Datum) (r : Entries) → o ≡ Some e → p ≡ Some r → Q (entry n e r) ≡ b)
    → option_and_then (λ e. option_map (entry n e) p) o ≡ Some es → Q es ≡ b
joined_entries Q b n None p es all h = cc
joined_entries Q b n (Some e) None es all h = cc
joined_entries Q b n (Some e) (Some r) es all h = let same : entry n e r ≡ es = cc in ap Q (sym same) ∙ all e r refl refl

-- a result that was mapped to d
mapped : {A : Type 0} (P : Datum → Bool) (f : A → Datum) (o : Option A) (d : Datum) → ((a : A) → o ≡ Some a → P (f a) ≡ true) → option_map f o ≡ Some d → P d ≡ true
mapped P f None d all e = cc
mapped P f (Some a) d all e = let same : f a ≡ d = cc in ap P (sym same) ∙ all a refl

-- a key before all others is none of the names
missing : (k : List ℕ) (ms : json.Members) (es : Entries) → is_before k ms ≡ true → entries_of_json ms ≡ Some es → has_name k es ≡ false
missing k json.no_members es h e = let same : no_entries ≡ es = cc in ap (has_name k) (sym same)
missing k (json.member l d ms) es h e =
    let p = both_true (is_lt (slice_cmp nat_cmp k l)) (is_before k ms) h in
    joined_entries (has_name k) false l (value_of_json d) (entries_of_json ms) es (λ c r _ g. ap₂ (λ a b. a || b) (other_name k l p.0) (missing k ms r p.1 g)) e

pub differ_from_json : (ms : json.Members) (es : Entries) → in_order ms ≡ true → entries_of_json ms ≡ Some es → names_differ es ≡ true
differ_from_json json.no_members es h e = let same : no_entries ≡ es = cc in ap names_differ (sym same)
differ_from_json (json.member k d ms) es h e =
    let p = both_true (is_before k ms) (in_order ms) h in
    joined_entries names_differ true k (value_of_json d) (entries_of_json ms) es (λ c r _ g. ap₂ (λ a b. not a && b) (missing k ms r p.0 g) (differ_from_json ms r p.1 g)) e

mutual
  -- where the keys of each object rise, what is read has distinct names
  pub distinct_from_json : (j : json.Data) (d : Datum) → keys_rise j ≡ true → value_of_json j ≡ Some d → names_distinct d ≡ true
  distinct_from_json json.null d h e = let same : null ≡ d = cc in ap names_distinct (sym same)
  distinct_from_json (json.boolean b) d h e = let same : boolean b ≡ d = cc in ap names_distinct (sym same)
  distinct_from_json (json.number n) d h e = mapped names_distinct number (whole_number n) d (λ a _. refl) e
  distinct_from_json (json.string s) d h e = let same : text s ≡ d = cc in ap names_distinct (sym same)
  distinct_from_json (json.array ds) d h e = mapped names_distinct list (items_of_json ds) d (λ es g. items_from_json ds es h g) e
  distinct_from_json (json.object ms) d h e =
      let p = both_true (in_order ms) (members_rise ms) h in
      mapped names_distinct context (entries_of_json ms) d (λ es g. ap₂ (λ a b. a && b) (differ_from_json ms es p.0 g) (entries_from_json ms es p.1 g)) e

  items_from_json : (ds : json.Items) (es : Items) → items_rise ds ≡ true → items_of_json ds ≡ Some es → items_distinct es ≡ true
  items_from_json json.no_items es h e = let same : no_items ≡ es = cc in ap items_distinct (sym same)
  items_from_json (json.item d ds) es h e =
      let p = both_true (keys_rise d) (items_rise ds) h in
      joined_items items_distinct (value_of_json d) (items_of_json ds) es (λ c r g k. ap₂ (λ a b. a && b) (distinct_from_json d c p.0 g) (items_from_json ds r p.1 k)) e

  entries_from_json : (ms : json.Members) (es : Entries) → members_rise ms ≡ true → entries_of_json ms ≡ Some es → entries_distinct es ≡ true
  entries_from_json json.no_members es h e = let same : no_entries ≡ es = cc in ap entries_distinct (sym same)
  entries_from_json (json.member k d ms) es h e =
      let p = both_true (keys_rise d) (members_rise ms) h in
      joined_entries entries_distinct true k (value_of_json d) (entries_of_json ms) es (λ c r g l. ap₂ (λ a b. a && b) (distinct_from_json d c p.0 g) (entries_from_json ms r p.1 l)) e

range_kept : (b : Bool) (y z : ℤ) → in_range y ≡ b → (if b then Some y else None) ≡ Some z → in_range z ≡ true
range_kept true y z h e = let same : y ≡ z = cc in ap in_range (sym same) ∙ h
range_kept false y z h e = cc

whole_in_range : (o : Option ℤ) (z : ℤ) → option_and_then (λ y. if in_range y then Some y else None) o ≡ Some z → in_range z ≡ true
whole_in_range None z e = cc
whole_in_range (Some y) z e = range_kept (in_range y) y z refl e

mutual
  -- every number that is read is in range
  pub range_from_json : (j : json.Data) (d : Datum) → value_of_json j ≡ Some d → numbers_in_range d ≡ true
  range_from_json json.null d e = let same : null ≡ d = cc in ap numbers_in_range (sym same)
  range_from_json (json.boolean b) d e = let same : boolean b ≡ d = cc in ap numbers_in_range (sym same)
  range_from_json (json.number n) d e = mapped numbers_in_range number (whole_number n) d (λ z g. whole_in_range (as_integer n) z g) e
  range_from_json (json.string s) d e = let same : text s ≡ d = cc in ap numbers_in_range (sym same)
  range_from_json (json.array ds) d e = mapped numbers_in_range list (items_of_json ds) d (λ es g. items_range ds es g) e
  range_from_json (json.object ms) d e = mapped numbers_in_range context (entries_of_json ms) d (λ es g. entries_range ms es g) e

  items_range : (ds : json.Items) (es : Items) → items_of_json ds ≡ Some es → items_in_range es ≡ true
  items_range json.no_items es e = let same : no_items ≡ es = cc in ap items_in_range (sym same)
  items_range (json.item d ds) es e =
      joined_items items_in_range (value_of_json d) (items_of_json ds) es (λ c r g k. ap₂ (λ a b. a && b) (range_from_json d c g) (items_range ds r k)) e

  entries_range : (ms : json.Members) (es : Entries) → entries_of_json ms ≡ Some es → entries_in_range es ≡ true
  entries_range json.no_members es e = let same : no_entries ≡ es = cc in ap entries_in_range (sym same)
  entries_range (json.member k d ms) es e =
      joined_entries entries_in_range true k (value_of_json d) (entries_of_json ms) es (λ c r g l. ap₂ (λ a b. a && b) (range_from_json d c g) (entries_range ms r l)) e
