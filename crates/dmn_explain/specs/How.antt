-- How tables and boxed expressions come to their outcomes, in JSON.
use Rattle.std.specs.Prelude.{ℕ, ◌+◌, List, [], ◌∷◌, ◌++◌, map, Bool, true, false, not, codes, Option, None, Some, option_map}
use Rattle.std.specs.List.{list_all}
use Rattle.std.specs.Option.{is_none}
use Rattle.serde_json.specs.Data.{Data, null, boolean, number, unsigned, string, array, object, Items, no_items, item, Members, no_members, member}
use Rattle.feel_value.specs.Datum as datum
use Rattle.feel_value.specs.Datum.{Datum, items_of}
use Rattle.feel_value.specs.Json.{json_of}
use Rattle.feel_value.specs.Found.{value_of, ◌>>=◌, each, outcome_from}
use Rattle.feel_text.specs.Expr.{Expr}
use Rattle.feel_text.specs.Meaning.{Bindings}
use Rattle.dmn_table.specs.Table.{Column, Rule, Table}
use Rattle.dmn_table.specs.Hits.{values_of, does_hit, first_miss, hit_of, kept, output_of}
use Rattle.dmn_table.specs.Faults.{goes_by_priority, policy_text}
use Rattle.dmn_table.specs.Priority.{listed_places, listed_values}
use Rattle.dmn_table.specs.Deciding.{deciding}
use Rattle.dmn_form.specs.Model as form
use Rattle.dmn_form.specs.Model.{Name, Boxed}
use Rattle.dmn_logic.specs.Boxed.{boxed, entry_values}

-- a value under this key, or that a limit was broken; then the rest
abbrev pub valued : List ℕ → Option Datum → Members → Members
valued key (Some d) rest = member key (json_of d) rest
valued key None rest = member (codes "fault") (string (codes "limit")) rest

-- the members that come of what was found; none where nothing was
abbrev pub members_from : {X : Type 0} → (X → Members) → Option X → Members
members_from f None = no_members
members_from f (Some x) = f x

abbrev pub items_from : {X : Type 0} → (X → Items) → Option X → Items
items_from f None = no_items
items_from f (Some x) = f x

-- ---- decision tables

-- rules with their numbers, from this one on
abbrev pub numbered : ℕ → List Rule → List (ℕ × Rule)
numbered n [] = []
numbered n (r ∷ rs) = (n, r) ∷ numbered (n + 1) rs

-- The rules that hit for these values of the input expressions, with their numbers, which count from 1 on; None where an input
-- entry breaks a limit.
abbrev pub numbered_hits : Table → Bindings → List Datum → Option (List (ℕ × Rule))
numbered_hits t m values = each (does_hit m values) t.rules >>= λ answers. Some (kept (numbered 1 t.rules) answers)

-- the output of a rule; None where a limit was broken
abbrev pub output_value : List Column → Bindings → Rule → Option Datum
output_value columns m rule = value_of (outcome_from (output_of columns) (values_of m rule.gives))

abbrev pub number_told : ℕ → Data
number_told n = number (unsigned n)

abbrev pub numbers_told : List ℕ → Items
numbers_told [] = no_items
numbers_told (n ∷ ns) = item (number_told n) (numbers_told ns)

abbrev pub place_told : Option ℕ → Data
place_told None = null
place_told (Some p) = number_told p

abbrev pub listed_told : List (Option ℕ) → Items
listed_told [] = no_items
listed_told (p ∷ ps) = item (place_told p) (listed_told ps)

-- where the hit policy goes by the output values: the place of each value of a hit in its column's, none where it is not among them
abbrev pub places_if : Bool → List Column → Option (List Datum) → Members
places_if by_priority columns None = no_members
places_if false columns (Some values) = no_members
places_if true columns (Some values) = member (codes "places") (array (listed_told (listed_places (listed_values columns) values))) no_members

-- a rule that hit, with its output
abbrev pub hit_told : Table → Bindings → ℕ × Rule → Data
hit_told t m h =
    object (member (codes "rule") (number_told h.0) (valued (codes "value") (output_value t.outputs m h.1)
    (places_if (goes_by_priority t.policy) t.outputs (values_of m h.1.gives))))

abbrev pub hits_told : Table → Bindings → List (ℕ × Rule) → Items
hits_told t m [] = no_items
hits_told t m (h ∷ hs) = item (hit_told t m h) (hits_told t m hs)

-- no rule hit, and some column has a default
abbrev pub takes_defaults : List Column → List (ℕ × Rule) → Bool
takes_defaults columns [] = not (list_all (λ c. is_none c.fallback) columns)
takes_defaults columns (h ∷ hs) = false

-- the numbers of the rules that make the result; None where the output of one that hit breaks a limit
abbrev pub decided_by : Table → Bindings → List (ℕ × Rule) → Option (List ℕ)
decided_by t m hs = option_map (deciding t.policy (map (λ h. h.0) hs)) (each (hit_of t.outputs m) (map (λ h. h.1) hs))

-- they, where there is no such one; then the rest
abbrev pub decided_then : Option (List ℕ) → Members → Members
decided_then None rest = rest
decided_then (Some ns) rest = member (codes "decided") (array (numbers_told ns)) rest

-- of rules, of which the first has this number, those that missed: with their numbers and the columns that they missed by
abbrev pub missed : ℕ → List (Option ℕ) → List (ℕ × ℕ)
missed n [] = []
missed n (None ∷ columns) = missed (n + 1) columns
missed n (Some c ∷ columns) = (n, c) ∷ missed (n + 1) columns

-- The rules that missed, each with the first column whose entry was not met. Both count from 1 on.
abbrev pub misses : Table → Bindings → List Datum → Option (List (ℕ × ℕ))
misses t m values = option_map (missed 1) (each (first_miss m values) t.rules)

abbrev pub miss_told : ℕ × ℕ → Data
miss_told x = object (member (codes "rule") (number_told x.0) (member (codes "column") (number_told x.1) no_members))

abbrev pub misses_told : List (ℕ × ℕ) → Items
misses_told [] = no_items
misses_told (x ∷ xs) = item (miss_told x) (misses_told xs)

-- they, where they are asked for
abbrev pub misses_if : Bool → Option (List (ℕ × ℕ)) → Members
misses_if false xs = no_members
misses_if true None = no_members
misses_if true (Some xs) = member (codes "misses") (array (misses_told xs)) no_members

-- the rules that hit, whether the defaults stand in for them, and which of them make the result; then the rest
abbrev pub hits_then : Table → Bindings → Members → List (ℕ × Rule) → Members
hits_then t m rest hs =
    member (codes "hits") (array (hits_told t m hs))
    (member (codes "defaults") (boolean (takes_defaults t.outputs hs)) (decided_then (decided_by t m hs) rest))

-- the values of the input expressions, and then what comes of the rules, with their misses where these are asked for
abbrev pub inputs_and_hits : Bool → Table → Bindings → List Datum → Members
inputs_and_hits with_misses t m values =
    member (codes "inputs") (json_of (datum.list (items_of values)))
    (members_from (hits_then t m (misses_if with_misses (misses t m values))) (numbered_hits t m values))

-- How a table came to its result: its hit policy, its input values, the rules that hit with their outputs, and whether the defaults
-- stand in for them. It ends before the first of these that breaks a limit. Which rules make the result is said where each hit has
-- an output.
abbrev pub table_told : Bool → Table → Bindings → Members
table_told with_misses t m = member (codes "policy") (string (policy_text t.policy)) (members_from (inputs_and_hits with_misses t m) (values_of m t.inputs))

-- ---- boxed expressions

-- a value, and how it came
abbrev pub told_as : Option Datum → Members → Data
told_as value ms = object (valued (codes "value") value ms)

-- the same under a name
abbrev pub named_as : Name → Option Datum → Members → Data
named_as n value ms = object (member (codes "name") (string n) (valued (codes "value") value ms))

-- How a boxed expression came to its outcome, as members of an object: nothing for an expression; for a table what it found; for
-- a list its members and for a context its entries, and then its result, each with its own value and how that came. None stand
-- behind the first that breaks a limit. The first argument says whether the rules that missed are told too.
abbrev mutual
  pub how : Bool → Boxed Expr Table → Bindings → Members
  how w (form.expression e) m = no_members
  how w (form.table t) m = member (codes "table") (object (table_told w t m)) no_members
  how w (form.list bs) m = member (codes "members") (array (members_told w bs m)) no_members
  how w (form.context es) m = member (codes "entries") (array (entries_told w es m)) no_members
  how w (form.context_with es b) m =
      member (codes "entries") (array (entries_told w es m))
      (members_from (λ ds. member (codes "result") (told_as (value_of (boxed b (m ++ ds))) (how w b (m ++ ds))) no_members) (entry_values es m))

  -- the members of a list
  pub members_told : Bool → form.Members Expr Table → Bindings → Items
  members_told w form.no_members m = no_items
  members_told w (form.member b bs) m = item (told_as (value_of (boxed b m)) (how w b m)) (items_from (λ d. members_told w bs m) (value_of (boxed b m)))

  -- the entries of a context, each with the earlier ones bound behind the outer names
  pub entries_told : Bool → form.Entries Expr Table → Bindings → Items
  entries_told w form.no_entries m = no_items
  entries_told w (form.entry n b es) m =
      item (named_as n (value_of (boxed b m)) (how w b m)) (items_from (λ d. entries_told w es (m ++ (n, d) ∷ [])) (value_of (boxed b m)))
