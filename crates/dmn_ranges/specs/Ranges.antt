-- Which values a range has, and what it says of names, of parameters and of an evaluation: what the public contracts speak of. How
-- ranges are worked out stands in the other files, which nobody has to believe: it is proved to be right.
use Rattle.std.specs.Prelude.{◌≡◌, ℕ, ℤ, int_le, List, [], ◌∷◌, map, take, Bool, true, false, ◌&&◌, nat_le, Option, Some, None, unwrap_or, bytes_eq, string_bytes, if◌then◌else◌}
use Rattle.std.specs.Arc.{arc_str_bytes}
use Rattle.std.specs.List.{list_any, list_all}
use Rattle.feel_value.specs.Datum.{Datum, null, boolean, number, text, list, context}
use Rattle.feel_value.specs.Limits.{is_value, nodes, depth}
use Rattle.feel_value.specs.declared.feel.Outcome.{Outcome}
use Rattle.feel_value.specs.declared.feel.Outcome.TheVariants.{Is, Limit}
use Rattle.feel_text.specs.Meaning.{Bindings, bound, path_of}
use Rattle.dmn_ranges.specs.declared.interval.Interval.{Interval}
use Rattle.dmn_ranges.specs.declared.range.Range.{Range}
use Rattle.dmn_ranges.specs.declared.range.MemberRange.{MemberRange}
use Rattle.dmn_ranges.specs.declared.range.NamedRange.{NamedRange}
use Rattle.dmn_ranges.specs.declared.range.ParameterRange.{ParameterRange}
use Rattle.dmn_ranges.specs.declared.outcomes.Outcomes.{Outcomes}
use Rattle.dmn_ranges.specs.declared.size.Size.{Size}
use Rattle.dmn_ranges.specs.declared.texts.Texts.{Texts}
use Rattle.dmn_ranges.specs.declared.texts.Texts.TheVariants.{Any, Few}
use Rattle.dmn_ranges.specs.declared.texts.Word.{Word}

abbrev pub inside : Interval → ℤ → Bool
inside i z = int_le i.low z && int_le z i.high

abbrev pub within : Option Interval → ℤ → Bool
within None z = false
within (Some i) z = inside i z

abbrev pub text_of : Word → List ℕ
text_of w = take w.count w.bytes

-- whether this is a word with that text
abbrev pub is_word : List ℕ → Option Word → Bool
is_word s None = false
is_word s (Some w) = bytes_eq (text_of w) s

abbrev pub no_texts : Texts
no_texts = Few (None ∷ None ∷ None ∷ None ∷ None ∷ None ∷ None ∷ None ∷ [])

abbrev pub is_among : Texts → List ℕ → Bool
is_among Any s = true
is_among (Few ws) s = list_any (is_word s) ws

-- whether a value keeps the limits, and is no larger than this
abbrev pub keeps : Size → Datum → Bool
keeps s d = is_value d && (nat_le (nodes d) s.nodes && nat_le (depth d) s.depth)

-- whether a value is one of the range
abbrev pub lies_in : Range → Datum → Bool
lies_in r null = r.nulls
lies_in r (boolean true) = r.trues
lies_in r (boolean false) = r.falses
lies_in r (number z) = within r.numbers z
lies_in r (text s) = is_among r.texts s
lies_in r (list ds) = r.lists && keeps r.size (list ds)
lies_in r (context es) = r.contexts && keeps r.size (context es)

-- whether an evaluation may give this
abbrev pub covers : Outcomes → Outcome → Bool
covers r (Is d) = lies_in r.range d
covers r Limit = r.limit

abbrev pub null_alone : Range
null_alone = record { nulls = true; trues = false; falses = false; numbers = None; texts = no_texts; lists = false; contexts = false; size = record { nodes = 0; depth = 0 } }

-- the value that a path leads to; the last name of the path comes first
abbrev pub reached : List (List ℕ) → Datum → Datum
reached [] v = v
reached (n ∷ ns) v = path_of n (reached ns v)

-- ranges of the members of a value, each under its path
abbrev pub Members : Type 0
Members = List (List (List ℕ) × Range)

abbrev pub members_of : List MemberRange → Members
members_of ms = map (λ m. (map string_bytes m.path.items, m.range)) ms

-- each of these members of a value lies in its range
abbrev pub lie_in : Members → Datum → Bool
lie_in ms v = list_all (λ m. lies_in m.1 (reached m.0 v)) ms

-- what is said of a value, and of its members
abbrev pub Extent : Type 0
Extent = Range × Members

abbrev pub lies_within : Extent → Datum → Bool
lies_within s v = lies_in s.0 v && lie_in s.1 v

-- nothing is said of its members
abbrev pub plain : Range → Extent
plain r = (r, [])

-- what is said of names; of several of one name the last counts
abbrev pub Scope : Type 0
Scope = List (List ℕ × Extent)

abbrev pub scope : List NamedRange → Scope
scope names = map (λ x. (arc_str_bytes x.name, plain x.range)) names

-- what is said of the last of that name; otherwise this
abbrev pub named_or : Extent → Scope → List ℕ → Extent
named_or s [] name = s
named_or s (x ∷ xs) name = named_or (if bytes_eq name x.0 then x.1 else s) xs name

-- what is said of a name; of any other name that it stands for nothing, which is null
abbrev pub extent_named : Scope → List ℕ → Extent
extent_named xs name = named_or (plain null_alone) xs name

-- the value of each name lies in its range, and so do its members
abbrev pub Fits : Scope → Bindings → Type 0
Fits xs m = (name : List ℕ) → lies_within (extent_named xs name) (unwrap_or (bound name m) null) ≡ true

abbrev pub extent_of : ParameterRange → Extent
extent_of p = (p.range, members_of p.members.items)

-- each value lies in the domain of its parameter, and so do its members
abbrev pub AreWithin : List ParameterRange → List Datum → Type 0
AreWithin [] [] = Unit {0}
AreWithin [] (v ∷ vs) = ⊥
AreWithin (p ∷ ps) [] = ⊥
AreWithin (p ∷ ps) (v ∷ vs) = (lies_within (extent_of p) v ≡ true) × AreWithin ps vs
