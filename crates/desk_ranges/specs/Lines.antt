-- The lines that say what a service and its decisions can give.
use Rattle.std.specs.Prelude.{ℕ, zero, suc, List, [], ◌∷◌, ◌++◌, map, Bool, true, false, Option, None, Some, is_some, codes, if◌then◌else◌}
use Rattle.std.specs.List.{list_all, list_any}
use Rattle.std.specs.Str.{is_utf8}
use Rattle.json.specs.Print.{quoted}
use Rattle.serde_json.specs.Data.{Data, null, boolean, number, unsigned, string, array, object, Items, no_items, item, Members, no_members, member}
use Rattle.serde_json.specs.Find.{of_integer}
use Rattle.serde_json.specs.Written.{compact_text}
use Rattle.dmn_form.specs.Model.{Name}
use Rattle.dmn_service.specs.Places.{name_at}
use Rattle.dmn_ranges.specs.Services.{told_at}
use Rattle.dmn_ranges.specs.Ranges.{text_of}
use Rattle.dmn_ranges.specs.declared.interval.Interval.{Interval}
use Rattle.dmn_ranges.specs.declared.outcomes.Outcomes.{Outcomes}
use Rattle.dmn_ranges.specs.declared.range.Range.{Range}
use Rattle.dmn_ranges.specs.declared.texts.Texts.{Texts}
use Rattle.dmn_ranges.specs.declared.texts.Texts.TheVariants.{Any, Few}
use Rattle.dmn_ranges.specs.declared.texts.Word.{Word}
use Rattle.dmn_told.specs.declared.told.ServiceTold.{ServiceTold}

-- the least and the greatest number
abbrev pub interval_told : Option Interval → Data
interval_told None = null
interval_told (Some i) = array (item (number (of_integer i.low)) (item (number (of_integer i.high)) no_items))

-- the text of a word, if it is there and is one
abbrev pub text_in : Option Word → Option (List ℕ)
text_in None = None
text_in (Some w) = if is_utf8 (text_of w) then Some (text_of w) else None

-- a word, if it is there, is a text: each word of a text is
abbrev pub is_text : Option Word → Bool
is_text None = true
is_text (Some w) = is_utf8 (text_of w)

abbrev pub item_if : Option (List ℕ) → Items → Items
item_if None ds = ds
item_if (Some s) ds = item (string s) ds

abbrev pub word_items : List (Option Word) → Items
word_items [] = no_items
word_items (w ∷ ws) = item_if (text_in w) (word_items ws)

-- the texts of these words; false where there are none
abbrev pub few_told : List (Option Word) → Data
few_told ws = if list_all is_text ws then (if list_any is_some ws then array (word_items ws) else boolean false) else boolean true

-- the texts where they are few, and otherwise true
abbrev pub texts_told : Texts → Data
texts_told Any = boolean true
texts_told (Few ws) = few_told ws

-- which values of each kind can be given, and whether a limit can be broken
abbrev pub outcomes_told : Outcomes → Data
outcomes_told o =
    object (member (codes "null") (boolean o.range.nulls) (member (codes "true") (boolean o.range.trues) (member (codes "false") (boolean o.range.falses)
    (member (codes "numbers") (interval_told o.range.numbers) (member (codes "texts") (texts_told o.range.texts) (member (codes "lists") (boolean o.range.lists)
    (member (codes "contexts") (boolean o.range.contexts) (member (codes "limit") (boolean o.limit) no_members))))))))

abbrev pub gives_told : Outcomes → Members
gives_told o = member (codes "gives") (outcomes_told o) no_members

-- `{"service":S,"gives":G}`
abbrev pub service_line : Name → Outcomes → List ℕ
service_line service o = compact_text (object (member (codes "service") (string service) (gives_told o)))

-- `{"decision":D,"service":S,"gives":G}`
abbrev pub decision_line : Name → Name × Outcomes → List ℕ
decision_line service d = compact_text (object (member (codes "decision") (string d.0) (member (codes "service") (string service) (gives_told d.1))))

-- the line of the decision at a place
abbrev pub line_at : Name → ServiceTold → ℕ → List ℕ
line_at service t q = decision_line service (name_at t.items.now q, told_at t.decisions.items q)

abbrev pub decision_lines : Name → ServiceTold → List ℕ → List (List ℕ)
decision_lines service t qs = map (line_at service t) qs

abbrev pub service_lines : Name → ServiceTold → List (List ℕ)
service_lines service t = service_line service t.result ∷ decision_lines service t t.plan.now.order.items

-- `{"service":null,"more":n}`, where services are left out
abbrev pub more_services : ℕ → List (List ℕ)
more_services zero = []
more_services (suc n) = compact_text (object (member (codes "service") null (member (codes "more") (number (unsigned (suc n))) no_members))) ∷ []

-- ---- pieces

abbrev pub kinds_text : Range → List ℕ
kinds_text r =
    ((((codes "{\"null\":" ++ compact_text (boolean r.nulls)) ++ codes ",\"true\":") ++ compact_text (boolean r.trues)) ++ codes ",\"false\":") ++ compact_text (boolean r.falses)

abbrev pub parts_text : Range → List ℕ
parts_text r =
    ((((((codes ",\"numbers\":" ++ compact_text (interval_told r.numbers)) ++ codes ",\"texts\":") ++ compact_text (texts_told r.texts)) ++ codes ",\"lists\":") ++ compact_text (boolean r.lists))
    ++ codes ",\"contexts\":") ++ compact_text (boolean r.contexts)

abbrev pub head_text : Name → Name → List ℕ
head_text decision service = ((codes "{\"decision\":" ++ quoted decision) ++ codes ",\"service\":") ++ quoted service
