-- Internal: names as the code has them.
use Rattle.std.specs.Prelude.{ℕ, ℤ, List, [], map, Bool, Option, None, Some, ◌≡◌, refl}
use Rattle.std.specs.Coded.{Coded, coded_ℕ, coded_ℤ, coded_bool, coded_list, coded×, coded_option, code_by}
use Rattle.std.specs.Cow.{cow_str_bytes}
use denote.Ref.{Bor}
use Rattle.feel_value.specs.Datum.{Datum, null}
use Rattle.dmn_ranges.specs.Ranges.{Members, Scope, members_of}
use Rattle.dmn_ranges.specs.declared.interval.Interval.{Interval}
use Rattle.dmn_ranges.specs.declared.names.Binding.{Binding}
use Rattle.dmn_ranges.specs.declared.range.ParameterRange.{ParameterRange}
use Rattle.dmn_ranges.specs.declared.range.Range.{Range}
use Rattle.dmn_ranges.specs.declared.size.Size.{Size}
use Rattle.dmn_ranges.specs.declared.texts.Texts.{Texts}
use Rattle.dmn_ranges.specs.declared.texts.Texts.TheVariants.{Any, Few}
use Rattle.dmn_ranges.specs.declared.texts.Word.{Word}

-- what is said of the members of a parameter, if it is one
abbrev pub members_if : Option (Bor ParameterRange) → Members
members_if None = []
members_if (Some p) = members_of p.now.members.items

abbrev pub scope_of : List Binding → Scope
scope_of bs = map (λ b. (cow_str_bytes b.name, (b.range, members_if b.parameter))) bs

abbrev pub name_of : Binding → List ℕ
name_of b = cow_str_bytes b.name

-- values count for nothing where places are found
abbrev pub no_value : Binding → Datum
no_value b = null

abbrev pub hidden_of : Binding → Option ℕ
hidden_of b = b.hidden

-- ---- as numbers

abbrev pub coded_interval : Coded Interval
coded_interval = code_by (ℤ × ℤ) (coded× coded_ℤ coded_ℤ) (λ i. (i.low, i.high)) (λ p. record { low = p.0; high = p.1 }) (λ _. refl)

abbrev pub coded_size : Coded Size
coded_size = code_by (ℕ × ℕ) (coded× coded_ℕ coded_ℕ) (λ s. (s.nodes, s.depth)) (λ p. record { nodes = p.0; depth = p.1 }) (λ _. refl)

abbrev pub coded_word : Coded Word
coded_word = code_by (ℕ × List ℕ) (coded× coded_ℕ (coded_list coded_ℕ)) (λ w. (w.count, w.bytes)) (λ p. record { count = p.0; bytes = p.1 }) (λ _. refl)

abbrev pub words_of : Texts → Option (List (Option Word))
words_of Any = None
words_of (Few ws) = Some ws

abbrev pub texts_of : Option (List (Option Word)) → Texts
texts_of None = Any
texts_of (Some ws) = Few ws

abbrev pub same_texts : (t : Texts) → texts_of (words_of t) ≡ t
same_texts Any = refl
same_texts (Few ws) = refl

abbrev pub coded_texts : Coded Texts
coded_texts = code_by (Option (List (Option Word))) (coded_option (coded_list (coded_option coded_word))) words_of texts_of same_texts

abbrev pub Parts : Type 0
Parts = (Bool × (Bool × Bool)) × ((Option Interval × Texts) × ((Bool × Bool) × Size))

abbrev pub coded_range : Coded Range
coded_range =
    code_by Parts (coded× (coded× coded_bool (coded× coded_bool coded_bool)) (coded× (coded× (coded_option coded_interval) coded_texts) (coded× (coded× coded_bool coded_bool) coded_size)))
    (λ r. ((r.nulls, (r.trues, r.falses)), ((r.numbers, r.texts), ((r.lists, r.contexts), r.size))))
    (λ p. record { nulls = (p.0).0; trues = ((p.0).1).0; falses = ((p.0).1).1; numbers = ((p.1).0).0; texts = ((p.1).0).1; lists = (((p.1).1).0).0; contexts = (((p.1).1).0).1; size = ((p.1).1).1 })
    (λ _. refl)

abbrev pub coded_members : Coded Members
coded_members = coded_list (coded× (coded_list (coded_list coded_ℕ)) coded_range)

abbrev pub coded_scope : Coded Scope
coded_scope = coded_list (coded× (coded_list coded_ℕ) (coded× coded_range coded_members))
