-- Values read from JSON, member by member.
use Rattle.std.proofs.Common.{◌≡◌, ℕ, ◌+◌, ◌<◌, Option, Some, None, option_map, option_and_then, List, [], ◌∷◌, ◌++◌, get_or, drop, length, refl, sym, ap, ◌∙◌}
use Rattle.std.specs.Arc.{arc_str_bytes}
use Rattle.std.proofs.lemmas.List.{at_drop_more}
use Rattle.serde_json.specs.Data as json
use Rattle.serde_json.specs.View as seen
use Rattle.serde_json.specs.declared.value.Value as json_value
use Rattle.feel_value.specs.Datum.{Datum, Items, no_items, item, Entries, no_entries, entry}
use Rattle.feel_value.specs.ReadFaults.{IsNumberOrMemory}
use Rattle.feel_value.specs.View.{datum_of, items_view, entries_view}
use Rattle.feel_value.specs.declared.value.Value.{Value}
use Rattle.feel_value.specs.declared.fault.ValueFault.{ValueFault}
use Rattle.feel_value.specs.declared.fault.ValueFault.TheVariants.{Number, Size, Memory}
use Rattle.feel_value.proofs.Entries.{Entry}

-- the values, and then the others
abbrev pub items_after : List Value → Items → Items
items_after [] ds = ds
items_after (v ∷ vs) ds = item (datum_of v) (items_after vs ds)

abbrev pub entries_after : List Entry → Entries → Entries
entries_after [] es = es
entries_after (x ∷ xs) es = entry (arc_str_bytes x.0) (datum_of x.1) (entries_after xs es)

pub items_after-push : (vs : List Value) (v : Value) (ds : Items) → items_after vs (item (datum_of v) ds) ≡ items_after (vs ++ v ∷ []) ds
items_after-push [] v ds = refl
items_after-push (w ∷ vs) v ds = ap (item (datum_of w)) (items_after-push vs v ds)

pub entries_after-push : (xs : List Entry) (x : Entry) (es : Entries) → entries_after xs (entry (arc_str_bytes x.0) (datum_of x.1) es) ≡ entries_after (xs ++ x ∷ []) es
entries_after-push [] x es = refl
entries_after-push (y ∷ xs) x es = ap (entry (arc_str_bytes y.0) (datum_of y.1)) (entries_after-push xs x es)

pub items_after-all : (vs : List Value) → items_after vs no_items ≡ items_view vs
items_after-all [] = refl
items_after-all (v ∷ vs) = ap (item (datum_of v)) (items_after-all vs)

pub entries_after-all : (xs : List Entry) → entries_after xs no_entries ≡ entries_view xs
entries_after-all [] = refl
entries_after-all (x ∷ xs) = ap (entry (arc_str_bytes x.0) (datum_of x.1)) (entries_after-all xs)

pub items_after-none : (o : Option Items) → o ≡ option_map (items_after []) o
items_after-none None = refl
items_after-none (Some ds) = refl

pub entries_after-none : (o : Option Entries) → o ≡ option_map (entries_after []) o
entries_after-none None = refl
entries_after-none (Some es) = refl

-- one more value is read
pub items_step : (vs : List Value) (v : Value) (o : Option Datum) (rest : Option Items) → o ≡ Some (datum_of v)
    → option_map (items_after vs) (option_and_then (λ e. option_map (item e) rest) o) ≡ option_map (items_after (vs ++ v ∷ [])) rest
items_step vs v o None e = ap (λ p. option_map (items_after vs) (option_and_then (λ d. option_map (item d) None) p)) e
items_step vs v o (Some ds) e = ap (λ p. option_map (items_after vs) (option_and_then (λ d. option_map (item d) (Some ds)) p)) e ∙ ap Some (items_after-push vs v ds)

pub entries_step : (xs : List Entry) (x : Entry) (n : List ℕ) (o : Option Datum) (rest : Option Entries) → n ≡ arc_str_bytes x.0 → o ≡ Some (datum_of x.1)
    → option_map (entries_after xs) (option_and_then (λ e. option_map (entry n e) rest) o) ≡ option_map (entries_after (xs ++ x ∷ [])) rest
entries_step xs x n o None named e = ap (λ p. option_map (entries_after xs) (option_and_then (λ d. option_map (entry n d) None) p)) e
entries_step xs x n o (Some es) named e =
    ap (λ p. option_map (entries_after xs) (option_and_then (λ d. option_map (entry n d) (Some es)) p)) e
    ∙ ap (λ m. Some (entries_after xs (entry m (datum_of x.1) es))) named ∙ ap Some (entries_after-push xs x es)

-- a part that is no value makes the whole none
pub items_stop : (vs : List Value) (o : Option Datum) (rest : Option Items) → o ≡ None → option_map (items_after vs) (option_and_then (λ e. option_map (item e) rest) o) ≡ None
items_stop vs o rest e = ap (λ p. option_map (items_after vs) (option_and_then (λ d. option_map (item d) rest) p)) e

pub entries_stop : (xs : List Entry) (n : List ℕ) (o : Option Datum) (rest : Option Entries) → o ≡ None → option_map (entries_after xs) (option_and_then (λ e. option_map (entry n e) rest) o) ≡ None
entries_stop xs n o rest e = ap (λ p. option_map (entries_after xs) (option_and_then (λ d. option_map (entry n d) rest) p)) e

-- a fault of a part is the fault of the whole
pub fault_of_whole : {A B : Type 0} (e : ValueFault) (o : Option A) (p : Option B) → (o ≡ None → p ≡ None) → IsNumberOrMemory e o → IsNumberOrMemory e p
fault_of_whole Number o p up h = up h
fault_of_whole Size o p up h = h
fault_of_whole Memory o p up h = tt

pub json_items_from : (xs : List json_value.Value) (i : ℕ) (x : json_value.Value) → x ≡ get_or xs i x → i < length xs → seen.items_view (drop i xs) ≡ json.item (seen.view x) (seen.items_view (drop (i + 1) xs))
json_items_from xs i x e h = at_drop_more seen.items_view xs i x h ∙ ap (λ (y : json_value.Value). json.item (seen.view y) (seen.items_view (drop (i + 1) xs))) (sym e)
