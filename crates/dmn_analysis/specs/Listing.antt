-- Internal: no public contract cites these words. Entries that list constants.
use Rattle.std.specs.Prelude.{◌≡◌, ◌+◌, ℕ, ℤ, ◌≤ℤ◌, List, Bool, true, false, ◌||◌, Option, Some}
use Rattle.std.specs.Arc.{arc_str_bytes}
use Rattle.std.specs.List.{list_any, slice_get}
use Rattle.std.specs.declared.alloc.Global.{Global}
use Rattle.std.specs.declared.sync.ArcStr.{ArcStr}
use Rattle.feel_value.specs.Comparison.{equal}
use Rattle.feel_value.specs.Datum.{Datum, number, text}
use Rattle.feel_value.specs.Logic.{decided, is_yes, not_of}
use Rattle.feel_value.specs.declared.logic.Truth.{Truth}
use Rattle.feel_text.specs.Meaning.{Bindings}
use Rattle.feel_text.specs.Satisfied.{Told, satisfied, tested_any}
use Rattle.feel_text.specs.Tests.{Test, Tests}
use Rattle.dmn_analysis.specs.Cells.{AreInOrder}
use Rattle.dmn_analysis.specs.declared.listing.Constants.{Constants}
use Rattle.dmn_analysis.specs.declared.listing.Listing.{Listing}

-- a value that is equal to one of these numbers
abbrev pub is_number_among : List ℤ → Datum → Bool
is_number_among numbers v = list_any (λ n. is_yes (equal v (number n))) numbers

-- or to one of these texts
abbrev pub is_word_among : List (ArcStr Global) → Datum → Bool
is_word_among texts v = list_any (λ t. is_yes (equal v (text (arc_str_bytes t)))) texts

abbrev pub is_constant_among : Constants → Datum → Bool
is_constant_among c v = is_number_among c.numbers.items v || is_word_among c.texts.items v

-- that the value is listed, or isn't where the listing bars what it lists
abbrev pub answer_listed : Bool → Bool → Truth
answer_listed false b = decided b
answer_listed true b = not_of (decided b)

-- the tests ask whether a value is one of the constants
abbrev pub AskFor : Constants → List Test → Type 0
AskFor c tests = (v : Datum) (m : Bindings) → tested_any tests v m ≡ Told (decided (is_constant_among c v))

-- none of the numbers is greater than the one behind it
abbrev pub AreRising : List ℤ → Type 0
AreRising numbers = (i : ℕ) (a b : ℤ) → slice_get numbers i ≡ Some a → slice_get numbers (i + 1) ≡ Some b → a ≤ℤ b

-- What the tests ask of a value, whatever the names stand for; and the constants are in order.
pub record IsListing (listing : Listing) (tests : Tests) : Type 0 where
  pub told : (v : Datum) (m : Bindings) → satisfied tests v m ≡ Told (answer_listed listing.is_barred (is_constant_among listing.constants v))
  pub rising : AreRising listing.constants.numbers.items
  pub order : AreInOrder listing.constants.texts.items

-- of each entry the listing, where there is one
abbrev pub AreListings : List (Option Listing) → List Tests → Type 0
AreListings listings tests = (k : ℕ) (l : Listing) (ts : Tests) → slice_get listings k ≡ Some (Some l) → slice_get tests k ≡ Some ts → IsListing l ts
