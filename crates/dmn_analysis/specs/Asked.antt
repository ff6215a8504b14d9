-- The values of a column that are asked about.
use Rattle.std.specs.Prelude.{List, ℕ, ℤ, Bool, true, false, ◌&&◌, bytes_eq, int_le}
use Rattle.std.specs.Arc.{arc_str_bytes}
use Rattle.std.specs.List.{list_any}
use Rattle.std.specs.Str.{is_utf8}
use Rattle.feel_value.specs.Datum.{Datum, null, boolean, number, text, list, context}
use Rattle.dmn_analysis.specs.declared.asked.Numbers.{Numbers}
use Rattle.dmn_analysis.specs.declared.asked.Numbers.TheVariants as numbers
use Rattle.dmn_analysis.specs.declared.asked.Texts.{Texts}
use Rattle.dmn_analysis.specs.declared.asked.Texts.TheVariants as texts
use Rattle.dmn_analysis.specs.declared.asked.Asked.{Asked}

abbrev pub is_asked_number : Numbers → ℤ → Bool
is_asked_number numbers.None z = false
is_asked_number (numbers.Between low high) z = int_le low z && int_le z high
is_asked_number numbers.All z = true

abbrev pub is_asked_text : Texts → List ℕ → Bool
is_asked_text texts.None s = false
is_asked_text (texts.These ts) s = list_any (λ t. bytes_eq s (arc_str_bytes t)) ts.items
is_asked_text texts.Utf8 s = is_utf8 s
is_asked_text texts.All s = true

-- whether a value is no text, or one in UTF-8
abbrev pub is_in_utf8 : Datum → Bool
is_in_utf8 (text s) = is_utf8 s
is_in_utf8 d = true

-- whether this value of the column is asked about
abbrev pub is_asked : Asked → Datum → Bool
is_asked a null = a.null
is_asked a (boolean b) = a.truths
is_asked a (number z) = is_asked_number a.numbers z
is_asked a (text s) = is_asked_text a.texts s
is_asked a (list ds) = a.parted
is_asked a (context es) = a.parted
