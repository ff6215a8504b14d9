-- Sets of texts: internal, but for the types.
use Rattle.std.specs.Prelude.{ℕ, List, [], ◌∷◌, ◌++◌, length, drop, nat_lt, Bool, true, false, not, Option, None, Some, is_some, bytes_eq, position, slice_set, if◌then◌else◌}
use Rattle.std.specs.List.{fold, list_any}
use Rattle.std.specs.Option.{is_none}
use Rattle.dmn_ranges.specs.Ranges.{text_of, is_word, no_texts}
use Rattle.dmn_ranges.specs.declared.texts.Word.{Word}
use Rattle.dmn_ranges.specs.declared.texts.Texts.{Texts}
use Rattle.dmn_ranges.specs.declared.texts.Texts.TheVariants.{Any, Few}

abbrev pub zeros : List ℕ
zeros = 0 ∷ 0 ∷ 0 ∷ 0 ∷ 0 ∷ 0 ∷ 0 ∷ 0 ∷ 0 ∷ 0 ∷ 0 ∷ 0 ∷ 0 ∷ 0 ∷ 0 ∷ 0 ∷ 0 ∷ 0 ∷ 0 ∷ 0 ∷ 0 ∷ 0 ∷ 0 ∷ 0 ∷ 0 ∷ 0 ∷ 0 ∷ 0 ∷ 0 ∷ 0 ∷ 0 ∷ 0 ∷ []

-- the word of a text, unless this is too long
abbrev pub word_of : List ℕ → Option Word
word_of s = if nat_lt 32 (length s) then None else Some (record { count = length s; bytes = s ++ drop (length s) zeros })

abbrev pub one_if : Option Word → Texts
one_if None = Any
one_if (Some w) = Few (Some w ∷ None ∷ None ∷ None ∷ None ∷ None ∷ None ∷ None ∷ [])

abbrev pub one_text : List ℕ → Texts
one_text s = one_if (word_of s)

-- any text where this is said, and otherwise none
abbrev pub any_if : Bool → Texts
any_if b = if b then Any else no_texts

-- there is one
abbrev pub is_some_text : Texts → Bool
is_some_text Any = true
is_some_text (Few ws) = list_any is_some ws

-- a word at a place, unless none is free
abbrev pub put : List (Option Word) → Word → Option ℕ → Texts
put ws w None = Any
put ws w (Some i) = Few (slice_set ws i (Some w))

abbrev pub with_word : List (Option Word) → Word → Texts
with_word ws w = if list_any (is_word (text_of w)) ws then Few ws else put ws w (position is_none ws)

abbrev pub with_if : Texts → Option Word → Texts
with_if t None = t
with_if Any (Some w) = Any
with_if (Few ws) (Some w) = with_word ws w

-- the texts of both, or any where these are too many
abbrev pub joined_texts : Texts → Texts → Texts
joined_texts t Any = Any
joined_texts t (Few ws) = fold with_if t ws

abbrev pub is_other_word : List ℕ → Option Word → Bool
is_other_word s None = false
is_other_word s (Some w) = not (bytes_eq (text_of w) s)

-- its text is one of theirs
abbrev pub is_word_in : List (Option Word) → Option Word → Bool
is_word_in ws None = false
is_word_in ws (Some w) = list_any (is_word (text_of w)) ws

-- its text is another than one of theirs
abbrev pub is_word_apart : List (Option Word) → Option Word → Bool
is_word_apart ws None = false
is_word_apart ws (Some w) = list_any (is_other_word (text_of w)) ws

-- some text of the one is one of the other
abbrev pub meet : Texts → Texts → Bool
meet Any u = is_some_text u
meet (Few vs) Any = is_some_text (Few vs)
meet (Few vs) (Few ws) = list_any (is_word_in vs) ws

-- some text of the one is another than one of the other
abbrev pub differ : Texts → Texts → Bool
differ Any u = is_some_text u
differ (Few vs) Any = is_some_text (Few vs)
differ (Few vs) (Few ws) = list_any (is_word_apart vs) ws
