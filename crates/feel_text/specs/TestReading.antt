-- Internal behind `expr_of_spells`, `tests_of_spells` and `literal_of_spells`: laws that tie it to the grammar.
-- Reading unary tests and literals from their tokens, once from left to right. What is read is a test and the tokens after it.
use Rattle.std.specs.Prelude.{ℕ, zero, suc, Bool, true, false, ℤ, pos, ◌-ℤ◌, List, [], ◌∷◌, ◌++◌, length, Option, Some, None, nat_le, if◌then◌else◌}
use Rattle.feel_text.specs.declared.token.Word.TheVariants as word
use Rattle.feel_text.specs.declared.token.Sign.TheVariants as sign
use Rattle.feel_text.specs.declared.line.Line.TheVariants as line
use Rattle.feel_text.specs.Token.{Token, Number, Text, Keyword, Symbol}
use Rattle.feel_text.specs.Tests.{Bound, Below, AtMost, Above, AtLeast, Test, Compares, Interval, Equals, Tests, Any, OneOf, NoneOf, most_depth}
use Rattle.feel_text.specs.Reading.{choose, after_open, after_close, after_comma, read_at}
use Rattle.feel_value.specs.Found.{◌>>=◌}
use Rattle.feel_value.specs.Datum as datum
use Rattle.feel_value.specs.Datum.{Datum}
use Rattle.feel_value.specs.Limits.{greatest_number, is_value}

-- ---- tests

-- the comparison that a sign begins
abbrev pub bound_of : Token → Option Bound
bound_of (Symbol sign.Less) = Some Below
bound_of (Symbol sign.LessEqual) = Some AtMost
bound_of (Symbol sign.Greater) = Some Above
bound_of (Symbol sign.GreaterEqual) = Some AtLeast
bound_of t = None

-- whether the low end is closed, where the sign begins an interval
abbrev pub low_end_of : Token → Option Bool
low_end_of (Symbol sign.OpenBracket) = Some true
low_end_of (Symbol sign.OpenParen) = Some false
low_end_of (Symbol sign.CloseBracket) = Some false
low_end_of t = None

-- whether the high end is closed, where the sign ends an interval
abbrev pub high_end_of : Token → Option Bool
high_end_of (Symbol sign.CloseBracket) = Some true
high_end_of (Symbol sign.CloseParen) = Some false
high_end_of (Symbol sign.OpenBracket) = Some false
high_end_of t = None

abbrev pub after_dots : List Token → Option (List Token)
after_dots (Symbol sign.DotDot ∷ ts) = Some ts
after_dots ts = None

unfoldable pub high_end_at : List Token → Option (Bool × List Token)
high_end_at [] = None
high_end_at (t ∷ ts) = do
  closed ← high_end_of t
  Some (closed, ts)

-- an interval, of which the first token is told apart
unfoldable pub interval_at : Token → List Token → Option (Test × List Token)
interval_at t ts = do
  closed ← low_end_of t
  low ← read_at most_depth line.Sum ts
  us ← after_dots low.2
  high ← read_at most_depth line.Sum us
  end ← high_end_at high.2
  Some (Interval closed low.0 high.0 end.0, end.1)

unfoldable pub compares_at : Bound → List Token → Option (Test × List Token)
compares_at bound ts = do
  x ← read_at most_depth line.Sum ts
  Some (Compares bound x.0, x.2)

-- a test that is no comparison
unfoldable pub plain_at : Token → List Token → Option (Test × List Token)
plain_at t ts = choose (read_at most_depth line.Whole (t ∷ ts)) (interval_at t ts) (λ x. Some (Equals x.0, x.2))

unfoldable pub test_at : List Token → Option (Test × List Token)
test_at [] = None
test_at (t ∷ ts) = choose (bound_of t) (plain_at t ts) (λ bound. compares_at bound ts)

-- at most k tests with commas between them, and the tokens after the last
unfoldable pub list_at : ℕ → List Token → Option (List Test × List Token)
list_at zero ts = None
list_at (suc k) ts = do
  x ← test_at ts
  choose (after_comma x.1) (Some (x.0 ∷ [], x.1)) (λ us. list_at k us >>= λ y. Some (x.0 ∷ y.0, y.1))

-- the tests that were read, before those still to be read
abbrev pub preceded : List Test → Option (List Test × List Token) → Option (List Test × List Token)
preceded xs None = None
preceded xs (Some (ys, ts)) = Some (xs ++ ys, ts)

-- what was read, where no token is left
abbrev pub all_read : {A : Type 0} → List Token → A → Option A
all_read [] a = Some a
all_read (t ∷ ts) a = None

unfoldable pub one_of_at : List Token → Option Tests
one_of_at ts = do
  x ← list_at (length ts) ts
  all_read x.1 (OneOf x.0)

-- the list of a `not`, after its parenthesis
unfoldable pub none_of_at : List Token → Option Tests
none_of_at ts = do
  x ← list_at (length ts) ts
  us ← after_close x.1
  all_read us (NoneOf x.0)

-- the tokens after `not` and its parenthesis
abbrev pub after_not : List Token → Option (List Token)
after_not (Keyword word.Not ∷ ts) = after_open ts
after_not ts = None

abbrev pub is_dash : List Token → Bool
is_dash (Symbol sign.Minus ∷ []) = true
is_dash ts = false

-- Tests that are no `-`: those of a `not` as a whole, and otherwise a list.
unfoldable pub listed_at : List Token → Option Tests
listed_at ts = choose (after_not ts >>= none_of_at) (one_of_at ts) (λ tests. Some tests)

unfoldable pub tests_at : List Token → Option Tests
tests_at ts = if is_dash ts then Some Any else listed_at ts

-- ---- literals

-- the number of a token, within the range of numbers
abbrev pub number_at : ℕ → Option ℤ
number_at n = if nat_le n greatest_number then Some (pos n) else None

-- what a literal of one token stands for
abbrev pub constant_at : Token → Option Datum
constant_at (Number n) = number_at n >>= λ z. Some (datum.number z)
constant_at (Text bytes) = Some (datum.text bytes)
constant_at (Keyword word.Null) = Some datum.null
constant_at (Keyword word.True) = Some (datum.boolean true)
constant_at (Keyword word.False) = Some (datum.boolean false)
constant_at t = None

abbrev pub negative_at : Token → Option Datum
negative_at (Number n) = number_at n >>= λ z. Some (datum.number (pos 0 -ℤ z))
negative_at t = None

abbrev pub is_minus : Token → Bool
is_minus (Symbol sign.Minus) = true
is_minus t = false

abbrev pub signed_at : List Token → Option Datum
signed_at [] = None
signed_at (t ∷ []) = constant_at t
signed_at (t ∷ u ∷ []) = if is_minus t then negative_at u else None
signed_at (t ∷ u ∷ v ∷ ts) = None

-- a literal within the limits of values
unfoldable pub literal_at : List Token → Option Datum
literal_at ts = do
  d ← signed_at ts
  if is_value d then Some d else None
