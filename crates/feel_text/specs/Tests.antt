-- Unary tests and literals, without where they lie in memory, and their grammar over tokens.
use Rattle.std.specs.Prelude.{◌≡◌, ◌≤◌, ℕ, Bool, true, false, pos, ◌-ℤ◌, List, [], ◌∷◌, ◌++◌}
use Rattle.feel_text.specs.declared.token.Word.TheVariants as word
use Rattle.feel_text.specs.declared.token.Sign.{Sign}
use Rattle.feel_text.specs.declared.token.Sign.TheVariants as sign
use Rattle.feel_text.specs.declared.line.Line.TheVariants.{Whole, Sum}
use Rattle.feel_text.specs.Token.{Token, Number, Text, Keyword, Symbol}
use Rattle.feel_text.specs.Expr.{Expr, depth}
use Rattle.feel_text.specs.Grammar.{Reads, constant_of}
use Rattle.feel_value.specs.Datum as datum
use Rattle.feel_value.specs.Datum.{Datum}

-- a comparison of the input, `< <= > >=`
pub data Bound : Type 0 where
  Below : Bound
  AtMost : Bound
  Above : Bound
  AtLeast : Bound

pub data Test : Type 0 where
  -- the input stands so to the value
  Compares : (bound : Bound) (e : Expr) → Test
  -- the input lies between the ends, which are closed or open
  Interval : (closed_low : Bool) (low high : Expr) (closed_high : Bool) → Test
  -- the input is the value, or in it
  Equals : (e : Expr) → Test

pub data Tests : Type 0 where
  Any : Tests
  OneOf : (tests : List Test) → Tests
  NoneOf : (tests : List Test) → Tests

abbrev pub bound_sign : Bound → Sign
bound_sign Below = sign.Less
bound_sign AtMost = sign.LessEqual
bound_sign Above = sign.Greater
bound_sign AtLeast = sign.GreaterEqual

abbrev pub most_depth : ℕ
most_depth = 64

-- an expression within the limit of depth
abbrev pub ReadsSum : List Token → Expr → Type 0
ReadsSum ts e = Reads Sum ts e × (depth e ≤ most_depth)

abbrev pub ReadsExpr : List Token → Expr → Type 0
ReadsExpr ts e = Reads Whole ts e × (depth e ≤ most_depth)

-- `[` closes the low end, `(` and `]` leave it open; `]` closes the high end, `)` and `[` leave it open
pub data Opens : Sign → Bool → Type 0 where
  closed_low : Opens sign.OpenBracket true
  open_low : Opens sign.OpenParen false
  turned_low : Opens sign.CloseBracket false

pub data Closes : Sign → Bool → Type 0 where
  closed_high : Closes sign.CloseBracket true
  open_high : Closes sign.CloseParen false
  turned_high : Closes sign.OpenBracket false

pub data ReadsTest : List Token → Test → Type 0 where
  compares : (bound : Bound) (ts : List Token) (e : Expr) → ReadsSum ts e → ReadsTest (Symbol (bound_sign bound) ∷ ts) (Compares bound e)
  interval : (s t : Sign) (closed_low closed_high : Bool) (ts us : List Token) (low high : Expr) → Opens s closed_low → Closes t closed_high → ReadsSum ts low → ReadsSum us high
      → ReadsTest (Symbol s ∷ (ts ++ Symbol sign.DotDot ∷ (us ++ Symbol t ∷ []))) (Interval closed_low low high closed_high)
  equals : (ts : List Token) (e : Expr) → ReadsExpr ts e → ReadsTest ts (Equals e)

pub data ReadsList : List Token → List Test → Type 0 where
  last_test : (ts : List Token) (t : Test) → ReadsTest ts t → ReadsList ts (t ∷ [])
  next_test : (ts us : List Token) (t : Test) (tests : List Test) → ReadsTest ts t → ReadsList us tests → ReadsList (ts ++ Symbol sign.Comma ∷ us) (t ∷ tests)

-- the form `not ( list )` as a whole
abbrev pub ReadsNot : List Token → List Test → Type 0
ReadsNot ts tests = (us : List Token) × ReadsList us tests × (ts ≡ Keyword word.Not ∷ Symbol sign.OpenParen ∷ (us ++ Symbol sign.CloseParen ∷ []))

-- Tokens that have the form `not ( list )` as a whole are that form only.
abbrev pub ReadsTests : List Token → Tests → Type 0
ReadsTests ts Any = ts ≡ Symbol sign.Minus ∷ []
ReadsTests ts (NoneOf tests) = ReadsNot ts tests
ReadsTests ts (OneOf tests) = ReadsList ts tests × ((others : List Test) → ReadsNot ts others → ⊥)

-- a literal: a number, a string or a constant, and a number may have a `-`
pub data ReadsLiteral : List Token → Datum → Type 0 where
  null : ReadsLiteral (Keyword word.Null ∷ []) datum.null
  constant : (b : Bool) → ReadsLiteral (Keyword (constant_of b) ∷ []) (datum.boolean b)
  number : (n : ℕ) → ReadsLiteral (Number n ∷ []) (datum.number (pos n))
  negative : (n : ℕ) → ReadsLiteral (Symbol sign.Minus ∷ Number n ∷ []) (datum.number (pos 0 -ℤ pos n))
  text : (bytes : List ℕ) → ReadsLiteral (Text bytes ∷ []) (datum.text bytes)
