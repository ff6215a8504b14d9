-- The tokens of a FEEL text, without where they lie in memory.
use Rattle.std.specs.Prelude.{ℕ, List, map, string_bytes}
use Rattle.feel_text.specs.declared.token.Word.{Word}
use Rattle.feel_text.specs.declared.token.Sign.{Sign}
use Rattle.feel_text.specs.declared.token.Token as code
use Rattle.feel_text.specs.declared.token.Token.TheVariants as variants

pub data Token : Type 0 where
  Number : (n : ℕ) → Token
  Text : (bytes : List ℕ) → Token
  Name : (name : List ℕ) → Token
  Keyword : (word : Word) → Token
  Symbol : (sign : Sign) → Token

-- a token of the code
abbrev pub view : code.Token → Token
view (variants.Number n) = Number n
view (variants.Text s) = Text (string_bytes s)
view (variants.Name r) = Name r.name
view (variants.Keyword w) = Keyword w
view (variants.Symbol s) = Symbol s

abbrev pub views : List code.Token → List Token
views = map view
