-- How a FEEL text is cut into tokens, by the longest run.
use Rattle.std.specs.List.{list_all}
use Rattle.std.specs.Prelude.{◌≡◌, ◌≤◌, ℕ, ◌+◌, ◌*◌, ◌-◌, Bool, true, false, not, ◌&&◌, ◌||◌, List, [], ◌∷◌, ◌++◌, length, Option, Some, None, IsTrue, is_some, nat_le, ◌==◌, bytes_eq, codes, if◌then◌else◌}
use Rattle.feel_text.specs.declared.token.Word.{Word}
use Rattle.feel_text.specs.declared.token.Word.TheVariants as word
use Rattle.feel_text.specs.declared.token.Sign.{Sign}
use Rattle.feel_text.specs.declared.token.Sign.TheVariants as sign
use Rattle.feel_value.specs.Limits.{greatest_number}
use Rattle.feel_text.specs.Token.{Token, Number, Text, Name, Keyword, Symbol}

-- space, tab, carriage return and newline
abbrev pub is_blank : ℕ → Bool
is_blank b = b == 32 || b == 9 || b == 13 || b == 10

abbrev pub is_digit : ℕ → Bool
is_digit b = nat_le 48 b && nat_le b 57

-- A-Z a-z 0-9 _
abbrev pub is_word_byte : ℕ → Bool
is_word_byte b = is_digit b || (nat_le 65 b && nat_le b 90) || (nat_le 97 b && nat_le b 122) || b == 95

-- the number that digits write, the first the highest; leading zeros are lawful
abbrev pub number_from : ℕ → List ℕ → ℕ
number_from n [] = n
number_from n (b ∷ bs) = number_from (10 * n + (b - 48)) bs

abbrev pub keyword_text : Word → List ℕ
keyword_text word.If = codes "if"
keyword_text word.Then = codes "then"
keyword_text word.Else = codes "else"
keyword_text word.And = codes "and"
keyword_text word.Or = codes "or"
keyword_text word.Not = codes "not"
keyword_text word.Between = codes "between"
keyword_text word.Null = codes "null"
keyword_text word.True = codes "true"
keyword_text word.False = codes "false"

-- the keyword that a word is
abbrev pub keyword_of : List ℕ → Option Word
keyword_of w =
    if bytes_eq w (codes "if") then Some word.If
    else if bytes_eq w (codes "then") then Some word.Then
    else if bytes_eq w (codes "else") then Some word.Else
    else if bytes_eq w (codes "and") then Some word.And
    else if bytes_eq w (codes "or") then Some word.Or
    else if bytes_eq w (codes "not") then Some word.Not
    else if bytes_eq w (codes "between") then Some word.Between
    else if bytes_eq w (codes "null") then Some word.Null
    else if bytes_eq w (codes "true") then Some word.True
    else if bytes_eq w (codes "false") then Some word.False
    else None

abbrev pub is_keyword : List ℕ → Bool
is_keyword w = is_some (keyword_of w)

abbrev pub is_word : List ℕ → Bool
is_word [] = false
is_word (b ∷ bs) = not (is_digit b) && list_all is_word_byte (b ∷ bs)

-- A name is a word of at most 64 bytes that is no keyword.
abbrev pub is_name : List ℕ → Bool
is_name w = is_word w && nat_le (length w) 64 && not (is_keyword w)

abbrev pub is_number : List ℕ → Bool
is_number [] = false
is_number (b ∷ bs) = list_all is_digit (b ∷ bs)

abbrev pub sign_text : Sign → List ℕ
sign_text sign.Plus = codes "+"
sign_text sign.Minus = codes "-"
sign_text sign.Star = codes "*"
sign_text sign.Equal = codes "="
sign_text sign.NotEqual = codes "!="
sign_text sign.Less = codes "<"
sign_text sign.LessEqual = codes "<="
sign_text sign.Greater = codes ">"
sign_text sign.GreaterEqual = codes ">="
sign_text sign.OpenParen = codes "("
sign_text sign.CloseParen = codes ")"
sign_text sign.OpenBracket = codes "["
sign_text sign.CloseBracket = codes "]"
sign_text sign.Comma = codes ","
sign_text sign.Dot = codes "."
sign_text sign.DotDot = codes ".."

-- what the byte after a \ stands for
abbrev pub escaped : ℕ → Option ℕ
escaped b =
    if b == 34 then Some 34
    else if b == 92 then Some 92
    else if b == 110 then Some 10
    else if b == 114 then Some 13
    else if b == 116 then Some 9
    else None

abbrev pub before : ℕ → Option (List ℕ) → Option (List ℕ)
before b None = None
before b (Some bs) = Some (b ∷ bs)

abbrev pub escape_before : Option ℕ → Option (List ℕ) → Option (List ℕ)
escape_before None bs = None
escape_before (Some b) bs = before b bs

-- What stands between the quotes of a string, with the escapes resolved. A " has no place there but behind a \.
abbrev pub unescaped : List ℕ → Option (List ℕ)
unescaped [] = Some []
unescaped (b ∷ []) = if b == 34 || b == 92 then None else Some (b ∷ [])
unescaped (b ∷ c ∷ bs) = if b == 92 then escape_before (escaped c) (unescaped bs) else if b == 34 then None else before b (unescaped (c ∷ bs))

-- The bytes are one token.
abbrev pub IsToken : List ℕ → Token → Type 0
IsToken bytes (Number n) = IsTrue (is_number bytes) × (number_from 0 bytes ≡ n) × (n ≤ greatest_number)
IsToken bytes (Text content) = (body : List ℕ) × (bytes ≡ 34 ∷ (body ++ 34 ∷ [])) × (unescaped body ≡ Some content)
IsToken bytes (Name name) = IsTrue (is_name bytes) × (bytes ≡ name)
IsToken bytes (Keyword w) = bytes ≡ keyword_text w
IsToken bytes (Symbol s) = bytes ≡ sign_text s

-- The token doesn't go on with the byte after it: a number and a word end where the run of word bytes ends, and
-- `<`, `>` and `.` stand for themselves only where no `<=`, `>=` or `..` stands.
abbrev pub ends_before : Token → ℕ → Bool
ends_before (Number n) b = not (is_word_byte b)
ends_before (Name name) b = not (is_word_byte b)
ends_before (Keyword w) b = not (is_word_byte b)
ends_before (Text content) b = true
ends_before (Symbol sign.Less) b = not (b == 61)
ends_before (Symbol sign.Greater) b = not (b == 61)
ends_before (Symbol sign.Dot) b = not (b == 46)
ends_before (Symbol s) b = true

abbrev pub Ends : Token → List ℕ → Type 0
Ends t [] = Unit {0}
Ends t (b ∷ bs) = IsTrue (ends_before t b)

-- The text is these tokens, each the longest run, with blanks between them and round them.
abbrev pub IsCut : List ℕ → List Token → Type 0
IsCut text [] = IsTrue (list_all is_blank text)
IsCut text (t ∷ ts) = (blanks bytes rest : List ℕ) × IsTrue (list_all is_blank blanks) × IsToken bytes t × Ends t rest × (text ≡ blanks ++ (bytes ++ rest)) × IsCut rest ts
