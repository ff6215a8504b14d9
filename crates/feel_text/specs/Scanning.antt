-- Internal behind `expr_of_spells`, `tests_of_spells` and `literal_of_spells`: laws that tie it to the grammar.
-- Reading the first token of a text, byte by byte. What is read is the token and the bytes after it.
use Rattle.std.specs.List.{list_all, prefix_len}
use Rattle.std.specs.Prelude.{ℕ, zero, suc, Bool, true, false, not, ◌&&◌, List, [], ◌∷◌, ◌++◌, length, take, drop, Option, Some, None, nat_le, nat_lt, ◌==◌, if◌then◌else◌}
use Rattle.feel_text.specs.declared.token.Sign.{Sign}
use Rattle.feel_text.specs.declared.token.Sign.TheVariants as sign
use Rattle.feel_text.specs.Token.{Token, Number, Text, Name, Keyword, Symbol}
use Rattle.feel_text.specs.Lexical.{is_blank, is_digit, is_word_byte, number_from, escaped, keyword_of}
use Rattle.feel_value.specs.Limits.{greatest_number}
use Rattle.feel_text.specs.Reading.{choose}
use Rattle.feel_value.specs.Found.{◌>>=◌}

-- the number that a word of digits writes, where it is within the limit
abbrev pub number_of : List ℕ → Option ℕ
number_of w = if list_all is_digit w && nat_le (number_from 0 w) greatest_number then Some (number_from 0 w) else None

-- the token that a word is, where it begins with a digit and where it doesn't
unfoldable pub number_token : List ℕ → Option Token
number_token w = choose (number_of w) None (λ n. Some (Number n))

unfoldable pub word_token : List ℕ → Option Token
word_token w = choose (keyword_of w) (if nat_le (length w) 64 then Some (Name w) else None) (λ k. Some (Keyword k))

unfoldable pub run_token : Bool → List ℕ → Option Token
run_token true w = number_token w
run_token false w = word_token w

abbrev pub run_length : List ℕ → ℕ
run_length bs = prefix_len is_word_byte bs

-- the run of word bytes at the start, of which the first is told to be a digit or not
unfoldable pub run_at : Bool → List ℕ → Option (Token × List ℕ)
run_at digit bs = choose (run_token digit (take (run_length bs) bs)) None (λ t. Some (t, drop (run_length bs) bs))

abbrev pub onto : ℕ → Option (List ℕ × List ℕ) → Option (List ℕ × List ℕ)
onto b None = None
onto b (Some (content, rest)) = Some (b ∷ content, rest)

-- what a string stands for, after its first quote, and the bytes after its last one; behind a \ or not
unfoldable pub text_at : Bool → List ℕ → Option (List ℕ × List ℕ)
text_at behind [] = None
text_at true (b ∷ bs) = choose (escaped b) None (λ c. onto c (text_at false bs))
text_at false (b ∷ bs) =
    if b == 92 then text_at true bs
    else if b == 34 then Some ([], bs)
    else onto b (text_at false bs)

-- the run of bytes of a string that stand for themselves
abbrev pub is_plain : ℕ → Bool
is_plain b = not (b == 34) && not (b == 92)

abbrev pub plain_length : List ℕ → ℕ
plain_length bs = prefix_len is_plain bs

abbrev pub prefixed : List ℕ → Option (List ℕ × List ℕ) → Option (List ℕ × List ℕ)
prefixed xs None = None
prefixed xs (Some (content, rest)) = Some (xs ++ content, rest)

unfoldable pub string_at : List ℕ → Option (Token × List ℕ)
string_at bs = choose (text_at false bs) None (λ x. Some (Text x.0, x.1))

-- the sign of two bytes
unfoldable pub pair_of : ℕ → ℕ → Option Sign
pair_of b c =
    if b == 33 && c == 61 then Some sign.NotEqual
    else if b == 60 && c == 61 then Some sign.LessEqual
    else if b == 62 && c == 61 then Some sign.GreaterEqual
    else if b == 46 && c == 46 then Some sign.DotDot
    else None

-- the sign of one byte
unfoldable pub sign_of : ℕ → Option Sign
sign_of b =
    if b == 43 then Some sign.Plus
    else if b == 45 then Some sign.Minus
    else if b == 42 then Some sign.Star
    else if b == 61 then Some sign.Equal
    else if b == 60 then Some sign.Less
    else if b == 62 then Some sign.Greater
    else if b == 40 then Some sign.OpenParen
    else if b == 41 then Some sign.CloseParen
    else if b == 91 then Some sign.OpenBracket
    else if b == 93 then Some sign.CloseBracket
    else if b == 44 then Some sign.Comma
    else if b == 46 then Some sign.Dot
    else None

unfoldable pub single_at : ℕ → List ℕ → Option (Token × List ℕ)
single_at b bs = choose (sign_of b) None (λ s. Some (Symbol s, bs))

-- the longest sign after its first byte
unfoldable pub sign_at : ℕ → List ℕ → Option (Token × List ℕ)
sign_at b [] = single_at b []
sign_at b (c ∷ cs) = choose (pair_of b c) (single_at b (c ∷ cs)) (λ s. Some (Symbol s, cs))

-- the first token of a text that begins with no blank
unfoldable pub token_at : List ℕ → Option (Token × List ℕ)
token_at [] = None
token_at (b ∷ bs) =
    if is_word_byte b then run_at (is_digit b) (b ∷ bs)
    else if b == 34 then string_at bs
    else if nat_lt b 128 then sign_at b bs
    else None

-- the tokens of a text of at most k bytes
unfoldable pub cut_at : ℕ → List ℕ → Option (List Token)
cut_at k [] = Some []
cut_at zero (b ∷ bs) = None
cut_at (suc k) (b ∷ bs) =
    if is_blank b then cut_at k bs
    else (do
      x ← token_at (b ∷ bs)
      ts ← cut_at k x.1
      Some (x.0 ∷ ts))

-- the tokens of a text
unfoldable pub cut_of : List ℕ → Option (List Token)
cut_of text = cut_at (length text) text
