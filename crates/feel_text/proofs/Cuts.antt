-- A text has at most one cut into tokens, and scanning finds it.
use Rattle.std.proofs.Common.{◌≡◌, ◌<◌, ℕ, suc, Bool, true, false, ◌&&◌, ◌||◌, not, List, [], ◌∷◌, ◌++◌, length, take, drop, Option, Some, None, refl, sym, ap, subst, ◌∙◌, arith, append_assoc, take_at, drop_at, length-append}
use Rattle.std.specs.List.{list_all}
use Rattle.std.specs.Prelude.{IsTrue, IfSome, nat_le, ◌==◌, is_some, codes}
use Rattle.std.proofs.lemmas.Bool.Decides.{nat_tests}
use Rattle.std.proofs.lemmas.Option.{same_Some}
use Rattle.feel_text.specs.declared.token.Word.{Word}
use Rattle.feel_text.specs.declared.token.Word.TheVariants as word
use Rattle.feel_text.specs.declared.token.Sign.{Sign}
use Rattle.feel_text.specs.declared.token.Sign.TheVariants as sign
use Rattle.feel_text.specs.Token.{Token, Number, Text, Name, Keyword, Symbol, view, views}
use Rattle.feel_text.specs.declared.token.Token as code
use Rattle.feel_text.specs.declared.fault.ReadFault.{ReadFault}
use Rattle.feel_text.specs.declared.fault.ReadFault.TheVariants.{Syntax, Memory}
use Rattle.feel_text.specs.Gives.{Fails}
use Rattle.feel_text.specs.Lexical.{IsCut, IsToken, Ends, is_blank, is_digit, is_word_byte, is_word, is_name, is_number, is_keyword, keyword_of, keyword_text, sign_text, escaped, escape_before, before, unescaped}
use Rattle.feel_text.specs.Scanning.{number_of, number_token, word_token, run_token, run_length, run_at, text_at, onto, string_at, pair_of, sign_of, single_at, sign_at, token_at, is_plain}
use Rattle.feel_text.specs.Reading.{choose}
use Rattle.feel_text.proofs.Strings.{text_plain, text_quote, text_behind, text_escape}
use Rattle.feel_text.proofs.Runs.{number_ends}
use Rattle.feel_text.proofs.Scanned.{IsFirst, First, token_sound, run_length_yes, run_length_no, both_left, both_right, is_number_at}

-- ---- runs of word bytes

abbrev Stops : List ℕ → Type 0
Stops [] = Unit {0}
Stops (b ∷ bs) = is_word_byte b ≡ false

run_whole : (xs rest : List ℕ) → list_all is_word_byte xs ≡ true → Stops rest → run_length (xs ++ rest) ≡ length xs
run_whole [] [] a s = refl
run_whole [] (b ∷ bs) a s = run_length_no b bs s
run_whole (x ∷ xs) rest a s = run_length_yes x (xs ++ rest) (both_left (is_word_byte x) (list_all is_word_byte xs) a) ∙ ap suc (run_whole xs rest (both_right (is_word_byte x) (list_all is_word_byte xs) a) s)

run_found : (digit : Bool) (bs w r : List ℕ) (t : Token) → take (run_length bs) bs ≡ w → drop (run_length bs) bs ≡ r → run_token digit w ≡ Some t → run_at digit bs ≡ Some (t, r)
unfolding run_at
run_found digit bs w r t e f known = rw (e, f, known) refl

token_run : (b : ℕ) (bs : List ℕ) → is_word_byte b ≡ true → token_at (b ∷ bs) ≡ run_at (is_digit b) (b ∷ bs)
unfolding token_at
token_run b bs w = rw w refl

word_again : (b : ℕ) (bs rest : List ℕ) (t : Token) → list_all is_word_byte (b ∷ bs) ≡ true → Stops rest → run_token (is_digit b) (b ∷ bs) ≡ Some t → token_at ((b ∷ bs) ++ rest) ≡ Some (t, rest)
word_again b bs rest t a s known =
    let n = run_whole (b ∷ bs) rest a s in
    token_run b (bs ++ rest) (both_left (is_word_byte b) (list_all is_word_byte bs) a)
    ∙ run_found (is_digit b) ((b ∷ bs) ++ rest) (b ∷ bs) rest t (take_at (b ∷ bs) rest (run_length ((b ∷ bs) ++ rest)) (sym n)) (drop_at (b ∷ bs) rest (run_length ((b ∷ bs) ++ rest)) (sym n)) known

digit_word : (b : ℕ) → is_digit b ≡ true → is_word_byte b ≡ true
digit_word b d = rw d refl

digits_words : (xs : List ℕ) → list_all is_digit xs ≡ true → list_all is_word_byte xs ≡ true
digits_words [] a = refl
digits_words (x ∷ xs) a = rw (digit_word x (both_left (is_digit x) (list_all is_digit xs) a)) (digits_words xs (both_right (is_digit x) (list_all is_digit xs) a))

number_token_is : (w : List ℕ) (n : ℕ) → number_of w ≡ Some n → run_token true w ≡ Some (Number n)
unfolding run_token number_token
number_token_is w n e = rw e refl

number_again : (bytes rest : List ℕ) (n : ℕ) → IsToken bytes (Number n) → Stops rest → token_at (bytes ++ rest) ≡ Some (Number n, rest)
number_again [] rest n t s = let f = t.0 in absurd cc
number_again (b ∷ bs) rest n t s =
    let d : is_digit b ≡ true = both_left (is_digit b) (list_all is_digit bs) t.0 in
    let known : run_token true (b ∷ bs) ≡ Some (Number n) = number_token_is (b ∷ bs) n (number_ends (b ∷ bs) n (sym t.1) t.0 t.2) in
    word_again b bs rest (Number n) (digits_words (b ∷ bs) t.0) s (ap (λ (g : Bool). run_token g (b ∷ bs)) d ∙ known)

none_of : (o : Option Word) → not (is_some o) ≡ true → o ≡ None
none_of None e = refl
none_of (Some k) e = absurd cc

not_true : (b : Bool) → not b ≡ true → b ≡ false
not_true true e = absurd cc
not_true false e = refl

name_token_is : (w : List ℕ) → keyword_of w ≡ None → nat_le (length w) 64 ≡ true → run_token false w ≡ Some (Name w)
unfolding run_token word_token
name_token_is w k n = rw (k, n) refl

keyword_token_is : (w : List ℕ) (k : Word) → keyword_of w ≡ Some k → run_token false w ≡ Some (Keyword k)
unfolding run_token word_token
keyword_token_is w k e = rw e refl

name_again : (w rest : List ℕ) → is_name w ≡ true → Stops rest → token_at (w ++ rest) ≡ Some (Name w, rest)
name_again [] rest e s = absurd cc
name_again (b ∷ bs) rest e s =
    let most = both_left (is_word (b ∷ bs) && nat_le (length (b ∷ bs)) 64) (not (is_keyword (b ∷ bs))) e in
    let is : is_word (b ∷ bs) ≡ true = both_left (is_word (b ∷ bs)) (nat_le (length (b ∷ bs)) 64) most in
    let short : nat_le (length (b ∷ bs)) 64 ≡ true = both_right (is_word (b ∷ bs)) (nat_le (length (b ∷ bs)) 64) most in
    let other : keyword_of (b ∷ bs) ≡ None = none_of (keyword_of (b ∷ bs)) (both_right (is_word (b ∷ bs) && nat_le (length (b ∷ bs)) 64) (not (is_keyword (b ∷ bs))) e) in
    let d : is_digit b ≡ false = not_true (is_digit b) (both_left (not (is_digit b)) _ is) in
    word_again b bs rest (Name (b ∷ bs)) (both_right (not (is_digit b)) _ is) s (ap (λ (g : Bool). run_token g (b ∷ bs)) d ∙ name_token_is (b ∷ bs) other short)

keyword_again : (k : Word) (rest : List ℕ) → Stops rest → token_at (keyword_text k ++ rest) ≡ Some (Keyword k, rest)
keyword_again word.If rest s = word_again 105 (codes "f") rest (Keyword word.If) refl s (keyword_token_is (codes "if") word.If refl)
keyword_again word.Then rest s = word_again 116 (codes "hen") rest (Keyword word.Then) refl s (keyword_token_is (codes "then") word.Then refl)
keyword_again word.Else rest s = word_again 101 (codes "lse") rest (Keyword word.Else) refl s (keyword_token_is (codes "else") word.Else refl)
keyword_again word.And rest s = word_again 97 (codes "nd") rest (Keyword word.And) refl s (keyword_token_is (codes "and") word.And refl)
keyword_again word.Or rest s = word_again 111 (codes "r") rest (Keyword word.Or) refl s (keyword_token_is (codes "or") word.Or refl)
keyword_again word.Not rest s = word_again 110 (codes "ot") rest (Keyword word.Not) refl s (keyword_token_is (codes "not") word.Not refl)
keyword_again word.Between rest s = word_again 98 (codes "etween") rest (Keyword word.Between) refl s (keyword_token_is (codes "between") word.Between refl)
keyword_again word.Null rest s = word_again 110 (codes "ull") rest (Keyword word.Null) refl s (keyword_token_is (codes "null") word.Null refl)
keyword_again word.True rest s = word_again 116 (codes "rue") rest (Keyword word.True) refl s (keyword_token_is (codes "true") word.True refl)
keyword_again word.False rest s = word_again 102 (codes "alse") rest (Keyword word.False) refl s (keyword_token_is (codes "false") word.False refl)

-- ---- strings

escape_inverse : (o : Option ℕ) (r : Option (List ℕ)) (content : List ℕ) → escape_before o r ≡ Some content → (d : ℕ) × (x : List ℕ) × (o ≡ Some d) × (r ≡ Some x) × (content ≡ d ∷ x)
escape_inverse None r content e = absurd cc
escape_inverse (Some d) None content e = absurd cc
escape_inverse (Some d) (Some x) content e = (d, x, refl, refl, sym (same_Some (d ∷ x) content e))

before_inverse : (b : ℕ) (r : Option (List ℕ)) (content : List ℕ) → before b r ≡ Some content → (x : List ℕ) × (r ≡ Some x) × (content ≡ b ∷ x)
before_inverse b None content e = absurd cc
before_inverse b (Some x) content e = (x, refl, sym (same_Some (b ∷ x) content e))

-- the rest of a body is read as what it stands for
abbrev Again : List ℕ → List ℕ → Type 0
Again bs rest = (x : List ℕ) → unescaped bs ≡ Some x → text_at false (bs ++ 34 ∷ rest) ≡ Some (x, rest)

again_last : (b : ℕ) (content rest : List ℕ) (p : Bool) → (b == 34 || b == 92) ≡ p → unescaped (b ∷ []) ≡ Some content → text_at false (b ∷ 34 ∷ rest) ≡ Some (content, rest)
again_last b content rest true p e =
    let none : unescaped (b ∷ []) ≡ None = rw p refl in
    let f : ◌≡◌ {A = Option (List ℕ)} None (Some content) = sym none ∙ e in
    absurd cc
again_last b content rest false p e =
    let one : unescaped (b ∷ []) ≡ Some (b ∷ []) = rw p refl in
    let same : content ≡ b ∷ [] = same_Some content (b ∷ []) (sym e ∙ one) in
    let plain : is_plain b ≡ true = grind (arith, nat_tests) in
    text_plain b (34 ∷ rest) plain ∙ ap (λ (r : Option (List ℕ × List ℕ)). onto b r) (text_quote rest) ∙ ap (λ (w : List ℕ). Some (w, rest)) (sym same)

again_more : (b c : ℕ) (bs content rest : List ℕ) (p q : Bool) → (b == 92) ≡ p → (b == 34) ≡ q → Again bs rest → Again (c ∷ bs) rest → unescaped (b ∷ c ∷ bs) ≡ Some content → text_at false (b ∷ c ∷ (bs ++ 34 ∷ rest)) ≡ Some (content, rest)
again_more b c bs content rest true q p r h g e =
    let one : unescaped (b ∷ c ∷ bs) ≡ escape_before (escaped c) (unescaped bs) = rw p refl in
    let i = escape_inverse (escaped c) (unescaped bs) content (sym one ∙ e) in
    let mark : b ≡ 92 = grind (arith, nat_tests) in
    ap (λ (k : ℕ). text_at false (k ∷ c ∷ (bs ++ 34 ∷ rest))) mark ∙ text_behind (c ∷ (bs ++ 34 ∷ rest)) ∙ text_escape c (bs ++ 34 ∷ rest)
    ∙ ap (λ (o : Option ℕ). choose o None (λ d. onto d (text_at false (bs ++ 34 ∷ rest)))) i.2 ∙ ap (λ (r : Option (List ℕ × List ℕ)). onto i.0 r) (h i.1 i.3) ∙ ap (λ (w : List ℕ). Some (w, rest)) (sym i.4)
again_more b c bs content rest false true p r h g e =
    let one : unescaped (b ∷ c ∷ bs) ≡ None = rw (p, r) refl in
    let f : ◌≡◌ {A = Option (List ℕ)} None (Some content) = sym one ∙ e in
    absurd cc
again_more b c bs content rest false false p r h g e =
    let one : unescaped (b ∷ c ∷ bs) ≡ before b (unescaped (c ∷ bs)) = rw (p, r) refl in
    let i = before_inverse b (unescaped (c ∷ bs)) content (sym one ∙ e) in
    let plain : is_plain b ≡ true = grind (arith, nat_tests) in
    text_plain b (c ∷ (bs ++ 34 ∷ rest)) plain ∙ ap (λ (r : Option (List ℕ × List ℕ)). onto b r) (g i.0 i.1) ∙ ap (λ (w : List ℕ). Some (w, rest)) (sym i.2)

text_again : (body rest : List ℕ) → Again body rest
text_again [] rest content e = text_quote rest ∙ ap (λ (w : List ℕ). Some (w, rest)) (same_Some [] content e)
text_again (b ∷ []) rest content e = again_last b content rest (b == 34 || b == 92) refl e
text_again (b ∷ c ∷ bs) rest content e = again_more b c bs content rest (b == 92) (b == 34) refl refl (text_again bs rest) (text_again (c ∷ bs) rest) e

string_found : (bs content rest : List ℕ) → text_at false bs ≡ Some (content, rest) → token_at (34 ∷ bs) ≡ Some (Text content, rest)
unfolding token_at string_at
string_found bs content rest e = rw e refl

string_again : (bytes rest content : List ℕ) → IsToken bytes (Text content) → token_at (bytes ++ rest) ≡ Some (Text content, rest)
string_again bytes rest content t =
    let whole : bytes ++ rest ≡ 34 ∷ (t.0 ++ 34 ∷ rest) = ap (λ (w : List ℕ). w ++ rest) t.1 ∙ ap (λ (w : List ℕ). 34 ∷ w) (append_assoc t.0 (34 ∷ []) rest) in
    ap token_at whole ∙ string_found (t.0 ++ 34 ∷ rest) content rest (text_again t.0 rest content t.2)

-- ---- signs

pair_none : (b c n m : ℕ) → (c == m) ≡ false → ((b == n) && (c == m)) ≡ false
pair_none b c n m e = grind (arith, nat_tests)

sign_again : (s : Sign) (rest : List ℕ) → Ends (Symbol s) rest → token_at (sign_text s ++ rest) ≡ Some (Symbol s, rest)
unfolding token_at sign_at single_at sign_of pair_of
sign_again sign.Plus [] e = refl
sign_again sign.Plus (c ∷ cs) e = refl
sign_again sign.Minus [] e = refl
sign_again sign.Minus (c ∷ cs) e = refl
sign_again sign.Star [] e = refl
sign_again sign.Star (c ∷ cs) e = refl
sign_again sign.Equal [] e = refl
sign_again sign.Equal (c ∷ cs) e = refl
sign_again sign.NotEqual rest e = refl
sign_again sign.Less [] e = refl
sign_again sign.Less (c ∷ cs) e = rw (not_true (c == 61) e) refl
sign_again sign.LessEqual rest e = refl
sign_again sign.Greater [] e = refl
sign_again sign.Greater (c ∷ cs) e = rw (not_true (c == 61) e) refl
sign_again sign.GreaterEqual rest e = refl
sign_again sign.OpenParen [] e = refl
sign_again sign.OpenParen (c ∷ cs) e = refl
sign_again sign.CloseParen [] e = refl
sign_again sign.CloseParen (c ∷ cs) e = refl
sign_again sign.OpenBracket [] e = refl
sign_again sign.OpenBracket (c ∷ cs) e = refl
sign_again sign.CloseBracket [] e = refl
sign_again sign.CloseBracket (c ∷ cs) e = refl
sign_again sign.Comma [] e = refl
sign_again sign.Comma (c ∷ cs) e = refl
sign_again sign.Dot [] e = refl
sign_again sign.Dot (c ∷ cs) e = rw (not_true (c == 46) e) refl
sign_again sign.DotDot rest e = refl

-- ---- any token

stops_number : (n : ℕ) (rest : List ℕ) → Ends (Number n) rest → Stops rest
stops_number n [] e = tt
stops_number n (b ∷ bs) e = not_true (is_word_byte b) e

stops_name : (w rest : List ℕ) → Ends (Name w) rest → Stops rest
stops_name w [] e = tt
stops_name w (b ∷ bs) e = not_true (is_word_byte b) e

stops_keyword : (k : Word) (rest : List ℕ) → Ends (Keyword k) rest → Stops rest
stops_keyword k [] e = tt
stops_keyword k (b ∷ bs) e = not_true (is_word_byte b) e

-- The token at the start of a text is the one that is scanned.
pub token_again : (bytes rest : List ℕ) (t : Token) → IsToken bytes t → Ends t rest → token_at (bytes ++ rest) ≡ Some (t, rest)
token_again bytes rest (Number n) t e = number_again bytes rest n t (stops_number n rest e)
token_again bytes rest (Text content) t e = string_again bytes rest content t
token_again bytes rest (Name w) t e = subst (λ (v : List ℕ). token_at (bytes ++ rest) ≡ Some (Name v, rest)) t.1 (name_again bytes rest t.0 (stops_name w rest e))
token_again bytes rest (Keyword k) t e = ap (λ (w : List ℕ). token_at (w ++ rest)) t ∙ keyword_again k rest (stops_keyword k rest e)
token_again bytes rest (Symbol s) t e = ap (λ (w : List ℕ). token_at (w ++ rest)) t ∙ sign_again s rest e

-- ---- whole texts

blank_32 : (bs : List ℕ) → token_at (32 ∷ bs) ≡ None
unfolding token_at sign_at single_at sign_of pair_of
blank_32 [] = refl
blank_32 (c ∷ cs) = refl

blank_9 : (bs : List ℕ) → token_at (9 ∷ bs) ≡ None
unfolding token_at sign_at single_at sign_of pair_of
blank_9 [] = refl
blank_9 (c ∷ cs) = refl

blank_13 : (bs : List ℕ) → token_at (13 ∷ bs) ≡ None
unfolding token_at sign_at single_at sign_of pair_of
blank_13 [] = refl
blank_13 (c ∷ cs) = refl

blank_10 : (bs : List ℕ) → token_at (10 ∷ bs) ≡ None
unfolding token_at sign_at single_at sign_of pair_of
blank_10 [] = refl
blank_10 (c ∷ cs) = refl

-- a first byte that is known
by_byte : (b n : ℕ) (bs : List ℕ) → (b == n) ≡ true → token_at (n ∷ bs) ≡ None → token_at (b ∷ bs) ≡ None
by_byte b n bs e h = subst (λ (k : ℕ). token_at (k ∷ bs) ≡ None) (sym (is_number_at b n e)) h

by_blank : (b : ℕ) (bs : List ℕ) (p q r : Bool) → (b == 32) ≡ p → (b == 9) ≡ q → (b == 13) ≡ r → is_blank b ≡ true → token_at (b ∷ bs) ≡ None
by_blank b bs true q r f g h e = by_byte b 32 bs f (blank_32 bs)
by_blank b bs false true r f g h e = by_byte b 9 bs g (blank_9 bs)
by_blank b bs false false true f g h e = by_byte b 13 bs h (blank_13 bs)
by_blank b bs false false false f g h e =
    let last : (b == 10) ≡ true = grind (arith, nat_tests) in
    by_byte b 10 bs last (blank_10 bs)

-- No token begins with a blank.
blank_none : (b : ℕ) (bs : List ℕ) → is_blank b ≡ true → token_at (b ∷ bs) ≡ None
blank_none b bs e =
    by_blank b bs (b == 32) (b == 9) (b == 13) refl refl refl e

pub blank_ascii : (b : ℕ) → is_blank b ≡ true → b < 128
blank_ascii b e = grind (arith, nat_tests)

pub blank_before : (b : ℕ) (bs : List ℕ) → is_blank b ≡ true → (ts : List Token) → IsCut bs ts → IsCut (b ∷ bs) ts
blank_before b bs e [] c = rw e c
blank_before b bs e (t ∷ ts) c = (b ∷ c.0, c.1, c.2, (rw e c.3), c.4, c.5, ap (λ (w : List ℕ). b ∷ w) c.6, c.7)

same_rest : (o : Option (Token × List ℕ)) (t u : Token) (r s : List ℕ) → o ≡ Some (t, r) → o ≡ Some (u, s) → (t ≡ u) × (r ≡ s)
same_rest o t u r s p q =
    let e = same_Some (t, r) (u, s) (sym p ∙ q) in
    (ap (λ (x : Token × List ℕ). x.0) e, ap (λ (x : Token × List ℕ). x.1) e)

-- a first blank, taken off
blank_off : (b : ℕ) (bs blanks bytes rest : List ℕ) (t : Token) (ts : List Token) → is_blank b ≡ true → IsTrue (list_all is_blank blanks) → IsToken bytes t → Ends t rest → (b ∷ bs) ≡ blanks ++ (bytes ++ rest) → IsCut rest ts → IsCut bs (t ∷ ts)
blank_off b bs [] bytes rest t ts e all token ends is cut =
    let none : ◌≡◌ {A = Option (Token × List ℕ)} None (Some (t, rest)) = sym (blank_none b bs e) ∙ ap token_at is ∙ token_again bytes rest t token ends in
    absurd cc
blank_off b bs (x ∷ xs) bytes rest t ts e all token ends is cut =
    let left : bs ≡ xs ++ (bytes ++ rest) = cc in
    (xs, bytes, rest, both_right (is_blank x) (list_all is_blank xs) all, token, ends, left, cut)

pub blank_after : (b : ℕ) (bs : List ℕ) → is_blank b ≡ true → (ts : List Token) → IsCut (b ∷ bs) ts → IsCut bs ts
blank_after b bs e [] c = both_right (is_blank b) (list_all is_blank bs) c
blank_after b bs e (t ∷ ts) c = blank_off b bs c.0 c.1 c.2 t ts e c.3 c.4 c.5 c.6 c.7

pub token_before : (text : List ℕ) (t : Token) (rest : List ℕ) (ts : List Token) → token_at text ≡ Some (t, rest) → IsCut rest ts → IsCut text (t ∷ ts)
token_before text t rest ts e cut =
    let f : IsFirst text t rest = subst (λ (o : Option (Token × List ℕ)). IfSome o (First text)) e (token_sound text) in
    ([], f.bytes, rest, refl, f.token, f.ends, f.whole, cut)

-- what a text that begins with no blank begins with
token_off : (b : ℕ) (bs blanks bytes rest : List ℕ) (t : Token) → is_blank b ≡ false → IsTrue (list_all is_blank blanks) → IsToken bytes t → Ends t rest → (b ∷ bs) ≡ blanks ++ (bytes ++ rest) → token_at (b ∷ bs) ≡ Some (t, rest)
token_off b bs [] bytes rest t e all token ends is = ap token_at is ∙ token_again bytes rest t token ends
token_off b bs (x ∷ xs) bytes rest t e all token ends is =
    let first : b ≡ x = cc in
    let f : ◌≡◌ {A = Bool} true false = sym (both_left (is_blank x) (list_all is_blank xs) all) ∙ ap is_blank (sym first) ∙ e in
    absurd cc

pub token_after : (b : ℕ) (bs : List ℕ) (t : Token) (rest : List ℕ) → is_blank b ≡ false → token_at (b ∷ bs) ≡ Some (t, rest) → (us : List Token) → IsCut (b ∷ bs) us → (ts : List Token) × (us ≡ t ∷ ts) × IsCut rest ts
token_after b bs t rest e known [] c =
    let f : ◌≡◌ {A = Bool} true false = sym (both_left (is_blank b) (list_all is_blank bs) c) ∙ e in
    absurd cc
token_after b bs t rest e known (u ∷ us) c =
    let s = same_rest (token_at (b ∷ bs)) t u rest c.2 known (token_off b bs c.0 c.1 c.2 u e c.3 c.4 c.5 c.6) in
    (us, ap (λ (v : Token). v ∷ us) (sym s.0), subst (λ (w : List ℕ). IsCut w us) (sym s.1) c.7)

pub no_token : (b : ℕ) (bs : List ℕ) → is_blank b ≡ false → token_at (b ∷ bs) ≡ None → (us : List Token) → IsCut (b ∷ bs) us → ⊥
no_token b bs e none [] c =
    let f : ◌≡◌ {A = Bool} true false = sym (both_left (is_blank b) (list_all is_blank bs) c) ∙ e in
    absurd cc
no_token b bs e none (u ∷ us) c =
    let f : ◌≡◌ {A = Option (Token × List ℕ)} None (Some (u, c.2)) = sym none ∙ token_off b bs c.0 c.1 c.2 u e c.3 c.4 c.5 c.6 in
    absurd cc

none_at : token_at [] ≡ None
unfolding token_at
none_at = refl

nothing_off : (xs ys : List ℕ) → [] ≡ xs ++ ys → [] ≡ ys
nothing_off [] ys e = e
nothing_off (x ∷ xs) ys e = absurd cc

pub end_only : (text : List ℕ) (ts : List Token) → length text ≡ 0 → IsCut text ts → ts ≡ []
end_only [] [] e c = refl
end_only [] (t ∷ ts) e c =
    let f : ◌≡◌ {A = Option (Token × List ℕ)} None (Some (t, c.2)) = sym none_at ∙ ap token_at (nothing_off c.0 (c.1 ++ c.2) c.6) ∙ token_again c.1 c.2 t c.4 c.5 in
    absurd cc
end_only (b ∷ bs) ts e c = absurd (omega arith)

pub end_found : (text : List ℕ) → length text ≡ 0 → IsCut text []
end_found [] e = refl
end_found (b ∷ bs) e = absurd (omega arith)

-- ---- a token takes bytes

keyword_bytes : (k : Word) → 0 < length (keyword_text k)
keyword_bytes word.If = omega arith
keyword_bytes word.Then = omega arith
keyword_bytes word.Else = omega arith
keyword_bytes word.And = omega arith
keyword_bytes word.Or = omega arith
keyword_bytes word.Not = omega arith
keyword_bytes word.Between = omega arith
keyword_bytes word.Null = omega arith
keyword_bytes word.True = omega arith
keyword_bytes word.False = omega arith

sign_bytes : (s : Sign) → 0 < length (sign_text s)
sign_bytes sign.Plus = omega arith
sign_bytes sign.Minus = omega arith
sign_bytes sign.Star = omega arith
sign_bytes sign.Equal = omega arith
sign_bytes sign.NotEqual = omega arith
sign_bytes sign.Less = omega arith
sign_bytes sign.LessEqual = omega arith
sign_bytes sign.Greater = omega arith
sign_bytes sign.GreaterEqual = omega arith
sign_bytes sign.OpenParen = omega arith
sign_bytes sign.CloseParen = omega arith
sign_bytes sign.OpenBracket = omega arith
sign_bytes sign.CloseBracket = omega arith
sign_bytes sign.Comma = omega arith
sign_bytes sign.Dot = omega arith
sign_bytes sign.DotDot = omega arith

number_bytes : (bytes : List ℕ) → is_number bytes ≡ true → 0 < length bytes
number_bytes [] e = absurd cc
number_bytes (b ∷ bs) e = omega arith

name_bytes : (bytes : List ℕ) → is_name bytes ≡ true → 0 < length bytes
name_bytes [] e = absurd cc
name_bytes (b ∷ bs) e = omega arith

text_bytes : (bytes body : List ℕ) → bytes ≡ 34 ∷ body → 0 < length bytes
text_bytes [] body e = absurd cc
text_bytes (b ∷ bs) body e = omega arith

has_bytes : (bytes : List ℕ) (t : Token) → IsToken bytes t → 0 < length bytes
has_bytes bytes (Number n) t = number_bytes bytes t.0
has_bytes bytes (Text content) t = text_bytes bytes (t.0 ++ 34 ∷ []) t.1
has_bytes bytes (Name w) t = name_bytes bytes t.0
has_bytes bytes (Keyword k) t = rw t (keyword_bytes k)
has_bytes bytes (Symbol s) t = rw t (sign_bytes s)

pub token_shorter : (text : List ℕ) (t : Token) (rest : List ℕ) → token_at text ≡ Some (t, rest) → length rest < length text
token_shorter text t rest e =
    let f : IsFirst text t rest = subst (λ (o : Option (Token × List ℕ)). IfSome o (First text)) e (token_sound text) in
    let some = has_bytes f.bytes t f.token in
    let whole = ap (λ (w : List ℕ). length w) f.whole in
    omega (arith, length-append f.bytes rest)

-- A fault that is Syntax comes only where the text has no first token.
pub err_none : (f : ReadFault) (text : List ℕ) (b : ℕ) (bs : List ℕ) → text ≡ b ∷ bs → is_blank b ≡ false → Fails f (token_at text) → f ≡ Syntax → (us : List Token) → IsCut text us → ⊥
err_none Memory text b bs is e fails syntax us cut = absurd cc
err_none Syntax text b bs is e fails syntax us cut = no_token b bs e (ap token_at (sym is) ∙ fails) us (subst (λ (w : List ℕ). IsCut w us) is cut)

pub views_push : (xs : List code.Token) (x : code.Token) (ts : List Token) → views (xs ++ x ∷ []) ++ ts ≡ views xs ++ view x ∷ ts
views_push [] x ts = refl
views_push (y ∷ xs) x ts = ap (λ (w : List Token). view y ∷ w) (views_push xs x ts)
