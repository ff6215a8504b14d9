-- The first token that is scanned is the first token of the text, and the only one.
use Rattle.std.proofs.Common.{◌≡◌, ◌≤◌, ◌+◌, ℕ, suc, Bool, true, false, ◌&&◌, not, List, [], ◌∷◌, ◌++◌, length, take, drop, Option, Some, None, refl, sym, ap, subst, ◌∙◌, arith, append_assoc, take-append-drop}
use Rattle.std.specs.List.{list_all}
use Rattle.std.specs.Prelude.{IfSome, nat_le, nat_lt, ◌==◌, is_some, bytes_eq, codes, if◌then◌else◌}
use Rattle.std.proofs.lemmas.Bool.Decides.{nat_tests}
use Rattle.std.proofs.lemmas.Bool.{leb-true}
use Rattle.std.proofs.lemmas.Slice.Eq.{bytes_eq-Decides}
use Rattle.feel_text.specs.declared.token.Word.{Word}
use Rattle.feel_text.specs.declared.token.Sign.{Sign}
use Rattle.feel_text.specs.declared.token.Sign.TheVariants as sign
use Rattle.feel_text.specs.Token.{Token, Text, Symbol}
use Rattle.feel_text.specs.Lexical.{IsToken, Ends, ends_before, is_digit, is_word_byte, is_word, is_name, is_keyword, keyword_of, keyword_text, sign_text, number_from, escaped, escape_before, before, unescaped}
use Rattle.feel_value.specs.Limits.{greatest_number}
use Rattle.feel_text.specs.Scanning.{number_of, number_token, word_token, run_token, run_length, run_at, text_at, onto, string_at, pair_of, sign_of, single_at, sign_at, token_at}
use Rattle.feel_text.specs.Reading.{choose}

-- ---- answers by cases

if_choose : {A B : Type 0} (o : Option A) (b : Option B) (f : A → Option B) (Q : B → Type 0) → (o ≡ None → IfSome b Q) → ((x : A) → o ≡ Some x → IfSome (f x) Q) → IfSome (choose o b f) Q
if_choose (Some x) b f Q h g = g x refl
if_choose None b f Q h g = h refl

if_both : {B : Type 0} (b : Bool) (o p : Option B) (Q : B → Type 0) → (b ≡ true → IfSome o Q) → (b ≡ false → IfSome p Q) → IfSome (if b then o else p) Q
if_both true o p Q h g = h refl
if_both false o p Q h g = g refl

-- the text begins with the token, which ends there
pub record IsFirst (text : List ℕ) (t : Token) (rest : List ℕ) : Type 0 where
  pub bytes : List ℕ
  pub token : IsToken bytes t
  pub ends : Ends t rest
  pub whole : text ≡ bytes ++ rest

abbrev pub First : List ℕ → Token × List ℕ → Type 0
First text x = IsFirst text x.0 x.1

-- a token that ends before any byte
always_ends : (t : Token) (bs : List ℕ) → ((b : ℕ) → ends_before t b ≡ true) → Ends t bs
always_ends t [] e = tt
always_ends t (b ∷ bs) e = e b

-- ---- runs of word bytes

-- a token that ends where a run of word bytes does
abbrev EndsRun : Token → Type 0
EndsRun t = (b : ℕ) → is_word_byte b ≡ false → ends_before t b ≡ true

one_more : (n : ℕ) → 1 + n ≡ suc n
one_more n = omega arith

pub run_length_yes : (b : ℕ) (bs : List ℕ) → is_word_byte b ≡ true → run_length (b ∷ bs) ≡ suc (run_length bs)
run_length_yes b bs w = rw w (one_more (run_length bs))

pub run_length_no : (b : ℕ) (bs : List ℕ) → is_word_byte b ≡ false → run_length (b ∷ bs) ≡ 0
run_length_no b bs w = rw w refl

run_ends_one : (t : Token) (b : ℕ) (bs : List ℕ) (w : Bool) → EndsRun t → is_word_byte b ≡ w → Ends t (drop (run_length bs) bs) → Ends t (drop (run_length (b ∷ bs)) (b ∷ bs))
run_ends_one t b bs true e w h = rw (run_length_yes b bs w) h
run_ends_one t b bs false e w h = rw (run_length_no b bs w) (e b w)

run_ends : (t : Token) (bs : List ℕ) → EndsRun t → Ends t (drop (run_length bs) bs)
run_ends t [] e = tt
run_ends t (b ∷ bs) e = run_ends_one t b bs (is_word_byte b) e refl (run_ends t bs e)

run_all_one : (b : ℕ) (bs : List ℕ) (w : Bool) → is_word_byte b ≡ w → list_all is_word_byte (take (run_length bs) bs) ≡ true → list_all is_word_byte (take (run_length (b ∷ bs)) (b ∷ bs)) ≡ true
run_all_one b bs true w h = rw (run_length_yes b bs w, w) h
run_all_one b bs false w h = rw (run_length_no b bs w) refl

run_all : (bs : List ℕ) → list_all is_word_byte (take (run_length bs) bs) ≡ true
run_all [] = refl
run_all (b ∷ bs) = run_all_one b bs (is_word_byte b) refl (run_all bs)

pub both_left : (a b : Bool) → (a && b) ≡ true → a ≡ true
both_left true b e = refl
both_left false b e = absurd cc

both_true : (a b : Bool) → a ≡ true → b ≡ true → (a && b) ≡ true
both_true true b e f = f
both_true false b e f = absurd cc

pub both_right : (a b : Bool) → (a && b) ≡ true → b ≡ true
both_right true b e = e
both_right false b e = absurd cc

-- the keyword that a word is
keyword_is : (w : List ℕ) → IfSome (keyword_of w) (λ k. w ≡ keyword_text k)
keyword_is w =
    if_both (bytes_eq w (codes "if")) _ _ _ ((bytes_eq-Decides w (codes "if")).0) (λ _.
    if_both (bytes_eq w (codes "then")) _ _ _ ((bytes_eq-Decides w (codes "then")).0) (λ _.
    if_both (bytes_eq w (codes "else")) _ _ _ ((bytes_eq-Decides w (codes "else")).0) (λ _.
    if_both (bytes_eq w (codes "and")) _ _ _ ((bytes_eq-Decides w (codes "and")).0) (λ _.
    if_both (bytes_eq w (codes "or")) _ _ _ ((bytes_eq-Decides w (codes "or")).0) (λ _.
    if_both (bytes_eq w (codes "not")) _ _ _ ((bytes_eq-Decides w (codes "not")).0) (λ _.
    if_both (bytes_eq w (codes "between")) _ _ _ ((bytes_eq-Decides w (codes "between")).0) (λ _.
    if_both (bytes_eq w (codes "null")) _ _ _ ((bytes_eq-Decides w (codes "null")).0) (λ _.
    if_both (bytes_eq w (codes "true")) _ _ _ ((bytes_eq-Decides w (codes "true")).0) (λ _.
    if_both (bytes_eq w (codes "false")) _ _ _ ((bytes_eq-Decides w (codes "false")).0) (λ _. tt))))))))))

-- ---- what a run of word bytes is

-- the token of the bytes, which ends where the run does
abbrev IsRun : List ℕ → Token → Type 0
IsRun w t = IsToken w t × EndsRun t

number_is : (w : List ℕ) → IfSome (number_of w) (λ n. (list_all is_digit w ≡ true) × (number_from 0 w ≡ n) × (n ≤ greatest_number))
number_is w =
    if_both (list_all is_digit w && nat_le (number_from 0 w) greatest_number) _ _ _
    (λ e. (both_left _ _ e, refl, leb-true (number_from 0 w) greatest_number (both_right (list_all is_digit w) _ e)))
    (λ _. tt)

number_sound : (b : ℕ) (bs : List ℕ) → IfSome (number_token (b ∷ bs)) (IsRun (b ∷ bs))
unfolding number_token
number_sound b bs =
    if_choose (number_of (b ∷ bs)) _ _ (IsRun (b ∷ bs)) (λ _. tt) (λ n e.
    let h = subst (λ (o : Option ℕ). IfSome o (λ n. (list_all is_digit (b ∷ bs) ≡ true) × (number_from 0 (b ∷ bs) ≡ n) × (n ≤ greatest_number))) e (number_is (b ∷ bs)) in
    ((h.0, h.1, h.2), λ c w. rw w refl))

name_is : (b : ℕ) (bs : List ℕ) → is_digit b ≡ false → list_all is_word_byte (b ∷ bs) ≡ true → keyword_of (b ∷ bs) ≡ None → nat_le (length (b ∷ bs)) 64 ≡ true → is_name (b ∷ bs) ≡ true
name_is b bs d w k n =
    let first : not (is_digit b) ≡ true = ap not d in
    let other : not (is_keyword (b ∷ bs)) ≡ true = ap (λ (o : Option Word). not (is_some o)) k in
    both_true (is_word (b ∷ bs) && nat_le (length (b ∷ bs)) 64) (not (is_keyword (b ∷ bs)))
    (both_true (is_word (b ∷ bs)) (nat_le (length (b ∷ bs)) 64) (both_true (not (is_digit b)) (list_all is_word_byte (b ∷ bs)) first w) n) other

word_sound : (b : ℕ) (bs : List ℕ) → is_digit b ≡ false → list_all is_word_byte (b ∷ bs) ≡ true → IfSome (word_token (b ∷ bs)) (IsRun (b ∷ bs))
unfolding word_token
word_sound b bs d w =
    if_choose (keyword_of (b ∷ bs)) _ _ (IsRun (b ∷ bs))
    (λ k. if_both (nat_le (length (b ∷ bs)) 64) _ _ (IsRun (b ∷ bs)) (λ n. ((name_is b bs d w k n, refl), λ c e. rw e refl)) (λ _. tt))
    (λ k e. (subst (λ (o : Option Word). IfSome o (λ k. (b ∷ bs) ≡ keyword_text k)) e (keyword_is (b ∷ bs)), λ c f. rw f refl))

run_token_sound : (digit : Bool) (b : ℕ) (bs : List ℕ) → is_digit b ≡ digit → list_all is_word_byte (b ∷ bs) ≡ true → IfSome (run_token digit (b ∷ bs)) (IsRun (b ∷ bs))
unfolding run_token
run_token_sound true b bs d w = number_sound b bs
run_token_sound false b bs d w = word_sound b bs d w

run_sound : (b : ℕ) (bs : List ℕ) → is_word_byte b ≡ true → IfSome (run_at (is_digit b) (b ∷ bs)) (First (b ∷ bs))
unfolding run_at
run_sound b bs w =
    let n = run_length_yes b bs w in
    let head : take (run_length (b ∷ bs)) (b ∷ bs) ≡ b ∷ take (run_length bs) bs = rw n refl in
    let all : list_all is_word_byte (b ∷ take (run_length bs) bs) ≡ true = subst (λ (v : List ℕ). list_all is_word_byte v ≡ true) head (run_all (b ∷ bs)) in
    if_choose (run_token (is_digit b) (take (run_length (b ∷ bs)) (b ∷ bs))) _ _ (First (b ∷ bs)) (λ _. tt) (λ t e.
    let h : IsRun (b ∷ take (run_length bs) bs) t = subst (λ (o : Option Token). IfSome o (IsRun (b ∷ take (run_length bs) bs))) (ap (λ (v : List ℕ). run_token (is_digit b) v) (sym head) ∙ e) (run_token_sound (is_digit b) b (take (run_length bs) bs) refl all) in
    record {
      bytes = take (run_length (b ∷ bs)) (b ∷ bs);
      token = subst (λ (v : List ℕ). IsToken v t) (sym head) h.0;
      ends = run_ends t (b ∷ bs) h.1;
      whole = sym (take-append-drop (run_length (b ∷ bs)) (b ∷ bs));
    })

-- ---- strings

-- the bytes up to the quote, and what they stand for
abbrev IsBody : List ℕ → List ℕ × List ℕ → Type 0
IsBody bs x = (body : List ℕ) × (bs ≡ body ++ 34 ∷ x.1) × (unescaped body ≡ Some x.0)

if_onto : (c : ℕ) (r : Option (List ℕ × List ℕ)) (P Q : List ℕ × List ℕ → Type 0) → IfSome r P → ((x : List ℕ × List ℕ) → P x → Q (c ∷ x.0, x.1)) → IfSome (onto c r) Q
if_onto c None P Q h g = tt
if_onto c (Some (y, z)) P Q h g = g (y, z) h

unescaped_plain : (b : ℕ) (bs : List ℕ) → (b == 92) ≡ false → (b == 34) ≡ false → unescaped (b ∷ bs) ≡ before b (unescaped bs)
unescaped_plain b [] p q = rw (p, q) refl
unescaped_plain b (c ∷ cs) p q = rw (p, q) refl

escaped_body : (c d : ℕ) (body content : List ℕ) → escaped c ≡ Some d → unescaped body ≡ Some content → unescaped (92 ∷ c ∷ body) ≡ Some (d ∷ content)
escaped_body c d body content e u = ap (λ (o : Option ℕ). escape_before o (unescaped body)) e ∙ ap (λ (r : Option (List ℕ)). before d r) u

behind_sound : (c : ℕ) (bs : List ℕ) → IfSome (text_at false bs) (IsBody bs) → IfSome (text_at true (c ∷ bs)) (IsBody (92 ∷ c ∷ bs))
unfolding text_at
behind_sound c bs h =
    if_choose (escaped c) _ _ (IsBody (92 ∷ c ∷ bs)) (λ _. tt) (λ d e.
    if_onto d (text_at false bs) (IsBody bs) (IsBody (92 ∷ c ∷ bs)) h (λ x p.
    (92 ∷ c ∷ p.0, ap (λ (w : List ℕ). 92 ∷ c ∷ w) p.1, escaped_body c d p.0 x.0 e p.2)))

plain_sound : (b : ℕ) (bs : List ℕ) → (b == 92) ≡ false → (b == 34) ≡ false → IfSome (text_at false bs) (IsBody bs) → IfSome (onto b (text_at false bs)) (IsBody (b ∷ bs))
plain_sound b bs p q h =
    if_onto b (text_at false bs) (IsBody bs) (IsBody (b ∷ bs)) h (λ x r.
    (b ∷ r.0, ap (λ (w : List ℕ). b ∷ w) r.1, unescaped_plain b r.0 p q ∙ ap (λ (o : Option (List ℕ)). before b o) r.2))

pub is_number_at : (b n : ℕ) → (b == n) ≡ true → b ≡ n
is_number_at b n e = grind (arith, nat_tests)

text_one : (b : ℕ) (bs : List ℕ) → IfSome (text_at true bs) (IsBody (92 ∷ bs)) → IfSome (text_at false bs) (IsBody bs) → IfSome (text_at false (b ∷ bs)) (IsBody (b ∷ bs))
unfolding text_at
text_one b bs h g =
    if_both (b == 92) _ _ (IsBody (b ∷ bs)) (λ e. subst (λ (k : ℕ). IfSome (text_at true bs) (IsBody (k ∷ bs))) (sym (is_number_at b 92 e)) h) (λ p.
    if_both (b == 34) _ _ (IsBody (b ∷ bs)) (λ e. ([], ap (λ (k : ℕ). k ∷ bs) (is_number_at b 34 e), refl)) (λ q. plain_sound b bs p q g))

behind_end : IfSome (text_at true []) (IsBody (92 ∷ []))
unfolding text_at
behind_end = tt

text_none : IfSome (text_at false []) (IsBody [])
unfolding text_at
text_none = tt

text_sound : (bs : List ℕ) → IfSome (text_at false bs) (IsBody bs)
text_sound [] = text_none
text_sound (b ∷ []) = text_one b [] behind_end text_none
text_sound (b ∷ c ∷ bs) = text_one b (c ∷ bs) (behind_sound c bs (text_sound bs)) (text_sound (c ∷ bs))

string_sound : (bs : List ℕ) → IfSome (string_at bs) (First (34 ∷ bs))
unfolding string_at
string_sound bs =
    if_choose (text_at false bs) _ _ (First (34 ∷ bs)) (λ _. tt) (λ x e.
    let h : IsBody bs x = subst (λ (o : Option (List ℕ × List ℕ)). IfSome o (IsBody bs)) e (text_sound bs) in
    record {
      bytes = 34 ∷ (h.0 ++ 34 ∷ []);
      token = (h.0, refl, h.2);
      ends = always_ends (Text x.0) x.1 (λ b. refl);
      whole = ap (λ (w : List ℕ). 34 ∷ w) (h.1 ∙ sym (append_assoc h.0 (34 ∷ []) x.1));
    })

-- ---- signs

single_is : (s : Sign) (b n : ℕ) (bs : List ℕ) → (b == n) ≡ true → sign_text s ≡ n ∷ [] → Ends (Symbol s) bs → IsFirst (b ∷ bs) (Symbol s) bs
single_is s b n bs e t f = record { bytes = n ∷ []; token = sym t; ends = f; whole = ap (λ (k : ℕ). k ∷ bs) (is_number_at b n e) }

pair_not : (p : Bool) (o : Option Sign) (s : Sign) → o ≡ (if p then Some s else None) → o ≡ None → not p ≡ true
pair_not true o s e n = absurd cc
pair_not false o s e n = refl

sign_chosen : (b : ℕ) (bs : List ℕ) (o : Option Sign) → IfSome o (λ s. IsFirst (b ∷ bs) (Symbol s) bs) → IfSome (choose o None (λ s. Some (Symbol s, bs))) (First (b ∷ bs))
sign_chosen b bs None h = tt
sign_chosen b bs (Some s) h = h

-- the byte after a sign of one byte makes no longer sign with it
abbrev Alone : ℕ → List ℕ → Type 0
Alone b [] = Unit {0}
Alone b (c ∷ cs) = pair_of b c ≡ None

pair_less : (b c : ℕ) → (b == 60) ≡ true → pair_of b c ≡ None → not (c == 61) ≡ true
unfolding pair_of
pair_less b c e n = pair_not (c == 61) (pair_of 60 c) sign.LessEqual refl (subst (λ (k : ℕ). pair_of k c ≡ None) (is_number_at b 60 e) n)

pair_greater : (b c : ℕ) → (b == 62) ≡ true → pair_of b c ≡ None → not (c == 61) ≡ true
unfolding pair_of
pair_greater b c e n = pair_not (c == 61) (pair_of 62 c) sign.GreaterEqual refl (subst (λ (k : ℕ). pair_of k c ≡ None) (is_number_at b 62 e) n)

pair_dot : (b c : ℕ) → (b == 46) ≡ true → pair_of b c ≡ None → not (c == 46) ≡ true
unfolding pair_of
pair_dot b c e n = pair_not (c == 46) (pair_of 46 c) sign.DotDot refl (subst (λ (k : ℕ). pair_of k c ≡ None) (is_number_at b 46 e) n)

alone_less : (b : ℕ) (bs : List ℕ) → (b == 60) ≡ true → Alone b bs → Ends (Symbol sign.Less) bs
alone_less b [] e a = tt
alone_less b (c ∷ cs) e a = pair_less b c e a

alone_greater : (b : ℕ) (bs : List ℕ) → (b == 62) ≡ true → Alone b bs → Ends (Symbol sign.Greater) bs
alone_greater b [] e a = tt
alone_greater b (c ∷ cs) e a = pair_greater b c e a

alone_dot : (b : ℕ) (bs : List ℕ) → (b == 46) ≡ true → Alone b bs → Ends (Symbol sign.Dot) bs
alone_dot b [] e a = tt
alone_dot b (c ∷ cs) e a = pair_dot b c e a

sign_of_sound : (b : ℕ) (bs : List ℕ) → Alone b bs → IfSome (single_at b bs) (First (b ∷ bs))
unfolding single_at sign_of
sign_of_sound b bs a =
    sign_chosen b bs (sign_of b) (
    if_both (b == 43) _ _ _ (λ e. single_is sign.Plus b 43 bs e refl (always_ends (Symbol sign.Plus) bs (λ _. refl))) (λ _.
    if_both (b == 45) _ _ _ (λ e. single_is sign.Minus b 45 bs e refl (always_ends (Symbol sign.Minus) bs (λ _. refl))) (λ _.
    if_both (b == 42) _ _ _ (λ e. single_is sign.Star b 42 bs e refl (always_ends (Symbol sign.Star) bs (λ _. refl))) (λ _.
    if_both (b == 61) _ _ _ (λ e. single_is sign.Equal b 61 bs e refl (always_ends (Symbol sign.Equal) bs (λ _. refl))) (λ _.
    if_both (b == 60) _ _ _ (λ e. single_is sign.Less b 60 bs e refl (alone_less b bs e a)) (λ _.
    if_both (b == 62) _ _ _ (λ e. single_is sign.Greater b 62 bs e refl (alone_greater b bs e a)) (λ _.
    if_both (b == 40) _ _ _ (λ e. single_is sign.OpenParen b 40 bs e refl (always_ends (Symbol sign.OpenParen) bs (λ _. refl))) (λ _.
    if_both (b == 41) _ _ _ (λ e. single_is sign.CloseParen b 41 bs e refl (always_ends (Symbol sign.CloseParen) bs (λ _. refl))) (λ _.
    if_both (b == 91) _ _ _ (λ e. single_is sign.OpenBracket b 91 bs e refl (always_ends (Symbol sign.OpenBracket) bs (λ _. refl))) (λ _.
    if_both (b == 93) _ _ _ (λ e. single_is sign.CloseBracket b 93 bs e refl (always_ends (Symbol sign.CloseBracket) bs (λ _. refl))) (λ _.
    if_both (b == 44) _ _ _ (λ e. single_is sign.Comma b 44 bs e refl (always_ends (Symbol sign.Comma) bs (λ _. refl))) (λ _.
    if_both (b == 46) _ _ _ (λ e. single_is sign.Dot b 46 bs e refl (alone_dot b bs e a)) (λ _. tt)))))))))))))

double_is : (s : Sign) (b c n m : ℕ) (cs : List ℕ) → ((b == n) && (c == m)) ≡ true → sign_text s ≡ n ∷ m ∷ [] → ((k : ℕ) → ends_before (Symbol s) k ≡ true) → IsFirst (b ∷ c ∷ cs) (Symbol s) cs
double_is s b c n m cs e t f =
    let first = is_number_at b n (both_left (b == n) (c == m) e) in
    let second = is_number_at c m (both_right (b == n) (c == m) e) in
    record { bytes = n ∷ m ∷ []; token = sym t; ends = always_ends (Symbol s) cs f; whole = ap (λ (k : ℕ). k ∷ c ∷ cs) first ∙ ap (λ (k : ℕ). n ∷ k ∷ cs) second }

pair_sound : (b c : ℕ) (cs : List ℕ) → IfSome (pair_of b c) (λ s. IsFirst (b ∷ c ∷ cs) (Symbol s) cs)
unfolding pair_of
pair_sound b c cs =
    if_both (b == 33 && c == 61) _ _ _ (λ e. double_is sign.NotEqual b c 33 61 cs e refl (λ _. refl)) (λ _.
    if_both (b == 60 && c == 61) _ _ _ (λ e. double_is sign.LessEqual b c 60 61 cs e refl (λ _. refl)) (λ _.
    if_both (b == 62 && c == 61) _ _ _ (λ e. double_is sign.GreaterEqual b c 62 61 cs e refl (λ _. refl)) (λ _.
    if_both (b == 46 && c == 46) _ _ _ (λ e. double_is sign.DotDot b c 46 46 cs e refl (λ _. refl)) (λ _. tt))))

sign_sound : (b : ℕ) (bs : List ℕ) → IfSome (sign_at b bs) (First (b ∷ bs))
unfolding sign_at
sign_sound b [] = sign_of_sound b [] tt
sign_sound b (c ∷ cs) =
    if_choose (pair_of b c) _ _ (First (b ∷ c ∷ cs)) (λ n. sign_of_sound b (c ∷ cs) n)
    (λ s e. subst (λ (o : Option Sign). IfSome o (λ s. IsFirst (b ∷ c ∷ cs) (Symbol s) cs)) e (pair_sound b c cs))

-- What is scanned is the first token of the text.
pub token_sound : (text : List ℕ) → IfSome (token_at text) (First text)
unfolding token_at
token_sound [] = tt
token_sound (b ∷ bs) =
    if_both (is_word_byte b) _ _ (First (b ∷ bs)) (λ w. run_sound b bs w) (λ _.
    if_both (b == 34) _ _ (First (b ∷ bs)) (λ e. subst (λ (k : ℕ). IfSome (string_at bs) (First (k ∷ bs))) (sym (is_number_at b 34 e)) (string_sound bs)) (λ _.
    if_both (nat_lt b 128) _ _ (First (b ∷ bs)) (λ _. sign_sound b bs) (λ _. tt)))
