-- Which texts a set has.
use Rattle.std.proofs.Common.{◌≡◌, ◌∙◌, refl, sym, ap, subst, ℕ, suc, ◌+◌, List, [], ◌∷◌, ◌++◌, length, drop, Bool, true, false, cond, not, ◌||◌, Option, None, Some, if◌then◌else◌, arith}
use Rattle.std.specs.Prelude.{bytes_eq, is_some, nat_lt, position, slice_set}
use Rattle.std.specs.List.{fold, list_any, position_or_len}
use Rattle.std.specs.Option.{is_none}
use Rattle.std.proofs.lemmas.Bool.Decides.{nat_tests}
use Rattle.std.proofs.Math.Seq.{take-append_seam}
use Rattle.feel_value.proofs.Booleans.{second_true, or_assoc, or_comm}
use Rattle.feel_text.proofs.Bindings.{same_text, text_itself}
use Rattle.dmn_ranges.specs.Ranges.{text_of, is_word, is_among}
use Rattle.dmn_ranges.specs.Texts.{zeros, one_if, one_text, any_if, is_some_text, put, with_word, with_if, joined_texts, is_other_word, is_word_in, is_word_apart, meet, differ}
use Rattle.dmn_ranges.specs.declared.texts.Texts.{Texts}
use Rattle.dmn_ranges.specs.declared.texts.Texts.TheVariants.{Any, Few}
use Rattle.dmn_ranges.specs.declared.texts.Word.{Word}

first_true : (a b : Bool) → a ≡ true → (a || b) ≡ true
first_true true b h = refl
first_true false b h = cc

one_true : {P : Type 0} (a b : Bool) → (a || b) ≡ true → (a ≡ true → P) → (b ≡ true → P) → P
one_true true b h f g = f refl
one_true false b h f g = g h

-- ---- whether there is one

some_word : (ws : List (Option Word)) (s : List ℕ) → list_any (is_word s) ws ≡ true → list_any is_some ws ≡ true
some_word [] s h = cc
some_word (None ∷ ws) s h = some_word ws s h
some_word (Some w ∷ ws) s h = refl

pub has_some : (t : Texts) (s : List ℕ) → is_among t s ≡ true → is_some_text t ≡ true
has_some Any s h = refl
has_some (Few ws) s h = some_word ws s h

pub any_has : (b : Bool) (s : List ℕ) → b ≡ true → is_among (any_if b) s ≡ true
any_has true s h = refl
any_has false s h = cc

pub has_any : (b : Bool) (s : List ℕ) → is_among (any_if b) s ≡ true → b ≡ true
has_any true s h = refl
has_any false s h = cc

-- ---- one text

itself_by : (b : Bool) (s : List ℕ) → is_among (one_if (if b then None else Some (record { count = length s; bytes = s ++ drop (length s) zeros }))) s ≡ true
itself_by true s = refl
itself_by false s =
    let P : List ℕ → Type 0 = λ u. (bytes_eq u s || false) ≡ true in
    subst P (sym (take-append_seam s (drop (length s) zeros))) (first_true (bytes_eq s s) false (text_itself s))

pub has_itself : (s : List ℕ) → is_among (one_text s) s ≡ true
has_itself s = itself_by (nat_lt 32 (length s)) s

-- ---- one word more

-- what a free place has, once the word is there
less_down : (a b : ℕ) → nat_lt (1 + a) (suc b) ≡ true → nat_lt a b ≡ true
less_down a b h = grind (arith, nat_tests)

placed : (ws : List (Option Word)) (w : Word) (s : List ℕ) → nat_lt (position_or_len is_none ws) (length ws) ≡ true
    → list_any (is_word s) (slice_set ws (position_or_len is_none ws) (Some w)) ≡ (list_any (is_word s) ws || is_word s (Some w))
placed [] w s h = cc
placed (None ∷ ws) w s h = or_comm (is_word s (Some w)) (list_any (is_word s) ws)
placed (Some v ∷ ws) w s h =
    let p : ℕ = position_or_len is_none ws in
    let more : suc p ≡ 1 + p = omega arith in
    let P : ℕ → Type 0 = λ n. list_any (is_word s) (slice_set (Some v ∷ ws) n (Some w)) ≡ (list_any (is_word s) (Some v ∷ ws) || is_word s (Some w)) in
    subst P more (ap (λ b. is_word s (Some v) || b) (placed ws w s (less_down p (length ws) h)) ∙ sym (or_assoc (is_word s (Some v)) (list_any (is_word s) ws) (is_word s (Some w))))

put_by : (b : Bool) (ws : List (Option Word)) (w : Word) (s : List ℕ) → nat_lt (position_or_len is_none ws) (length ws) ≡ b → (list_any (is_word s) ws || is_word s (Some w)) ≡ true
    → is_among (put ws w (cond b (Some (position_or_len is_none ws)) None)) s ≡ true
put_by true ws w s e h = placed ws w s e ∙ h
put_by false ws w s e h = refl

put_has : (ws : List (Option Word)) (w : Word) (s : List ℕ) → (list_any (is_word s) ws || is_word s (Some w)) ≡ true → is_among (put ws w (position is_none ws)) s ≡ true
put_has ws w s h = put_by (nat_lt (position_or_len is_none ws) (length ws)) ws w s refl h

-- what the code makes of a word that is not there yet
more_by : (t b : Bool) (x y : Texts) → t ≡ b → b ≡ false → y ≡ (if t then x else y)
more_by true b x y e h = let wrong : true ≡ false = e ∙ h in cc
more_by false b x y e h = refl

pub word_placed : (ws : List (Option Word)) (w : Word) (s : List ℕ) (b : Bool) (o : Option ℕ) → s ≡ text_of w → b ≡ list_any (is_word s) ws → b ≡ false → o ≡ position is_none ws → put ws w o ≡ with_word ws w
word_placed ws w s b o is e h place =
    ap (put ws w) place ∙ more_by (list_any (is_word (text_of w)) ws) b (Few ws) (put ws w (position is_none ws)) (sym (e ∙ ap (λ u. list_any (is_word u) ws) is)) h

-- a text of a word that is there already
there : (ws : List (Option Word)) (w : Word) (s : List ℕ) → list_any (is_word (text_of w)) ws ≡ true → (list_any (is_word s) ws || is_word s (Some w)) ≡ true → list_any (is_word s) ws ≡ true
there ws w s e h =
    one_true (list_any (is_word s) ws) (is_word s (Some w)) h (λ k. k)
    (λ k. let P : List ℕ → Type 0 = λ u. list_any (is_word u) ws ≡ true in subst P (same_text (text_of w) s k) e)

word_by : (b : Bool) (ws : List (Option Word)) (w : Word) (s : List ℕ) → list_any (is_word (text_of w)) ws ≡ b → (list_any (is_word s) ws || is_word s (Some w)) ≡ true → is_among (if b then Few ws else put ws w (position is_none ws)) s ≡ true
word_by true ws w s e h = there ws w s e h
word_by false ws w s e h = put_has ws w s h

with_has : (ws : List (Option Word)) (w : Word) (s : List ℕ) → (list_any (is_word s) ws || is_word s (Some w)) ≡ true → is_among (with_word ws w) s ≡ true
with_has ws w s h = word_by (list_any (is_word (text_of w)) ws) ws w s refl h

if_has : (t : Texts) (o : Option Word) (s : List ℕ) → (is_among t s || is_word s o) ≡ true → is_among (with_if t o) s ≡ true
if_has t None s h = one_true (is_among t s) false h (λ k. k) (λ k. cc)
if_has Any (Some w) s h = refl
if_has (Few ws) (Some w) s h = with_has ws w s h

-- ---- the texts of both

fold_one : (t : Texts) (ws : List (Option Word)) (s : List ℕ) → is_among t s ≡ true → is_among (fold with_if t ws) s ≡ true
fold_one t [] s h = h
fold_one t (o ∷ ws) s h = fold_one (with_if t o) ws s (if_has t o s (first_true (is_among t s) (is_word s o) h))

fold_other : (t : Texts) (ws : List (Option Word)) (s : List ℕ) → list_any (is_word s) ws ≡ true → is_among (fold with_if t ws) s ≡ true
fold_other t [] s h = cc
fold_other t (o ∷ ws) s h =
    one_true (is_word s o) (list_any (is_word s) ws) h
    (λ k. fold_one (with_if t o) ws s (if_has t o s (second_true (is_among t s) (is_word s o) k)))
    (λ k. fold_other (with_if t o) ws s k)

pub has_one : (t u : Texts) (s : List ℕ) → is_among t s ≡ true → is_among (joined_texts t u) s ≡ true
has_one t Any s h = refl
has_one t (Few ws) s h = fold_one t ws s h

pub has_other : (t u : Texts) (s : List ℕ) → is_among u s ≡ true → is_among (joined_texts t u) s ≡ true
has_other t Any s h = refl
has_other t (Few ws) s h = fold_other t ws s h

-- ---- texts of two sets

words_meet : (vs ws : List (Option Word)) (s : List ℕ) → list_any (is_word s) vs ≡ true → list_any (is_word s) ws ≡ true → list_any (is_word_in vs) ws ≡ true
words_meet vs [] s h k = cc
words_meet vs (None ∷ ws) s h k = words_meet vs ws s h k
words_meet vs (Some w ∷ ws) s h k =
    one_true (is_word s (Some w)) (list_any (is_word s) ws) k
    (λ e. let P : List ℕ → Type 0 = λ u. list_any (is_word u) vs ≡ true in first_true (list_any (is_word (text_of w)) vs) (list_any (is_word_in vs) ws) (subst P (sym (same_text (text_of w) s e)) h))
    (λ r. second_true (list_any (is_word (text_of w)) vs) (list_any (is_word_in vs) ws) (words_meet vs ws s h r))

one_meets : (t u : Texts) (s : List ℕ) → is_among t s ≡ true → is_among u s ≡ true → meet t u ≡ true
one_meets Any u s h k = has_some u s k
one_meets (Few vs) Any s h k = has_some (Few vs) s h
one_meets (Few vs) (Few ws) s h k = words_meet vs ws s h k

pub same_meet : (t u : Texts) (s v : List ℕ) → is_among t s ≡ true → is_among u v ≡ true → bytes_eq s v ≡ true → meet t u ≡ true
same_meet t u s v h k e = let P : List ℕ → Type 0 = λ x. is_among u x ≡ true in one_meets t u s h (subst P (sym (same_text s v e)) k)

not_same : (b : Bool) → b ≡ false → not b ≡ true
not_same true h = cc
not_same false h = refl

-- a word of the one text is another word than that of the other
other_word : (vs : List (Option Word)) (s v : List ℕ) → bytes_eq s v ≡ false → list_any (is_word s) vs ≡ true → list_any (is_other_word v) vs ≡ true
other_word [] s v e h = cc
other_word (None ∷ vs) s v e h = other_word vs s v e h
other_word (Some w ∷ vs) s v e h =
    one_true (is_word s (Some w)) (list_any (is_word s) vs) h
    (λ k. let P : List ℕ → Type 0 = λ u. bytes_eq u v ≡ false in
    first_true (not (bytes_eq (text_of w) v)) (list_any (is_other_word v) vs) (not_same (bytes_eq (text_of w) v) (subst P (sym (same_text (text_of w) s k)) e)))
    (λ k. second_true (not (bytes_eq (text_of w) v)) (list_any (is_other_word v) vs) (other_word vs s v e k))

words_differ : (vs ws : List (Option Word)) (s v : List ℕ) → bytes_eq s v ≡ false → list_any (is_word s) vs ≡ true → list_any (is_word v) ws ≡ true → list_any (is_word_apart vs) ws ≡ true
words_differ vs [] s v e h k = cc
words_differ vs (None ∷ ws) s v e h k = words_differ vs ws s v e h k
words_differ vs (Some w ∷ ws) s v e h k =
    one_true (is_word v (Some w)) (list_any (is_word v) ws) k
    (λ i. let P : List ℕ → Type 0 = λ u. list_any (is_other_word u) vs ≡ true in
    first_true (list_any (is_other_word (text_of w)) vs) (list_any (is_word_apart vs) ws) (subst P (sym (same_text (text_of w) v i)) (other_word vs s v e h)))
    (λ r. second_true (list_any (is_other_word (text_of w)) vs) (list_any (is_word_apart vs) ws) (words_differ vs ws s v e h r))

pub others_differ : (t u : Texts) (s v : List ℕ) → is_among t s ≡ true → is_among u v ≡ true → bytes_eq s v ≡ false → differ t u ≡ true
others_differ Any u s v h k e = has_some u v k
others_differ (Few vs) Any s v h k e = has_some (Few vs) s h
others_differ (Few vs) (Few ws) s v h k e = words_differ vs ws s v e h k
