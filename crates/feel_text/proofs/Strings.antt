-- What stands in a string, run by run.
use Rattle.std.proofs.Common.{◌≡◌, ◌≤◌, ◌<◌, ◌+◌, ℕ, suc, Bool, true, false, List, [], ◌∷◌, ◌++◌, length, get_or, take, drop, Option, Some, None, refl, sym, ap, subst, ◌∙◌, arith, append_assoc, append-nil}
use Rattle.std.specs.Str.{IsUtf8, IsCharBoundary}
use Rattle.std.specs.Prelude.{IfSome, ◌==◌, if◌then◌else◌}
use Rattle.std.proofs.lemmas.Bool.Decides.{nat_tests}
use Rattle.std.proofs.lemmas.Str.{IsCharBoundary-before_ascii, IsCharBoundary-after_ascii}
use Rattle.std.proofs.lemmas.List.Sums.{prefix_len_is}
use Rattle.feel_text.specs.Lexical.{escaped}
use Rattle.feel_text.specs.Scanning.{is_plain, plain_length, onto, text_at, prefixed}
use Rattle.feel_text.specs.Reading.{choose}

abbrev pub Content : Type 0
Content = Option (List ℕ × List ℕ)

prefixed_none : (r : Content) → prefixed [] r ≡ r
prefixed_none None = refl
prefixed_none (Some x) = refl

prefixed_onto : (b : ℕ) (xs : List ℕ) (r : Content) → onto b (prefixed xs r) ≡ prefixed (b ∷ xs) r
prefixed_onto b xs None = refl
prefixed_onto b xs (Some x) = refl

pub prefixed_twice : (xs ys : List ℕ) (r : Content) → prefixed xs (prefixed ys r) ≡ prefixed (xs ++ ys) r
prefixed_twice xs ys None = refl
prefixed_twice xs ys (Some x) = ap (λ (zs : List ℕ). Some (zs, x.1)) (sym (append_assoc xs ys x.0))

pub text_end : text_at false [] ≡ None
unfolding text_at
text_end = refl

pub text_quote : (bs : List ℕ) → text_at false (34 ∷ bs) ≡ Some ([], bs)
unfolding text_at
text_quote bs = refl

pub text_behind : (bs : List ℕ) → text_at false (92 ∷ bs) ≡ text_at true bs
unfolding text_at
text_behind bs = refl

pub text_cut : text_at true [] ≡ None
unfolding text_at
text_cut = refl

pub text_escape : (b : ℕ) (bs : List ℕ) → text_at true (b ∷ bs) ≡ choose (escaped b) None (λ c. onto c (text_at false bs))
unfolding text_at
text_escape b bs = refl

not_quote : (b : ℕ) → is_plain b ≡ true → ((b == 92) ≡ false) × ((b == 34) ≡ false)
not_quote b p = (grind (arith, nat_tests), grind (arith, nat_tests))

pub text_plain : (b : ℕ) (bs : List ℕ) → is_plain b ≡ true → text_at false (b ∷ bs) ≡ onto b (text_at false bs)
unfolding text_at
text_plain b bs p = let q = not_quote b p in rw (q.0, q.1) refl

add-one-first : (n : ℕ) → 1 + n ≡ suc n
add-one-first n = omega arith

run_at_one : (b : ℕ) (bs : List ℕ) (p : Bool) → is_plain b ≡ p → text_at false bs ≡ prefixed (take (plain_length bs) bs) (text_at false (drop (plain_length bs) bs))
    → text_at false (b ∷ bs) ≡ prefixed (take (plain_length (b ∷ bs)) (b ∷ bs)) (text_at false (drop (plain_length (b ∷ bs)) (b ∷ bs)))
run_at_one b bs true p h =
    let n : plain_length (b ∷ bs) ≡ suc (plain_length bs) = rw p (add-one-first (plain_length bs)) in
    rw n (text_plain b bs p ∙ ap (λ (r : Content). onto b r) h ∙ prefixed_onto b (take (plain_length bs) bs) (text_at false (drop (plain_length bs) bs)))
run_at_one b bs false p h =
    let n : plain_length (b ∷ bs) ≡ 0 = rw p refl in
    rw n (sym (prefixed_none (text_at false (b ∷ bs))))

-- what a text stands for is its plain run, and what the rest stands for
pub text_run : (bs : List ℕ) → text_at false bs ≡ prefixed (take (plain_length bs) bs) (text_at false (drop (plain_length bs) bs))
text_run [] = sym (prefixed_none (text_at false []))
text_run (b ∷ bs) = run_at_one b bs (is_plain b) refl (text_run bs)

-- A text may be cut before a quote or a \.
pub plain_boundary : (bs : List ℕ) (i : ℕ) → i < length bs → is_plain (get_or bs i 0) ≡ false → IsCharBoundary bs i
plain_boundary bs i lt p = IsCharBoundary-before_ascii bs i lt (grind (arith, nat_tests))

pub plain_is : (bs : List ℕ) (i : ℕ) → i ≤ length bs → ((k : ℕ) → k < i → is_plain (get_or bs k 0) ≡ true) → (i < length bs → is_plain (get_or bs i 0) ≡ false) → i ≡ plain_length bs
plain_is bs i le w stops = sym (prefix_len_is is_plain bs i 0 le w stops)

-- ---- one round of the loop: a plain run, and the mark after it

pub run_step : (content rest plain after next : List ℕ) (total : Content) → plain ≡ take (plain_length rest) rest → after ≡ drop (plain_length rest) rest → next ≡ content ++ plain
    → prefixed content (text_at false rest) ≡ total → prefixed next (text_at false after) ≡ total
run_step content rest plain after next total front back pushed so_far =
    let one : prefixed content (text_at false rest) ≡ prefixed (content ++ take (plain_length rest) rest) (text_at false (drop (plain_length rest) rest)) =
    ap (λ (r : Content). prefixed content r) (text_run rest) ∙ prefixed_twice content (take (plain_length rest) rest) (text_at false (drop (plain_length rest) rest)) in
    rw (pushed, front, back) (sym one ∙ so_far)

pub ends_empty : (content after : List ℕ) (total : Content) → length after ≡ 0 → prefixed content (text_at false after) ≡ total → total ≡ None
ends_empty content [] total e so_far = sym so_far ∙ ap (λ (r : Content). prefixed content r) text_end
ends_empty content (b ∷ bs) total e so_far = absurd (omega arith)

pub ends_quote : (content after behind : List ℕ) (m : ℕ) (total : Content) → after ≡ m ∷ behind → m ≡ 34 → prefixed content (text_at false after) ≡ total → total ≡ Some (content, drop 1 after)
ends_quote content after behind m total is quote so_far =
    let one : prefixed content (text_at false after) ≡ Some (content, drop 1 after) = rw (is, quote, text_quote, append-nil) refl in
    sym so_far ∙ one

stops_one : (b : ℕ) (bs behind : List ℕ) (m : ℕ) (p : Bool) → is_plain b ≡ p → (drop (plain_length bs) bs ≡ m ∷ behind → is_plain m ≡ false) → drop (plain_length (b ∷ bs)) (b ∷ bs) ≡ m ∷ behind → is_plain m ≡ false
stops_one b bs behind m true p h is =
    let n : plain_length (b ∷ bs) ≡ suc (plain_length bs) = rw p (add-one-first (plain_length bs)) in
    h (ap (λ (k : ℕ). drop k (b ∷ bs)) (sym n) ∙ is)
stops_one b bs behind m false p h is =
    let n : plain_length (b ∷ bs) ≡ 0 = rw p refl in
    let same : (b ∷ bs) ≡ m ∷ behind = ap (λ (k : ℕ). drop k (b ∷ bs)) (sym n) ∙ is in
    let first : b ≡ m = cc in
    ap is_plain (sym first) ∙ p

-- what stands after a plain run isn't plain
pub stops_plain : (bs behind : List ℕ) (m : ℕ) → drop (plain_length bs) bs ≡ m ∷ behind → is_plain m ≡ false
stops_plain [] behind m is = absurd cc
stops_plain (b ∷ bs) behind m is = stops_one b bs behind m (is_plain b) refl (stops_plain bs behind m) is

pub mark_is : (rest after behind : List ℕ) (m : ℕ) → after ≡ drop (plain_length rest) rest → after ≡ m ∷ behind → (m ≡ 34 → ⊥) → m ≡ 92
mark_is rest after behind m back is other =
    let p = stops_plain rest behind m (sym back ∙ is) in
    grind (arith, nat_tests)

pub ends_cut : (content after behind : List ℕ) (m : ℕ) (total : Content) → after ≡ m ∷ behind → m ≡ 92 → length behind ≡ 0 → prefixed content (text_at false after) ≡ total → total ≡ None
ends_cut content after [] m total is mark e so_far =
    let one : prefixed content (text_at false after) ≡ None = rw (is, mark, text_behind, text_cut) refl in
    sym so_far ∙ one
ends_cut content after (b ∷ bs) m total is mark e so_far = absurd (omega arith)

pub ends_unknown : (content after behind more : List ℕ) (m b : ℕ) (total : Content) → after ≡ m ∷ behind → m ≡ 92 → behind ≡ b ∷ more → escaped b ≡ None → prefixed content (text_at false after) ≡ total → total ≡ None
ends_unknown content after behind more m b total is mark next none so_far =
    let one : text_at false after ≡ choose (escaped b) None (λ c. onto c (text_at false more)) = rw (is, mark, next, text_behind, text_escape) refl in
    let two : choose (escaped b) None (λ c. onto c (text_at false more)) ≡ None = ap (λ (o : Option ℕ). choose o None (λ c. onto c (text_at false more))) none in
    sym so_far ∙ ap (λ (r : Content). prefixed content r) (one ∙ two)

prefixed_pushed : (content : List ℕ) (c : ℕ) (r : Content) → prefixed content (onto c r) ≡ prefixed (content ++ c ∷ []) r
prefixed_pushed content c None = refl
prefixed_pushed content c (Some (x, y)) = ap (λ (zs : List ℕ). Some (zs, y)) (sym (append_assoc content (c ∷ []) x))

pub goes_on : (content next after behind more rest : List ℕ) (m b c : ℕ) (total : Content) → after ≡ m ∷ behind → m ≡ 92 → behind ≡ b ∷ more → escaped b ≡ Some c → next ≡ content ++ c ∷ [] → rest ≡ drop 2 after
    → prefixed content (text_at false after) ≡ total → prefixed next (text_at false rest) ≡ total
goes_on content next after behind more rest m b c total is mark second known pushed dropped so_far =
    let one : text_at false after ≡ choose (escaped b) None (λ d. onto d (text_at false more)) = rw (is, mark, second, text_behind, text_escape) refl in
    let two : choose (escaped b) None (λ d. onto d (text_at false more)) ≡ onto c (text_at false more) = ap (λ (o : Option ℕ). choose o None (λ d. onto d (text_at false more))) known in
    let left : rest ≡ more = dropped ∙ ap (λ (w : List ℕ). drop 2 w) is ∙ ap (λ (w : List ℕ). drop 2 (m ∷ w)) second in
    rw (pushed, left) (sym (ap (λ (r : Content). prefixed content r) (one ∙ two) ∙ prefixed_pushed content c (text_at false more)) ∙ so_far)

if_test : {B : Type 0} (b : Bool) (o p : Option B) (Q : B → Type 0) → (b ≡ true → IfSome o Q) → IfSome p Q → IfSome (if b then o else p) Q
if_test true o p Q h g = h refl
if_test false o p Q h g = g

small : (b n : ℕ) → (b == n) ≡ true → n < 128 → b < 128
small b n e lt = grind (arith, nat_tests)

escaped_small : (b : ℕ) → IfSome (escaped b) (λ d. (b < 128) × (d < 128))
escaped_small b =
    if_test (b == 34) _ _ _ (λ e. (small b 34 e (omega arith), omega arith)) (
    if_test (b == 92) _ _ _ (λ e. (small b 92 e (omega arith), omega arith)) (
    if_test (b == 110) _ _ _ (λ e. (small b 110 e (omega arith), omega arith)) (
    if_test (b == 114) _ _ _ (λ e. (small b 114 e (omega arith), omega arith)) (
    if_test (b == 116) _ _ _ (λ e. (small b 116 e (omega arith), omega arith)) tt))))

-- both a byte that may stand behind a \ and what it stands for are ASCII
pub escaped_ascii : (b c : ℕ) → escaped b ≡ Some c → (b < 128) × (c < 128)
escaped_ascii b c e =
    let h = escaped_small b in
    subst (λ (o : Option ℕ). IfSome o (λ d. (b < 128) × (d < 128))) e h

pub after_second : (bs behind more : List ℕ) (m b : ℕ) → IsUtf8 bs → bs ≡ m ∷ behind → behind ≡ b ∷ more → b < 128 → IsCharBoundary bs 2
after_second bs behind more m b u is second ascii =
    let n : 1 < length bs = rw (is, second) (omega arith) in
    let low : get_or bs 1 0 < 128 = rw (is, second) ascii in
    IsCharBoundary-after_ascii bs 1 u n low
