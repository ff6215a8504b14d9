-- Runs of digits and of word bytes, as loops read them.
use Rattle.std.proofs.Common.{◌≡◌, ◌≤◌, ◌<◌, ◌+◌, ◌-◌, ◌*◌, ℕ, zero, suc, Bool, true, false, ◌&&◌, List, [], ◌∷◌, length, get_or, drop, Some, None, refl, sym, ap, subst, ◌∙◌, arith, add-one, drop-cons}
use Rattle.std.specs.List.{list_all}
use Rattle.std.specs.Str.{IsUtf8, IsCharBoundary}
use Rattle.std.specs.Prelude.{nat_le}
use Rattle.std.proofs.lemmas.Bool.{le-leb}
use Rattle.std.proofs.lemmas.Bool.Decides.{nat_tests}
use Rattle.std.proofs.lemmas.Str.{IsCharBoundary-start, IsCharBoundary-after_ascii}
use Rattle.std.proofs.lemmas.List.Sums.{prefix_len_is}
use Rattle.feel_text.specs.Lexical.{is_digit, is_word_byte, number_from}
use Rattle.feel_value.specs.Limits.{greatest_number}
use Rattle.feel_text.specs.Scanning.{number_of, run_length}

and_false : (b : Bool) → (b && false) ≡ false
and_false true = refl
and_false false = refl

number_grows : (n : ℕ) (bs : List ℕ) → n ≤ number_from n bs
number_grows n [] = omega arith
number_grows n (b ∷ bs) = let h = number_grows (10 * n + (b - 48)) bs in omega arith

pub number_stops : (w rest : List ℕ) (b : ℕ) → list_all is_digit w ≡ list_all is_digit (b ∷ rest) → is_digit b ≡ false → number_of w ≡ None
number_stops w rest b all stop =
    let no : list_all is_digit w ≡ false = all ∙ ap (λ (c : Bool). c && list_all is_digit rest) stop in
    rw no refl

pub number_passes : (w rest : List ℕ) (b v : ℕ) → number_from v (b ∷ rest) ≡ number_from 0 w → greatest_number < 10 * v + (b - 48) → number_of w ≡ None
number_passes w rest b v is over =
    let grown = number_grows (10 * v + (b - 48)) rest in
    let above : greatest_number < number_from 0 w = omega arith in
    let no : nat_le (number_from 0 w) greatest_number ≡ false = grind (arith, nat_tests) in
    rw (no, and_false) refl

pub number_ends : (w : List ℕ) (v : ℕ) → v ≡ number_from 0 w → list_all is_digit w ≡ true → v ≤ greatest_number → number_of w ≡ Some v
number_ends w v is all within =
    let low : nat_le (number_from 0 w) greatest_number ≡ true = le-leb (number_from 0 w) greatest_number (subst (λ (n : ℕ). n ≤ greatest_number) is within) in
    rw (all, low) (ap (λ (n : ℕ). Some n) (sym is))

pub drop_more : (bs : List ℕ) (i : ℕ) → i < length bs → drop i bs ≡ get_or bs i 0 ∷ drop (i + 1) bs
drop_more bs i h = rw (add-one, drop-cons bs i 0) refl

pub word_ascii : (b : ℕ) → is_word_byte b ≡ true → b < 128
word_ascii b w = grind (arith, nat_tests)

-- A text may be cut where a run of word bytes ends.
pub run_boundary : (bs : List ℕ) (i : ℕ) → IsUtf8 bs → i ≤ length bs → ((k : ℕ) → k < i → is_word_byte (get_or bs k 0) ≡ true) → IsCharBoundary bs i
run_boundary bs zero u le w = IsCharBoundary-start bs u
run_boundary bs (suc i) u le w = subst (λ (n : ℕ). IsCharBoundary bs n) (add-one i) (IsCharBoundary-after_ascii bs i u (omega arith) (word_ascii (get_or bs i 0) (w i (omega arith))))

pub run_is : (bs : List ℕ) (i : ℕ) → i ≤ length bs → ((k : ℕ) → k < i → is_word_byte (get_or bs k 0) ≡ true) → (i < length bs → is_word_byte (get_or bs i 0) ≡ false) → i ≡ run_length bs
run_is bs i le w stops = sym (prefix_len_is is_word_byte bs i 0 le w stops)

-- A text may be cut after a first byte that is ASCII.
pub after_first : (bs rest : List ℕ) (b : ℕ) → IsUtf8 bs → bs ≡ b ∷ rest → b < 128 → IsCharBoundary bs 1
after_first bs rest b u is ascii =
    let n : 0 < length bs = rw is (omega arith) in
    let first : get_or bs 0 0 < 128 = rw is ascii in
    IsCharBoundary-after_ascii bs 0 u n first
