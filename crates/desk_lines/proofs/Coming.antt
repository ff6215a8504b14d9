-- What comes of an input, piece by piece.
use Rattle.std.proofs.Common.{◌≡◌, ℕ, zero, suc, ◌+◌, ◌-◌, ◌<◌, ◌≤◌, ◌==◌, ◌&&◌, Bool, true, false, List, [], ◌∷◌, ◌++◌, length, take, drop, refl, ap, sym, ◌∙◌, arith, append_assoc, Option, Some, None, ◌⊎◌, inl, inr, append-nil, length-append, length-take, take-take, take_all, slice_range, nat_lt, if◌then◌else◌, unwrap_or, option_map}
use Rattle.std.proofs.lemmas.Bool.Decides.{nat_tests}
use Rattle.std.proofs.Math.Dec.{eqb-suc-zero}
use Rattle.std.specs.Io.KnownBytes.{Consumes, IsAtEnd, Appends, Keeps}
use Rattle.std.proofs.lemmas.List.Folds.{list_any-append}
use Rattle.std.proofs.lemmas.Grind.{common_steps}
use Rattle.desk_lines.specs.declared.lines.Next.TheVariants.{Line, Last, End, Open}
use Rattle.desk_lines.specs.Lines.{newline, kept_line, longer, heard, max_input, max_line, IsOneLine}
use Rattle.desk_lines.specs.Device.{counted, grown}
use Rattle.desk_lines.specs.LineReader.{Comes, IsInStep, Took}

-- a write that takes something does not count
pub counted-some : (m n : ℕ) (b : Bool) → 0 < n → counted m ((n == 0) && b) ≡ m
counted-some m zero b h = absurd (omega arith)
counted-some m (suc n) b h = rw (eqb-suc-zero n)

take-nil : (n : ℕ) → take {A = ℕ} n [] ≡ []
take-nil zero = refl
take-nil (suc n) = refl

take-more : (at n : ℕ) (line : List ℕ) → take at line ++ take n (drop at line) ≡ take (at + n) line
take-more zero n line = let same : 0 + n ≡ n = omega arith in rw same
take-more (suc at) n [] = take-nil n ∙ sym (take-nil (suc at + n))
take-more (suc at) n (b ∷ line) = let next : suc at + n ≡ suc (at + n) = omega arith in rw next (ap (λ t. b ∷ t) (take-more at n line))

pub take-piece : (at n : ℕ) (line : List ℕ) → take at line ++ take n (take (length line - at) (drop at line)) ≡ take (at + n) line
take-piece at n line = let all : take (length line - at) (drop at line) ≡ drop at line = grind (arith, common_steps) in rw all (take-more at n line)

pub Consumes-then : (a b c : Option (List ℕ)) (xs ys : List ℕ) → Consumes a b xs → Consumes b c ys → Consumes a c (xs ++ ys)
Consumes-then None b c xs ys h k = tt
Consumes-then (Some us) None c xs ys h k = absurd h
Consumes-then (Some us) (Some vs) None xs ys h k = absurd k
Consumes-then (Some us) (Some vs) (Some ws) xs ys h k = rw append_assoc (h ∙ ap (λ t. xs ++ t) k)

pub Consumes-none : (a : Option (List ℕ)) → Consumes a a []
Consumes-none None = tt
Consumes-none (Some xs) = refl

pub Appends-then : (a b c : Option (List ℕ)) (xs ys : List ℕ) → Appends a b xs → Appends b c ys → Appends a c (xs ++ ys)
Appends-then None b c xs ys h k = tt
Appends-then (Some us) None c xs ys h k = absurd h
Appends-then (Some us) (Some vs) None xs ys h k = absurd k
Appends-then (Some us) (Some vs) (Some ws) xs ys h k = k ∙ ap (λ t. t ++ ys) h ∙ append_assoc us xs ys

pub Appends-none : (a : Option (List ℕ)) → Appends a a []
Appends-none None = tt
Appends-none (Some xs) = sym (append-nil xs)

pub Appends-kept : (a b : Option (List ℕ)) → Keeps a b → Appends a b []
Appends-kept None b h = tt
Appends-kept (Some xs) None h = absurd h
Appends-kept (Some xs) (Some ys) h = h ∙ sym (append-nil xs)

take-append : (n : ℕ) (xs ys : List ℕ) → take n (xs ++ ys) ≡ take n xs ++ take (n - length xs) ys
take-append zero xs ys = let none : 0 - length xs ≡ 0 = omega arith in rw none
take-append (suc n) [] ys = let all : suc n - 0 ≡ suc n = omega arith in rw all
take-append (suc n) (x ∷ xs) ys =
    let less : suc n - suc (length xs) ≡ n - length xs = omega arith in
    rw less (ap (λ t. x ∷ t) (take-append n xs ys))

pub heard-append : (came : ℕ) (xs ys : List ℕ) → heard came (xs ++ ys) ≡ heard came xs ++ heard (came + length xs) ys
heard-append came xs ys =
    let left : (max_input - came) - length xs ≡ max_input - (came + length xs) = omega arith in
    take-append (max_input - came) xs ys ∙ ap (λ n. take (max_input - came) xs ++ take n ys) left

pub Comes-then : (a b c : Option (List ℕ)) (k m n : ℕ) (xs ys : List ℕ) → Comes a b k m xs → Comes b c m n ys → Comes a c k n (xs ++ ys)
Comes-then a b c k m n xs ys h i = record {
  taken = Consumes-then a b c xs ys h.taken i.taken;
  count = grind (arith, common_steps, h.count, i.count);
}

pub IsOneLine-append : (xs ys : List ℕ) → IsOneLine xs → IsOneLine ys → IsOneLine (xs ++ ys)
IsOneLine-append xs ys h k = rw (list_any-append (λ b. b == newline) xs ys) (rw h k)

le_or_lt : (m n : ℕ) → (m ≤ n) ⊎ (n < m)
le_or_lt m n = grind arith

no_length : (xs : List ℕ) → length xs ≡ 0 → xs ≡ []
no_length [] h = refl
no_length (x ∷ xs) h = absurd (omega arith)

kept_short : (line : List ℕ) → length line ≤ max_line → kept_line line ≡ Some line
kept_short line h = grind (arith, nat_tests)

kept_long : (line : List ℕ) → max_line < length line → kept_line line ≡ None
kept_long line h = grind (arith, nat_tests)

pub longer-kept : (line piece : List ℕ) → longer (kept_line line) piece ≡ kept_line (line ++ piece)
longer-kept line piece = elim (le_or_lt (length line) max_line) [
  | inl h ↦ rw (kept_short line h)
  | inr h ↦ rw (kept_long line h) (sym (kept_long (line ++ piece) (omega (arith, length-append line piece))))
]

-- a kept line is seen to be empty where the line is
pub empty-kept : (line : List ℕ) → unwrap_or (option_map (λ l. length l == 0) (kept_line line)) false ≡ (length line == 0)
empty-kept line = elim (le_or_lt (length line) max_line) [
  | inl h ↦ rw (kept_short line h)
  | inr h ↦ rw (kept_long line h) (grind (arith, nat_tests))
]

regroup : (t h i l r s : List ℕ) → t ++ h ≡ l ++ r → s ≡ r ++ i → t ++ (h ++ i) ≡ l ++ s
regroup t h i l r s e f = sym (append_assoc t h i) ∙ ap (λ x. x ++ i) e ∙ append_assoc l r i ∙ ap (λ x. l ++ x) (sym f)

-- some of a line has come, and is kept
pub record Partway (left left' : Option (List ℕ)) (came came' : ℕ) (text rest : List ℕ) (kept : Option (List ℕ)) : Type 0 where
  pub line : List ℕ
  pub bytes : List ℕ
  pub comes : Comes left left' came came' bytes
  pub cut : text ++ heard came bytes ≡ line ++ rest
  pub one : IsOneLine line
  pub keeps : kept ≡ kept_line line

-- a line has a beginning
pub partway_start : (left : Option (List ℕ)) (came : ℕ) (begun text : List ℕ) (kept : Option (List ℕ)) → IsOneLine begun → kept ≡ kept_line begun → Partway left left came came (begun ++ text) text kept
partway_start left came begun text kept h e = record {
  line = begun;
  bytes = [];
  comes = record { taken = Consumes-none left; count = omega arith };
  cut = ap (λ t. (begun ++ text) ++ t) (take-nil (max_input - came)) ∙ append-nil (begun ++ text);
  one = h;
  keeps = e;
}

pub partway_more : {left left' left'' : Option (List ℕ)} {came came' came'' : ℕ} {text rest : List ℕ} {kept : Option (List ℕ)} (rest' bytes : List ℕ)
    → Partway left left' came came' text rest kept → Comes left' left'' came' came'' bytes → rest' ≡ rest ++ heard came' bytes
    → Partway left left'' came came'' text rest' kept
partway_more {left} {left'} {left''} {came} {came'} {came''} {text} {rest} {kept} rest' bytes p h e = record {
  line = p.line;
  bytes = p.bytes ++ bytes;
  comes = Comes-then left left' left'' came came' came'' p.bytes bytes p.comes h;
  cut =
      let more : heard came (p.bytes ++ bytes) ≡ heard came p.bytes ++ heard came' bytes =
      heard-append came p.bytes bytes ∙ ap (λ n. heard came p.bytes ++ heard n bytes) (sym p.comes.count) in
      ap (λ x. text ++ x) more ∙ regroup text (heard came p.bytes) (heard came' bytes) p.line rest rest' p.cut e;
  one = p.one;
  keeps = p.keeps;
}

pub partway_piece : {left left' : Option (List ℕ)} {came came' : ℕ} {text : List ℕ} {kept : Option (List ℕ)} (rest : List ℕ) (kept' : Option (List ℕ))
    → Partway left left' came came' text rest kept → IsOneLine rest → kept' ≡ longer kept rest
    → Partway left left' came came' text [] kept'
partway_piece {left} {left'} {came} {came'} {text} {kept} rest kept' p h e = record {
  line = p.line ++ rest;
  bytes = p.bytes;
  comes = p.comes;
  cut = p.cut ∙ sym (append-nil (p.line ++ rest));
  one = IsOneLine-append p.line rest p.one h;
  keeps = rw p.keeps at e ∙ longer-kept p.line rest;
}

pub partway_line : {left left' : Option (List ℕ)} {came came' : ℕ} {text rest : List ℕ} {kept : Option (List ℕ)} (piece rest' : List ℕ) (kept' : Option (List ℕ))
    → Partway left left' came came' text rest kept → IsOneLine piece → rest ≡ piece ++ newline ∷ rest' → kept' ≡ longer kept piece
    → (bytes : List ℕ) × Comes left left' came came' bytes × Took Line (text ++ heard came bytes) rest' kept' left'
partway_line {left} {left'} {came} {came'} {text} {rest} {kept} piece rest' kept' p h e k = (
  p.bytes,
  p.comes,
  (p.line ++ piece, IsOneLine-append p.line piece p.one h, p.cut ∙ ap (λ x. p.line ++ x) e ∙ sym (append_assoc p.line piece (newline ∷ rest')), rw p.keeps at k ∙ longer-kept p.line piece),
)

-- nothing more is at hand
pub partway_open : {left left' : Option (List ℕ)} {came came' : ℕ} {text : List ℕ} {kept : Option (List ℕ)} (rest : List ℕ)
    → Partway left left' came came' text [] kept → rest ≡ []
    → (bytes : List ℕ) × Comes left left' came came' bytes × Took Open (text ++ heard came bytes) rest kept left'
partway_open {left} {left'} {came} {came'} {text} {kept} rest p e =
    let all : text ++ heard came p.bytes ≡ p.line = p.cut ∙ append-nil p.line in
    (p.bytes, p.comes, (rw all p.one, e, rw all p.keeps))

pub partway_last : {left left' : Option (List ℕ)} {came came' : ℕ} {text rest : List ℕ} {kept : Option (List ℕ)}
    → Partway left left' came came' text rest kept → rest ≡ [] → IsAtEnd left' → unwrap_or (option_map (λ l. length l == 0) kept) false ≡ false
    → (bytes : List ℕ) × Comes left left' came came' bytes × Took Last (text ++ heard came bytes) rest kept left'
partway_last {left} {left'} {came} {came'} {text} {rest} {kept} p e end full =
    let all : text ++ heard came p.bytes ≡ p.line = p.cut ∙ ap (λ x. p.line ++ x) e ∙ append-nil p.line in
    let some : (length p.line == 0) ≡ false = sym (empty-kept p.line) ∙ rw p.keeps at full in
    let long : 0 < length p.line = grind (arith, nat_tests, some) in
    (p.bytes, p.comes, (rw all p.one, rw all long, e, rw all p.keeps, end))

pub partway_end : {left left' : Option (List ℕ)} {came came' : ℕ} {text rest : List ℕ} {kept : Option (List ℕ)}
    → Partway left left' came came' text rest kept → rest ≡ [] → IsAtEnd left' → unwrap_or (option_map (λ l. length l == 0) kept) false ≡ true
    → (bytes : List ℕ) × Comes left left' came came' bytes × Took End (text ++ heard came bytes) rest kept left'
partway_end {left} {left'} {came} {came'} {text} {rest} {kept} p e end none =
    let all : text ++ heard came p.bytes ≡ p.line = p.cut ∙ ap (λ x. p.line ++ x) e ∙ append-nil p.line in
    let empty : (length p.line == 0) ≡ true = sym (empty-kept p.line) ∙ rw p.keeps at none in
    let short : length p.line ≡ 0 = grind (arith, nat_tests, empty) in
    (p.bytes, p.comes, (all ∙ no_length p.line short, e, end))

-- the source is seen as it was
pub partway_seen : {left left' left'' : Option (List ℕ)} {came came' : ℕ} {text rest : List ℕ} {kept : Option (List ℕ)}
    → Partway left left' came came' text rest kept → left'' ≡ left' → Partway left left'' came came' text rest kept
partway_seen {left} {left'} {left''} {came} {came'} {text} {rest} {kept} p e = rw e p

-- a piece that is read is no more than what may come less
pub less_read : (left left' : Option (List ℕ)) (came came' : ℕ) (waits bytes : List ℕ) (waits' : List ℕ) → Comes left left' came came' bytes → waits' ≡ waits ++ heard came bytes → came' ≤ max_input + 1
    → (max_input + 1 - came') + length waits' ≤ (max_input + 1 - came) + length waits
less_read left left' came came' waits bytes waits' h is most =
    let size : length (heard came bytes) ≤ length bytes = omega (arith, length-take (max_input - came) bytes) in
    omega (arith, h.count, size, most, ap length is ∙ length-append waits (heard came bytes))

pub partway_same : {left left' : Option (List ℕ)} {came came' came'' : ℕ} {text rest rest' : List ℕ} {kept : Option (List ℕ)}
    → Partway left left' came came' text rest kept → came'' ≡ came' → rest' ≡ rest → Partway left left' came came'' text rest' kept
partway_same {left} {left'} {came} {came'} {came''} {text} {rest} {rest'} {kept} p e f = rw (e, f) p

-- nothing more of the line comes
pub partway_lost : {left left' left'' : Option (List ℕ)} {came came' came'' : ℕ} {text rest : List ℕ} {kept : Option (List ℕ)} (P : Type 0) (bytes : List ℕ)
    → Partway left left' came came' text rest kept → Comes left' left'' came' came'' bytes → (P → (rest ≡ []) × (heard came' bytes ≡ []))
    → (all : List ℕ) × Comes left left'' came came'' all × (P → IsOneLine (text ++ heard came all))
partway_lost {left} {left'} {left''} {came} {came'} {came''} {text} {rest} {kept} P bytes p h none =
    let q : Partway left left'' came came'' text (rest ++ heard came' bytes) kept = partway_more (rest ++ heard came' bytes) bytes p h refl in (
      q.bytes,
      q.comes,
      λ x.
          let empty : rest ++ heard came' bytes ≡ [] = rw (none x).0 (none x).1 in
          let all : text ++ heard came q.bytes ≡ q.line = q.cut ∙ ap (λ t. q.line ++ t) empty ∙ append-nil q.line in
          rw all q.one,
    )

-- What stands at the front of the buffer once n bytes were read to it, of which at most the last is past the limit.
pub filled : (buffer : List ℕ) (came n kept : ℕ) → came ≤ max_input → n ≤ max_input + 1 - came → kept ≡ (if nat_lt max_input (came + n) then n - 1 else n) → slice_range buffer 0 kept ≡ heard came (take n buffer)
filled buffer came n kept h more is = elim (le_or_lt (came + n) max_input) [
  | inl within ↦
      let all : kept - 0 ≡ n = grind (arith, nat_tests) in
      rw all (sym (take_all (max_input - came) (take n buffer) (let l = length-take n buffer in omega (arith, l, within, h))))
  | inr past ↦
      let all : kept - 0 ≡ max_input - came = grind (arith, nat_tests) in
      rw all (sym (take-take (max_input - came) n buffer (omega (arith, past, h, more))))
]

-- a device's count stays in step where both grow by n
pub in_step-grown : (start device device' came n : ℕ) → device' ≡ grown device n → IsInStep start device came → IsInStep start device' (came + n)
in_step-grown start device device' came n e h = record {
  above = (let a = h.above in omega (arith, a, e));
  below = (let b = h.below in omega (arith, b, e));
}
