-- Lines of bytes that come piece by piece.
use Rattle.std.proofs.Common.{◌≡◌, ℕ, ◌+◌, ◌-◌, ◌<◌, ◌≤◌, ◌==◌, ◌||◌, Bool, true, false, List, [], ◌∷◌, ◌++◌, length, take, drop, get_or, refl, ap, sym, ◌∙◌, arith, append_assoc, cond, Option, Some, None, not, add-one}
use Rattle.std.proofs.lemmas.Bool.{eqb-true}
use Rattle.std.specs.List.{flat_map, position, position_or_len, slice_range}
use Rattle.std.proofs.lemmas.List.Quantifiers.{position-Some}
use Rattle.std.proofs.lemmas.List.Folds.{list_any_none}
use Rattle.std.proofs.Math.Seq.{split_at}
use Rattle.std.proofs.lemmas.List.{get_or-take, length-take, drop-drop, drop-take}
use Rattle.std.proofs.lemmas.Grind.{common_steps}
use Rattle.desk_lines.specs.Lines.{newline, onto_first, onto_whole, lines_of, whole_lines_of, ended, longer, has_newline, IsOneLine, AreLines, Splits}

pub or_false_left : (a b : Bool) → (a || b) ≡ false → a ≡ false
or_false_left true b h = h
or_false_left false b h = refl

pub or_false_right : (a b : Bool) → (a || b) ≡ false → b ≡ false
or_false_right true b h = cc
or_false_right false b h = h

-- a line and its newline are the first line of what they begin
pub lines_of-line : (line rest : List ℕ) → IsOneLine line → lines_of (line ++ newline ∷ rest) ≡ line ∷ lines_of rest
lines_of-line [] rest h = refl
lines_of-line (b ∷ line) rest h =
    rw (or_false_left (b == newline) (has_newline line) h)
    (ap (onto_first b) (lines_of-line line rest (or_false_right (b == newline) (has_newline line) h)))

-- what has no newline is the last line
pub lines_of-last : (b : ℕ) (line : List ℕ) → IsOneLine (b ∷ line) → lines_of (b ∷ line) ≡ (b ∷ line) ∷ []
lines_of-last b [] h = rw (or_false_left (b == newline) false h)
lines_of-last b (c ∷ line) h =
    rw (or_false_left (b == newline) (has_newline (c ∷ line)) h)
    (ap (onto_first b) (lines_of-last c line (or_false_right (b == newline) (has_newline (c ∷ line)) h)))

pub whole_lines_of-line : (line rest : List ℕ) → IsOneLine line → whole_lines_of (line ++ newline ∷ rest) ≡ line ∷ whole_lines_of rest
whole_lines_of-line [] rest h = refl
whole_lines_of-line (b ∷ line) rest h =
    rw (or_false_left (b == newline) (has_newline line) h)
    (ap (onto_whole b) (whole_lines_of-line line rest (or_false_right (b == newline) (has_newline line) h)))

pub whole_lines_of-rest : (rest : List ℕ) → IsOneLine rest → whole_lines_of rest ≡ []
whole_lines_of-rest [] h = refl
whole_lines_of-rest (b ∷ rest) h =
    rw (or_false_left (b == newline) (has_newline rest) h)
    (ap (onto_whole b) (whole_lines_of-rest rest (or_false_right (b == newline) (has_newline rest) h)))

-- the lines of whole lines and a rest
pub lines_of-ended : (lines : List (List ℕ)) (rest : List ℕ) → AreLines lines → lines_of (flat_map ended lines ++ rest) ≡ lines ++ lines_of rest
lines_of-ended [] rest h = refl
lines_of-ended (line ∷ lines) rest h =
    rw (append_assoc (ended line) (flat_map ended lines) rest, append_assoc line (newline ∷ []) (flat_map ended lines ++ rest))
    (lines_of-line line (flat_map ended lines ++ rest) h.0 ∙ ap (λ ls. line ∷ ls) (lines_of-ended lines rest h.1))

pub whole_lines_of-ended : (lines : List (List ℕ)) (rest : List ℕ) → AreLines lines → whole_lines_of (flat_map ended lines ++ rest) ≡ lines ++ whole_lines_of rest
whole_lines_of-ended [] rest h = refl
whole_lines_of-ended (line ∷ lines) rest h =
    rw (append_assoc (ended line) (flat_map ended lines) rest, append_assoc line (newline ∷ []) (flat_map ended lines ++ rest))
    (whole_lines_of-line line (flat_map ended lines ++ rest) h.0 ∙ ap (λ ls. line ∷ ls) (whole_lines_of-ended lines rest h.1))

pub AreLines-push : (lines : List (List ℕ)) (line : List ℕ) → AreLines lines → IsOneLine line → AreLines (lines ++ line ∷ [])
AreLines-push [] line h k = (k, tt)
AreLines-push (l ∷ lines) line h k = (h.0, AreLines-push lines line h.1 k)

flat_map-push : (lines : List (List ℕ)) (line rest : List ℕ) → flat_map ended (lines ++ line ∷ []) ++ rest ≡ flat_map ended lines ++ (line ++ newline ∷ rest)
flat_map-push [] line rest = simp append_assoc
flat_map-push (l ∷ lines) line rest =
    rw (append_assoc (ended l) (flat_map ended (lines ++ line ∷ [])) rest, append_assoc (ended l) (flat_map ended lines) (line ++ newline ∷ rest))
    (ap (λ t. ended l ++ t) (flat_map-push lines line rest))

-- one more whole line
pub Splits-line : (text : List ℕ) (lines : List (List ℕ)) (line rest : List ℕ) → Splits text lines (line ++ newline ∷ rest) → IsOneLine line → Splits text (lines ++ line ∷ []) rest
Splits-line text lines line rest s h = record {
  is = s.is ∙ sym (flat_map-push lines line rest);
  each = AreLines-push lines line s.each h;
}

position-none-step : (t : Bool) (bytes : List ℕ) → (length bytes ≤ position_or_len (λ b. b == newline) bytes → IsOneLine bytes) → length bytes + 1 ≤ cond (not t) (1 + position_or_len (λ b. b == newline) bytes) 0 → (t || has_newline bytes) ≡ false
position-none-step true bytes more h = absurd (omega arith)
position-none-step false bytes more h = more (omega arith)

-- where no newline is found there is none
pub position-none : (bytes : List ℕ) → length bytes ≤ position_or_len (λ b. b == newline) bytes → IsOneLine bytes
position-none [] h = refl
position-none (b ∷ bytes) h = position-none-step (b == newline) bytes (position-none bytes) (omega arith)

pub position-None : (bytes : List ℕ) → position (λ b. b == newline) bytes ≡ None → IsOneLine bytes
position-None bytes e = position-none bytes (grind (arith, common_steps))

-- what stands before the first newline is a line
pub position-line : (bytes : List ℕ) (k : ℕ) → position (λ b. b == newline) bytes ≡ Some k → IsOneLine (take k bytes)
position-line bytes k e =
    list_any_none (λ b. b == newline) (take k bytes) (λ j d h.
    let found = position-Some (λ b. b == newline) bytes k d e in
    let below : j < k = omega (arith, length-take k bytes) in
    rw get_or-take (found.2 j below))

pub position-cut : (bytes : List ℕ) (k : ℕ) → position (λ b. b == newline) bytes ≡ Some k → bytes ≡ take k bytes ++ newline ∷ drop (k + 1) bytes
position-cut bytes k e =
    let found = position-Some (λ b. b == newline) bytes k 0 e in
    let at : get_or bytes k 0 ≡ newline = eqb-true (get_or bytes k 0) newline found.1 in
    let cut = split_at bytes k 0 found.0 in
    rw add-one (rw at at cut)

pub position-within : (bytes : List ℕ) (k : ℕ) → position (λ b. b == newline) bytes ≡ Some k → k < length bytes
position-within bytes k e = (position-Some (λ b. b == newline) bytes k 0 e).0

-- a piece that ends with a newline
pub piece_ended : (items read : List ℕ) (at end k : ℕ) (old new : Option (List ℕ)) → read ≡ items
    → Some k ≡ position (λ b. b == newline) (slice_range read at end)
    → new ≡ longer old (take k (slice_range read at end))
    → (piece : List ℕ) × IsOneLine piece × (slice_range items at end ≡ piece ++ newline ∷ slice_range items (at + (k + 1)) end) × (new ≡ longer old piece)
piece_ended items read at end k old new same e h =
    let e₁ : position (λ b. b == newline) (slice_range items at end) ≡ Some k = rw same at (sym e) in
    let h₁ : new ≡ longer old (take k (slice_range items at end)) = rw same at h in
    let within : k < length (slice_range items at end) = position-within (slice_range items at end) k e₁ in
    let size : (k + 1) + (end - (at + (k + 1))) ≡ end - at = omega (arith, length-take (end - at) (drop at items)) in
    let left : drop (k + 1) (slice_range items at end) ≡ slice_range items (at + (k + 1)) end =
    ap (λ n. drop (k + 1) (take n (drop at items))) (sym size) ∙ drop-take (k + 1) (end - (at + (k + 1))) (drop at items)
    ∙ ap (λ t. take (end - (at + (k + 1))) t) (drop-drop (k + 1) at items) in (
      take k (slice_range items at end),
      position-line (slice_range items at end) k e₁,
      position-cut (slice_range items at end) k e₁ ∙ ap (λ t. take k (slice_range items at end) ++ newline ∷ t) left,
      h₁,
    )

-- a piece without a newline
pub piece_open : (items read : List ℕ) (at end : ℕ) (old new : Option (List ℕ)) → read ≡ items
    → None ≡ position (λ b. b == newline) (slice_range read at end)
    → new ≡ longer old (slice_range read at end)
    → IsOneLine (slice_range items at end) × (new ≡ longer old (slice_range items at end))
piece_open items read at end old new same e h =
    let e₁ : position (λ b. b == newline) (slice_range items at end) ≡ None = rw same at (sym e) in
    (position-None (slice_range items at end) e₁, rw same at h)

-- nothing stands between two places that are one
pub slice_range-none : (items : List ℕ) (at end : ℕ) → end ≤ at → slice_range items at end ≡ []
slice_range-none items at end h = let none : end - at ≡ 0 = omega arith in rw none
