-- What is left of an input behind what came.
use Rattle.std.proofs.Common.{◌≡◌, ℕ, ◌+◌, ◌-◌, ◌<◌, ◌≤◌, List, [], ◌∷◌, ◌++◌, length, take, drop, slice_range, refl, ap, sym, subst, ◌∙◌, arith, append_assoc, Option, Some, None, append-nil, length-take-le}
use Rattle.std.proofs.lemmas.List.{drop-drop, drop-take, length-drop}
use Rattle.std.specs.Io.KnownBytes.{Consumes, IsAtEnd, Keeps, prepend_known}
use Rattle.desk_lines.specs.Ahead.{bytes_in, bytes_of, Comes, piece_bytes}
use Rattle.desk_lines.specs.Stretch.{left_after}
use Rattle.desk_lines.specs.declared.given.Given.{Given}
use Rattle.desk_lines.specs.declared.given.Given.TheVariants.{Bytes, End, Fault}
use Rattle.desk_lines.proofs.Reaching.{bytes_of-more}

drop_front : (a b : List ℕ) → drop (length a) (a ++ b) ≡ b
drop_front [] b = refl
drop_front (x ∷ a) b = drop_front a b

prepend_none : (left : Option (List ℕ)) → prepend_known [] left ≡ left
prepend_none None = refl
prepend_none (Some xs) = refl

-- nothing of a piece is left
pub none_waits : (items : List ℕ) (at end : ℕ) → end ≤ at → slice_range items at end ≡ []
none_waits items at end h = let none : end - at ≡ 0 = omega (arith, h) in ap (λ k. take k (drop at items)) none

-- some of a piece is left
pub some_waits : (items : List ℕ) (at end : ℕ) → at < end → end ≤ length items → 0 < length (slice_range items at end)
some_waits items at end h k =
    let rest : length (drop at items) ≡ length items - at = length-drop at items in
    let all : length (take (end - at) (drop at items)) ≡ end - at = length-take-le (end - at) (drop at items) (omega (arith, rest, h, k)) in
    omega (arith, all, h)

pub whole_left : (input : Option (List ℕ)) (items : List ℕ) (end : ℕ) (came : List Given) → end ≡ 0 → came ≡ [] → prepend_known (slice_range items 0 end) (left_after input (bytes_of came)) ≡ input
whole_left None items end came h k = refl
whole_left (Some xs) items end came h k = rw (h, k) (ap (λ l. Some (l ++ xs)) (none_waits items 0 0 (omega arith)))

-- a piece came, and all of it is left
left_piece : (input left : Option (List ℕ)) (came piece : List ℕ) → Consumes input left (came ++ piece) → prepend_known piece (left_after input (came ++ piece)) ≡ left_after input came
left_piece None left came piece h = refl
left_piece (Some xs) None came piece h = absurd h
left_piece (Some xs) (Some ys) came piece h =
    rw (h, drop_front (came ++ piece) ys, append_assoc came piece ys, drop_front came (piece ++ ys)) refl

refilled_piece : (input left : Option (List ℕ)) (before after : List Given) (given : Given) (piece : List ℕ) → after ≡ before ++ given ∷ [] → bytes_in given ≡ piece
    → Consumes input left (bytes_of before ++ piece) → prepend_known piece (left_after input (bytes_of after)) ≡ left_after input (bytes_of before)
refilled_piece input left before after given piece is same h =
    rw (is, bytes_of-more before given, same) (left_piece input left (bytes_of before) piece h)

refilled_none : (before after : List Given) (given : Given) → after ≡ before ++ given ∷ [] → bytes_in given ≡ [] → bytes_of after ≡ bytes_of before
refilled_none before after given is none = rw (is, bytes_of-more before given, none) (append-nil (bytes_of before))

-- what comes next and what is left then are what was left
pub refilled : (input : Option (List ℕ)) (before after : List Given) (given : Given) (waiting : List ℕ) (left : Option (List ℕ))
    → after ≡ before ++ given ∷ [] → Comes input (bytes_of before) given → waiting ≡ [] → left ≡ left_after input (bytes_of before)
    → prepend_known (bytes_in given) (left_after input (bytes_of after)) ≡ prepend_known waiting left
refilled input before after (Bytes piece) waiting left is h none same =
    refilled_piece input h.0 before after (Bytes piece) (piece_bytes piece) is refl h.1 ∙ sym (ap (λ w. prepend_known w left) none ∙ prepend_none left ∙ same)
refilled input before after End waiting left is h none same =
    prepend_none (left_after input (bytes_of after)) ∙ ap (λ b. left_after input b) (refilled_none before after End is refl) ∙ sym (ap (λ w. prepend_known w left) none ∙ prepend_none left ∙ same)
refilled input before after Fault waiting left is h none same =
    prepend_none (left_after input (bytes_of after)) ∙ ap (λ b. left_after input b) (refilled_none before after Fault is refl) ∙ sym (ap (λ w. prepend_known w left) none ∙ prepend_none left ∙ same)

-- behind the end nothing comes
at_end : (input left : Option (List ℕ)) (came : List ℕ) → Consumes input left came → IsAtEnd left → IsAtEnd (left_after input came)
at_end None left came h k = tt
at_end (Some xs) None came h k = absurd h
at_end (Some xs) (Some ys) came h k = rw (h, k) (drop_front came [])

pub ended_there : (input : Option (List ℕ)) (before after : List Given) → after ≡ before ++ End ∷ [] → Comes input (bytes_of before) End → IsAtEnd (left_after input (bytes_of after))
ended_there input before after is h = rw (refilled_none before after End is refl) (at_end input h.0 (bytes_of before) h.1 h.2)

pub none_left : (waiting : List ℕ) (left : Option (List ℕ)) → waiting ≡ [] → IsAtEnd left → IsAtEnd (prepend_known waiting left)
none_left waiting None h k = tt
none_left waiting (Some xs) h k = rw (h, k) refl

-- what is left of a piece once so many bytes more of it are read
range_more : (items : List ℕ) (at n end : ℕ) → n ≤ end - at → drop n (slice_range items at end) ≡ slice_range items (at + n) end
range_more items at n end h =
    let split : end - at ≡ n + (end - (at + n)) = omega (arith, h) in
    ap (λ k. drop n (take k (drop at items))) split ∙ drop-take n (end - (at + n)) (drop at items) ∙ ap (λ l. take (end - (at + n)) l) (drop-drop n at items)

-- a read of what is left of a piece takes these bytes of all that is left
pub takes : (items : List ℕ) (at n end : ℕ) (left : Option (List ℕ)) (front rest : List ℕ) → n ≤ end - at → slice_range items at end ≡ front ++ rest
    → rest ≡ drop n (slice_range items at end)
    → Consumes (prepend_known (slice_range items at end) left) (prepend_known (slice_range items (at + n) end) left) front
takes items at n end None front rest h is k = tt
takes items at n end (Some xs) front rest h is k =
    ap (λ l. l ++ xs) (is ∙ ap (λ l. front ++ l) (k ∙ range_more items at n end h)) ∙ append_assoc front (slice_range items (at + n) end) xs

pub kept : (old new : Option (List ℕ)) → new ≡ old → Keeps old new
kept None new h = tt
kept (Some xs) None h = absurd (subst (λ o. Keeps (Some xs) o) (sym h) refl)
kept (Some xs) (Some ys) h = subst (λ o. Keeps (Some xs) o) (sym h) refl

pub none_taken : (old new : Option (List ℕ)) (buffer : List ℕ) → new ≡ old → Consumes old new (take 0 buffer)
none_taken None new buffer h = tt
none_taken (Some xs) None buffer h = subst (λ o. Consumes (Some xs) o []) (sym h) refl
none_taken (Some xs) (Some ys) buffer h = subst (λ o. Consumes (Some xs) o []) (sym h) refl
