-- Names in an order, and the search for one of them.
use Rattle.std.proofs.Common.{◌≡◌, ◌∙◌, sym, ap, refl, subst, ℕ, zero, suc, ◌+◌, ◌-◌, ◌<◌, ◌≤◌, false, List, [], ◌∷◌, ◌++◌, length, get_or, Contains, bytes_eq, Less, Greater, is_lt, arith, inl, inr}
use Rattle.std.proofs.lemmas.Bool.{cases_lt}
use Rattle.std.proofs.lemmas.List.{get_or_append_left, get_or_push, get_or_past, get_or_default, length_push}
use Rattle.std.proofs.lemmas.List.Elements.{All-push, All-weaker, Contains-push, Contains-append_left}
use Rattle.std.specs.List.Sorted.{IsPermutation}
use Rattle.std.proofs.lemmas.List.Sorted.{length_permutation, All-permutation, Contains-permutation}
use Rattle.feel_text.specs.NameOrder.{name_cmp, IsBefore, ranked, name_ranked, AreAll, IsRising, IsInOrder}
use Rattle.feel_text.proofs.NameOrder.{before_later, before_itself, greater_turned, less, less_turned, unlike}

-- ---- an order

apart : (names : List (List ℕ)) (order : List ℕ) (i j rank later : ℕ) → IsInOrder names order → ranked order rank ≡ i → ranked order later ≡ j → rank < later → later < length names
    → get_or names i [] ≡ get_or names j [] → ⊥
apart names order i j rank later h p q less w e =
    let both : IsBefore (get_or names i []) (get_or names j []) =
    subst (λ k. IsBefore (get_or names k []) (get_or names j [])) p (subst (λ k. IsBefore (get_or names (ranked order rank) []) (get_or names k [])) q (h.rising rank later less w)) in
    before_itself (get_or names j []) (subst (λ n. IsBefore n (get_or names j [])) e both)

-- no name stands twice
pub same_position : (names : List (List ℕ)) (order : List ℕ) (i j : ℕ) → IsInOrder names order → i < length names → j < length names → get_or names i [] ≡ get_or names j [] → i ≡ j
same_position names order i j h u v e =
    let a = h.whole i u in
    let b = h.whole j v in
    elim (cases_lt a.0 b.0) [
      | inl less ↦ absurd (apart names order i j a.0 b.0 h a.2 b.2 less b.1 e)
      | inr more ↦ elim (cases_lt b.0 a.0) [
        | inl less ↦ absurd (apart names order j i b.0 a.0 h b.2 a.2 less a.1 (sym e))
        | inr less ↦ (let same : a.0 ≡ b.0 = omega (arith, more, less) in sym a.2 ∙ ap (ranked order) same ∙ b.2)
      ]
    ]

-- no names are in order
pub none_in_order : IsInOrder [] []
none_in_order = record {
  short = omega arith;
  within = λ rank w. absurd (omega (arith, w));
  rising = λ rank later less w. absurd (omega (arith, w));
  whole = λ i w. absurd (omega (arith, w));
}

far : (names : List (List ℕ)) (order : List ℕ) → IsRising names order → (gap rank : ℕ) → rank + suc gap < length names → IsBefore (name_ranked names order rank) (name_ranked names order (rank + suc gap))
far names order h zero rank w = h rank (omega (arith, w))
far names order h (suc gap) rank w =
    let back : rank + suc gap + 1 ≡ rank + suc (suc gap) = omega arith in
    before_later (name_ranked names order rank) (name_ranked names order (rank + suc gap)) (name_ranked names order (rank + suc (suc gap)))
    (far names order h gap rank (omega (arith, w)))
    (subst (λ k. IsBefore (name_ranked names order (rank + suc gap)) (name_ranked names order k)) back (h (rank + suc gap) (omega (arith, w))))

all_rising : (names : List (List ℕ)) (order : List ℕ) → IsRising names order → (rank later : ℕ) → rank < later → later < length names → IsBefore (name_ranked names order rank) (name_ranked names order later)
all_rising names order h rank later less w =
    let back : rank + suc (later - rank - 1) ≡ later = omega (arith, less) in
    subst (λ k. IsBefore (name_ranked names order rank) (name_ranked names order k)) back (far names order h (later - rank - 1) rank (omega (arith, less, w)))

-- the names rise as they stand
pub as_they_stand : (names : List (List ℕ)) (order : List ℕ) → order ≡ [] → IsRising names order → IsInOrder names order
as_they_stand names order e h = subst (IsInOrder names) (sym e) (in_place (subst (IsRising names) e h))
  where
    in_place : IsRising names [] → IsInOrder names []
    in_place h = record {
      short = omega arith;
      within = λ rank w. w;
      rising = all_rising names [] h;
      whole = λ i w. (i, w, refl);
    }

-- all positions, each with a name behind the one before it
pub in_order : (names : List (List ℕ)) (order : List ℕ) → AreAll (length names) order → IsRising names order → IsInOrder names order
in_order names order all rising = record {
  short = omega (arith, all.size);
  within = λ rank w. all.within rank rank (omega (arith, w, all.size));
  rising = all_rising names order rising;
  whole = λ i w.
      let at = all.whole i w in
      (at.0, omega (arith, at.1, all.size), get_or_default order at.0 at.0 i at.1 ∙ at.2);
}

-- ---- one more name, which comes behind all

pub one_behind : (xs : List (List ℕ)) (x : List ℕ) (order : List ℕ) → IsInOrder xs order → (0 < length xs → IsBefore (name_ranked xs order (length xs - 1)) x) → IsInOrder (xs ++ x ∷ []) order
one_behind xs x order h behind = record {
  short = omega (arith, size, h.short);
  within = λ rank w. elim (cases_lt rank (length xs)) [
    | inl less ↦ (let old = h.within rank less in omega (arith, size, old))
    | inr more ↦ (let at : ranked order rank ≡ rank = get_or_past order rank rank (omega (arith, more, h.short)) in omega (arith, at, w))
  ];
  rising = λ rank later less w. elim (cases_lt later (length xs)) [
    | inl old ↦ both rank later (omega (arith, less, old)) old (h.rising rank later less old)
    | inr more ↦ last rank later (omega (arith, size, w, more)) (omega (arith, size, w, less))
  ];
  whole = λ i w. elim (cases_lt i (length xs)) [
    | inl less ↦ (let old = h.whole i less in (old.0, omega (arith, size, old.1), old.2))
    | inr more ↦ (i, w, get_or_past order i i (omega (arith, more, h.short)))
  ];
}
  where
    size : length (xs ++ x ∷ []) ≡ length xs + 1
    size = length_push xs x

    kept : (rank : ℕ) → rank < length xs → name_ranked (xs ++ x ∷ []) order rank ≡ name_ranked xs order rank
    kept rank w = get_or_append_left xs (x ∷ []) [] (ranked order rank) (h.within rank w)

    added : (rank : ℕ) → rank ≡ length xs → name_ranked (xs ++ x ∷ []) order rank ≡ x
    added rank e = ap (λ k. get_or (xs ++ x ∷ []) k []) (get_or_past order rank rank (omega (arith, e, h.short))) ∙ get_or_push xs x [] rank (sym e)

    both : (rank later : ℕ) → rank < length xs → later < length xs → IsBefore (name_ranked xs order rank) (name_ranked xs order later)
        → IsBefore (name_ranked (xs ++ x ∷ []) order rank) (name_ranked (xs ++ x ∷ []) order later)
    both rank later u v e = ap (λ n. is_lt (name_cmp n (name_ranked (xs ++ x ∷ []) order later))) (kept rank u) ∙ ap (λ n. is_lt (name_cmp (name_ranked xs order rank) n)) (kept later v) ∙ e

    to_last : (rank : ℕ) → rank < length xs → IsBefore (name_ranked xs order rank) x
    to_last rank w = elim (cases_lt rank (length xs - 1)) [
      | inl less ↦ before_later (name_ranked xs order rank) (name_ranked xs order (length xs - 1)) x (h.rising rank (length xs - 1) less (omega (arith, w))) (behind (omega (arith, w)))
      | inr more ↦ (let same : length xs - 1 ≡ rank = omega (arith, w, more) in subst (λ k. IsBefore (name_ranked xs order k) x) same (behind (omega (arith, w))))
    ]

    last : (rank later : ℕ) → later ≡ length xs → rank < length xs → IsBefore (name_ranked (xs ++ x ∷ []) order rank) (name_ranked (xs ++ x ∷ []) order later)
    last rank later e u = ap (λ n. is_lt (name_cmp n (name_ranked (xs ++ x ∷ []) order later))) (kept rank u) ∙ ap (λ n. is_lt (name_cmp (name_ranked xs order rank) n)) (added later e) ∙ to_last rank u

-- ---- the search by halves

-- the names of these ranks come before the name, and after it
abbrev pub AreBefore : List (List ℕ) → List ℕ → List ℕ → ℕ → Type 0
AreBefore names order name low = (rank : ℕ) → rank < low → IsBefore (name_ranked names order rank) name

abbrev pub AreAfter : List (List ℕ) → List ℕ → List ℕ → ℕ → Type 0
AreAfter names order name high = (rank : ℕ) → high ≤ rank → rank < length names → name_cmp (name_ranked names order rank) name ≡ Greater

pub before_middle : (names : List (List ℕ)) (order name : List ℕ) (middle : ℕ) → IsInOrder names order → middle < length names → IsBefore (name_ranked names order middle) name → AreBefore names order name (middle + 1)
before_middle names order name middle h w e = λ rank less. elim (cases_lt rank middle) [
  | inl below ↦ before_later (name_ranked names order rank) (name_ranked names order middle) name (h.rising rank middle below w) e
  | inr here ↦ (let same : middle ≡ rank = omega (arith, less, here) in subst (λ k. IsBefore (name_ranked names order k) name) same e)
]

pub after_middle : (names : List (List ℕ)) (order name : List ℕ) (middle : ℕ) → IsInOrder names order → name_cmp (name_ranked names order middle) name ≡ Greater → AreAfter names order name middle
after_middle names order name middle h e = λ rank more w. elim (cases_lt middle rank) [
  | inl above ↦ less_turned name (name_ranked names order rank)
      (before_later name (name_ranked names order middle) (name_ranked names order rank) (greater_turned (name_ranked names order middle) name e) (h.rising middle rank above w))
  | inr here ↦ (let same : middle ≡ rank = omega (arith, more, here) in subst (λ k. name_cmp (name_ranked names order k) name ≡ Greater) same e)
]

-- what stands between what comes before the name and what comes after it
pub found_nowhere : (names : List (List ℕ)) (order name : List ℕ) (low high : ℕ) → IsInOrder names order → high ≤ low → AreBefore names order name low → AreAfter names order name high
    → (i : ℕ) → i < length names → bytes_eq name (get_or names i []) ≡ false
found_nowhere names order name low high h past before after = λ i w. let at = h.whole i w in subst (λ k. bytes_eq name (get_or names k []) ≡ false) at.2 (other at.0 at.1)
  where
    other : (rank : ℕ) → rank < length names → bytes_eq name (name_ranked names order rank) ≡ false
    other rank w = elim (cases_lt rank low) [
      | inl below ↦ unlike (name_ranked names order rank) name Less (less (name_cmp (name_ranked names order rank) name) (before rank below)) refl
      | inr more ↦ unlike (name_ranked names order rank) name Greater (after rank (omega (arith, past, more)) w) refl
    ]

-- ---- all positions

pub all_of_none : AreAll 0 []
all_of_none = record { size = refl; within = λ k d w. absurd (omega (arith, w)); whole = λ p w. absurd (omega (arith, w)) }

pub all_of_more : (count : ℕ) (ps : List ℕ) → AreAll count ps → AreAll (count + 1) (ps ++ count ∷ [])
all_of_more count ps h = record {
  size = length_push ps count ∙ ap (λ n. n + 1) h.size;
  within = All-push (λ p. p < count + 1) ps count (All-weaker (λ p. p < count) (λ p. p < count + 1) (λ p w. omega (arith, w)) ps h.within) (omega arith);
  whole = λ p w. elim (cases_lt p count) [
    | inl less ↦ Contains-append_left ps (count ∷ []) p (h.whole p less)
    | inr more ↦ (let same : count ≡ p = omega (arith, w, more) in subst (λ q. Contains (ps ++ count ∷ []) q) same (Contains-push ps count))
  ];
}

pub all_moved : (count : ℕ) (ps qs : List ℕ) → IsPermutation ps qs → AreAll count ps → AreAll count qs
all_moved count ps qs moved h = record {
  size = length_permutation ps qs moved ∙ h.size;
  within = All-permutation (λ p. p < count) ps qs moved h.within;
  whole = λ p w. Contains-permutation ps qs p moved (h.whole p w);
}
