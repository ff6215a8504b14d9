-- A bit is set in words.
use Rattle.std.proofs.Common.{◌≡◌, ◌≢◌, ◌∙◌, sym, ap, subst, ℕ, ◌+◌, ◌*◌, ◌^◌, ◌%◌, w64, ◌<◌, ◌≤◌, List, length, set, get_or, arith, inl, inr, max}
use Rattle.std.specs.Int.{bit_at}
use Rattle.std.specs.Prelude.{bit_or}
use Rattle.std.proofs.lemmas.Bool.{cases_lt}
use Rattle.std.proofs.lemmas.List.{get_or-set_same, get_or-set_other, length-set}
use Rattle.std.proofs.lemmas.Nat.Bits.{bit_at_set_same, bit_at_or}
use Rattle.table_classes.specs.Spans.{IsUnsetAt}
use Rattle.table_classes.proofs.ClassWords.{none_of_max}

-- the words with a bit of one of them set
abbrev pub with_bit : List ℕ → ℕ → ℕ → List ℕ
with_bit words k bit = set words k (bit_or (get_or words k 0) (1 * 2 ^ bit % 2 ^ 64))

within_words : (words : List ℕ) (k bit place i : ℕ) → IsUnsetAt (with_bit words k bit) place i → place < length words
within_words words k bit place i h = omega (arith, h.within, length-set words k (bit_or (get_or words k 0) (1 * 2 ^ bit % 2 ^ 64)))

kept_elsewhere : (words : List ℕ) (k bit place i : ℕ) → place ≢ k → IsUnsetAt (with_bit words k bit) place i → IsUnsetAt words place i
kept_elsewhere words k bit place i apart h = record {
  within = within_words words k bit place i h;
  unset = ap (λ n. bit_at n i) (sym (get_or-set_other words k place (bit_or (get_or words k 0) (1 * 2 ^ bit % 2 ^ 64)) 0 apart)) ∙ h.unset;
}

kept_there : (words : List ℕ) (k bit i : ℕ) → k < length words → IsUnsetAt (with_bit words k bit) k i → IsUnsetAt words k i
kept_there words k bit i inside h =
    let mask = 1 * 2 ^ bit % 2 ^ 64 in
    let now : bit_at (bit_or (get_or words k 0) mask) i ≡ 0 = ap (λ n. bit_at n i) (sym (get_or-set_same words k (bit_or (get_or words k 0) mask) 0 inside)) ∙ h.unset in
    record {
      within = inside;
      unset = (none_of_max (bit_at (get_or words k 0) i) (bit_at mask i) (sym (bit_at_or (get_or words k 0) mask i) ∙ now)).0;
    }

-- what isn't set now wasn't before
pub kept : (words : List ℕ) (k bit place i : ℕ) → k < length words → IsUnsetAt (with_bit words k bit) place i → IsUnsetAt words place i
kept words k bit place i inside h =
    elim (cases_lt place k) [
      | inl less ↦ kept_elsewhere words k bit place i (λ e. absurd (omega (arith, e, less))) h
      | inr more ↦ elim (cases_lt k place) [
        | inl past ↦ kept_elsewhere words k bit place i (λ e. absurd (omega (arith, e, past))) h
        | inr under ↦
            let here : place ≡ k = omega (arith, more, under) in
            subst (λ p. IsUnsetAt words p i) (sym here) (kept_there words k bit i inside (subst (λ p. IsUnsetAt (with_bit words k bit) p i) here h))
      ]
    ]

-- it is set there
pub set_there : (words : List ℕ) (k bit place : ℕ) → k < length words → bit < 64 → place ≡ k → IsUnsetAt (with_bit words k bit) place bit → ⊥
set_there words k bit place inside small here h =
    let there = subst (λ p. IsUnsetAt (with_bit words k bit) p bit) here h in
    let one : bit_at (bit_or (get_or words k 0) (1 * 2 ^ bit % 2 ^ 64)) bit ≡ 1 = bit_at_set_same w64 (get_or words k 0) bit small in
    let none : bit_at (bit_or (get_or words k 0) (1 * 2 ^ bit % 2 ^ 64)) bit ≡ 0 = ap (λ n. bit_at n bit) (sym (get_or-set_same words k (bit_or (get_or words k 0) (1 * 2 ^ bit % 2 ^ 64)) 0 inside)) ∙ there.unset in
    omega (arith, one, none)
