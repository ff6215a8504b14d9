-- Each ticket of what was put stands once in any list of its entries.
use Rattle.std.proofs.Common.{◌≡◌, ◌≢◌, ℕ, zero, suc, ◌+◌, ◌<◌, ◌≤◌, ◌==◌, cond, List, [], ◌∷◌, ◌++◌, length, get_or, sym, refl, ap, ◌∙◌, arith}
use Rattle.std.specs.Prelude.{sum_by, IsPermutation, Contains}
use Rattle.std.proofs.lemmas.Bool.Decides.{nat_tests}
use Rattle.std.proofs.lemmas.List.Sorted.{IsPermutation-sym, Contains-permutation, sum_by-IsPermutation}
use Rattle.std.proofs.lemmas.List.Sums.{sum_by-cons, sum_by-append, get_or-le-sum_by}
use mathlib.Core.Logic.{dite}
use native.Mathlib.Decide.{ℕ_discrete}
use Rattle.lanes.specs.Books.{CountsFrom, AreApart}

hit : ℕ → ℕ → ℕ
hit t n = cond (n == t) 1 0

hit_same : (t n : ℕ) → n ≡ t → hit t n ≡ 1
unfolding hit
hit_same t n e = grind (arith, nat_tests)

hit_other : (t n : ℕ) → n ≢ t → hit t n ≡ 0
unfolding hit
hit_other t n e = grind (arith, nat_tests)

hit_most : (t n : ℕ) → hit t n ≤ 1
unfolding hit
hit_most t n = grind (arith, nat_tests)

module _ {T : Type 0} (ticket : T → ℕ) where
  pub counts_at : (k : ℕ) (put : List T) (i : ℕ) (d : T) → CountsFrom ticket k put → i < length put → ticket (get_or put i d) ≡ k + i
  counts_at k [] i d c h = absurd (omega arith)
  counts_at k (x ∷ xs) zero d c h = let e = c.0 in omega arith
  counts_at k (x ∷ xs) (suc i) d c h = let e = counts_at (suc k) xs i d c.1 (omega arith) in omega arith

  -- an entry of any order of what was put is what was put under its ticket
  pub entry_is : (put xs : List T) (x : T) → CountsFrom ticket 0 put → IsPermutation put xs → Contains xs x → (ticket x < length put) × (get_or put (ticket x) x ≡ x)
  entry_is put xs x c p has =
      let found : Contains put x = Contains-permutation xs put x (IsPermutation-sym put xs p) has in
      let at : ticket x ≡ found.0 = ap ticket (sym found.2) ∙ counts_at 0 put found.0 x c found.1 ∙ omega arith in
      ((let h = found.1 in omega arith), ap (λ k. get_or put k x) at ∙ found.2)

  many : ℕ → List T → ℕ
  many t xs = sum_by (λ x. hit t (ticket x)) xs

  none_below : (k t : ℕ) (put : List T) → CountsFrom ticket k put → t < k → many t put ≡ 0
  unfolding many
  none_below k t [] c h = refl
  none_below k t (x ∷ xs) c h = let e = hit_other t (ticket x) (let q = c.0 in λ s. omega arith) in let r = none_below (suc k) t xs c.1 (omega arith) in omega (arith, sum_by-cons (λ y. hit t (ticket y)) x xs)

  at_most_one : (k t : ℕ) (put : List T) → CountsFrom ticket k put → many t put ≤ 1
  unfolding many
  at_most_one k t [] c = omega arith
  at_most_one k t (x ∷ xs) c =
      let more = sum_by-cons (λ y. hit t (ticket y)) x xs in
      dite (ℕ_discrete (ticket x) t)
      (λ e. let n = none_below (suc k) t xs c.1 (let q = c.0 in omega arith) in let m = hit_most t (ticket x) in omega arith)
      (λ ne. let r = at_most_one (suc k) t xs c.1 in let z = hit_other t (ticket x) ne in omega arith)

  -- what comes before and what comes after have no ticket in common
  pub apart : (put before rest : List T) (y x : T) → CountsFrom ticket 0 put → IsPermutation put (before ++ rest) → Contains before y → Contains rest x → ticket y ≢ ticket x
  unfolding many
  apart put before rest y x c p has has' same =
      let f : T → ℕ = λ z. hit (ticket x) (ticket z) in
      let total : sum_by f (before ++ rest) ≡ sum_by f put = sum_by-IsPermutation f put (before ++ rest) p in
      let most = at_most_one 0 (ticket x) put c in
      let theirs : 1 ≤ sum_by f before = (let h = get_or-le-sum_by f before has.0 y has.1 in let e : f (get_or before has.0 y) ≡ 1 = ap f has.2 ∙ hit_same (ticket x) (ticket y) same in omega arith) in
      let mine : 1 ≤ sum_by f rest = (let h = get_or-le-sum_by f rest has'.0 x has'.1 in let e : f (get_or rest has'.0 x) ≡ 1 = ap f has'.2 ∙ hit_same (ticket x) (ticket x) refl in omega arith) in
      omega (arith, sum_by-append f before rest)

  -- where each ticket stands once at most, no two have one ticket
  apart_where : (xs : List T) → ((t : ℕ) → many t xs ≤ 1) → AreApart ticket xs
  unfolding many
  apart_where [] few = tt
  apart_where (x ∷ xs) few = (
    λ k d h same. (
        let f : T → ℕ = λ z. hit (ticket x) (ticket z) in
        let more = sum_by-cons f x xs in let most = few (ticket x) in
        let mine : f x ≡ 1 = hit_same (ticket x) (ticket x) refl in
        let theirs : 1 ≤ sum_by f xs = (let below = get_or-le-sum_by f xs k d h in let e : f (get_or xs k d) ≡ 1 = hit_same (ticket x) (ticket (get_or xs k d)) (sym same) in omega arith) in
        omega arith
        ),
    apart_where xs (λ t. let more = sum_by-cons (λ z. hit t (ticket z)) x xs in let most = few t in omega arith),
  )

  -- no two entries of any order of what was put have one ticket
  pub once_each : (put xs : List T) → CountsFrom ticket 0 put → IsPermutation put xs → AreApart ticket xs
  unfolding many
  once_each put xs c p = apart_where xs (λ t. let same = sum_by-IsPermutation (λ z. hit t (ticket z)) put xs p in let most = at_most_one 0 t put c in omega arith)
