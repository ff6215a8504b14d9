-- Rules that hit for the same values.
use Rattle.std.proofs.Common.{◌≡◌, ◌∙◌, refl, sym, ap, subst, ℕ, zero, suc, ◌+◌, ◌<◌, ◌≤◌, inl, inr, Bool, true, false, cond, ◌&&◌, nat_eq, List, [], ◌∷◌, ◌++◌, length, get_or, None, Some, arith}
use Rattle.std.specs.List.{dedup, dedup_from, slice_get, All, Contains}
use Rattle.std.specs.List.Sorted.{IsPermutation}
use Rattle.std.proofs.lemmas.Bool.Decides.{nat_tests}
use Rattle.std.proofs.lemmas.List.{append_assoc, append-nil, length-append}
use Rattle.std.proofs.lemmas.List.Elements.{All-head, All-push, Contains-append_left}
use Rattle.std.proofs.lemmas.List.Sorted.{Contains-permutation}
use Rattle.std.proofs.lemmas.Option.{get_or_from_slice_get, same_Some, slice_get-get_or, slice_get_within}
use Rattle.feel_value.specs.Datum.{Datum}
use Rattle.dmn_table.specs.Table.{Rule}
use Rattle.dmn_analysis.specs.Cells.{AllInOrder, AreIn}
use Rattle.dmn_analysis.specs.Claims.{Hits}
use Rattle.dmn_analysis.specs.Sharing.{AreFilled, HaveMore, IsMustHit, IsPair, IsPairOf, IsRising, IsShared, MustOverlap}
use Rattle.dmn_analysis.specs.Telling.{IsVoid}
use Rattle.dmn_analysis.specs.declared.cell.Cell.{Cell}
use Rattle.dmn_analysis.specs.declared.cell.Words.{Words}
use Rattle.dmn_analysis.specs.declared.pairing.Pair.{Pair}
use Rattle.dmn_analysis.specs.declared.pairs.Shared.{Shared}
use Rattle.dmn_analysis.proofs.Places.{All-at, pushed}
use Rattle.dmn_analysis.proofs.Searches.{last_there}

pub rising_push : (xs : List ℕ) (x : ℕ) → IsRising xs → ((k y : ℕ) → slice_get xs k ≡ Some y → y < x) → IsRising (xs ++ x ∷ [])
rising_push xs x rising less j k a b before here there =
    elim (pushed xs x b k there) [
      | inl second ↦ elim (pushed xs x a j here) [
        | inl first ↦ rising j k a b before first second
        | inr at ↦ absurd (omega (arith, before, at.0, slice_get_within xs k b second))
      ]
      | inr last ↦ elim (pushed xs x a j here) [
        | inl first ↦ subst (λ z. a < z) last.1 (less j a first)
        | inr at ↦ absurd (omega (arith, before, at.0, last.0))
      ]
    ]

pub rising_none : IsRising []
rising_none = λ j k x y before here there. let e : None ≡ Some x = here in cc

-- some of the numbers before a place, in their order
pub record AreSome (left kept : List ℕ) (count : ℕ) : Type 0 where
  pub rising : IsRising kept
  pub from : (k y : ℕ) → slice_get kept k ≡ Some y → (j : ℕ) × (j < count) × (slice_get left j ≡ Some y)

pub some_out : (left kept : List ℕ) (count : ℕ) → AreSome left kept count → AreSome left kept (count + 1)
some_out left kept count h = record {
  rising = h.rising;
  from = λ k y there. let one = h.from k y there in (one.0, omega (arith, one.1), one.2);
}

pub some_in : (left kept : List ℕ) (count x : ℕ) → IsRising left → slice_get left count ≡ Some x → AreSome left kept count → AreSome left (kept ++ x ∷ []) (count + 1)
some_in left kept count x rising there h = record {
  rising = rising_push kept x h.rising (λ k y here. let one = h.from k y here in rising one.0 count y x one.1 one.2 there);
  from = λ k y here.
      elim (pushed kept x y k here) [
        | inl before ↦ let one = h.from k y before in (one.0, omega (arith, one.1), one.2)
        | inr last ↦ (count, omega arith, there ∙ ap Some last.1)
      ];
}

pub none_out : (left : List ℕ) → AreSome left [] 0
none_out left = record { rising = rising_none; from = λ k y there. let e : None ≡ Some y = there in cc }

-- ---- values

pub void_not_filled : (words : List Words) (cells : List Cell) → IsVoid words cells → AreFilled words cells → ⊥
void_not_filled words cells void filled = void filled.values filled.long filled.lawful filled.inside

-- a rule that hits for all values of cells hits for some of them
pub hits_from : (words : List Words) (rules : List Rule) (cells : List Cell) (r : ℕ) (values : List Datum) → AllInOrder words → IsMustHit words rules cells r → length values ≡ length cells → AreIn words cells values → Hits rules r values
hits_from words rules cells r values order must long inside = record { rule = must.rule; there = must.there; hits = must.must order [] values long inside }

-- ---- pairs

-- a pair of rules that share cells
pub pair_overlaps : (words : List Words) (rules : List Rule) (count : ℕ) (all : List Shared) (pair : Pair) (shared : Shared) → All (IsShared words rules count) all → IsPairOf all pair → slice_get all pair.shared ≡ Some shared
    → MustOverlap words rules count shared.cells.items pair.first pair.second
pair_overlaps words rules count all pair shared each of there =
    subst (λ (x : Shared). MustOverlap words rules count x.cells.items pair.first pair.second) (same_Some of.shared shared (sym of.there ∙ there)) (record {
      before = is.rising of.i of.j pair.first pair.second of.before of.first of.second;
      long = is.long;
      filled = is.filled;
      first = All-at (IsMustHit words rules of.shared.cells.items) of.shared.rules.items of.i pair.first is.must of.first;
      second = All-at (IsMustHit words rules of.shared.cells.items) of.shared.rules.items of.j pair.second is.must of.second;
    })
  where
    is : IsShared words rules count of.shared
    is = All-at (IsShared words rules count) all pair.shared of.shared each of.there

pub one_more_pair : (all : List Shared) (pairs : List Pair) (shared : Shared) (place first second a b : ℕ) → slice_get all place ≡ Some shared → first < second → slice_get shared.rules.items first ≡ Some a
    → slice_get shared.rules.items second ≡ Some b → All (IsPairOf all) pairs → All (IsPairOf all) (pairs ++ (record { first = a; second = b; shared = place }) ∷ [])
one_more_pair all pairs shared place first second a b there before here also each =
    All-push (IsPairOf all) pairs (record { first = a; second = b; shared = place }) each (record { shared = shared; there = there; i = first; j = second; before = before; first = here; second = also })

-- where there is no pair, no cells are shared
pub none_shared : (words : List Words) (rules : List Rule) (count : ℕ) (all : List Shared) → All (IsShared words rules count) all → All (λ (x : Shared). length x.rules.items < 2) all → all ≡ []
none_shared words rules count [] each few = refl
none_shared words rules count (x ∷ all) each few =
    absurd (omega (arith, (All-head (IsShared words rules count) x all each).several, All-head (λ (x : Shared). length x.rules.items < 2) x all few))

-- ---- pairs, each once

some_kept : {X : Type 0} (E : X → X → Bool) (k : X) (xs : List X) → dedup_from E k xs ≡ [] → ⊥
some_kept E k [] e = cc
some_kept E k (x ∷ xs) e = go (E x k) (some_kept E k xs) e
  where
    go : (b : Bool) → (dedup_from E k xs ≡ [] → ⊥) → cond b (dedup_from E k xs) (k ∷ dedup_from E x xs) ≡ [] → ⊥
    go true rest e = rest e
    go false rest e = cc

pub dedup_none : {X : Type 0} (E : X → X → Bool) (xs : List X) → dedup E xs ≡ [] → xs ≡ []
dedup_none E [] e = refl
dedup_none E (x ∷ xs) e = absurd (some_kept E x xs e)

-- two pairs of the same rules
abbrev pub same_rules : Pair → Pair → Bool
same_rules a b = nat_eq a.first b.first && nat_eq a.second b.second

rules_are_same : (p q : Pair) → same_rules p q ≡ true → (p.first ≡ q.first) × (p.second ≡ q.second)
rules_are_same p q e = (grind (arith, nat_tests, e), grind (arith, nat_tests, e))

-- the pair at a place is one of them
pair_at : (ps : List Pair) (n : ℕ) (p : Pair) → slice_get ps n ≡ Some p → IsPair ps p.first p.second
pair_at ps n p there = record { place = n; pair = p; there = there; first = refl; second = refl }

pair_behind : (q : Pair) (ps : List Pair) (a b : ℕ) → IsPair ps a b → IsPair (q ∷ ps) a b
pair_behind q ps a b h = record { place = suc h.place; pair = h.pair; there = h.there; first = h.first; second = h.second }

-- a pair of the same rules is kept: what is known of the rest behind the first, and behind the second
kept_or : (k x : Pair) (ps : List Pair) → ((n : ℕ) (q : Pair) → slice_get (k ∷ ps) n ≡ Some q → IsPair (dedup_from same_rules k ps) q.first q.second)
    → ((n : ℕ) (q : Pair) → slice_get (x ∷ ps) n ≡ Some q → IsPair (dedup_from same_rules x ps) q.first q.second) → (b : Bool) → same_rules x k ≡ b → (n : ℕ) (p : Pair) → slice_get (k ∷ x ∷ ps) n ≡ Some p
    → IsPair (cond b (dedup_from same_rules k ps) (k ∷ dedup_from same_rules x ps)) p.first p.second
kept_or k x ps own next true same zero p here = own zero p here
kept_or k x ps own next true same (suc zero) p here =
    let rules = rules_are_same x k same in
    let is : x ≡ p = same_Some x p here in
    subst (λ (q : Pair). IsPair (dedup_from same_rules k ps) q.first q.second) is
    (subst (λ a. IsPair (dedup_from same_rules k ps) a x.second) (sym rules.0) (subst (λ b. IsPair (dedup_from same_rules k ps) k.first b) (sym rules.1) (own zero k refl)))
kept_or k x ps own next true same (suc (suc m)) p here = own (suc m) p here
kept_or k x ps own next false same zero p here = pair_at (k ∷ dedup_from same_rules x ps) 0 p here
kept_or k x ps own next false same (suc m) p here = pair_behind k (dedup_from same_rules x ps) p.first p.second (next m p here)

kept_from : (k : Pair) (ps : List Pair) (n : ℕ) (p : Pair) → slice_get (k ∷ ps) n ≡ Some p → IsPair (dedup_from same_rules k ps) p.first p.second
kept_from k [] zero p there = pair_at (k ∷ []) 0 p there
kept_from k [] (suc n) p there = let wrong : None ≡ Some p = there in cc
kept_from k (x ∷ ps) n p there = kept_or k x ps (λ i q h. kept_from k ps i q h) (λ i q h. kept_from x ps i q h) (same_rules x k) refl n p there

pub pair_deduped : (ps : List Pair) (a b : ℕ) → IsPair ps a b → IsPair (dedup same_rules ps) a b
pair_deduped [] a b h = let wrong : None ≡ Some h.pair = h.there in cc
pair_deduped (k ∷ ps) a b h =
    subst (λ z. IsPair (dedup_from same_rules k ps) z b) h.first (subst (λ z. IsPair (dedup_from same_rules k ps) h.pair.first z) h.second (kept_from k ps h.place h.pair h.there))

contains_at : (ps : List Pair) (n : ℕ) (p : Pair) → slice_get ps n ≡ Some p → Contains ps p
contains_at ps n p there = (n, slice_get_within ps n p there, get_or_from_slice_get ps n p p there)

from_contains : (ps : List Pair) (p : Pair) (a b : ℕ) → p.first ≡ a → p.second ≡ b → Contains ps p → IsPair ps a b
from_contains ps p a b first second h = record { place = h.0; pair = p; there = slice_get-get_or ps h.0 p h.1 ∙ ap Some h.2; first = first; second = second }

pub pair_permuted : (ps qs : List Pair) (a b : ℕ) → IsPermutation ps qs → IsPair ps a b → IsPair qs a b
pair_permuted ps qs a b permuted h = from_contains qs h.pair a b h.first h.second (Contains-permutation ps qs h.pair permuted (contains_at ps h.place h.pair h.there))

-- ---- more pairs

pub pair_kept : (old new : List Pair) (a b : ℕ) → HaveMore old new → IsPair old a b → IsPair new a b
pair_kept old new a b more h =
    subst (λ ps. IsPair ps a b) (sym more.behind) (from_contains (old ++ more.others) h.pair a b h.first h.second (Contains-append_left old more.others h.pair (contains_at old h.place h.pair h.there)))

pub none_more : (old : List Pair) → HaveMore old old
none_more old = record { others = []; behind = sym (append-nil old) }

pub one_more : (old new : List Pair) (p : Pair) → new ≡ old ++ p ∷ [] → HaveMore old new
one_more old new p e = record { others = p ∷ []; behind = e }

pub more_and_more : (old mid new : List Pair) → HaveMore old mid → HaveMore mid new → HaveMore old new
more_and_more old mid new a b = record {
  others = a.others ++ b.others;
  behind = b.behind ∙ ap (λ ps. ps ++ b.others) a.behind ∙ append_assoc old a.others b.others;
}

pub not_fewer : (old new : List Pair) → HaveMore old new → length old ≤ length new
not_fewer old new h = omega (arith, ap length h.behind, length-append old h.others)

pub last_pair : (old new : List Pair) (p : Pair) → new ≡ old ++ p ∷ [] → IsPair new p.first p.second
last_pair old new p e = pair_at new (length old) p (ap (λ ps. slice_get ps (length old)) e ∙ last_there old p)
