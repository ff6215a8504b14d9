-- The steps of a walk within a decision service.
use Rattle.std.proofs.Common.{◌≡◌, inl, inr, ℕ, zero, suc, ◌<◌, List, [], ◌∷◌, ◌++◌, refl, sym, ◌∙◌, ap, subst, Bool, true, false, not, ◌||◌, ◌==◌, cond, length, arith, get_or}
use Rattle.std.specs.Prelude.{nat_eq}
use Rattle.std.specs.Ordering.{nat_cmp, is_eq}
use Rattle.std.specs.BTreeSet.{BTreeSet}
use Rattle.std.proofs.lemmas.Bool.Decides.{Decides-eqb, nat_tests}
use Rattle.std.proofs.lemmas.List.{append_assoc, append-nil}
use Rattle.std.proofs.lemmas.List.Folds.{list_any-append}
use Rattle.dmn_graph.specs.declared.walk.Walk.{Walk}
use Rattle.dmn_graph.specs.Reach.{has_same, IsDistinct}
use Rattle.dmn_graph.specs.Members.{IsIn}
use Rattle.dmn_graph.specs.WalkState.{has_place, IsWalk, HasMet, IsUnlisted}
use Rattle.dmn_graph.proofs.Members.{in_left, in_right, in_either, is_in, among}
use Rattle.dmn_graph.proofs.Orders.{distinct_push}

place_at : (k q : ℕ) → is_eq (nat_cmp k q) ≡ (q == k)
place_at k q = grind (arith, nat_tests)

-- what a set has after a place was put in
pub inserted : (s n : BTreeSet ℕ) (k : ℕ) → ((q : ℕ) → has_place n q ≡ cond (is_eq (nat_cmp k q)) true (has_place s q))
    → (q : ℕ) → has_place n q ≡ (nat_eq q k || has_place s q)
inserted s n k h q = h q ∙ (ap (λ b. cond b true (has_place s q)) (place_at k q) ∙ go (q == k))
  where
    go : (b : Bool) → cond b true (has_place s q) ≡ (b || has_place s q)
    go true = refl
    go false = refl

or_false : (b : Bool) → (b || false) ≡ b
or_false true = refl
or_false false = refl

pub or_swap : (a b : Bool) → (a || b) ≡ (b || a)
or_swap true true = refl
or_swap true false = refl
or_swap false b = sym (or_false b)

pub among_push : (xs : List ℕ) (k q : ℕ) → has_same nat_eq (xs ++ k ∷ []) q ≡ (nat_eq q k || has_same nat_eq xs q)
among_push xs k q = list_any-append (nat_eq q) xs (k ∷ []) ∙ (ap (λ b. has_same nat_eq xs q || b) (or_false (nat_eq q k)) ∙ or_swap (has_same nat_eq xs q) (nat_eq q k))

pub from_not : (a b : Bool) → a ≡ not b → b ≡ not a
from_not true true e = cc
from_not true false e = refl
from_not false true e = refl
from_not false false e = cc

-- a place was found
pub met_new : (old new : Walk) (k : ℕ) → IsWalk old → has_place old.given k ≡ false → has_place old.through k ≡ true → has_place old.seen k ≡ false
    → new.through ≡ old.through → new.given ≡ old.given → ((q : ℕ) → has_place new.seen q ≡ cond (is_eq (nat_cmp k q)) true (has_place old.seen q))
    → new.found.items ≡ old.found.items ++ k ∷ [] → HasMet old (k ∷ []) new
met_new old new k w ungiven open_to fresh through given seen found = record {
  state = record {
    seen_found = λ q. inserted old.seen new.seen k seen q ∙ (ap (λ b. nat_eq q k || b) (w.seen_found q) ∙ (sym (among_push old.found.items k q) ∙ ap (λ xs. has_same nat_eq xs q) (sym found)));
    inside = λ q i. elim (in_either q old.found.items (k ∷ []) (subst (λ xs. IsIn q xs) found i)) [
      | inl j ↦ (ap (λ s. has_place s q) through ∙ (w.inside q j).0, ap (λ s. has_place s q) given ∙ (w.inside q j).1)
      | inr j ↦ elim j [
        | inl e ↦ (ap (λ s. has_place s q) through ∙ (ap (λ p. has_place old.through p) e ∙ open_to), ap (λ s. has_place s q) given ∙ (ap (λ p. has_place old.given p) e ∙ ungiven))
        | inr n ↦ absurd n
      ]
    ];
    once = subst (λ xs. IsDistinct nat_eq xs) (sym found) (distinct_push nat_eq Decides-eqb old.found.items k w.once
        (λ i. let t : has_same nat_eq old.found.items k ≡ true = among nat_eq Decides-eqb k old.found.items i in let s = w.seen_found k in cc));
  };
  through = through;
  given = given;
  more = k ∷ [];
  found = found;
  from = λ q i. i;
  met = λ q i. inr (subst (λ xs. IsIn q xs) (sym found) (in_right q old.found.items (k ∷ []) i));
}

-- a place had been found
pub met_again : (old new : Walk) (k : ℕ) → IsWalk old → has_place old.seen k ≡ true
    → new.through ≡ old.through → new.given ≡ old.given → ((q : ℕ) → has_place new.seen q ≡ cond (is_eq (nat_cmp k q)) true (has_place old.seen q))
    → new.found.items ≡ old.found.items → HasMet old (k ∷ []) new
met_again old new k w known through given seen found = record {
  state = record {
    seen_found = λ q. inserted old.seen new.seen k seen q ∙ (same q ∙ (w.seen_found q ∙ ap (λ xs. has_same nat_eq xs q) (sym found)));
    inside = λ q i. let j = w.inside q (subst (λ xs. IsIn q xs) found i) in (ap (λ s. has_place s q) through ∙ j.0, ap (λ s. has_place s q) given ∙ j.1);
    once = subst (λ xs. IsDistinct nat_eq xs) (sym found) w.once;
  };
  through = through;
  given = given;
  more = [];
  found = found ∙ sym (append-nil old.found.items);
  from = λ q i. absurd i;
  met = λ q i. elim i [
    | inl e ↦ inr (subst (λ p. IsIn p new.found.items) (sym e) (subst (λ xs. IsIn k xs) (sym found) (is_in nat_eq Decides-eqb k old.found.items (sym (w.seen_found k) ∙ known))))
    | inr n ↦ absurd n
  ];
}
  where
    same : (q : ℕ) → (nat_eq q k || has_place old.seen q) ≡ has_place old.seen q
    same q = go (nat_eq q k) refl
      where
        go : (b : Bool) → nat_eq q k ≡ b → (b || has_place old.seen q) ≡ has_place old.seen q
        go true e = sym (ap (λ p. has_place old.seen p) ((Decides-eqb q k).0 e) ∙ known)
        go false e = refl

pub met_none : (w : Walk) → IsWalk w → HasMet w [] w
met_none w s = record {
  state = s;
  through = refl;
  given = refl;
  more = [];
  found = sym (append-nil w.found.items);
  from = λ q i. i;
  met = λ q i. absurd i;
}

-- first these and then those
pub met_then : (old mid new : Walk) (qs rs : List ℕ) → HasMet old qs mid → HasMet mid rs new → HasMet old (qs ++ rs) new
met_then old mid new qs rs a b = record {
  state = b.state;
  through = b.through ∙ a.through;
  given = b.given ∙ a.given;
  more = a.more ++ b.more;
  found = b.found ∙ (ap (λ xs. xs ++ b.more) a.found ∙ append_assoc old.found.items a.more b.more);
  from = λ q i. elim (in_either q a.more b.more i) [ inl j ↦ in_left q qs rs (a.from q j) | inr j ↦ in_right q qs rs (b.from q j) ];
  met = λ q i. elim (in_either q qs rs i) [
    | inl j ↦ elim (a.met q j) [ inl g ↦ inl g | inr f ↦ inr (subst (λ xs. IsIn q xs) (sym b.found) (in_left q mid.found.items b.more f)) ]
    | inr j ↦ elim (b.met q j) [ inl g ↦ inl (sym (ap (λ s. has_place s q) a.given) ∙ g) | inr f ↦ inr f ]
  ];
}

pub in_at : (xs : List ℕ) (i d : ℕ) → i < length xs → IsIn (get_or xs i d) xs
in_at [] i d l = absurd (omega arith)
in_at (x ∷ xs) zero d l = inl refl
in_at (x ∷ xs) (suc i) d l = inr (in_at xs i d (omega arith))

pub unlisted_at : (old w : Walk) (qs ps : List ℕ) (i : ℕ) → i < length qs → HasMet old ps w → IsUnlisted w (get_or qs i 0 ∷ []) → IsUnlisted old qs
unlisted_at old w qs ps i l h u = (
  u.0,
  elim u.1 [ inl e ↦ subst (λ p. IsIn p qs) (sym e) (in_at qs i 0 l) | inr n ↦ absurd n ],
  sym (ap (λ s. has_place s u.0) h.given) ∙ u.2,
  sym (ap (λ s. has_place s u.0) h.through) ∙ u.3,
)

pub read_at : (xs : List ℕ) (i x : ℕ) → i < length xs → x ≡ get_or xs i x → x ≡ get_or xs i 0
read_at [] i x l e = absurd (omega arith)
read_at (y ∷ ys) zero x l e = e
read_at (y ∷ ys) (suc i) x l e = read_at ys i x (omega arith) e
