-- The same graph under other names.
use Rattle.std.proofs.Common.{◌≡◌, inl, inr, ℕ, zero, suc, ◌<◌, List, [], ◌∷◌, ◌++◌, refl, sym, ◌∙◌, ap, subst, Bool, true, false, ◌&&◌, cond, map}
use Rattle.std.specs.Prelude.{nat_eq, if◌then◌else◌}
use Rattle.std.proofs.lemmas.Bool.Decides.{Decides-eqb}
use Rattle.std.proofs.lemmas.List.{map-append}
use Rattle.std.specs.Bool.{Decides}
use Rattle.std.specs.List.{flat_map, list_all}
use Rattle.dmn_graph.specs.Reach.{has_same, reached, Each, IsInOrder}
use Rattle.dmn_graph.specs.Needs.{needs_of, needs_itself}
use Rattle.dmn_graph.specs.Within.{needs_within, reached_within, reaches_only}
use Rattle.dmn_graph.specs.Members.{IsIn}
use Rattle.dmn_graph.proofs.Members.{from_flat, in_either, is_in, among, among_not, not_in}
use Rattle.dmn_graph.proofs.Reaching.{reached_closed}

flat_agree : {X : Type 0} (f g : X → List X) → ((x : X) → f x ≡ g x) → (xs : List X) → flat_map f xs ≡ flat_map g xs
flat_agree f g same [] = refl
flat_agree f g same (x ∷ xs) = ap (λ ys. ys ++ flat_map f xs) (same x) ∙ ap (λ ys. g x ++ ys) (flat_agree f g same xs)

-- two ways to say what each thing names
pub reached_agree : {X : Type 0} (m : ℕ) (f g : X → List X) → ((x : X) → f x ≡ g x) → (xs : List X) → reached m f xs ≡ reached m g xs
reached_agree zero f g same xs = refl
reached_agree (suc m) f g same xs =
    ap (λ ys. xs ++ ys) (reached_agree m f g same (flat_map f xs) ∙ ap (λ ys. reached m g ys) (flat_agree f g same xs))

module _ {X Y : Type 0} (name : X → Y) (next : X → List X) (other : Y → List Y) (P : X → Type 0)
    (closed : (x y : X) → P x → IsIn y (next x) → P y) (fits : (x : X) → P x → other (name x) ≡ map name (next x)) where
  flat_named : (xs : List X) → ((x : X) → IsIn x xs → P x) → flat_map other (map name xs) ≡ map name (flat_map next xs)
  flat_named [] all = refl
  flat_named (x ∷ xs) all =
      ap (λ ys. ys ++ flat_map other (map name xs)) (fits x (all x (inl refl)))
      ∙ (ap (λ ys. map name (next x) ++ ys) (flat_named xs (λ y i. all y (inr i))) ∙ sym (map-append name (next x) (flat_map next xs)))

  -- what names lead to are the names of what places lead to
  pub reached_named : (m : ℕ) (xs : List X) → ((x : X) → IsIn x xs → P x) → reached m other (map name xs) ≡ map name (reached m next xs)
  reached_named zero xs all = refl
  reached_named (suc m) xs all =
      ap (λ ys. map name xs ++ reached m other ys) (flat_named xs all)
      ∙ (ap (λ ys. map name xs ++ ys) (reached_named m (flat_map next xs) (λ y i. let w = from_flat next y xs i in closed w.0 y (all w.0 w.1) w.2))
      ∙ sym (map-append name xs (reached m next (flat_map next xs))))

in_named : {X Y : Type 0} (name : X → Y) (x : X) (xs : List X) → IsIn x xs → IsIn (name x) (map name xs)
in_named name x [] h = absurd h
in_named name x (y ∷ ys) (inl e) = inl (ap name e)
in_named name x (y ∷ ys) (inr h) = inr (in_named name x ys h)

from_named : {X Y : Type 0} (name : X → Y) (z : Y) (xs : List X) → IsIn z (map name xs) → (x : X) × IsIn x xs × (z ≡ name x)
from_named name z [] h = absurd h
from_named name z (y ∷ ys) (inl e) = (y, inl refl, e)
from_named name z (y ∷ ys) (inr h) = let w = from_named name z ys h in (w.0, inr w.1, w.2)

-- a name stands in a list of names where its place stands in the list of places
pub among_named : {X Y : Type 0} (same : X → X → Bool) (decides : (a b : X) → Decides (same a b) (a ≡ b)) (alike : Y → Y → Bool) (decides' : (a b : Y) → Decides (alike a b) (a ≡ b))
    (name : X → Y) (x : X) (xs : List X) → ((y : X) → IsIn y xs → name x ≡ name y → x ≡ y) → has_same alike (map name xs) (name x) ≡ has_same same xs x
among_named same decides alike decides' name x xs tells = go (has_same same xs x) refl
  where
    go : (b : Bool) → has_same same xs x ≡ b → has_same alike (map name xs) (name x) ≡ b
    go true e = among alike decides' (name x) (map name xs) (in_named name x xs (is_in same decides x xs e))
    go false e = among_not alike decides' (name x) (map name xs) (λ h.
        let w = from_named name (name x) xs h in not_in same decides x xs e (subst (λ y. IsIn y xs) (sym (tells w.0 w.1 w.2)) w.1))

each_named : {X Y : Type 0} (name : X → Y) (P : X → Type 0) (Q : Y → Type 0) → ((x : X) → P x → Q (name x)) → (xs : List X) → Each P xs → Each Q (map name xs)
each_named name P Q f [] h = tt
each_named name P Q f (x ∷ xs) h = (f x h.0, each_named name P Q f xs h.1)

-- an order of places is an order of their names
pub in_order_named : {X Y : Type 0} (same : X → X → Bool) (decides : (a b : X) → Decides (same a b) (a ≡ b)) (alike : Y → Y → Bool) (decides' : (a b : Y) → Decides (alike a b) (a ≡ b))
    (name : X → Y) (next : X → List X) (other : Y → List Y) (seen ks : List X) → ((k : X) → IsIn k ks → other (name k) ≡ map name (next k))
    → IsInOrder same next seen ks → IsInOrder alike other (map name seen) (map name ks)
in_order_named same decides alike decides' name next other seen [] fits o = tt
in_order_named same decides alike decides' name next other seen (k ∷ ks) fits o = (
  subst (λ ys. Each (λ q. has_same alike (map name seen) q ≡ true) ys) (sym (fits k (inl refl)))
      (each_named name (λ q. has_same same seen q ≡ true) (λ q. has_same alike (map name seen) q ≡ true)
      (λ q e. among alike decides' (name q) (map name seen) (in_named name q seen (is_in same decides q seen e))) (next k) o.0),
  in_order_named same decides alike decides' name next other (k ∷ seen) ks (λ j i. fits j (inr i)) o.1,
)

-- ---- places below n, and their names

module _ {Y : Type 0} (alike : Y → Y → Bool) (decides : (a b : Y) → Decides (alike a b) (a ≡ b)) (n : ℕ) (needs : List (List ℕ)) (name : ℕ → Y) (other : Y → List Y)
    (inside : (x y : ℕ) → x < n → IsIn y (needs_of needs x) → y < n)
    (tells : (x y : ℕ) → x < n → y < n → name x ≡ name y → x ≡ y)
    (fits : (x : ℕ) → x < n → other (name x) ≡ map name (needs_of needs x)) where
  -- a name leads to itself where its place does
  pub cycle_named : (steps x : ℕ) → x < n → has_same alike (reached steps other (other (name x))) (name x) ≡ needs_itself steps needs x
  cycle_named steps x l =
      ap (λ ys. has_same alike (reached steps other ys) (name x)) (fits x l)
      ∙ (ap (λ ys. has_same alike ys (name x)) (reached_named name (needs_of needs) other (λ z. z < n) inside fits steps (needs_of needs x) (λ y i. inside x y l i))
      ∙ among_named nat_eq Decides-eqb alike decides name x (reached steps (needs_of needs) (needs_of needs x))
      (λ y i e. tells x y l (reached_closed (needs_of needs) (λ z. z < n) inside steps (needs_of needs x) (λ z j. inside x z l j) y i) e))

  module _ (given : List ℕ) (givens : (y : ℕ) → IsIn y given → y < n) where
    -- what a name leads to, unless it is given
    abbrev pub other_within : Y → List Y
    other_within z = if has_same alike (map name given) z then [] else other z

    within_named : (x : ℕ) → x < n → other_within (name x) ≡ map name (needs_within given needs x)
    within_named x l =
        ap (λ b. cond b [] (other (name x))) (among_named nat_eq Decides-eqb alike decides name x given (λ y i e. tells x y l (givens y i) e)) ∙ go (has_same nat_eq given x)
      where
        go : (b : Bool) → cond b [] (other (name x)) ≡ map name (cond b [] (needs_of needs x))
        go true = refl
        go false = fits x l

    within_inside : (x y : ℕ) → x < n → IsIn y (needs_within given needs x) → y < n
    within_inside x y l i = go (has_same nat_eq given x) i
      where
        go : (b : Bool) → IsIn y (cond b [] (needs_of needs x)) → y < n
        go true j = absurd j
        go false j = inside x y l j

    -- the names reached are the names of the places reached
    pub reached_within_named : (steps : ℕ) (starts : List ℕ) → ((y : ℕ) → IsIn y starts → y < n)
        → reached steps other_within (map name starts) ≡ map name (reached_within steps given needs starts)
    reached_within_named steps starts begins =
        reached_named name (needs_within given needs) other_within (λ z. z < n) within_inside within_named steps starts begins

    listed_named : (listed xs : List ℕ) → ((y : ℕ) → IsIn y listed → y < n) → ((y : ℕ) → IsIn y xs → y < n)
        → list_all (has_same alike (map name listed)) (map name xs) ≡ list_all (has_same nat_eq listed) xs
    listed_named listed [] a b = refl
    listed_named listed (x ∷ xs) a b =
        ap (λ t. t && list_all (has_same alike (map name listed)) (map name xs)) (among_named nat_eq Decides-eqb alike decides name x listed (λ y i e. tells x y (b x (inl refl)) (a y i) e))
        ∙ ap (λ t. has_same nat_eq listed x && t) (listed_named listed xs a (λ y i. b y (inr i)))

    -- each name reached is listed where each place reached is
    pub reaches_only_named : (steps : ℕ) (through starts : List ℕ) → ((y : ℕ) → IsIn y through → y < n) → ((y : ℕ) → IsIn y starts → y < n)
        → list_all (has_same alike (map name through ++ map name given)) (reached steps other_within (map name starts)) ≡ reaches_only steps through given needs starts
    reaches_only_named steps through starts throughs begins =
        ap (λ ys. list_all (has_same alike ys) (reached steps other_within (map name starts))) (sym (map-append name through given))
        ∙ (ap (λ ys. list_all (has_same alike (map name (through ++ given))) ys) (reached_within_named steps starts begins)
        ∙ listed_named (through ++ given) (reached_within steps given needs starts)
        (λ y i. elim (in_either y through given i) [ inl j ↦ throughs y j | inr j ↦ givens y j ])
        (λ y i. reached_closed (needs_within given needs) (λ z. z < n) within_inside steps starts begins y i))
