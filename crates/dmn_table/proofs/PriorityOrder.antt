-- The hits in priority are the hits in order by their places, as slices are compared.
use Rattle.std.proofs.Common.{◌≡◌, ℕ, suc, List, [], ◌∷◌, map, length, refl, sym, ◌∙◌, ap, Bool, true, false, cond, ◌&&◌, ◌||◌, nat_eq, arith}
use Rattle.std.specs.Prelude.{nat_lt, ⊤, ◌<◌, slice_index_or}
use Rattle.std.specs.List.{AllPairs}
use Rattle.std.specs.Ordering.{nat_cmp, is_lt, ordering_then}
use Rattle.std.specs.Cmp.Lexicographic.{slice_cmp}
use Rattle.std.specs.declared.cmp.Ordering.TheVariants.{Less, Equal, Greater}
use Rattle.dmn_table.specs.declared.priority.Hit as hit
use Rattle.dmn_table.specs.Priority.{is_higher, put_before, in_priority}
use Rattle.dmn_table.specs.View.{hit_view}
use Rattle.dmn_table.proofs.StableOrder.{put, in_order}

-- a hit stands before another where its places are less, as slices are compared
abbrev pub first_by_places : hit.Hit → hit.Hit → Bool
first_by_places h k = is_lt (slice_cmp nat_cmp h.places.items k.places.items)

pub higher_is_first : (ps qs : List ℕ) → length ps ≡ length qs → is_higher ps qs ≡ is_lt (slice_cmp nat_cmp ps qs)
higher_is_first [] [] e = refl
higher_is_first [] (q ∷ qs) e = cc
higher_is_first (p ∷ ps) [] e = cc
higher_is_first (p ∷ ps) (q ∷ qs) e =
    ap (λ b. nat_lt p q || (nat_eq p q && b)) (higher_is_first ps qs (omega arith)) ∙ go (nat_lt p q) (nat_eq p q)
  where
    go : (b c : Bool) → (b || (c && is_lt (slice_cmp nat_cmp ps qs))) ≡ is_lt (ordering_then (cond b Less (cond c Equal Greater)) (slice_cmp nat_cmp ps qs))
    go true c = refl
    go false true = refl
    go false false = refl

-- each hit has n places
abbrev pub HavePlaces : ℕ → List hit.Hit → Type 0
HavePlaces n [] = ⊤
HavePlaces n (h ∷ hs) = (length h.places.items ≡ n) × HavePlaces n hs

module _ (n : ℕ) where
  put_has_places : (h : hit.Hit) (hs : List hit.Hit) → length h.places.items ≡ n → HavePlaces n hs → HavePlaces n (put first_by_places h hs)
  put_has_places h [] e f = (e, tt)
  put_has_places h (k ∷ ks) e f = go (first_by_places k h) (put_has_places h ks e f.1)
    where
      go : (b : Bool) → HavePlaces n (put first_by_places h ks) → HavePlaces n (cond b (k ∷ put first_by_places h ks) (h ∷ k ∷ ks))
      go true rest = (f.0, rest)
      go false rest = (e, f)

  in_order_has_places : (hs : List hit.Hit) → HavePlaces n hs → HavePlaces n (in_order first_by_places hs)
  in_order_has_places [] f = tt
  in_order_has_places (h ∷ hs) f = put_has_places h (in_order first_by_places hs) f.0 (in_order_has_places hs f.1)

  put_same : (h : hit.Hit) (hs : List hit.Hit) → length h.places.items ≡ n → HavePlaces n hs → put_before (hit_view h) (map hit_view hs) ≡ map hit_view (put first_by_places h hs)
  put_same h [] e f = refl
  put_same h (k ∷ ks) e f =
      ap (λ b. cond b (hit_view k ∷ put_before (hit_view h) (map hit_view ks)) (hit_view h ∷ hit_view k ∷ map hit_view ks)) (higher_is_first k.places.items h.places.items (f.0 ∙ sym e))
      ∙ go (first_by_places k h) (put_same h ks e f.1)
    where
      go : (b : Bool) → put_before (hit_view h) (map hit_view ks) ≡ map hit_view (put first_by_places h ks)
          → cond b (hit_view k ∷ put_before (hit_view h) (map hit_view ks)) (hit_view h ∷ hit_view k ∷ map hit_view ks) ≡ map hit_view (cond b (k ∷ put first_by_places h ks) (h ∷ k ∷ ks))
      go true same = ap (λ ys. hit_view k ∷ ys) same
      go false same = refl

  same_in_order : (hs : List hit.Hit) → HavePlaces n hs → in_priority (map hit_view hs) ≡ map hit_view (in_order first_by_places hs)
  same_in_order [] f = refl
  same_in_order (h ∷ hs) f =
      ap (put_before (hit_view h)) (same_in_order hs f.1)
      ∙ put_same h (in_order first_by_places hs) f.0 (in_order_has_places hs f.1)

abbrev pub EqualPlaces : hit.Hit → hit.Hit → Type 0
EqualPlaces h k = length h.places.items ≡ length k.places.items

as_the_first : (h : hit.Hit) (hs : List hit.Hit) → ((j : ℕ) (d : hit.Hit) → j < length hs → EqualPlaces h (slice_index_or hs j d)) → HavePlaces (length h.places.items) hs
as_the_first h [] f = tt
as_the_first h (k ∷ ks) f = (sym (f 0 h (omega arith)), as_the_first h ks (λ j d l. f (suc j) d (omega arith)))

-- where the hits have equally many places
pub in_priority_is_in_order : (hs : List hit.Hit) → AllPairs EqualPlaces hs → in_priority (map hit_view hs) ≡ map hit_view (in_order first_by_places hs)
in_priority_is_in_order [] f = refl
in_priority_is_in_order (h ∷ hs) f = same_in_order (length h.places.items) (h ∷ hs) (refl, as_the_first h hs (λ j d l. f 0 (suc j) d (omega arith) (omega arith)))
