-- The places of rules' outputs, and which rule goes before which by them.
use Rattle.std.proofs.Common.{◌≡◌, ◌∙◌, sym, ap, refl, subst, ℕ, zero, suc, ◌+◌, ◌-◌, ◌≤◌, ◌<◌, inl, inr, List, [], ◌∷◌, ◌++◌, length, map, Bool, true, false, not, cond, ◌&&◌, ◌||◌, nat_eq, Option, Some, None, arith}
use Rattle.std.specs.Prelude.{nat_lt, drop, IsTrue}
use Rattle.std.specs.List.{slice_get}
use Rattle.std.specs.Ordering.{nat_cmp, is_lt, ordering_then}
use Rattle.std.specs.Cmp.Lexicographic.{slice_cmp}
use Rattle.std.specs.declared.cmp.Ordering.TheVariants.{Less, Equal, Greater}
use Rattle.std.proofs.lemmas.Bool.Decides.{nat_tests}
use Rattle.std.proofs.lemmas.List.{append_assoc, append-nil, drop_all}
use Rattle.std.proofs.lemmas.Option.{same_Some}
use Rattle.feel_value.specs.Comparison.{equal}
use Rattle.feel_value.specs.Datum.{Datum}
use Rattle.feel_value.specs.Found.{each, value_of, ◌>>=◌}
use Rattle.feel_value.specs.Logic.{is_yes}
use Rattle.feel_value.specs.declared.feel.Outcome.TheVariants.{Is}
use Rattle.feel_text.specs.Expr.{Expr}
use Rattle.feel_text.specs.Meaning.{Bindings, den}
use Rattle.dmn_table.specs.Hits.{hit_of, output_of, values_of}
use Rattle.dmn_table.specs.declared.table.Output.{Output}
use Rattle.dmn_table.specs.Parts.{column_view}
use Rattle.dmn_table.specs.Priority.{Hit, is_higher, listed_place, listed_values, place, places_of}
use Rattle.dmn_table.specs.Table.{Column, Rule}
use Rattle.dmn_analysis.specs.Claims.{IsAhead}
use Rattle.dmn_analysis.specs.Ranking.{AreRanks, HasPlace, HavePlaces, IsRank, RanksBefore}
use Rattle.dmn_analysis.specs.declared.ranking.Rank.{Rank}
use Rattle.dmn_analysis.proofs.Places.{map_at, told_more}

-- ---- one place

place_at_most : (listed : List Datum) (v : Datum) → place listed v ≤ length listed
place_at_most [] v = omega arith
place_at_most (w ∷ ws) v = go (is_yes (equal w v)) (place_at_most ws v)
  where
    go : (b : Bool) → place ws v ≤ length ws → cond (not b) (1 + place ws v) 0 ≤ suc (length ws)
    go true h = omega arith
    go false h = omega (arith, h)

found : (b : Bool) (x p : ℕ) → cond b (Some x) None ≡ Some p → p ≡ x
found true x p e = sym (same_Some x p e)
found false x p e = cc

missed : (b : Bool) (x : ℕ) → cond b (Some x) None ≡ None → b ≡ false
missed true x e = cc
missed false x e = refl

pub place_found : (listed : List Datum) (v : Datum) (p : ℕ) → listed_place listed v ≡ Some p → p - 1 ≡ place listed v
place_found listed v p e = let is = found (nat_lt (place listed v) (length listed)) (place listed v + 1) p e in omega (arith, is)

pub place_missed : (listed : List Datum) (v : Datum) → listed_place listed v ≡ None → length listed ≡ place listed v
place_missed listed v e =
    let past : nat_lt (place listed v) (length listed) ≡ false = missed (nat_lt (place listed v) (length listed)) (place listed v + 1) e in
    let most = place_at_most listed v in
    grind (arith, nat_tests, past, most)

pub place_of_constant : (listed : List Datum) (expr : Expr) (d : Datum) (m : Bindings) (v : Datum) → den expr m ≡ Is d → value_of (den expr m) ≡ Some v → place listed v ≡ place listed d
place_of_constant listed expr d m v is e = ap (place listed) (sym (same_Some d v (sym (ap value_of is) ∙ e)))

-- ---- the places of a rule's outputs

-- what was found of the first element and of the others
record Split {X Y : Type 0} (f : X → Option Y) (x : X) (xs : List X) (ys : List Y) : Type 0 where
  head : Y
  tail : List Y
  of_head : f x ≡ Some head
  of_tail : each f xs ≡ Some tail
  same : ys ≡ head ∷ tail

each_cons : {X Y : Type 0} (f : X → Option Y) (x : X) (xs : List X) (ys : List Y) → each f (x ∷ xs) ≡ Some ys → Split f x xs ys
each_cons {X} {Y} f x xs ys e = go (f x) (each f xs) refl refl e
  where
    go : (o : Option Y) (p : Option (List Y)) → f x ≡ o → each f xs ≡ p → (o >>= λ y. p >>= λ zs. Some (y ∷ zs)) ≡ Some ys
        → Split f x xs ys
    go None p a b c = cc
    go (Some y) None a b c = cc
    go (Some y) (Some zs) a b c = record { head = y; tail = zs; of_head = a; of_tail = b; same = sym (same_Some (y ∷ zs) ys c) }

pub next_place : (cs : List Column) (gives : List Expr) (i : ℕ) (c : Column) (e : Expr) (n : ℕ) → slice_get cs i ≡ Some c → slice_get gives i ≡ Some e → HasPlace c.values e n
    → (m : Bindings) (values : List Datum) → values_of m gives ≡ Some values → places_of (drop i cs) (drop i values) ≡ n ∷ places_of (drop (suc i) cs) (drop (suc i) values)
next_place [] gives i c e n there here has m values are = cc
next_place (d ∷ cs) [] i c e n there here has m values are = cc
next_place (d ∷ cs) (f ∷ gives) zero c e n there here has m values are =
    let one = each_cons (λ x. value_of (den x m)) f gives values are in
    let at : place d.values one.head ≡ n = subst (λ (k : Column). place k.values one.head ≡ n) (sym (same_Some d c there)) (has m one.head (subst (λ x. value_of (den x m) ≡ Some one.head) (same_Some f e here) one.of_head)) in
    subst (λ vs. places_of (d ∷ cs) vs ≡ n ∷ places_of cs (drop 1 vs)) (sym one.same) (ap (λ k. k ∷ places_of cs one.tail) at)
next_place (d ∷ cs) (f ∷ gives) (suc i) c e n there here has m values are =
    let one = each_cons (λ x. value_of (den x m)) f gives values are in
    subst (λ vs. places_of (drop i cs) (drop (suc i) vs) ≡ n ∷ places_of (drop (suc i) cs) (drop (suc (suc i)) vs)) (sym one.same) (next_place cs gives i c e n there here has m one.tail one.of_tail)

-- ---- which goes before which

pub higher_is_first : (ps qs : List ℕ) → length ps ≡ length qs → is_higher ps qs ≡ is_lt (slice_cmp nat_cmp ps qs)
higher_is_first [] [] e = refl
higher_is_first [] (q ∷ qs) e = cc
higher_is_first (p ∷ ps) [] e = cc
higher_is_first (p ∷ ps) (q ∷ qs) e =
    ap (λ b. nat_lt p q || (nat_eq p q && b)) (higher_is_first ps qs (omega arith)) ∙ go (nat_lt p q) (nat_eq p q)
  where
    go : (b c : Bool) → (b || (c && is_lt (slice_cmp nat_cmp ps qs))) ≡ is_lt (ordering_then (cond b Less (cond c Equal Greater)) (slice_cmp nat_cmp ps qs))
    go true c = refl
    go false true = refl
    go false false = refl

-- the places of a hit are those of its rule's outputs
places_of_hit : (columns : List Column) (m : Bindings) (rule : Rule) (h : Hit) (places : List ℕ) → HavePlaces columns rule.gives places → hit_of columns m rule ≡ Some h → h.places ≡ places
places_of_hit columns m rule h places have is = go (values_of m rule.gives) refl is
  where
    with_output : (values : List Datum) (o : Option Datum) → values_of m rule.gives ≡ Some values → (o >>= λ output. Some (record { places = places_of columns values; output = output })) ≡ Some h → h.places ≡ places
    with_output values None are e = cc
    with_output values (Some output) are e = ap (λ (k : Hit). k.places) (sym (same_Some (record { places = places_of columns values; output = output }) h e)) ∙ have m values are

    go : (found : Option (List Datum)) → values_of m rule.gives ≡ found
        → (found >>= λ values. value_of (output_of columns values) >>= λ output. Some (record { places = places_of columns values; output = output })) ≡ Some h → h.places ≡ places
    go None are e = cc
    go (Some values) are e = with_output values (value_of (output_of columns values)) are e

pub stands_before : (one other : Rank) (j i : ℕ) → RanksBefore one other (IsTrue (nat_lt j i)) → RanksBefore one other (j < i)
stands_before one other j i before = record {
  known = before.known;
  other_known = before.other_known;
  ahead = elim before.ahead [ inl higher ↦ inl higher | inr same ↦ inr (less (nat_lt j i) refl same.0, same.1) ];
}
  where
    less : (b : Bool) → nat_lt j i ≡ b → IsTrue b → j < i
    less true e h = grind (arith, nat_tests, e)
    less false e h = cc

pub ahead_by_ranks : (columns : List Column) (rules : List Rule) (ranks : List Rank) (j i : ℕ) (one other : Rank) → AreRanks columns rules ranks → slice_get ranks j ≡ Some one → slice_get ranks i ≡ Some other
    → RanksBefore one other (j < i) → IsAhead columns rules j i
ahead_by_ranks columns rules ranks j i one other are there here before m r s h k rule_there rule_here is also =
    let higher = places_of_hit columns m r h one.places.items (are j r one rule_there there before.known) is in
    let lower = places_of_hit columns m s k other.places.items (are i s other rule_here here before.other_known) also in
    elim before.ahead [
      | inl is_higher_so ↦ inl (ap (λ ps. is_higher ps k.places) higher ∙ ap (λ qs. is_higher one.places.items qs) lower ∙ is_higher_so)
      | inr same ↦ inr (same.0, ap (λ ps. is_higher ps h.places) lower ∙ ap (λ qs. is_higher other.places.items qs) higher ∙ same.1)
    ]

-- ---- loops

-- the places of the first columns are known
abbrev pub ArePlacesBelow : List Column → List Expr → List ℕ → ℕ → Type 0
ArePlacesBelow columns gives places i = (m : Bindings) (values : List Datum) → values_of m gives ≡ Some values → places_of columns values ≡ places ++ places_of (drop i columns) (drop i values)

pub one_place_more : (columns : List Column) (gives : List Expr) (places : List ℕ) (i : ℕ) (c : Column) (e : Expr) (n : ℕ) → ArePlacesBelow columns gives places i → slice_get columns i ≡ Some c → slice_get gives i ≡ Some e
    → HasPlace c.values e n → ArePlacesBelow columns gives (places ++ n ∷ []) (i + 1)
one_place_more columns gives places i c e n below there here has m values are =
    let next : suc i ≡ i + 1 = omega arith in
    below m values are ∙ ap (λ ps. places ++ ps) (next_place columns gives i c e n there here has m values are) ∙ ap (λ k. places ++ n ∷ places_of (drop k columns) (drop k values)) next
    ∙ sym (append_assoc places (n ∷ []) (places_of (drop (i + 1) columns) (drop (i + 1) values)))

pub all_places : (columns : List Column) (gives : List Expr) (places : List ℕ) (i : ℕ) → ArePlacesBelow columns gives places i → length columns ≤ i → HavePlaces columns gives places
all_places columns gives places i below past m values are =
    below m values are ∙ ap (λ (cs : List Column). places ++ places_of cs (drop i values)) (drop_all i columns past) ∙ append-nil places

pub one_rank_more : (columns : List Column) (rules : List Rule) (old new : List Rank) (rule : Rule) (last : Rank) → AreRanks columns rules old → new ≡ old ++ last ∷ [] → slice_get rules (length old) ≡ Some rule → IsRank columns rule last
    → AreRanks columns rules new
one_rank_more columns rules old new rule last are more there is i r k rule_there rank_there =
    told_more (λ i k. (r : Rule) → slice_get rules i ≡ Some r → IsRank columns r k) old new last (λ i k here r of. are i r k of here) more
    (λ r of. subst (λ q. IsRank columns q last) (same_Some rule r (sym there ∙ of)) is) i k rank_there r rule_there

pub no_ranks : (columns : List Column) (rules : List Rule) (ranks : List Rank) → ranks ≡ [] → AreRanks columns rules ranks
no_ranks columns rules ranks nothing i rule rank there rank_there = let e : None ≡ Some rank = ap (λ xs. slice_get xs i) (sym nothing) ∙ rank_there in cc

pub listed_at : (lists : List (List Datum)) (outputs : List Output) (i : ℕ) (l : List Datum) (o : Output) → lists ≡ listed_values (map column_view outputs) → slice_get lists i ≡ Some l → slice_get outputs i ≡ Some o → l ≡ o.values.items
listed_at lists outputs i l o same there here =
    same_Some l o.values.items (sym there ∙ ap (λ ls. slice_get ls i) same ∙ map_at (λ (c : Column). c.values) (map column_view outputs) i (column_view o) (map_at column_view outputs i o here))
