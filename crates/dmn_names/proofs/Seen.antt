-- Names that are put into a set one after another, until one was there.
use Rattle.std.proofs.Common.{◌≡◌, ℕ, ◌+◌, ◌<◌, List, [], ◌∷◌, map, drop, length, get_or, refl, sym, ap, ap₂, ◌∙◌, Bool, true, false, not, ◌&&◌, ◌||◌, Bor, cond, is_eq, nat_cmp}
use Rattle.std.specs.Prelude.{bytes_eq}
use Rattle.std.specs.List.{list_any}
use Rattle.std.specs.Cmp.Lexicographic.{slice_cmp}
use Rattle.std.specs.BTreeSet.{BTreeSet, contains_by, Updates}
use Rattle.std.proofs.lemmas.List.{at_drop_more}
use Rattle.std.proofs.lemmas.Map.Text.{is_eq-slice_cmp}
use Rattle.dmn_form.specs.Model.{Name}
use Rattle.dmn_names.specs.Names.{have_twice}
use Rattle.feel_value.specs.Distinct.{is_among, are_distinct}

-- whether the set has the name
abbrev pub is_seen : BTreeSet (Bor (List ℕ)) → Name → Bool
is_seen seen n = contains_by (λ k. slice_cmp nat_cmp n k.now) seen

-- one of these names is in the set, or stands twice
abbrev pub twice_after : BTreeSet (Bor (List ℕ)) → List Name → Bool
twice_after seen ns = list_any (is_seen seen) ns || have_twice ns

nothing_seen : (seen : BTreeSet (Bor (List ℕ))) → seen.keys ≡ [] → (n : Name) → is_seen seen n ≡ false
nothing_seen seen e n = ap (list_any (λ k. is_eq (slice_cmp nat_cmp n k.now))) e

none_seen : (p : Name → Bool) → ((n : Name) → p n ≡ false) → (ns : List Name) → list_any p ns ≡ false
none_seen p h [] = refl
none_seen p h (n ∷ ns) = ap₂ (λ a b. a || b) (h n) (none_seen p h ns)

-- before the first name
pub at_first : (seen : BTreeSet (Bor (List ℕ))) (ns : List Name) → seen.keys ≡ [] → have_twice ns ≡ twice_after seen ns
at_first seen ns e = sym (ap (λ b. b || have_twice ns) (none_seen (is_seen seen) (nothing_seen seen e) ns))

-- a name as it is borrowed
abbrev borrowed : Name → Bor (List ℕ)
borrowed n = record { ref_ptr = (0, 0); now = n }

abbrev pub IsPut : BTreeSet (Bor (List ℕ)) → BTreeSet (Bor (List ℕ)) → Bor (List ℕ) → Type 0
IsPut old new key = Updates (λ x y. slice_cmp nat_cmp x.now y.now) old new key true

chosen : (a b : Bool) → cond a true b ≡ (a || b)
chosen true b = refl
chosen false b = refl

-- what is in the set once a name is put into it
seen_more : (old new : BTreeSet (Bor (List ℕ))) (key : Bor (List ℕ)) → IsPut old new key → (n : Name) → is_seen new n ≡ (bytes_eq key.now n || is_seen old n)
seen_more old new key put n =
    put.0 (borrowed n) ∙ ap (λ b. cond b true (is_seen old n)) (is_eq-slice_cmp key.now n) ∙ chosen (bytes_eq key.now n) (is_seen old n)

either_among : (p a b : Name → Bool) → ((n : Name) → p n ≡ (a n || b n)) → (ns : List Name) → list_any p ns ≡ (list_any a ns || list_any b ns)
either_among p a b h [] = refl
either_among p a b h (n ∷ ns) = ap₂ (λ x y. x || y) (h n) (either_among p a b h ns) ∙ regrouped (a n) (b n) (list_any a ns) (list_any b ns)
  where
    regrouped : (u v x y : Bool) → ((u || v) || (x || y)) ≡ ((u || x) || (v || y))
    regrouped true v x y = refl
    regrouped false true true y = refl
    regrouped false true false y = refl
    regrouped false false x y = refl

turned : (a b d : Bool) → ((false || b) || not (not a && d)) ≡ ((a || b) || not d)
turned true true d = refl
turned true false d = refl
turned false b d = refl

-- a name that was not in the set
one_more : (old new : BTreeSet (Bor (List ℕ))) (key : Bor (List ℕ)) (ns : List Name) → IsPut old new key → is_seen old key.now ≡ false
    → twice_after old (key.now ∷ ns) ≡ twice_after new ns
one_more old new key ns put e =
    ap (λ b. (b || list_any (is_seen old) ns) || have_twice (key.now ∷ ns)) e
    ∙ turned (is_among ns key.now) (list_any (is_seen old) ns) (are_distinct ns)
    ∙ ap (λ b. b || have_twice ns) (sym (either_among (is_seen new) (bytes_eq key.now) (is_seen old) (seen_more old new key put) ns))

was_not : (b : Bool) → true ≡ not b → b ≡ false
was_not true e = cc
was_not false e = refl

-- a turn of the walk along the names of xs
pub after_turn : {X : Type 0} (name : X → Name) (xs : List X) (i : ℕ) (x : X) (key : Bor (List ℕ)) (old new : BTreeSet (Bor (List ℕ))) (whole : Bool)
    → whole ≡ twice_after old (map name (drop i xs)) → x ≡ get_or xs i x → i < length xs → key.now ≡ name x → IsPut old new key → true ≡ not (is_seen old key.now)
    → whole ≡ twice_after new (map name (drop (i + 1) xs))
after_turn name xs i x key old new whole before e h k put fresh =
    before ∙ at_drop_more (λ ys. twice_after old (map name ys)) xs i x h
    ∙ ap (λ n. twice_after old (n ∷ map name (drop (i + 1) xs))) (ap name (sym e) ∙ sym k)
    ∙ one_more old new key (map name (drop (i + 1) xs)) put (was_not (is_seen old key.now) fresh)
