-- Which of two hits decides under `P`.
use Rattle.std.proofs.Common.{◌≡◌, ◌∙◌, sym, ap, ℕ, zero, suc, ◌+◌, ◌<◌, List, [], ◌∷◌, ◌++◌, drop, get_or, subst, take, inl, inr, length, map, Bool, true, false, not, ◌&&◌, ◌||◌, Option, None, Some, option_map, refl, arith, if◌then◌else◌}
use Rattle.std.specs.Prelude.{nat_eq, nat_lt}
use Rattle.std.specs.Bool.{◌==◌}
use Rattle.std.specs.List.{All, cons_option, slice_get}
use Rattle.std.proofs.lemmas.Bool.Decides.{nat_tests}
use Rattle.std.proofs.lemmas.List.{take_more}
use Rattle.std.proofs.lemmas.List.Elements.{All-push}
use Rattle.std.proofs.lemmas.Option.{same_Some, slice_get-get_or, slice_get-map}
use Rattle.feel_value.specs.Found.{each, ◌>>=◌}
use Rattle.feel_text.specs.Meaning.{Bindings}
use Rattle.dmn_table.specs.declared.hit_policy.HitPolicy.{HitPolicy}
use Rattle.dmn_table.specs.declared.hit_policy.HitPolicy.TheVariants.{First, Priority}
use Rattle.dmn_table.specs.Deciding.{deciding}
use Rattle.dmn_table.specs.Hits.{hit_of}
use Rattle.dmn_table.specs.Parts.{have_entries}
use Rattle.dmn_table.specs.Priority.{Hit, is_higher}
use Rattle.dmn_table.specs.Table.{Column, Rule}
use Rattle.desk_checking.specs.Deciding.{GivesHigher, HitsBefore, has_no_order}

not_less : (p : ℕ) → nat_lt p p ≡ false
not_less p = grind (arith, nat_tests)

no_and : (a b : Bool) → b ≡ false → (a && b) ≡ false
no_and true b e = e
no_and false b e = refl

no_or : (a b : Bool) → a ≡ false → b ≡ false → (a || b) ≡ false
no_or true b e f = e
no_or false b e f = f

not_higher : (ps : List ℕ) → is_higher ps ps ≡ false
not_higher [] = refl
not_higher (p ∷ ps) = no_or (nat_lt p p) (nat_eq p p && is_higher ps ps) (not_less p) (no_and (nat_eq p p) (is_higher ps ps) (not_higher ps))

-- the number of the hit that decides, of two: whether the first is higher than itself, the second than the first, the
-- first than the second, and the second than itself
abbrev picked : (x y z w : Bool) → ℕ → ℕ → Hit → Hit → List ℕ
picked x y z w a b h k =
    map (λ (q : ℕ × Hit). q.0) (cons_option (if not x && (not y && true) then Some (a, h) else (if not z && (not w && true) then Some (b, k) else None)) [])

by_second : (x y z w : Bool) (a b : ℕ) (h k : Hit) (rest : List ℕ) → a < b → x ≡ false → picked x y z w a b h k ≡ b ∷ rest → (z ≡ false) × (y ≡ true)
by_second true y z w a b h k rest less e picks = let wrong : ⊥ = cc in absurd wrong
by_second false false z w a b h k rest less e picks = let same : a ≡ b = cc in absurd (omega (arith, less, same))
by_second false true true w a b h k rest less e picks = let wrong : ⊥ = cc in absurd wrong
by_second false true false true a b h k rest less e picks = let wrong : ⊥ = cc in absurd wrong
by_second false true false false a b h k rest less e picks = (refl, refl)

by_first : (x y z w : Bool) (a b : ℕ) (h k : Hit) (rest : List ℕ) → a < b → picked x y z w a b h k ≡ a ∷ rest → y ≡ false
by_first x false z w a b h k rest less picks = refl
by_first true true false false a b h k rest less picks = let same : b ≡ a = cc in absurd (omega (arith, less, same))
by_first false true false false a b h k rest less picks = let same : b ≡ a = cc in absurd (omega (arith, less, same))
by_first true true true w a b h k rest less picks = let wrong : ⊥ = cc in absurd wrong
by_first false true true w a b h k rest less picks = let wrong : ⊥ = cc in absurd wrong
by_first true true false true a b h k rest less picks = let wrong : ⊥ = cc in absurd wrong
by_first false true false true a b h k rest less picks = let wrong : ⊥ = cc in absurd wrong

-- two rules that hit, where their hits are found
abbrev pub both : List Column → Bindings → Rule → Rule → Option (List Hit)
both columns m r s = each (hit_of columns m) (r ∷ s ∷ [])

found_both : (columns : List Column) (m : Bindings) (r s : Rule) (h k : Hit) → hit_of columns m r ≡ Some h → hit_of columns m s ≡ Some k → both columns m r s ≡ Some (h ∷ k ∷ [])
found_both columns m r s h k e f =
    ap (λ a. a >>= λ y. (hit_of columns m s >>= λ z. Some (z ∷ [])) >>= λ ys. Some (y ∷ ys)) e
    ∙ ap (λ b. (b >>= λ z. Some (z ∷ [])) >>= λ ys. Some (h ∷ ys)) f

-- the second decides: the first doesn't go before it
pub second_decides : (columns : List Column) (m : Bindings) (a b : ℕ) (r s : Rule) (rest : List ℕ) → a < b → Some (b ∷ rest) ≡ option_map (deciding Priority (a ∷ b ∷ [])) (both columns m r s) → GivesHigher columns m (a < b) r s → ⊥
second_decides columns m a b r s rest less found before =
    elim before.ahead [
      | inl higher ↦ let wrong : true ≡ false = sym higher ∙ lower.0 in cc
      | inr earlier ↦ let wrong : false ≡ true = sym earlier.1 ∙ lower.1 in cc
    ]
  where
    lower : (is_higher before.hit.places before.other.places ≡ false) × (is_higher before.other.places before.hit.places ≡ true)
    lower =
        by_second (is_higher before.hit.places before.hit.places) (is_higher before.other.places before.hit.places) (is_higher before.hit.places before.other.places) (is_higher before.other.places before.other.places) a b before.hit before.other rest less
        (not_higher before.hit.places)
        (same_Some (picked (is_higher before.hit.places before.hit.places) (is_higher before.other.places before.hit.places) (is_higher before.hit.places before.other.places) (is_higher before.other.places before.other.places) a b before.hit before.other) (b ∷ rest) (sym (found ∙ ap (option_map (deciding Priority (a ∷ b ∷ []))) (found_both columns m r s before.hit before.other before.given before.other_given))))

-- the first decides: the second doesn't go before it
pub first_decides : (columns : List Column) (m : Bindings) (a b : ℕ) (r s : Rule) (rest : List ℕ) → a < b → Some (a ∷ rest) ≡ option_map (deciding Priority (a ∷ b ∷ [])) (both columns m r s) → GivesHigher columns m (b < a) s r → ⊥
first_decides columns m a b r s rest less found before =
    elim before.ahead [
      | inl higher ↦ let wrong : true ≡ false = sym higher ∙ lower in cc
      | inr earlier ↦ omega (arith, less, earlier.0)
    ]
  where
    lower : is_higher before.hit.places before.other.places ≡ false
    lower =
        by_first (is_higher before.other.places before.other.places) (is_higher before.hit.places before.other.places) (is_higher before.other.places before.hit.places) (is_higher before.hit.places before.hit.places) a b before.other before.hit rest less
        (same_Some (picked (is_higher before.other.places before.other.places) (is_higher before.hit.places before.other.places) (is_higher before.other.places before.hit.places) (is_higher before.hit.places before.hit.places) a b before.other before.hit) (a ∷ rest) (sym (found ∙ ap (option_map (deciding Priority (a ∷ b ∷ []))) (found_both columns m r s before.other before.hit before.other_given before.given))))

-- no rule goes before itself
pub not_before_itself : (columns : List Column) (m : Bindings) (i : ℕ) (r : Rule) → GivesHigher columns m (i < i) r r → ⊥
not_before_itself columns m i r before =
    elim before.ahead [
      | inl higher ↦
          let same : before.hit ≡ before.other = same_Some before.hit before.other (sym before.given ∙ before.other_given) in
          let wrong : true ≡ false = sym higher ∙ ap (λ (h : Hit). is_higher before.hit.places h.places) (sym same) ∙ not_higher before.hit.places in cc
      | inr earlier ↦ omega (arith, earlier.0)
    ]

-- under the other policies none does
pub none_before : (p : HitPolicy) (columns : List Column) (m : Bindings) (j i : ℕ) (r s : Rule) → has_no_order p ≡ true → HitsBefore p columns m j i r s → ⊥
none_before First columns m j i r s e before = let wrong : false ≡ true = e in cc
none_before Priority columns m j i r s e before = let wrong : false ≡ true = e in cc
none_before p columns m j i r s e before = before

-- ---- elements of lists

-- what holds of each element before a place, and of the one there
pub all_next : {X : Type 0} (P : X → Type 0) (xs : List X) (i : ℕ) (x : X) → i < length xs → x ≡ get_or xs i x → P x → All P (take i xs) → All P (take (i + 1) xs)
all_next P xs i x less is h before =
    subst (All P) (sym (take_more xs i x less ∙ ap (λ y. take i xs ++ y ∷ []) (sym is))) (All-push P (take i xs) x before h)

-- ---- rules by their numbers

pub not_yes : (b : Bool) → not b ≡ true → b ≡ true → ⊥
not_yes true e f = let wrong : false ≡ true = e in cc
not_yes false e f = let wrong : false ≡ true = f in cc

-- a mapped element that was looked up
pub there_at : {X Y : Type 0} (f : X → Y) (xs : List X) (i : ℕ) (x : X) → i < length xs → x ≡ get_or xs i x → slice_get (map f xs) i ≡ Some (f x)
there_at f xs i x within here = slice_get-map f xs i ∙ ap (option_map f) (slice_get-get_or xs i x within ∙ ap Some (sym here))

-- it is the one at its place
pub one_at : {X Y : Type 0} (f : X → Y) (xs : List X) (i : ℕ) (x : X) (y : Y) → i < length xs → x ≡ get_or xs i x → slice_get (map f xs) i ≡ Some y → f x ≡ y
one_at f xs i x y within here there = same_Some (f x) y (sym (there_at f xs i x within here) ∙ there)

pub not_empty : {X : Type 0} (xs : List X) (x : X) → xs ++ x ∷ [] ≡ [] → ⊥
not_empty [] x e = cc
not_empty (y ∷ xs) x e = cc

pub same_number : (n k : ℕ) → nat_eq n k ≡ true → n ≡ k
same_number n k e = grind (arith, nat_tests)

both_true : (a b : Bool) → (a && b) ≡ true → (a ≡ true) × (b ≡ true)
both_true true b e = (refl, e)
both_true false b e = let wrong : false ≡ true = e in cc

-- the rule at a place has as many output entries as each
entries_of : (n : ℕ) (rs : List Rule) (i : ℕ) (r : Rule) → have_entries n rs ≡ true → slice_get rs i ≡ Some r → nat_eq (length r.gives) n ≡ true
entries_of n [] i r e there = let wrong : None ≡ Some r = there in cc
entries_of n (q ∷ rs) zero r e there = ap (λ (x : Rule). nat_eq (length x.gives) n) (sym (same_Some q r there)) ∙ (both_true (nat_eq (length q.gives) n) (have_entries n rs) e).0
entries_of n (q ∷ rs) (suc i) r e there = entries_of n rs i r (both_true (nat_eq (length q.gives) n) (have_entries n rs) e).1 there

-- so have two
pub two_entries : (n : ℕ) (rs : List Rule) (i j : ℕ) (r s : Rule) → have_entries n rs ≡ true → slice_get rs i ≡ Some r → slice_get rs j ≡ Some s → have_entries n (r ∷ s ∷ []) ≡ true
two_entries n rs i j r s e there other =
    ap (λ b. b && (nat_eq (length s.gives) n && true)) (entries_of n rs i r e there) ∙ ap (λ b. b && true) (entries_of n rs j s e other)

pub more_than_none : (n : ℕ) (b : Bool) → b ≡ (n == 0) → b ≡ false → 0 < n
more_than_none n b e f = grind (arith, e, f)

-- the first of some numbers, and the others
pub head_rest : (xs : List ℕ) (otherwise : ℕ) → 0 < length xs → get_or xs 0 otherwise ∷ drop 1 xs ≡ xs
head_rest [] otherwise h = absurd (omega (arith, h))
head_rest (x ∷ xs) otherwise h = refl
