-- The parts of a text, and what is declared under them.
use Rattle.std.proofs.Common.{◌≡◌, ◌∙◌, refl, sym, ap, subst, ℕ, suc, ◌<◌, ◌+◌, List, [], ◌∷◌, ◌++◌, map, reverse, length, get_or, append_assoc, Bool, true, false, eqb, if◌then◌else◌, arith, lit<, Option, None, Some, MatchOption, Bor}
use Rattle.std.specs.Prelude.{◌≢◌}
use Rattle.std.proofs.lemmas.Bool.Decides.{nat_tests}
use Rattle.std.proofs.lemmas.List.{length-append, reverse-append}
use Rattle.std.proofs.lemmas.Str.Pattern.{IsSplitOnceResult, split_parts}
use Rattle.dmn_told.specs.Parts.{in_first, parts}

not_a_dot : (c : ℕ) → c ≢ 46 → eqb c 46 ≡ false
not_a_dot c h = grind (arith, nat_tests, h)

without_dot : (t : Bool) (c : ℕ) (ps : List (List ℕ)) → t ≡ false → (if t then [] ∷ ps else in_first c ps) ≡ in_first c ps
without_dot true c ps e = cc
without_dot false c ps e = refl

abbrev pub HasNoDot : List ℕ → Type 0
HasNoDot s = (i : ℕ) → i < length s → get_or s i 0 ≢ 46

first_is_none : (c : ℕ) (s : List ℕ) → HasNoDot (c ∷ s) → c ≢ 46
first_is_none c s h = h 0 (omega arith)

others_are_none : (c : ℕ) (s : List ℕ) → HasNoDot (c ∷ s) → HasNoDot s
others_are_none c s h = λ i l. h (suc i) (omega (arith, l))

pub parts_whole : (s : List ℕ) → HasNoDot s → parts s ≡ s ∷ []
parts_whole [] h = refl
parts_whole (c ∷ s) h = without_dot (eqb c 46) c (parts s) (not_a_dot c (first_is_none c s h)) ∙ ap (in_first c) (parts_whole s (others_are_none c s h))

pub parts_split : (s rest : List ℕ) → HasNoDot s → parts (s ++ 46 ∷ rest) ≡ s ∷ parts rest
parts_split [] rest h = refl
parts_split (c ∷ s) rest h = without_dot (eqb c 46) c (parts (s ++ 46 ∷ rest)) (not_a_dot c (first_is_none c s h)) ∙ ap (in_first c) (parts_split s rest (others_are_none c s h))

split_length : (s first rest : List ℕ) → s ≡ first ++ 46 ∷ rest → length rest < length s
split_length s first rest is = let same : length s ≡ length first + length (46 ∷ rest) = ap length is ∙ length-append first (46 ∷ rest) in omega (arith, same)

-- what `split_once` says
pub parts_by : (s : List ℕ) (r : Option (Bor (List ℕ) × Bor (List ℕ))) → IsSplitOnceResult 46 s r → MatchOption r (parts s ≡ s ∷ []) (λ x. (parts s ≡ x.0.now ∷ parts x.1.now) × (length x.1.now < length s))
parts_by s None h = parts_whole s (split_parts 46 s None h (lit< tt))
parts_by s (Some x) h =
    let q = split_parts 46 s (Some x) h (lit< tt) in
    (ap parts q.0 ∙ parts_split x.0.now x.1.now q.1, split_length s x.0.now x.1.now q.0)

map_append : {X Y : Type 0} (f : X → Y) (xs ys : List X) → map f (xs ++ ys) ≡ map f xs ++ map f ys
map_append f [] ys = refl
map_append f (x ∷ xs) ys = ap (λ zs. f x ∷ zs) (map_append f xs ys)

pub map_reverse : {X Y : Type 0} (f : X → Y) (xs : List X) → map f (reverse xs) ≡ reverse (map f xs)
map_reverse f [] = refl
map_reverse f (x ∷ xs) =
    ap (map f) (reverse-append (x ∷ []) xs) ∙ map_append f (reverse xs) (x ∷ []) ∙ ap (λ ys. ys ++ f x ∷ []) (map_reverse f xs) ∙ sym (reverse-append (f x ∷ []) (map f xs))

-- ---- the code's loop

-- one part more
pub part_turn : {X : Type 0} (f : X → List ℕ) (text first rest others : List ℕ) (old new : List X) (s : X) → parts text ≡ map f old ++ parts rest → parts rest ≡ first ∷ parts others → f s ≡ first → new ≡ old ++ s ∷ []
    → parts text ≡ map f new ++ parts others
part_turn f text first rest others old new s so_far split is pushed =
    so_far ∙ ap (λ ps. map f old ++ ps) (split ∙ ap (λ p. p ∷ parts others) (sym is)) ∙ sym (append_assoc (map f old) (f s ∷ []) (parts others)) ∙ ap (λ ps. ps ++ parts others) (sym (ap (map f) pushed ∙ map_append f old (s ∷ [])))

-- the last part, and then all of them the other way round
pub parts_done : {X : Type 0} (f : X → List ℕ) (text rest : List ℕ) (old new back : List X) (s : X) → parts text ≡ map f old ++ parts rest → parts rest ≡ rest ∷ [] → f s ≡ rest → new ≡ old ++ s ∷ [] → back ≡ reverse new
    → map f back ≡ reverse (parts text)
parts_done f text rest old new back s so_far whole is pushed turned =
    let all : parts text ≡ map f new = so_far ∙ ap (λ ps. map f old ++ ps) (whole ∙ ap (λ p. p ∷ []) (sym is)) ∙ sym (ap (map f) pushed ∙ map_append f old (s ∷ [])) in
    ap (map f) turned ∙ map_reverse f new ∙ ap reverse (sym all)
