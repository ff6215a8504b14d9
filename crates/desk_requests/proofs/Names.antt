-- Names: each is itself, and is among names or not.
use Rattle.std.proofs.Common.{◌≡◌, ℕ, zero, suc, Bool, true, false, List, [], ◌∷◌, ◌++◌, Some, length, map, slice_get, slice_index_or, slice_set, take, ◌<◌, ◌||◌, refl, sym, ap, ◌∙◌, arith, subst}
use Rattle.std.specs.Prelude.{bytes_eq}
use Rattle.std.proofs.lemmas.Slice.Eq.{bytes_eq-Decides}
use Rattle.feel_value.specs.Distinct.{is_among}

pub same_name : (m n : List ℕ) → bytes_eq m n ≡ true → m ≡ n
same_name m n h = (bytes_eq-Decides m n).0 h

pub name_itself : (n : List ℕ) → bytes_eq n n ≡ true
name_itself n = (bytes_eq-Decides n n).1 refl

turned_as : (m n : List ℕ) (s t : Bool) → bytes_eq m n ≡ s → bytes_eq n m ≡ t → s ≡ t
turned_as m n true true p q = refl
turned_as m n false false p q = refl
turned_as m n true false p q = sym (sym (ap (λ x. bytes_eq x m) (same_name m n p)) ∙ name_itself m) ∙ q
turned_as m n false true p q = sym (sym (sym (ap (λ x. bytes_eq x n) (same_name n m q)) ∙ name_itself n) ∙ p)

pub turned_name : (m n : List ℕ) → bytes_eq m n ≡ bytes_eq n m
turned_name m n = turned_as m n (bytes_eq m n) (bytes_eq n m) refl refl

pub or_true : (b : Bool) → (b || true) ≡ true
or_true true = refl
or_true false = refl

pub or_false : (a b : Bool) → (a || b) ≡ false → (a ≡ false) × (b ≡ false)
or_false true b h = cc
or_false false b h = (refl, h)

-- a name that isn't among the names is none of them
pub not_among_at : (n m : List ℕ) (names : List (List ℕ)) (c : ℕ) → is_among names n ≡ false → slice_get names c ≡ Some m → bytes_eq m n ≡ false
not_among_at n m [] c h at = cc
not_among_at n m (k ∷ names) zero h at = let is : k ≡ m = cc in subst (λ x. bytes_eq x n ≡ false) is (turned_name k n ∙ (or_false (bytes_eq n k) (is_among names n) h).0)
not_among_at n m (k ∷ names) (suc c) h at = not_among_at n m names c (or_false (bytes_eq n k) (is_among names n) h).1 at

-- a name at a place is among the names
pub among_at : (n : List ℕ) (names : List (List ℕ)) (c : ℕ) → slice_get names c ≡ Some n → is_among names n ≡ true
among_at n [] c at = cc
among_at n (k ∷ names) zero at = let is : k ≡ n = cc in let e : bytes_eq n k ≡ true = subst (λ x. bytes_eq n x ≡ true) (sym is) (name_itself n) in rw e refl
among_at n (k ∷ names) (suc c) at = rw (among_at n names c at) (or_true (bytes_eq n k))

-- ## Places

pub get_at : {X : Type 0} (xs : List X) (c : ℕ) (x : X) → c < length xs → x ≡ slice_index_or xs c x → slice_get xs c ≡ Some x
get_at [] c x lt is = absurd (omega (arith, lt))
get_at (z ∷ xs) zero x lt is = ap Some (sym is)
get_at (z ∷ xs) (suc c) x lt is = get_at xs c x (omega (arith, lt)) is

pub get_inside : {X : Type 0} (xs : List X) (c : ℕ) (x : X) → slice_get xs c ≡ Some x → c < length xs
get_inside [] c x h = cc
get_inside (z ∷ xs) zero x h = omega arith
get_inside (z ∷ xs) (suc c) x h = omega (arith, get_inside xs c x h)

pub get_map : {A B : Type 0} (f : A → B) (xs : List A) (i : ℕ) (x : A) → slice_get xs i ≡ Some x → slice_get (map f xs) i ≡ Some (f x)
get_map f [] i x e = cc
get_map f (y ∷ xs) zero x e = let is : y ≡ x = cc in ap (λ z. Some (f z)) is
get_map f (y ∷ xs) (suc i) x e = get_map f xs i x e

pub among_take : (n : List ℕ) (names : List (List ℕ)) (i : ℕ) (m : List ℕ) → slice_get names i ≡ Some m → bytes_eq m n ≡ false → is_among (take i names) n ≡ false → is_among (take (suc i) names) n ≡ false
among_take n [] i m at far h = cc
among_take n (k ∷ names) zero m at far h =
    let is : k ≡ m = cc in let e : bytes_eq n k ≡ false = turned_name n k ∙ subst (λ x. bytes_eq x n ≡ false) (sym is) far in rw e refl
among_take n (k ∷ names) (suc i) m at far h =
    let both = or_false (bytes_eq n k) (is_among (take i names) n) h in rw both.0 (among_take n names i m at far both.1)

pub last_at : {X : Type 0} (xs : List X) (x : X) → slice_get (xs ++ x ∷ []) (length xs) ≡ Some x
last_at [] x = refl
last_at (y ∷ xs) x = last_at xs x

pub map_set : {A B : Type 0} (f : A → B) (xs : List A) (i : ℕ) (y : A) → map f (slice_set xs i y) ≡ slice_set (map f xs) i (f y)
map_set f [] i y = refl
map_set f (x ∷ xs) zero y = refl
map_set f (x ∷ xs) (suc i) y = ap (λ l. f x ∷ l) (map_set f xs i y)

-- what stands at a place is put there again
pub map_kept : {A B : Type 0} (f : A → B) (xs : List A) (i : ℕ) (x : A) → x ≡ slice_index_or xs i x → map f (slice_set xs i x) ≡ map f xs
map_kept f [] i x is = refl
map_kept f (z ∷ xs) zero x is = ap (λ y. f y ∷ map f xs) is
map_kept f (z ∷ xs) (suc i) x is = ap (λ l. f z ∷ l) (map_kept f xs i x is)

pub set_back : {X : Type 0} (xs : List X) (i : ℕ) (x : X) → slice_get xs i ≡ Some x → slice_set xs i x ≡ xs
set_back [] i x at = refl
set_back (z ∷ xs) zero x at = let is : z ≡ x = cc in ap (λ y. y ∷ xs) (sym is)
set_back (z ∷ xs) (suc i) x at = ap (λ l. z ∷ l) (set_back xs i x at)
