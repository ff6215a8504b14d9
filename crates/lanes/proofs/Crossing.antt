-- The links of the ends of one call, as lanes are added and taken away.
use Rattle.std.proofs.Common.{◌≡◌, ℕ, zero, suc, ◌<◌, All, List, [], ◌∷◌, ◌++◌, length, map, slice_get, Some, refl, ap, sym, ◌∙◌, subst, arith}
use Rattle.std.proofs.lemmas.List.Elements.{All-cons, All-tail, All-head, All-append}
use lib.ListN.{length-append}
use Rattle.lanes.specs.Identities.{add_each}
use Rattle.lanes.specs.Links.{Link, empties, before_each, transposed, AreOfOneCall}
use Rattle.lanes.specs.Settling.{column, one_or_none}

pub none : {A : Type 0} (P : A → Type 0) → All P []
none P k d h = absurd (omega (arith, h))

length_empties : (A : Type 0) (n : ℕ) → length (empties {T = A} n) ≡ n
length_empties A zero = refl
length_empties A (suc n) = ap suc (length_empties A n)

high_empties : (A : Type 0) (n : ℕ) → All {X = List A} (λ c. length c ≡ 0) (empties n)
high_empties A zero = none (λ (c : List A). length c ≡ 0)
high_empties A (suc n) = All-cons (λ (c : List A). length c ≡ 0) [] (empties n) refl (high_empties A n)

module _ {A : Type 0} where
  abbrev head_or : A → List A → A
  head_or d [] = d
  head_or d (x ∷ xs) = x

  abbrev tail_of : List A → List A
  tail_of [] = []
  tail_of (x ∷ xs) = xs

  pub snoc_split : (xs ys : List A) (x y : A) → xs ++ x ∷ [] ≡ ys ++ y ∷ [] → (xs ≡ ys) × (x ≡ y)
  snoc_split [] [] x y e = (refl, ap (head_or x) e)
  snoc_split [] (z ∷ ys) x y e = let n : length (x ∷ []) ≡ length ((z ∷ ys) ++ y ∷ []) = ap length e in absurd (omega (arith, n, length-append ys (y ∷ [])))
  snoc_split (z ∷ xs) [] x y e = let n : length ((z ∷ xs) ++ x ∷ []) ≡ length (y ∷ []) = ap length e in absurd (omega (arith, n, length-append xs (x ∷ [])))
  snoc_split (z ∷ xs) (w ∷ ys) x y e =
      let rest = snoc_split xs ys x y (ap tail_of e) in let first : z ≡ w = ap (head_or z) e in
      ((λ i. first i ∷ rest.0 i), rest.1)

  pub snoc_not_nil : (xs : List A) (x : A) → xs ++ x ∷ [] ≡ [] → ⊥
  snoc_not_nil xs x e = let n : length (xs ++ x ∷ []) ≡ 0 = ap length e in absurd (omega (arith, n, length-append xs (x ∷ [])))

  add_empties : (n : ℕ) (row : List A) → length row ≡ n → before_each row (empties n) ≡ add_each (empties n) row
  add_empties zero [] e = refl
  add_empties zero (x ∷ row) e = absurd (omega (arith, e))
  add_empties (suc n) [] e = absurd (omega (arith, e))
  add_empties (suc n) (x ∷ row) e = ap (λ l. (x ∷ []) ∷ l) (add_empties n row (omega (arith, e)))

  before_add : (r : List A) (columns : List (List A)) (row : List A) → before_each r (add_each columns row) ≡ add_each (before_each r columns) row
  before_add [] columns row = refl
  before_add (x ∷ xs) [] row = refl
  before_add (x ∷ xs) (c ∷ cs) [] = refl
  before_add (x ∷ xs) (c ∷ cs) (y ∷ ys) = ap (λ l. (x ∷ (c ++ y ∷ [])) ∷ l) (before_add xs cs ys)

  transposed_snoc : (n : ℕ) (rows : List (List A)) (row : List A) → length row ≡ n → transposed n (rows ++ row ∷ []) ≡ add_each (transposed n rows) row
  transposed_snoc n [] row e = add_empties n row e
  transposed_snoc n (r ∷ rows) row e = ap (before_each r) (transposed_snoc n rows row e) ∙ before_add r (transposed n rows) row

  pub length_add : (columns : List (List A)) (row : List A) → length (add_each columns row) ≡ length columns
  length_add [] row = refl
  length_add (c ∷ cs) [] = refl
  length_add (c ∷ cs) (x ∷ xs) = ap suc (length_add cs xs)

  length_before : (r : List A) (columns : List (List A)) → length r ≡ length columns → length (before_each r columns) ≡ length columns
  length_before [] [] e = refl
  length_before [] (c ∷ cs) e = absurd (omega (arith, e))
  length_before (x ∷ xs) [] e = refl
  length_before (x ∷ xs) (c ∷ cs) e = ap suc (length_before xs cs (omega (arith, e)))

  length_transposed : (n : ℕ) (rows : List (List A)) → All (λ row. length row ≡ n) rows → length (transposed n rows) ≡ n
  length_transposed n [] h = length_empties A n
  length_transposed n (r ∷ rows) h =
      let rest = length_transposed n rows (All-tail (λ row. length row ≡ n) r rows h) in
      length_before r (transposed n rows) (All-head (λ row. length row ≡ n) r rows h ∙ sym rest) ∙ rest

  -- each column has a member of each row
  high_before : (k : ℕ) (r : List A) (columns : List (List A)) → All (λ c. length c ≡ k) columns → All (λ c. length c ≡ suc k) (before_each r columns)
  high_before k [] columns h = none (λ (c : List A). length c ≡ suc k)
  high_before k (x ∷ xs) [] h = none (λ (c : List A). length c ≡ suc k)
  high_before k (x ∷ xs) (c ∷ cs) h = All-cons (λ (c : List A). length c ≡ suc k) (x ∷ c) (before_each xs cs) (ap suc (All-head (λ (c : List A). length c ≡ k) c cs h))
      (high_before k xs cs (All-tail (λ (c : List A). length c ≡ k) c cs h))

  pub high : (n : ℕ) (rows : List (List A)) → All (λ c. length c ≡ length rows) (transposed n rows)
  high n [] = high_empties A n
  high n (r ∷ rows) = high_before (length rows) r (transposed n rows) (high n rows)

  add_split : (xss yss : List (List A)) (xs ys : List A) → length xs ≡ length xss → length ys ≡ length yss → add_each xss xs ≡ add_each yss ys → (xss ≡ yss) × (xs ≡ ys)
  add_split [] [] [] [] m n e = (refl, refl)
  add_split [] [] [] (y ∷ ys) m n e = absurd (omega (arith, n))
  add_split [] [] (x ∷ xs) ys m n e = absurd (omega (arith, m))
  add_split [] (d ∷ ds) xs [] m n e = absurd (omega (arith, n))
  add_split [] (d ∷ ds) xs (y ∷ ys) m n e = let k : zero ≡ suc (length (add_each ds ys)) = ap length e in absurd (omega (arith, k))
  add_split (c ∷ cs) yss [] ys m n e = absurd (omega (arith, m))
  add_split (c ∷ cs) [] (x ∷ xs) ys m n e = let k : suc (length (add_each cs xs)) ≡ zero = ap length e in absurd (omega (arith, k))
  add_split (c ∷ cs) (d ∷ ds) (x ∷ xs) [] m n e = absurd (omega (arith, n))
  add_split (c ∷ cs) (d ∷ ds) (x ∷ xs) (y ∷ ys) m n e =
      let first = snoc_split c d x y (first_of e) in let rest = add_split cs ds xs ys (omega (arith, m)) (omega (arith, n)) (rest_of e) in
      ((λ i. first.0 i ∷ rest.0 i), (λ i. first.1 i ∷ rest.1 i))
    where
      one : List (List A) → List A
      one [] = []
      one (l ∷ ls) = l

      others : List (List A) → List (List A)
      others [] = []
      others (l ∷ ls) = ls

      first_of : (c ++ x ∷ []) ∷ add_each cs xs ≡ (d ++ y ∷ []) ∷ add_each ds ys → c ++ x ∷ [] ≡ d ++ y ∷ []
      first_of q = ap one q

      rest_of : (c ++ x ∷ []) ∷ add_each cs xs ≡ (d ++ y ∷ []) ∷ add_each ds ys → add_each cs xs ≡ add_each ds ys
      rest_of q = ap others q

  -- the last column is what was added
  get_end : (xs : List A) (x : A) (c : ℕ) → length xs ≡ c → slice_get (xs ++ x ∷ []) c ≡ Some x
  get_end [] x zero e = refl
  get_end [] x (suc c) e = absurd (omega (arith, e))
  get_end (y ∷ xs) x zero e = absurd (omega (arith, e))
  get_end (y ∷ xs) x (suc c) e = get_end xs x c (omega (arith, e))

  get_before : (xs : List A) (x : A) (c : ℕ) → c < length xs → slice_get (xs ++ x ∷ []) c ≡ slice_get xs c
  get_before [] x c h = absurd (omega (arith, h))
  get_before (y ∷ xs) x zero h = refl
  get_before (y ∷ xs) x (suc c) h = get_before xs x c (omega (arith, h))

  pub column_last : (c : ℕ) (xss : List (List A)) (xs : List A) → length xs ≡ length xss → All (λ l. length l ≡ c) xss → column c (add_each xss xs) ≡ xs
  column_last c [] [] n h = refl
  column_last c [] (x ∷ xs) n h = absurd (omega (arith, n))
  column_last c (l ∷ ls) [] n h = absurd (omega (arith, n))
  column_last c (l ∷ ls) (x ∷ xs) n h =
      let first : one_or_none (slice_get (l ++ x ∷ []) c) ≡ x ∷ [] = ap one_or_none (get_end l x c (All-head (λ (l : List A). length l ≡ c) l ls h)) in
      let rest = column_last c ls xs (omega (arith, n)) (All-tail (λ (l : List A). length l ≡ c) l ls h) in
      λ i. first i ++ rest i

  pub column_other : (d c : ℕ) (xss : List (List A)) (xs : List A) → d < c → All (λ l. length l ≡ c) xss → column d (add_each xss xs) ≡ column d xss
  column_other d c [] xs less h = refl
  column_other d c (l ∷ ls) [] less h = refl
  column_other d c (l ∷ ls) (x ∷ xs) less h =
      let first = ap one_or_none (get_before l x d (let n = All-head (λ (l : List A). length l ≡ c) l ls h in omega (arith, n, less))) in
      let rest = column_other d c ls xs less (All-tail (λ (l : List A). length l ≡ c) l ls h) in
      λ i. first i ++ rest i

  pub add_map : {B : Type 0} (f : A → B) (columns : List (List A)) (row : List A) → map (map f) (add_each columns row) ≡ add_each (map (map f) columns) (map f row)
  add_map f [] row = refl
  add_map f (c ∷ cs) [] = refl
  add_map f (c ∷ cs) (x ∷ xs) = let first = snoc_map f c x in let rest = add_map f cs xs in λ i. first i ∷ rest i
    where
      snoc_map : {B : Type 0} (f : A → B) (xs : List A) (x : A) → map f (xs ++ x ∷ []) ≡ map f xs ++ f x ∷ []
      snoc_map f [] x = refl
      snoc_map f (y ∷ ys) x = ap (λ l. f y ∷ l) (snoc_map f ys x)

-- no lane yet
pub one_call_none : (workers : List (List Link)) → workers ≡ empties (length workers) → AreOfOneCall [] workers
one_call_none workers e = record { wide = none (λ links. length links ≡ length workers); meet = e }

-- one lane more
pub one_call_more : (clients workers : List (List Link)) (row : List Link) → length row ≡ length workers → AreOfOneCall clients workers → AreOfOneCall (clients ++ row ∷ []) (add_each workers row)
one_call_more clients workers row n h =
    let m : length (add_each workers row) ≡ length workers = length_add workers row in
    as_one (subst (λ k. Fits k) (sym m) (
      All-append (λ links. length links ≡ length workers) clients (row ∷ []) h.wide (All-cons (λ (links : List Link). length links ≡ length workers) row [] n (none (λ links. length links ≡ length workers))),
      ap (λ l. add_each l row) h.meet ∙ sym (transposed_snoc (length workers) clients row n),
    ))
  where
    Fits : ℕ → Type 0
    Fits k = All (λ links. length links ≡ k) (clients ++ row ∷ []) × (add_each workers row ≡ transposed k (clients ++ row ∷ []))

    as_one : Fits (length (add_each workers row)) → AreOfOneCall (clients ++ row ∷ []) (add_each workers row)
    as_one f = record { wide = f.0; meet = f.1 }

-- one lane less
pub one_call_less : (clients workers : List (List Link)) (row last : List Link) → length last ≡ length workers → AreOfOneCall (clients ++ row ∷ []) (add_each workers last) → (last ≡ row) × AreOfOneCall clients workers
one_call_less clients workers row last n h =
    let m : length (add_each workers last) ≡ length workers = length_add workers last in
    let wide : All (λ links. length links ≡ length workers) (clients ++ row ∷ []) = subst (λ k. All (λ (links : List Link). length links ≡ k) (clients ++ row ∷ [])) m h.wide in
    let mine : length row ≡ length workers = last_of clients wide in
    let before : All (λ links. length links ≡ length workers) clients = front_of clients wide in
    let meet : add_each workers last ≡ transposed (length workers) (clients ++ row ∷ []) = subst (λ k. add_each workers last ≡ transposed k (clients ++ row ∷ [])) m h.meet in
    let split = add_split workers (transposed (length workers) clients) last row n (mine ∙ sym (length_transposed (length workers) clients before))
    (meet ∙ transposed_snoc (length workers) clients row mine) in
    (split.1, record { wide = before; meet = split.0 })
  where
    last_of : (cs : List (List Link)) → All (λ links. length links ≡ length workers) (cs ++ row ∷ []) → length row ≡ length workers
    last_of [] all = All-head (λ (links : List Link). length links ≡ length workers) row [] all
    last_of (c ∷ cs) all = last_of cs (All-tail (λ (links : List Link). length links ≡ length workers) c (cs ++ row ∷ []) all)

    front_of : (cs : List (List Link)) → All (λ links. length links ≡ length workers) (cs ++ row ∷ []) → All (λ links. length links ≡ length workers) cs
    front_of [] all = none (λ links. length links ≡ length workers)
    front_of (c ∷ cs) all = All-cons (λ (links : List Link). length links ≡ length workers) c cs (All-head (λ (links : List Link). length links ≡ length workers) c (cs ++ row ∷ []) all)
        (front_of cs (All-tail (λ (links : List Link). length links ≡ length workers) c (cs ++ row ∷ []) all))
