-- What becomes of a client's tickets as its mailbox changes.
use Rattle.std.proofs.Common.{◌≡◌, ◌≢◌, ℕ, zero, suc, ◌+◌, ◌-◌, ◌<◌, ◌≤◌, false, not, if◌then◌else◌, ◌⊎◌, ⊎_elim, List, [], ◌∷◌, ◌++◌, length, map, drop, slice_get, Option, Some, None, is_some, refl, ap, sym, ◌∙◌, subst, arith}
use Rattle.std.proofs.lemmas.Bool.{lt-ltb, le-ltb}
use mathlib.Core.Logic.{dite}
use native.Mathlib.Decide.{ℕ_discrete}
use Rattle.box_core.specs.Mail.{Mail, Place, changed_at, status_in, status_by, with_kept}
use Rattle.lanes.specs.Accounts.{is_open, kept_count, kept_or}

pub option_case : {A P : Type 0} (o : Option A) → (o ≡ None → P) → ((x : A) → o ≡ Some x → P) → P
option_case None f g = f refl
option_case (Some x) f g = g x refl

pub order : (a b : ℕ) → (a < b) ⊎ (b ≤ a)
order a b = grind arith

pub some_is : {A : Type 0} (x y : A) → Some x ≡ Some y → x ≡ y
some_is {A} x y e = ap (λ o. kept_or x o) e

pub none_is_not : {A : Type 0} (x : A) → None ≡ Some x → ⊥
none_is_not x e = cc

module _ {A : Type 0} where
  pub got : (xs : List A) (i : ℕ) → i < length xs → (x : A) × (slice_get xs i ≡ Some x)
  got [] i h = absurd (omega (arith, h))
  got (x ∷ xs) zero h = (x, refl)
  got (x ∷ xs) (suc i) h = got xs i (omega (arith, h))

  pub changed_here : (f : A → A) (xs : List A) (i : ℕ) (x : A) → slice_get xs i ≡ Some x → slice_get (changed_at f xs i) i ≡ Some (f x)
  changed_here f [] i x e = absurd (none_is_not x e)
  changed_here f (y ∷ xs) zero x e = ap (λ z. Some (f z)) (some_is y x e)
  changed_here f (y ∷ xs) (suc i) x e = changed_here f xs i x e

  pub changed_other : (f : A → A) (xs : List A) (i j : ℕ) → j ≢ i → slice_get (changed_at f xs i) j ≡ slice_get xs j
  changed_other f [] i j ne = refl
  changed_other f (y ∷ xs) zero zero ne = absurd (ne refl)
  changed_other f (y ∷ xs) zero (suc j) ne = refl
  changed_other f (y ∷ xs) (suc i) zero ne = refl
  changed_other f (y ∷ xs) (suc i) (suc j) ne = changed_other f xs i j (λ e. ne (ap suc e))

  pub changed_length : (f : A → A) (xs : List A) (i : ℕ) → length (changed_at f xs i) ≡ length xs
  changed_length f [] i = refl
  changed_length f (y ∷ xs) zero = refl
  changed_length f (y ∷ xs) (suc i) = ap suc (changed_length f xs i)

  -- a change that one function does not see
  pub changed_map : {B : Type 0} (h : A → B) (f : A → A) → ((x : A) → h (f x) ≡ h x) → (xs : List A) (i : ℕ) → map h (changed_at f xs i) ≡ map h xs
  changed_map h f same [] i = refl
  changed_map h f same (y ∷ xs) zero = ap (λ z. z ∷ map h xs) (same y)
  changed_map h f same (y ∷ xs) (suc i) = ap (λ zs. h y ∷ zs) (changed_map h f same xs i)

  drop_one : (n : ℕ) (ws : List A) → drop (suc n) ws ≡ drop 1 (drop n ws)
  drop_one zero ws = refl
  drop_one (suc n) [] = refl
  drop_one (suc n) (w ∷ ws) = drop_one n ws

  pub drop_suc : (n : ℕ) (ws : List A) → drop (n + 1) ws ≡ drop 1 (drop n ws)
  drop_suc n ws = let e : n + 1 ≡ suc n = omega arith in ap (λ k. drop k ws) e ∙ drop_one n ws

  pub get_drop : (n i k : ℕ) (xs : List A) → k ≡ n + i → slice_get (drop n xs) i ≡ slice_get xs k
  get_drop zero i k xs e = let is : i ≡ k = omega (arith, e) in ap (λ j. slice_get xs j) is
  get_drop (suc n) i k [] e = refl
  get_drop (suc n) i zero (x ∷ xs) e = absurd (omega (arith, e))
  get_drop (suc n) i (suc k) (x ∷ xs) e = get_drop n i k xs (omega (arith, e))

  pub get_append : (xs ys : List A) (i : ℕ) → i < length xs → slice_get (xs ++ ys) i ≡ slice_get xs i
  get_append [] ys i h = absurd (omega (arith, h))
  get_append (x ∷ xs) ys zero h = refl
  get_append (x ∷ xs) ys (suc i) h = get_append xs ys i (omega (arith, h))

  pub get_last : (xs : List A) (x : A) (i : ℕ) → i ≡ length xs → slice_get (xs ++ x ∷ []) i ≡ Some x
  get_last [] x zero e = refl
  get_last [] x (suc i) e = absurd (omega (arith, e))
  get_last (y ∷ xs) x zero e = absurd (omega (arith, e))
  get_last (y ∷ xs) x (suc i) e = get_last xs x i (omega (arith, e))

  pub get_past : (xs : List A) (i : ℕ) → length xs ≤ i → slice_get xs i ≡ None
  get_past [] i h = refl
  get_past (x ∷ xs) zero h = absurd (omega (arith, h))
  get_past (x ∷ xs) (suc i) h = get_past xs i (omega (arith, h))

  pub drop_snoc : (n : ℕ) (xs : List A) (x : A) → n ≤ length xs → drop n (xs ++ x ∷ []) ≡ drop n xs ++ x ∷ []
  drop_snoc zero xs x h = refl
  drop_snoc (suc n) [] x h = absurd (omega arith)
  drop_snoc (suc n) (y ∷ ys) x h = drop_snoc n ys x (omega arith)

  -- two lists with one image have one image at each place
  pub get_image : {B C : Type 0} (h : A → C) (k : B → C) (xs : List A) (ys : List B) (i : ℕ) (x : A) (y : B) → map h xs ≡ map k ys → slice_get xs i ≡ Some x → slice_get ys i ≡ Some y → h x ≡ k y
  get_image h k [] ys i x y e a b = absurd (none_is_not x a)
  get_image h k (x' ∷ xs) [] i x y e a b = absurd (none_is_not y b)
  get_image {B} {C} h k (x' ∷ xs) (y' ∷ ys) zero x y e a b =
      ap h (sym (some_is x' x a)) ∙ ap (λ l. first l) e ∙ ap k (some_is y' y b)
    where
      first : List C → C
      first [] = h x'
      first (z ∷ zs) = z
  get_image {B} {C} h k (x' ∷ xs) (y' ∷ ys) (suc i) x y e a b = get_image h k xs ys i x y (ap (λ (l : List C). drop 1 l) e) a b

abbrev pub bit : {O : Type 0} → Option O → ℕ
bit k = if is_some k then 1 else 0

is_some_open : {W O : Type 0} (k : Option O) (w : W) → is_some (if is_some k then None else Some w) ≡ not (is_some k)
is_some_open None w = refl
is_some_open (Some o) w = refl

module _ {W O : Type 0} where
  pub closed_below : (mail : Mail W O) (t : ℕ) → t < mail.handed → is_open mail t ≡ false
  closed_below mail t h = rw (lt-ltb t mail.handed h) refl

  pub open_place : (mail : Mail W O) (t : ℕ) (p : Place W O) → mail.handed ≤ t → slice_get mail.outstanding (t - mail.handed) ≡ Some p → is_open mail t ≡ not (is_some p.kept)
  open_place mail t p h at = rw (le-ltb t mail.handed h) (rw at (is_some_open p.kept p.work))

  pub status_place : (mail : Mail W O) (t : ℕ) (p : Place W O) → mail.handed ≤ t → slice_get mail.outstanding (t - mail.handed) ≡ Some p → status_in mail t ≡ status_by (Some p.work) p.taken p.kept
  status_place mail t p h at = rw (le-ltb t mail.handed h) (rw at refl)

  -- the same places from some number on
  pub open_same : (mail mail' : Mail W O) (t : ℕ) → mail.handed ≤ t → mail'.handed ≤ t → slice_get mail'.outstanding (t - mail'.handed) ≡ slice_get mail.outstanding (t - mail.handed) → is_open mail' t ≡ is_open mail t
  open_same mail mail' t h h' e = rw (le-ltb t mail.handed h) (rw (le-ltb t mail'.handed h') (rw e refl))

  pub kept_here : (mail : Mail W O) (t : ℕ) (o : O) (p : Place W O) → mail.handed ≤ t → slice_get mail.outstanding (t - mail.handed) ≡ Some p → is_open (with_kept o t mail) t ≡ false
  kept_here mail t o p h at =
      open_place (with_kept o t mail) t (record { work = p.work; taken = p.taken; kept = Some o }) h
      (changed_here (λ place. record { work = place.work; taken = place.taken; kept = Some o }) mail.outstanding (t - mail.handed) p at)

  pub kept_other : (mail : Mail W O) (t s : ℕ) (o : O) → mail.handed ≤ t → s ≢ t → is_open (with_kept o t mail) s ≡ is_open mail s
  kept_other mail t s o h ne = ⊎_elim
      (λ below. closed_below (with_kept o t mail) s below ∙ sym (closed_below mail s below))
      (λ above. open_same mail (with_kept o t mail) s above above (changed_other (λ place. record { work = place.work; taken = place.taken; kept = Some o }) mail.outstanding (t - mail.handed) (s - mail.handed) (λ e. ne (omega (arith, e, h, above)))))
      (order s mail.handed)

  -- what was not open stays so
  pub kept_closed : (mail : Mail W O) (t s : ℕ) (o : O) (p : Place W O) → mail.handed ≤ t → slice_get mail.outstanding (t - mail.handed) ≡ Some p → is_open mail s ≡ false → is_open (with_kept o t mail) s ≡ false
  kept_closed mail t s o p h at e = dite (ℕ_discrete s t)
      (λ (same : s ≡ t). subst (λ k. is_open (with_kept o t mail) k ≡ false) (sym same) (kept_here mail t o p h at))
      (λ ne. kept_other mail t s o h ne ∙ e)

  pub kept_more : (o : O) (places : List (Place W O)) (i : ℕ) → kept_count (changed_at (λ place. record { work = place.work; taken = place.taken; kept = Some o }) places i) ≤ kept_count places + 1
  kept_more o [] i = omega arith
  kept_more o (p ∷ ps) zero = omega arith
  kept_more o (p ∷ ps) (suc i) = let r = kept_more o ps i in omega (arith, r)
