-- The first bindings, and those behind them.
use Rattle.std.proofs.Common.{◌≡◌, ◌∙◌, sym, ap, refl, ℕ, ◌+◌, ◌-◌, ◌<◌, ◌≤◌, Bool, true, false, List, [], ◌∷◌, ◌++◌, take, length, get_or, Option, Some, None, bytes_eq, if◌then◌else◌, arith}
use Rattle.std.proofs.Math.Seq.{take-append-add}
use Rattle.std.proofs.lemmas.List.{append_assoc, append-nil, map-append, length-map, take-map, take-append-le, take_more}
use Rattle.feel_value.specs.Datum.{Datum}
use Rattle.feel_text.specs.Meaning.{Bindings, bound, first_some}
use Rattle.feel_eval.specs.Few.{named_of, few_of}
use Rattle.feel_eval.specs.declared.added.NamedValue.{NamedValue}

grouped : (o p q : Option Datum) → first_some (first_some o p) q ≡ first_some o (first_some p q)
grouped None p q = refl
grouped (Some d) p q = refl

nothing_more : (o : Option Datum) → first_some o None ≡ o
nothing_more None = refl
nothing_more (Some d) = refl

-- what a name is bound to among the last ones counts
pub bound_both : (name : List ℕ) (xs ys : Bindings) → bound name (xs ++ ys) ≡ first_some (bound name ys) (bound name xs)
bound_both name [] ys = sym (nothing_more (bound name ys))
bound_both name (x ∷ xs) ys =
    ap (λ o. first_some o (if bytes_eq name x.0 then Some x.1 else None)) (bound_both name xs ys)
    ∙ grouped (bound name ys) (bound name xs) (if bytes_eq name x.0 then Some x.1 else None)

-- where there are no others, the first ones count
pub bound_first : (name : List ℕ) (xs ys : Bindings) → length ys ≡ 0 → bound name xs ≡ bound name (xs ++ ys)
bound_first name xs [] h = sym (ap (bound name) (append-nil xs))
bound_first name xs (y ∷ ys) h = let none : ⊥ = omega (arith, h) in absurd none

-- the last one has the name, or what it is bound to is among the others
last_or_before : (t : Bool) (d : Datum) (o : Option Datum) → first_some (if t then Some d else None) o ≡ (if t then Some d else o)
last_or_before true d o = refl
last_or_before false d o = refl

pub bound_last : (name : List ℕ) (xs : List NamedValue) (x : NamedValue) → bound name (few_of (xs ++ x ∷ [])) ≡ (if bytes_eq name (named_of x).0 then Some (named_of x).1 else bound name (few_of xs))
bound_last name xs x =
    ap (bound name) (map-append named_of xs (x ∷ []))
    ∙ bound_both name (few_of xs) (named_of x ∷ [])
    ∙ last_or_before (bytes_eq name (named_of x).0) (named_of x).1 (bound name (few_of xs))

-- the same of those up to a place
pub bound_up_to : (name : List ℕ) (xs : List NamedValue) (i : ℕ) (x : NamedValue) → x ≡ get_or xs i x → i < length xs
    → bound name (few_of (take (i + 1) xs)) ≡ (if bytes_eq name (named_of x).0 then Some (named_of x).1 else bound name (few_of (take i xs)))
bound_up_to name xs i x e h =
    ap (λ ys. bound name (few_of ys)) (take_more xs i x h) ∙ ap (λ (y : NamedValue). bound name (few_of (take i xs ++ y ∷ []))) (sym e)
    ∙ bound_last name (take i xs) x

-- one more among the first
pub one_more : (xs : List NamedValue) (x : NamedValue) (ys : Bindings) → ys ≡ [] → few_of (xs ++ x ∷ []) ++ ys ≡ (few_of xs ++ ys) ++ named_of x ∷ []
one_more xs x ys h =
    ap (λ zs. few_of (xs ++ x ∷ []) ++ zs) h ∙ append-nil (few_of (xs ++ x ∷ []))
    ∙ map-append named_of xs (x ∷ [])
    ∙ ap (λ zs. zs ++ named_of x ∷ []) (sym (ap (λ zs. few_of xs ++ zs) h ∙ append-nil (few_of xs)))

-- one more behind the first
pub one_behind : (xs ys : Bindings) (b : List ℕ × Datum) → xs ++ (ys ++ b ∷ []) ≡ (xs ++ ys) ++ b ∷ []
one_behind xs ys b = sym (append_assoc xs ys (b ∷ []))

-- cut off within the first
pub cut_within : (n : ℕ) (xs : List NamedValue) (ys : Bindings) → n ≤ length xs → few_of (take n xs) ++ [] ≡ take n (few_of xs ++ ys)
cut_within n xs ys h =
    append-nil (few_of (take n xs)) ∙ sym (take-map named_of n xs)
    ∙ sym (take-append-le n (few_of xs) ys (rw length-map h))

-- cut off behind the first
pub cut_behind : (n : ℕ) (xs : List NamedValue) (ys : Bindings) → length xs ≤ n → few_of xs ++ take (n - length xs) ys ≡ take n (few_of xs ++ ys)
cut_behind n xs ys h =
    let size : length (few_of xs) ≡ length xs = length-map xs named_of in
    let whole : length (few_of xs) + (n - length xs) ≡ n = omega (arith, size) in
    sym (take-append-add (few_of xs) ys (n - length xs)) ∙ ap (λ k. take k (few_of xs ++ ys)) whole

-- the same of any bindings
pub behind_first : (n : ℕ) (xs ys : Bindings) → length xs ≤ n → xs ++ take (n - length xs) ys ≡ take n (xs ++ ys)
behind_first n xs ys h =
    let whole : length xs + (n - length xs) ≡ n = omega (arith, h) in
    sym (take-append-add xs ys (n - length xs)) ∙ ap (λ k. take k (xs ++ ys)) whole

-- ---- what is lent, what is listed, and what comes after

-- what a name is bound to in the last of three counts
pub bound_three : (name : List ℕ) (xs ys zs : Bindings) → bound name (xs ++ (ys ++ zs)) ≡ first_some (first_some (bound name zs) (bound name ys)) (bound name xs)
bound_three name xs ys zs = bound_both name xs (ys ++ zs) ∙ ap (λ o. first_some o (bound name xs)) (bound_both name ys zs)

-- one more in the second of three, where the third is empty
pub one_between : (xs ys zs : Bindings) (b : List ℕ × Datum) → length zs ≡ 0 → xs ++ ((ys ++ b ∷ []) ++ zs) ≡ (xs ++ (ys ++ zs)) ++ b ∷ []
one_between xs ys [] b h =
    ap (λ w. xs ++ w) (append-nil (ys ++ b ∷ [])) ∙ one_behind xs ys b ∙ ap (λ w. (xs ++ w) ++ b ∷ []) (sym (append-nil ys))
one_between xs ys (z ∷ zs) b h = let none : ⊥ = omega (arith, h) in absurd none

-- one more in the third
pub one_last : (xs ys zs : Bindings) (b : List ℕ × Datum) → xs ++ (ys ++ (zs ++ b ∷ [])) ≡ (xs ++ (ys ++ zs)) ++ b ∷ []
one_last xs ys zs b = ap (λ w. xs ++ w) (one_behind ys zs b) ∙ one_behind xs (ys ++ zs) b

-- cut off within the third
pub cut_third : (n : ℕ) (xs ys zs : Bindings) → length xs + length ys ≤ n → xs ++ (ys ++ take (n - length xs - length ys) zs) ≡ take n (xs ++ (ys ++ zs))
cut_third n xs ys zs h =
    ap (λ w. xs ++ w) (behind_first (n - length xs) ys zs (omega (arith, h))) ∙ behind_first n xs (ys ++ zs) (omega (arith, h))

-- cut off within the second
pub cut_second : (n : ℕ) (xs ys zs : Bindings) → length xs ≤ n → n ≤ length xs + length ys → xs ++ (take (n - length xs) ys ++ []) ≡ take n (xs ++ (ys ++ zs))
cut_second n xs ys zs h k =
    ap (λ w. xs ++ w) (append-nil (take (n - length xs) ys) ∙ sym (take-append-le (n - length xs) ys zs (omega (arith, h, k)))) ∙ behind_first n xs (ys ++ zs) h
