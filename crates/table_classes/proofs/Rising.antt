-- Classes of numbers that rise.
use Rattle.std.proofs.Common.{◌≡◌, ◌∙◌, sym, ap, refl, subst, ℕ, ℤ, ◌+◌, ◌-◌, ◌<◌, ◌≤◌, List, true, false, arith, inl, inr}
use Rattle.std.specs.Prelude.{int_lt}
use Rattle.std.proofs.lemmas.Bool.{cases_lt}
use Rattle.std.proofs.lemmas.Int.{ints}
use Rattle.feel_value.proofs.Booleans.{both_true}
use Rattle.feel_text.specs.declared.class.Class.{Class}
use Rattle.feel_text.specs.declared.class.Class.TheVariants as class
use Rattle.table_classes.specs.Spans.{AreSpans, is_above, is_below, is_of_numbers, precedes, class_at}

less_both : (a b c : ℤ) → int_lt a b ≡ true → int_lt b c ≡ true → int_lt a c ≡ true
less_both a b c h k = grind (arith, ints)

pub below_before : (low : ℤ) (c d : Class) → precedes c d ≡ true → is_below low d ≡ true → is_below low c ≡ true
below_before low (class.Numbers a b) (class.Numbers x y) h k = less_both b y low (both_true (int_lt a x) (int_lt b y) h).1 k
below_before low (class.Numbers a b) (class.Texts m) h k = cc
below_before low (class.Numbers a b) (class.Truth t) h k = cc
below_before low (class.Numbers a b) class.Null h k = cc
below_before low (class.Texts m) d h k = refl
below_before low (class.Truth t) d h k = refl
below_before low class.Null d h k = refl

pub above_after : (high : ℤ) (c d : Class) → precedes c d ≡ true → is_above high c ≡ true → is_above high d ≡ true
above_after high (class.Numbers a b) (class.Numbers x y) h k = less_both high a x k (both_true (int_lt a x) (int_lt b y) h).0
above_after high c (class.Texts m) h k = refl
above_after high c (class.Truth t) h k = refl
above_after high c class.Null h k = refl
above_after high (class.Texts m) (class.Numbers x y) h k = cc
above_after high (class.Truth t) (class.Numbers x y) h k = cc
above_after high class.Null (class.Numbers x y) h k = cc

both_less : (a b c d e f : ℤ) → precedes (class.Numbers a b) (class.Numbers c d) ≡ true → precedes (class.Numbers c d) (class.Numbers e f) ≡ true → precedes (class.Numbers a b) (class.Numbers e f) ≡ true
both_less a b c d e f h k =
    let p = both_true (int_lt a c) (int_lt b d) h in
    let q = both_true (int_lt c e) (int_lt d f) k in
    let x = less_both a c e p.0 q.0 in
    let y = less_both b d f p.1 q.1 in cc

pub precedes_both : (c d e : Class) → precedes c d ≡ true → precedes d e ≡ true → precedes c e ≡ true
precedes_both (class.Numbers a b) (class.Numbers x y) (class.Numbers m n) h k = both_less a b x y m n h k
precedes_both (class.Texts m) d e h k = cc
precedes_both (class.Truth t) d e h k = cc
precedes_both class.Null d e h k = cc
precedes_both (class.Numbers a b) (class.Texts m) e h k = cc
precedes_both (class.Numbers a b) (class.Truth t) e h k = cc
precedes_both (class.Numbers a b) class.Null e h k = cc
precedes_both (class.Numbers a b) (class.Numbers x y) (class.Texts m) h k = cc
precedes_both (class.Numbers a b) (class.Numbers x y) (class.Truth t) h k = cc
precedes_both (class.Numbers a b) (class.Numbers x y) class.Null h k = cc

none_above : (high : ℤ) (c : Class) → is_of_numbers c ≡ false → is_above high c ≡ true
none_above high (class.Numbers a b) h = cc
none_above high (class.Texts m) h = refl
none_above high (class.Truth t) h = refl
none_above high class.Null h = refl

pub all_below : (classes : List Class) (count middle : ℕ) (low : ℤ) → AreSpans classes count → middle < count → is_below low (class_at classes middle) ≡ true → (k : ℕ) → k < middle + 1 → is_below low (class_at classes k) ≡ true
all_below classes count middle low spans within is k less =
    elim (cases_lt k middle) [
      | inl before ↦ below_before low (class_at classes k) (class_at classes middle) (spans.rise k middle before within) is
      | inr more ↦ let here : k ≡ middle = omega (arith, less, more) in ap (λ n. is_below low (class_at classes n)) here ∙ is
    ]

pub all_above : (classes : List Class) (count middle : ℕ) (high : ℤ) → AreSpans classes count → middle < count → is_above high (class_at classes middle) ≡ true → (k : ℕ) → middle ≤ k → is_above high (class_at classes k) ≡ true
all_above classes count middle high spans within is k more =
    elim (cases_lt middle k) [
      | inl after ↦ elim (cases_lt k count) [
        | inl inside ↦ above_after high (class_at classes middle) (class_at classes k) (spans.rise middle k after inside) is
        | inr past ↦ none_above high (class_at classes k) (spans.rest k past)
      ]
      | inr less ↦ let here : k ≡ middle = omega (arith, more, less) in ap (λ n. is_above high (class_at classes n)) here ∙ is
    ]

-- one class more that rises
pub one_more : (classes : List Class) (count : ℕ) → 1 ≤ count → ((j k : ℕ) → j < k → k < count → precedes (class_at classes j) (class_at classes k) ≡ true)
    → precedes (class_at classes (count - 1)) (class_at classes count) ≡ true → (j k : ℕ) → j < k → k < count + 1 → precedes (class_at classes j) (class_at classes k) ≡ true
one_more classes count some before last j k less within =
    elim (cases_lt k count) [
      | inl inside ↦ before j k less inside
      | inr past ↦
          let here : k ≡ count = omega (arith, within, past) in
          subst (λ n. precedes (class_at classes j) (class_at classes n) ≡ true) (sym here)
          (elim (cases_lt j (count - 1)) [
            | inl far ↦ precedes_both (class_at classes j) (class_at classes (count - 1)) (class_at classes count) (before j (count - 1) far (omega (arith, some))) last
            | inr near ↦ let at : j ≡ count - 1 = omega (arith, less, here, near) in subst (λ n. precedes (class_at classes n) (class_at classes count) ≡ true) (sym at) last
          ])
    ]
