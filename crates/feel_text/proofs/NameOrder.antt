-- The order of names is a total one, and two names that tie are the same.
use Rattle.std.proofs.Common.{◌≡◌, ◌∙◌, sym, ap, refl, ℕ, Bool, true, false, List, length, bytes_eq, Ordering, Less, Equal, Greater, nat_cmp, is_eq, is_lt}
use Rattle.std.specs.Ordering.{ordering_then, ordering_reverse}
use Rattle.std.specs.Cmp.{IsTotalOrder}
use Rattle.std.specs.Cmp.Lexicographic.{slice_cmp}
use Rattle.std.proofs.lemmas.Cmp.{then_total, on_total, nat_cmp_total, nat_list_cmp_total, tied_itself}
use Rattle.std.proofs.lemmas.Map.Text.{is_eq-slice_cmp}
use Rattle.feel_text.specs.NameOrder.{name_cmp, IsBefore}
use Rattle.feel_text.proofs.Bindings.{same_text}

pub names_total : IsTotalOrder name_cmp
names_total = then_total (on_total length nat_cmp_total) nat_list_cmp_total

second_ties : (o p : Ordering) → ordering_then o p ≡ Equal → p ≡ Equal
second_ties Less p e = cc
second_ties Equal p e = e
second_ties Greater p e = cc

pub same_name : (a b : List ℕ) → name_cmp a b ≡ Equal → a ≡ b
same_name a b e = same_text a b (sym (is_eq-slice_cmp a b) ∙ ap is_eq (second_ties (nat_cmp (length a) (length b)) (slice_cmp nat_cmp a b) e))

-- what a test for less says
pub less : (o : Ordering) → is_lt o ≡ true → o ≡ Less
less Less e = refl
less Equal e = cc
less Greater e = cc

pub before_later : (a b c : List ℕ) → IsBefore a b → IsBefore b c → IsBefore a c
before_later a b c e f = ap is_lt (names_total.trans a b c (less (name_cmp a b) e) (less (name_cmp b c) f))

pub greater_turned : (a b : List ℕ) → name_cmp a b ≡ Greater → IsBefore b a
greater_turned a b e = ap is_lt (names_total.antisymm b a ∙ ap ordering_reverse e)

pub less_turned : (a b : List ℕ) → IsBefore a b → name_cmp b a ≡ Greater
less_turned a b e = names_total.antisymm b a ∙ ap ordering_reverse (less (name_cmp a b) e)

pub before_itself : (a : List ℕ) → IsBefore a a → ⊥
before_itself a e = let no : Equal ≡ Less = sym (tied_itself names_total a) ∙ less (name_cmp a a) e in cc

-- names that don't tie are not the same
pub unlike : (a b : List ℕ) (o : Ordering) → name_cmp a b ≡ o → is_eq o ≡ false → bytes_eq b a ≡ false
unlike a b o e apart = go (bytes_eq b a) refl
  where
    go : (t : Bool) → bytes_eq b a ≡ t → t ≡ false
    go false f = refl
    go true f =
        let tie : name_cmp a b ≡ Equal = ap (name_cmp a) (same_text b a f) ∙ tied_itself names_total a in
        let yes : is_eq o ≡ true = ap is_eq (sym e ∙ tie) in
        sym yes ∙ apart
