-- The tests of a list one after the other, as a loop reads them.
use Rattle.std.proofs.Common.{◌≡◌, ◌≤◌, ◌<◌, ◌+◌, ◌-◌, ℕ, suc, List, [], ◌∷◌, ◌++◌, Option, Some, None, refl, sym, ap, ◌∙◌, append_assoc, arith}
use Rattle.feel_text.specs.declared.unary.Test as code
use Rattle.feel_text.specs.declared.fault.ReadFault.{ReadFault}
use Rattle.feel_text.specs.declared.fault.ReadFault.TheVariants.{Syntax, Memory}
use Rattle.feel_text.specs.Token.{Token}
use Rattle.feel_text.specs.Tests.{Test}
use Rattle.feel_text.specs.TestsView.{test_view, test_views}
use Rattle.feel_text.specs.Gives.{Fails}
use Rattle.feel_text.specs.Reading.{after_comma}
use Rattle.feel_value.specs.Found.{◌>>=◌}
use Rattle.feel_text.specs.TestReading.{test_at, list_at, preceded}

abbrev Listed : Type 0
Listed = Option (List Test × List Token)

left_over : (n i : ℕ) → i < n → n - i ≡ suc (n - (i + 1))
left_over n i lt = omega arith

-- a test pushed on a list
pub pushed : (xs : List code.Test) (x : code.Test) → test_views (xs ++ x ∷ []) ≡ test_views xs ++ test_view x ∷ []
pushed [] x = refl
pushed (y ∷ xs) x = ap (λ (w : List Test). test_view y ∷ w) (pushed xs x)

pub ends_fault : (f : ReadFault) (n i : ℕ) (xs : List Test) (ts : List Token) (total : Listed) → i < n → Fails f (test_at ts) → preceded xs (list_at (n - i) ts) ≡ total → Fails f total
unfolding list_at
ends_fault Memory n i xs ts total lt fails so_far = tt
ends_fault Syntax n i xs ts total lt fails so_far =
    let all : preceded xs (list_at (n - i) ts) ≡ None = rw (left_over n i lt, fails) refl in
    sym so_far ∙ all

pub ends_list : (n i : ℕ) (xs : List Test) (ts us : List Token) (t : Test) (total : Listed) → i < n → test_at ts ≡ Some (t, us) → after_comma us ≡ None → preceded xs (list_at (n - i) ts) ≡ total → total ≡ Some (xs ++ t ∷ [], us)
unfolding list_at
ends_list n i xs ts us t total lt test last so_far =
    let all : preceded xs (list_at (n - i) ts) ≡ Some (xs ++ t ∷ [], us) = rw (left_over n i lt, test, last) refl in
    sym so_far ∙ all

preceded_more : (xs : List Test) (t : Test) (r : Listed) → preceded xs (r >>= λ y. Some (t ∷ y.0, y.1)) ≡ preceded (xs ++ t ∷ []) r
preceded_more xs t None = refl
preceded_more xs t (Some (ys, us)) = ap (λ (w : List Test). Some (w, us)) (sym (append_assoc xs (t ∷ []) ys))

pub goes_on : (n i : ℕ) (xs : List Test) (ts us vs : List Token) (t : Test) (total : Listed) → i < n → test_at ts ≡ Some (t, us) → after_comma us ≡ Some vs → preceded xs (list_at (n - i) ts) ≡ total
    → preceded (xs ++ t ∷ []) (list_at (n - (i + 1)) vs) ≡ total
unfolding list_at
goes_on n i xs ts us vs t total lt test comma so_far =
    let one : list_at (n - i) ts ≡ (list_at (n - (i + 1)) vs >>= λ y. Some (t ∷ y.0, y.1)) = rw (left_over n i lt, test, comma) refl in
    sym (ap (λ (r : Listed). preceded xs r) one ∙ preceded_more xs t (list_at (n - (i + 1)) vs)) ∙ so_far

pub ends_count : (n i : ℕ) (xs : List Test) (ts : List Token) (total : Listed) → n ≤ i → preceded xs (list_at (n - i) ts) ≡ total → total ≡ None
unfolding list_at
ends_count n i xs ts total le so_far =
    let k : n - i ≡ 0 = omega arith in
    let all : preceded xs (list_at (n - i) ts) ≡ None = rw k refl in
    sym so_far ∙ all
