-- Groups of rules, formed one rule after another.
use Rattle.std.proofs.Common.{◌≡◌, ◌∙◌, sym, ap, refl, subst, ℕ, zero, suc, ◌+◌, ◌<◌, ◌≤◌, ◌⊎◌, inl, inr, List, [], ◌∷◌, ◌++◌, length, Bool, true, false, not, Some, arith}
use Rattle.std.specs.List.{slice_get, All}
use Rattle.std.proofs.lemmas.List.{length-append}
use Rattle.std.proofs.lemmas.List.Elements.{All-get_or, All-nil, All-push, All-weaker}
use Rattle.std.proofs.lemmas.Option.{get_or_from_slice_get, slice_get_within}
use Rattle.dmn_table.specs.Table.{Rule}
use Rattle.desk_checking.specs.Outputs.{AreSame}

pub below_next : (k i : ℕ) → k < i + 1 → (k < i) ⊎ (k ≡ i)
below_next zero zero h = inr refl
below_next zero (suc i) h = inl (omega arith)
below_next (suc k) zero h = absurd (omega (arith, h))
below_next (suc k) (suc i) h = elim (below_next k i (omega (arith, h))) [ inl p ↦ inl (omega (arith, p)) | inr q ↦ inr (ap suc q) ]

pub no_of : (b : Bool) → not b ≡ true → b ≡ false
no_of true e = let wrong : false ≡ true = e in cc
no_of false e = refl

pub element_holds : {X : Type 0} (P : X → Type 0) (xs : List X) (i : ℕ) (x : X) → All P xs → slice_get xs i ≡ Some x → P x
element_holds P xs i x all there = subst P (get_or_from_slice_get xs i x x there) (All-get_or P xs i x (slice_get_within xs i x there) all)

before_last : (xs : List ℕ) (x k : ℕ) → k < length xs → slice_get (xs ++ x ∷ []) k ≡ slice_get xs k
before_last [] x k h = absurd (omega (arith, h))
before_last (y ∷ xs) x zero h = refl
before_last (y ∷ xs) x (suc k) h = before_last xs x k (omega (arith, h))

at_last : (xs : List ℕ) (x k : ℕ) → length xs ≡ k → slice_get (xs ++ x ∷ []) k ≡ Some x
at_last [] x zero h = refl
at_last [] x (suc k) h = absurd (omega (arith, h))
at_last (y ∷ xs) x zero h = absurd (omega (arith, h))
at_last (y ∷ xs) x (suc k) h = at_last xs x k (omega (arith, h))

-- the rules before a place with the same number give the same
abbrev pub AreGroupsTo : ℕ → List Rule → List ℕ → Type 0
AreGroupsTo n rules groups = (i j : ℕ) (r s : Rule) → i < j → j < n → slice_get rules i ≡ Some r → slice_get rules j ≡ Some s → slice_get groups i ≡ slice_get groups j → AreSame r.gives s.gives

pub groups_begun : (rules : List Rule) (groups : List ℕ) → groups ≡ [] → (length groups ≡ 0) × (All (λ g. g < 0) groups × AreGroupsTo 0 rules groups)
groups_begun rules groups none = (ap length none, (subst (All (λ g. g < 0)) (sym none) (All-nil (λ g. g < 0)), λ i j r s less few. absurd (omega (arith, few))))

pub one_group_more : (rules : List Rule) (old new : List ℕ) (n g : ℕ) → new ≡ old ++ g ∷ [] → length old ≡ n → All (λ k. k < n) old → AreGroupsTo n rules old → g ≤ n
    → ((i : ℕ) (r s : Rule) → slice_get old i ≡ Some g → slice_get rules i ≡ Some r → slice_get rules n ≡ Some s → AreSame r.gives s.gives)
    → (length new ≡ n + 1) × (All (λ k. k < n + 1) new × AreGroupsTo (n + 1) rules new)
one_group_more rules old new n g is count before kept small same = (
  ap length is ∙ length-append old (g ∷ []) ∙ ap (λ k. k + 1) count,
  (
    subst (All (λ k. k < n + 1)) (sym is) (All-push (λ k. k < n + 1) old g (All-weaker (λ k. k < n) (λ k. k < n + 1) (λ k h. omega (arith, h)) old before) (omega (arith, small))),
    go,
  ),
)
  where
    go : AreGroupsTo (n + 1) rules new
    go i j r s less few there here alike =
        let alike_there : slice_get (old ++ g ∷ []) i ≡ slice_get (old ++ g ∷ []) j = ap (λ gs. slice_get gs i) (sym is) ∙ alike ∙ ap (λ gs. slice_get gs j) is in
        elim (below_next j n few) [
          | inl earlier ↦
              kept i j r s less earlier there here
              (sym (before_last old g i (omega (arith, less, earlier, count))) ∙ alike_there ∙ before_last old g j (omega (arith, earlier, count)))
          | inr last ↦
              same i r s (sym (before_last old g i (omega (arith, less, last, count))) ∙ alike_there ∙ at_last old g j (count ∙ sym last)) there
              (ap (slice_get rules) (sym last) ∙ here)
        ]
