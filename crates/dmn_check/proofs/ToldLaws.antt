-- What is told of a list of findings, from the notes of them.
use Rattle.std.proofs.Common.{◌≡◌, ℕ, ◌+◌, suc, ◌≤◌, List, [], ◌∷◌, ◌++◌, map, length, take, refl, sym, ap, ap₂, ◌∙◌, Bool, true, false, nat_lt, if◌then◌else◌, append_assoc, append-nil, take_all, zero-add, arith, lit≤}
use Rattle.std.proofs.lemmas.Grind.{common_steps}
use Rattle.std.proofs.lemmas.Bool.Decides.{nat_tests}
use Rattle.std.proofs.lemmas.List.{take-append-le}
use Rattle.dmn_check.specs.Findings.{Finding}
use Rattle.dmn_check.specs.Notes.{Notes, empty, from, with_one, with_all, most_findings, most_counted}
use Rattle.dmn_check.specs.Told.{capped, first_of, have_any}

module _ (n : ℕ) where
  kept_by : {X : Type 0} (fs : List X) (f : X) (gs : List X) (b : Bool) → nat_lt (length fs) n ≡ b → take n ((if b then fs ++ f ∷ [] else fs) ++ gs) ≡ take n (fs ++ f ∷ gs)
  kept_by fs f gs true e = ap (take n) (append_assoc fs (f ∷ []) gs)
  kept_by fs f gs false e =
      let h : n ≤ length fs = grind (arith, nat_tests) in
      take-append-le n fs gs h ∙ sym (take-append-le n fs (f ∷ gs) h)

  kept_within : {X : Type 0} (fs : List X) (f : X) (b : Bool) → nat_lt (length fs) n ≡ b → length fs ≤ n → length (if b then fs ++ f ∷ [] else fs) ≤ n
  kept_within fs f true e h = grind (arith, common_steps, nat_tests)
  kept_within fs f false e h = h

  counted_within : (m : ℕ) (b : Bool) → nat_lt m n ≡ b → m ≤ n → (if b then suc m else m) ≤ n
  counted_within m true e h = grind (arith, nat_tests)
  counted_within m false e h = h

  counted_by : (m k : ℕ) (b : Bool) → nat_lt m n ≡ b → m ≤ n
      → (if nat_lt ((if b then suc m else m) + k) n then (if b then suc m else m) + k else n) ≡ (if nat_lt (m + suc k) n then m + suc k else n)
  counted_by m k true e h = ap (λ j. if nat_lt j n then j else n) (omega arith)
  counted_by m k false e h = capped_both (m + k) (m + suc k) (nat_lt (m + k) n) (nat_lt (m + suc k) n) refl refl (grind (arith, nat_tests)) (grind (arith, nat_tests))
    where
      capped_both : (x y : ℕ) (b d : Bool) → nat_lt x n ≡ b → nat_lt y n ≡ d → n ≤ x → n ≤ y → (if b then x else n) ≡ (if d then y else n)
      capped_both x y true d e f h i = grind (arith, nat_tests)
      capped_both x y false true e f h i = grind (arith, nat_tests)
      capped_both x y false false e f h i = refl

from_start : (fs : List Finding) → map (from []) fs ≡ fs
from_start [] = refl
from_start (f ∷ fs) = ap (λ gs. f ∷ gs) (from_start fs)

-- the findings that are kept
kept_first : (c : Notes) (fs : List Finding) → length c.findings ≤ most_findings → (with_all c fs).findings ≡ take most_findings (c.findings ++ map (from c.path) fs)
kept_first c [] h = sym (ap (take most_findings) (append-nil c.findings) ∙ take_all most_findings c.findings h)
kept_first c (f ∷ fs) h =
    kept_first (with_one c f) fs (kept_within most_findings c.findings (from c.path f) (nat_lt (length c.findings) most_findings) refl h)
    ∙ kept_by most_findings c.findings (from c.path f) (map (from c.path) fs) (nat_lt (length c.findings) most_findings) refl

capped_within : (n : ℕ) → n ≤ most_counted → n ≡ capped (n + 0)
capped_within n h = grind (arith, nat_tests)

-- how many are counted
counted_all : (c : Notes) (fs : List Finding) → c.count ≤ most_counted → (with_all c fs).count ≡ capped (c.count + length fs)
counted_all c [] h = capped_within c.count h
counted_all c (f ∷ fs) h =
    counted_all (with_one c f) fs (counted_within most_counted c.count (nat_lt c.count most_counted) refl h)
    ∙ counted_by most_counted c.count (length fs) (nat_lt c.count most_counted) refl h

pub told_first : (fs : List Finding) → (with_all empty fs).findings ≡ take most_findings fs
told_first fs = kept_first empty fs (lit≤ tt) ∙ ap (take most_findings) (from_start fs)

pub told_count : (fs : List Finding) → (with_all empty fs).count ≡ capped (length fs)
told_count fs = counted_all empty fs (lit≤ tt) ∙ ap capped (zero-add (length fs))

-- something is told exactly where there is a finding
pub some_told : (fs : List Finding) → nat_lt 0 (capped (length fs)) ≡ have_any fs
some_told [] = refl
some_told (f ∷ fs) = grind (arith, nat_tests)

-- what is told of the notes
pub told_of : (fs : List Finding) (c : Notes) → with_all empty fs ≡ c → record { findings = c.findings; count = c.count } ≡ first_of fs
told_of fs c e =
    ap (λ (d : Notes). record { findings = d.findings; count = d.count }) (sym e)
    ∙ ap₂ (λ gs n. record { findings = gs; count = n }) (told_first fs) (told_count fs)
