-- Whether two requests are one can be decided.
use Rattle.std.proofs.Common.{◌≡◌, ◌≢◌, ◌⊎◌, inl, inr, Bool, true, false, true≢false, refl, sym, ap}
use Rattle.std.specs.Prelude.{bytes_eq}
use Rattle.std.specs.Bool.{Decides}
use Rattle.std.specs.Cmp.Lexicographic.{pointwise}
use Rattle.std.proofs.lemmas.Slice.Eq.{bytes_eq-Decides, slice_eq-Decides}
use Rattle.dmn_plan.specs.Identical.{is_same}
use Rattle.dmn_plan.specs.Request.{Request}
use Rattle.dmn_plan.proofs.Sameness.{is_same-Decides}

decided_by : {P : Type 0} (b : Bool) → Decides b P → P ⊎ (P → ⊥)
decided_by true d = inl (d.0 refl)
decided_by false d = inr (λ p. true≢false (sym (d.1 p)))

pub one_request : (a b : Request) → (a ≡ b) ⊎ (a ≢ b)
one_request a b =
    by_parts (decided_by (bytes_eq a.text b.text) (bytes_eq-Decides a.text b.text)) (decided_by (bytes_eq a.service b.service) (bytes_eq-Decides a.service b.service))
    (decided_by (pointwise is_same a.values b.values) (slice_eq-Decides is_same-Decides a.values b.values (pointwise is_same a.values b.values) refl))
  where
    by_parts : (a.text ≡ b.text) ⊎ (a.text ≢ b.text) → (a.service ≡ b.service) ⊎ (a.service ≢ b.service) → (a.values ≡ b.values) ⊎ (a.values ≢ b.values) → (a ≡ b) ⊎ (a ≢ b)
    by_parts (inl e) (inl f) (inl g) = inl (λ i. record { text = e i; service = f i; values = g i })
    by_parts (inr n) f g = inr (λ p. n (ap (λ (q : Request). q.text) p))
    by_parts (inl e) (inr n) g = inr (λ p. n (ap (λ (q : Request). q.service) p))
    by_parts (inl e) (inl f) (inr n) = inr (λ p. n (ap (λ (q : Request). q.values) p))
