-- Requests that are one and the same.
use Rattle.std.proofs.Common.{◌≡◌, ◌↔◌, IsTrue, ℕ, List, Bool, true, sym, ap, ◌∙◌}
use Rattle.std.specs.Prelude.{bytes_eq}
use Rattle.std.proofs.lemmas.Slice.Eq.{bytes_eq-Decides}
use Rattle.dmn_plan.specs.Request.{Request}

-- two requests to one service of one text, whose values were compared
pub as_one : (x y : Request) (b : Bool) → x.text ≡ y.text → x.service ≡ y.service → IsTrue b ↔ (x.values ≡ y.values) → IsTrue b ↔ (x ≡ y)
as_one x y b t s h =
    ((λ w. let v = h.0 w in λ k. record { text = t k; service = s k; values = v k }), λ p. h.1 (ap (λ q. q.values) p))

pub equal_texts : (s t : List ℕ) (b : Bool) → b ≡ bytes_eq s t → b ≡ true → s ≡ t
equal_texts s t b e h = (bytes_eq-Decides s t).0 (sym e ∙ h)
