-- A line is read in one way, whichever lines there may be.
use Rattle.std.proofs.Common.{◌≡◌, ℕ, List, Some, None, ◌⊎◌, inl, inr, refl, ap, sym, ◌∙◌, arith}
use Rattle.std.specs.Str.{IsUtf8}
use Rattle.serde_json.specs.Read.{read}
use Rattle.serde_json.specs.Data.{Data}
use Rattle.desk_wire.specs.Reading.{Reading, ReadsAs, Blank, Long, Syntax, Shape, Says}

pub some_same : {A : Type 0} (x y : A) → Some x ≡ Some y → x ≡ y
some_same x y e = cc

unread : (text : List ℕ) (d : Data) → ¬ IsUtf8 text ⊎ (read text ≡ None) → IsUtf8 text → read text ≡ Some d → ⊥
unread text d (inl bytes) utf8 is = bytes utf8
unread text d (inr missing) utf8 is = let wrong : ⊥ = cc in wrong

module _ {L : Type 0} (object_of : L → Data) (IsLawful : L → Type 0) (one : (says other : L) → object_of says ≡ object_of other → says ≡ other) where
  pub read_once : (text : List ℕ) (x y : Reading L) → ReadsAs object_of IsLawful text x → ReadsAs object_of IsLawful text y → x ≡ y
  read_once text Long Long h k = refl
  read_once text Long Blank h k = let wrong : ⊥ = omega (arith, h, k.0) in absurd wrong
  read_once text Long Syntax h k = let wrong : ⊥ = omega (arith, h, k.0) in absurd wrong
  read_once text Long Shape h k = let wrong : ⊥ = omega (arith, h, k.0) in absurd wrong
  read_once text Long (Says m) h k = let wrong : ⊥ = omega (arith, h, k.0) in absurd wrong
  read_once text Blank Long h k = let wrong : ⊥ = omega (arith, k, h.0) in absurd wrong
  read_once text Blank Blank h k = refl
  read_once text Blank Syntax h k = absurd (k.1 h.1)
  read_once text Blank Shape h k = absurd (k.1 h.1)
  read_once text Blank (Says m) h k = absurd (k.1 h.1)
  read_once text Syntax Long h k = let wrong : ⊥ = omega (arith, k, h.0) in absurd wrong
  read_once text Syntax Blank h k = absurd (h.1 k.1)
  read_once text Syntax Syntax h k = refl
  read_once text Syntax Shape h k = absurd (unread text k.3.0 h.2 k.2 k.3.1)
  read_once text Syntax (Says m) h k = absurd (unread text (object_of m) h.2 k.2 k.3)
  read_once text Shape Long h k = let wrong : ⊥ = omega (arith, k, h.0) in absurd wrong
  read_once text Shape Blank h k = absurd (h.1 k.1)
  read_once text Shape Syntax h k = absurd (unread text h.3.0 k.2 h.2 h.3.1)
  read_once text Shape Shape h k = refl
  read_once text Shape (Says m) h k = absurd (h.3.2 m k.4 (some_same (object_of m) h.3.0 (sym k.3 ∙ h.3.1)))
  read_once text (Says l) Long h k = let wrong : ⊥ = omega (arith, k, h.0) in absurd wrong
  read_once text (Says l) Blank h k = absurd (h.1 k.1)
  read_once text (Says l) Syntax h k = absurd (unread text (object_of l) k.2 h.2 h.3)
  read_once text (Says l) Shape h k = absurd (k.3.2 l h.4 (some_same (object_of l) k.3.0 (sym h.3 ∙ k.3.1)))
  read_once text (Says l) (Says m) h k = ap Says (one l m (some_same (object_of l) (object_of m) (sym h.3 ∙ k.3)))
