-- Names with values, one binding after the other.
use Rattle.std.proofs.Common.{◌≡◌, ◌∙◌, sym, ap, refl, ℕ, suc, Bool, true, false, List, [], ◌∷◌, ◌++◌, length, Option, Some, None, bytes_eq, if◌then◌else◌}
use Rattle.std.proofs.lemmas.Slice.Eq.{bytes_eq-Decides}
use Rattle.feel_text.specs.Places.{place_after, last_place}

pub same_text : (a b : List ℕ) → bytes_eq a b ≡ true → a ≡ b
same_text a b h = (bytes_eq-Decides a b).0 h

pub text_itself : (a : List ℕ) → bytes_eq a a ≡ true
text_itself a = (bytes_eq-Decides a a).1 refl

turned : (a b : List ℕ) (s t : Bool) → bytes_eq a b ≡ s → bytes_eq b a ≡ t → s ≡ t
turned a b true true p q = refl
turned a b false false p q = refl
turned a b true false p q = sym (ap (λ x. bytes_eq x a) (sym (same_text a b p)) ∙ text_itself a) ∙ q
turned a b false true p q = sym (sym (ap (λ x. bytes_eq x b) (sym (same_text b a q)) ∙ text_itself b) ∙ p)

pub bytes_eq-turned : (a b : List ℕ) → bytes_eq a b ≡ bytes_eq b a
bytes_eq-turned a b = turned a b (bytes_eq a b) (bytes_eq b a) refl refl

one_on : (t : Bool) (n : ℕ) (o p : Option ℕ) → place_after (if t then Some n else o) p ≡ (if t then Some (suc n) else place_after o p)
one_on true n o p = refl
one_on false n o p = refl

-- the last binding of the name is the last one, or it is among the others
pub last_place-push : {X : Type 0} (name : List ℕ) (bs : List (List ℕ × X)) (b : List ℕ × X) → last_place name (bs ++ b ∷ []) ≡ (if bytes_eq name b.0 then Some (length bs) else last_place name bs)
last_place-push name [] b = refl
last_place-push name (c ∷ bs) b =
    ap (λ o. place_after o (if bytes_eq name c.0 then Some 0 else None)) (last_place-push name bs b)
    ∙ one_on (bytes_eq name b.0) (length bs) (last_place name bs) (if bytes_eq name c.0 then Some 0 else None)
