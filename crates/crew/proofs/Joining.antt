-- What two lists give in a row, where one thing goes from the head of the second to the end of the first.
use Rattle.std.proofs.Common.{◌≡◌, ◌∙◌, ◌∷◌, ◌++◌, List, [], ap, append_assoc, map, sym}
use Rattle.std.proofs.lemmas.List.{map-append}

module _ {A B C : Type 0} (f : A → C) (p : B → C) where
  pub joined_step : (xs xs' : List A) (x : A) (hs hs' : List B) (h : B) (all : List C) → xs' ≡ xs ++ x ∷ [] → hs ≡ h ∷ hs' → f x ≡ p h
      → map f xs ++ map p hs ≡ all → map f xs' ++ map p hs' ≡ all
  joined_step xs xs' x hs hs' h all grown shrunk same before =
      ap (λ ys. map f ys ++ map p hs') grown ∙ ap (λ ys. ys ++ map p hs') (map-append f xs (x ∷ [])) ∙ append_assoc (map f xs) (f x ∷ []) (map p hs')
      ∙ ap (λ y. map f xs ++ y ∷ map p hs') same ∙ ap (λ ys. map f xs ++ map p ys) (sym shrunk) ∙ before
