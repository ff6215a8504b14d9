-- The plans of names, one after another.
use Rattle.std.proofs.Common.{◌≡◌, ◌∙◌, refl, sym, ap, ℕ, ◌+◌, ◌<◌, List, [], ◌∷◌, ◌++◌, length, get_or, map, drop, Option, None, Some}
use Rattle.std.proofs.lemmas.List.{at_drop_more}
use Rattle.feel_value.specs.Found.{each, ◌>>=◌}
use Rattle.dmn_table.proofs.Each.{after, after_more}

pub one_lacks : {X Y : Type 0} (f : X → Option Y) (whole : Option (List Y)) (xs : List X) (ys : List Y) (i : ℕ) (d : X) → whole ≡ after ys (each f (drop i xs)) → i < length xs → None ≡ f (get_or xs i d) → None ≡ whole
one_lacks f whole xs ys i d before inside lacks =
    sym (before ∙ at_drop_more (λ zs. after ys (each f zs)) xs i d inside ∙ ap (λ o. after ys (o >>= λ y. each f (drop (i + 1) xs) >>= λ zs. Some (y ∷ zs))) (sym lacks))

pub one_found : {X Y : Type 0} (f : X → Option Y) (whole : Option (List Y)) (xs : List X) (ys next : List Y) (i : ℕ) (d : X) (y : Y) → whole ≡ after ys (each f (drop i xs)) → i < length xs → Some y ≡ f (get_or xs i d) → next ≡ ys ++ y ∷ []
    → whole ≡ after next (each f (drop (i + 1) xs))
one_found f whole xs ys next i d y before inside found pushed =
    before ∙ at_drop_more (λ zs. after ys (each f zs)) xs i d inside ∙ ap (λ o. after ys (o >>= λ z. each f (drop (i + 1) xs) >>= λ zs. Some (z ∷ zs))) (sym found)
    ∙ after_more ys y (each f (drop (i + 1) xs)) ∙ ap (λ zs. after zs (each f (drop (i + 1) xs))) (sym pushed)

pub mapped_more : {X Y : Type 0} (g : X → Y) (old next : List X) (x : X) → next ≡ old ++ x ∷ [] → map g next ≡ map g old ++ g x ∷ []
mapped_more {X = X} g old next x pushed = ap (map g) pushed ∙ appended old
  where
    appended : (xs : List X) → map g (xs ++ x ∷ []) ≡ map g xs ++ g x ∷ []
    appended [] = refl
    appended (z ∷ xs) = ap (λ ys. g z ∷ ys) (appended xs)
