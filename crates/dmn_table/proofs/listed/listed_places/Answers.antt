use Rattle.std.proofs.Common.{◌≡◌, List, [], ◌∷◌, ◌++◌, refl, sym, ap, ◌∙◌}
use Rattle.std.proofs.lemmas.List.{append-nil}
use Rattle.feel_value.specs.Datum.{Datum}
use Rattle.dmn_table.specs.Priority.{listed_places}
use Rattle.dmn_table.proofs.ZipEnd.{at_zip_end}
use Rattle.dmn_table.proofs.listed.listed_places.Goals as goal

no_values : (lists : List (List Datum)) → listed_places lists [] ≡ []
no_values [] = refl
no_values (ds ∷ lists) = refl

pub returns : goal.returns
returns c =
    sym (c.loop-listed.invariant
    ∙ ap (λ ps. c.loop-listed.places.items ++ ps)
    (at_zip_end (λ xs ys. listed_places xs ys) [] (λ ys. refl) (λ xs. no_values xs) c.loop-listed.listed-iterator c.next.new.self c.in-None.ensures.steps)
    ∙ append-nil c.loop-listed.places.items)
