use Rattle.std.proofs.Common.{◌≡◌, ℕ, List, [], ◌∷◌, ◌++◌, map, length, refl, sym, ap, ◌∙◌, drop, arith}
use Rattle.std.specs.Arc.{arc_str_bytes}
use Rattle.std.specs.List.{zip}
use Rattle.std.proofs.lemmas.List.{append-nil, drop_all}
use Rattle.feel_value.specs.Datum.{entries_of}
use Rattle.feel_value.proofs.Entries.{named, entries_view-named}
use Rattle.dmn_table.specs.declared.table.Output.{Output}
use Rattle.dmn_table.proofs.output.named_values.Goals as goal
use Rattle.dmn_table.proofs.output.named_values.Goals.{else-loop-output-test, then-loop-output-test+in_default}

abbrev names : List Output → List (List ℕ)
names os = map (λ o. arc_str_bytes o.name) os

empty : {A : Type 0} (xs : List A) → length xs ≡ 0 → xs ≡ []
empty [] e = refl
empty (x ∷ xs) e = cc

zip_none : {A B : Type 0} (xs : List A) → zip {X = B} xs [] ≡ []
zip_none [] = refl
zip_none (x ∷ xs) = refl

pub returns : goal.returns
returns c =
    let outputs = c.args.outputs.now in
    let entries = c.loop-output.entries in
    let ends : zip (names (drop c.loop-output.output-index outputs)) c.loop-output.values.rest.items ≡ [] =
    elim c.loop-output-test.branch [
      | else-loop-output-test w ↦ ap (λ os. zip (names os) c.loop-output.values.rest.items) (drop_all c.loop-output.output-index outputs (omega (arith, w.loop-output-test.false)))
      | then-loop-output-test+in_default w ↦ ap (λ ds. zip (names (drop c.loop-output.output-index outputs)) ds) (empty c.loop-output.values.rest.items (omega (arith, w.in_default.ensures.cases.0, c.loop-output.values.rest.ok.0))) ∙ zip_none (names (drop c.loop-output.output-index outputs))
    ] in
    entries_view-named entries.items ∙ ap entries_of (sym (c.loop-output.invariant ∙ ap (λ ps. map named entries.items ++ ps) ends ∙ append-nil (map named entries.items)))
