use Rattle.std.proofs.Common.{◌≡◌, ◌∙◌, sym, ap, subst, true, false, if◌then◌else◌, None, Some}
use Rattle.std.specs.Option.{IfSome}
use Rattle.std.proofs.lemmas.Option.{same_Some}
use Rattle.feel_value.specs.Limits.{is_value}
use Rattle.feel_value.specs.View.{datum_of}
use Rattle.dmn_analysis.specs.Cells.{is_in}
use Rattle.dmn_analysis.specs.Telling.{IsInAt}
use Rattle.dmn_analysis.specs.declared.cell.Words.{Words}
use Rattle.dmn_analysis.proofs.Places.{at_place}
use Rattle.dmn_analysis.proofs.witness.value_at.Goals as goal

pub returns-in_default-clause-none : goal.returns-in_default-clause-none
returns-in_default-clause-none c = λ _.
    let ws = c.index-words-place.result in
    record {
      ws = ws;
      there = at_place c.args.words.now c.args.place ws c.if-place-words.false c.index-words-place.is;
      none = λ v lawful. subst (λ ts. is_in ts c.args.cell v ≡ false) (c.deref.ensures.value ∙ ap (λ (w : Words). w.texts.items) (sym c.index-words-place.is)) (c.in_ok-value.ensures.none c.in_default.is v lawful);
    }

pub returns-clause-inside : goal.returns-clause-inside
returns-clause-inside c =
    let v = datum_of c.in-Some.value in
    let words = c.args.words.now in
    let place = c.args.place in
    let one = c.index-words-place.result in
    let lawful : is_value v ≡ true = rw c.in-Some.is at c.in_ok-value.ensures.lawful in
    let inside : is_in c.deref.result.now c.args.cell v ≡ true = rw c.in-Some.is at c.in_ok-value.ensures.inside in
    let there = at_place words place one c.if-place-words.false c.index-words-place.is in
    subst (λ o. IfSome o (IsInAt words place c.args.cell)) (sym (c.of-2.ensures ∙ ap (λ b. if b then Some v else None) lawful))
    (λ ws here. subst (λ ts. is_in ts c.args.cell v ≡ true) (c.deref.ensures.value ∙ ap (λ (w : Words). w.texts.items) (sym c.index-words-place.is ∙ same_Some one ws (sym there ∙ here))) inside)
