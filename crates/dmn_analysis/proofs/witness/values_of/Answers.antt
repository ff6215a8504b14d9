use Rattle.std.proofs.Common.{◌≡◌, true, ◌∙◌, sym, ap, subst, pos, false, arith, length, get_or, [], ◌∷◌}
use Rattle.std.specs.List.{slice_get, All}
use Rattle.std.proofs.lemmas.List.{length-append}
use Rattle.std.proofs.lemmas.List.Elements.{All-push}
use Rattle.std.proofs.lemmas.Option.{slice_get-get_or}
use Rattle.feel_value.specs.Limits.{is_value}
use Rattle.dmn_analysis.specs.declared.cell.Cell.{Cell}
use Rattle.dmn_analysis.specs.declared.cell.Others.TheVariants as others
use Rattle.dmn_analysis.proofs.Witnesses.{AreInFirst, all_in, one_more_in, void_at}
use Rattle.dmn_analysis.proofs.witness.values_of.Goals as goal

pub loop-place-preserved : goal.loop-place-preserved
loop-place-preserved c =
    let words = c.args.words.now in
    let cells = c.args.cells.now in
    let values = c.loop-place.values.items in
    let place = c.loop-place.place in
    let none : Cell = record { null = false; yes = false; no = false; low = pos 0; high = pos 0; from = 0; to = 0; others = others.None; parted = false } in
    let cell = get_or cells place none in
    let value = c.in-Some.value in
    let is = c.in_ok-push.ensures.items in
    let long = c.loop-place.invariant.0 in
    let there = ap (slice_get cells) long ∙ slice_get-get_or cells place none c.loop-place-test.true in
    let inside = rw c.in-Some.is at c.in_ok-value.ensures.inside in (
      ap length is ∙ omega (arith, long, length-append values (value ∷ [])),
      subst (AreInFirst words cells) (sym is) (one_more_in words cells values cell value c.loop-place.invariant.1 there (λ ws of. inside ws (ap (slice_get words) (sym long) ∙ of))),
      subst (All (λ v. is_value v ≡ true)) (sym is) (All-push (λ v. is_value v ≡ true) values value c.loop-place.invariant.2 (rw c.in-Some.is at c.in_ok-value.ensures.lawful)),
    )

pub returns-clause-lawful : goal.returns-clause-lawful
returns-clause-lawful c = c.loop-place.invariant.2

pub returns-in_default-clause-none : goal.returns-in_default-clause-none
returns-in_default-clause-none c = λ none.
    let cells = c.args.cells.now in
    let place = c.loop-place.place in
    let none : Cell = record { null = false; yes = false; no = false; low = pos 0; high = pos 0; from = 0; to = 0; others = others.None; parted = false } in
    let cell = get_or cells place none in
    void_at c.args.words.now cells place cell (slice_get-get_or cells place none c.loop-place-test.true) (c.in_ok-value.ensures.none c.in_default.is)

pub returns-clause-inside : goal.returns-clause-inside
returns-clause-inside c = all_in c.args.words.now c.args.cells.now c.loop-place.values.items c.loop-place.invariant.1

pub returns-clause-long : goal.returns-clause-long
returns-clause-long c = c.loop-place.invariant.0 ∙ omega (arith, c.loop-place-test.false, c.loop-place.auto.place-end)
