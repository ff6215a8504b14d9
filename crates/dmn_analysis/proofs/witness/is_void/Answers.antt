use Rattle.std.proofs.Common.{pos, false, get_or}
use Rattle.std.proofs.lemmas.Option.{slice_get-get_or}
use Rattle.dmn_analysis.specs.declared.cell.Cell.{Cell}
use Rattle.dmn_analysis.specs.declared.cell.Others.TheVariants as others
use Rattle.dmn_analysis.proofs.Witnesses.{void_at}
use Rattle.dmn_analysis.proofs.witness.is_void.Goals as goal

pub returns-in-loop-place : goal.returns-in-loop-place
returns-in-loop-place c = λ _.
    let cells = c.args.cells.now in
    let place = c.loop-place.place in
    let none : Cell = record { null = false; yes = false; no = false; low = pos 0; high = pos 0; from = 0; to = 0; others = others.None; parted = false } in
    let cell = get_or cells place none in
    void_at c.args.words.now cells place cell (slice_get-get_or cells place none c.loop-place-test.true) (c.in_ok-value_at.ensures.none c.in-None.is)
