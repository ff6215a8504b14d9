use Rattle.std.proofs.Common.{◌∙◌, sym, ap, drop}
use Rattle.std.proofs.lemmas.List.{drop_all}
use Rattle.desk_checking.specs.TableTold.{have_others}
use Rattle.desk_checking.proofs.TableLines.{none_left}
use Rattle.desk_checking.proofs.cells.have_others.Goals as goal

pub returns-then-place-kinds : goal.returns-then-place-kinds
returns-then-place-kinds c =
    let cells = drop c.loop-place.place c.args.cells.now in
    sym (c.loop-place.invariant ∙ ap (have_others cells) (drop_all c.loop-place.place c.args.kinds.now c.if-place-kinds.true) ∙ none_left cells)
