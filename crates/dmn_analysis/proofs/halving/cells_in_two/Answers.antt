use Rattle.std.proofs.Common.{sym, subst, set, get_or, pos, false}
use Rattle.std.proofs.lemmas.Option.{slice_get-get_or}
use Rattle.dmn_analysis.specs.Cutting.{AreHalves}
use Rattle.dmn_analysis.specs.declared.cell.Cell.{Cell}
use Rattle.dmn_analysis.specs.declared.cell.Others.TheVariants as others
use Rattle.dmn_analysis.proofs.Halves.{halves_at}
use Rattle.dmn_analysis.proofs.halving.cells_in_two.Goals as goal

pub returns : goal.returns
returns c =
    let cells = c.args.cells.now in
    let place = c.args.place in
    let none : Cell = record { null = false; yes = false; no = false; low = pos 0; high = pos 0; from = 0; to = 0; others = others.None; parted = false } in
    let halves = halves_at cells place (get_or cells place none) c.in_two.result.0 c.in_two.result.1 c.requires (slice_get-get_or cells place none c.requires) c.in_two.ensures in
    subst (λ a. AreHalves cells a c.in_ok-above.above.items) (sym c.in_ok-below.ensures) (subst (λ b. AreHalves cells (set cells place c.in_two.result.0) b) (sym c.in_ok-above.ensures) halves)
