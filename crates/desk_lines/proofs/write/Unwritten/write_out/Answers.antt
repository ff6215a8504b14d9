use Rattle.std.proofs.Common.{sym, ◌∙◌}
use Rattle.std.proofs.lemmas.Result.{err_from_is_err_and}
use Rattle.desk_lines.proofs.Gathering.{gathers_part}
use Rattle.desk_lines.proofs.write.Unwritten.write_out.Goals as goal

pub returns-in_err-write_all-clause-part : goal.returns-in_err-write_all-clause-part
returns-in_err-write_all-clause-part g c =
    let cut = rw c.deref.ensures.value at c.in_err-write_all.ensures in
    let p = err_from_is_err_and c.from_residual.result c.from_residual.ensures.1 in
    rw p.1 (cut.2.untold, gathers_part cut.2.told cut.2.untold c.args.self.now (sym c.self.view_is ∙ cut.2.begins) cut.2.written)
