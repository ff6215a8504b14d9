use Rattle.std.proofs.lemmas.Result.{err_from_is_err_and}
use Rattle.desk_serving.specs.LanesView.{lanes_in, names_in}
use Rattle.desk_serving.proofs.Owing.{handed_first}
use Rattle.desk_serving.proofs.Outcomes.{out_cut, out_cut_off, out_written}
use Rattle.desk_lines.proofs.Talking.{not_so}
use Rattle.desk_serving.proofs.ending.end_workers.Goals as goal

pub returns-then-is_cut-clause-written : goal.returns-then-is_cut-clause-written
returns-then-is_cut-clause-written g c = out_cut_off _ _ _ _ _ c.hand_out_last-handed.result (c.is_cut.ensures.0 c.if-is_cut.true) c.hand_out_last-handed.ensures.handed

pub returns-in_err-write_out-clause-written : goal.returns-in_err-write_out-clause-written
returns-in_err-write_out-clause-written g c =
    let names = names_in c.args.lanes.now in let old = lanes_in c.args.lanes.now in let new = lanes_in c.hand_out_last-handed.new.lanes in
    let told = c.in_err-write_out.ensures in
    let is = err_from_is_err_and c.from_residual.result c.from_residual.ensures.1 in
    rw (is.1, is.2, told.fault.0)
    (out_cut _ _ _ (g.W.Sink.seen c.hand_out_last-handed.new.writer) (g.W.Sink.seen c.write_out.new.writer) _ _ c.hand_out_last-handed.result (λ m p. handed_first names old new m p)
    (not_so _ _ c.is_cut.ensures c.if-is_cut.false) c.hand_out_last-handed.ensures.handed told.part.1 told.fault.1)

pub returns-clause-written : goal.returns-clause-written
returns-clause-written g c =
    let told = c.in_ok-write_out.ensures in
    out_written _ _ _ (g.W.Sink.seen c.hand_out_last-handed.new.writer) (g.W.Sink.seen c.write_out.new.writer) _ _ c.hand_out_last-handed.result (not_so _ _ c.is_cut.ensures c.if-is_cut.false)
    c.hand_out_last-handed.ensures.handed told.all told.nothing_waits told.counts
