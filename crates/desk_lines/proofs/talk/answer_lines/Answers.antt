use Rattle.std.proofs.Common.{◌∙◌, refl, sym}
use Rattle.std.proofs.lemmas.Result.{err_from_is_err_and}
use Rattle.desk_lines.proofs.Ending.{ran_cut}
use Rattle.desk_lines.proofs.Talking.{not_so, on_ok, ok_written, fault_written, cut_at_last, past_limit, within_limit}
use Rattle.desk_lines.proofs.talk.answer_lines.Goals as goal

pub returns-then-is_cut-clause-ran : goal.returns-then-is_cut-clause-ran
returns-then-is_cut-clause-ran g c =
    let e = c.is_cut.ensures.0 c.if-is_cut.true in
    ran_cut (g.C.Clerk.After c.answer_each-ended.new.clerk) (g.C.Clerk.Script c.args.clerk.now) _ _ _ _ _ e (c.answer_each-ended.ensures.cut e) (c.answer_each-ended.ensures.write_only_at_fault e)

pub returns-in_err-write_out-clause-ran : goal.returns-in_err-write_out-clause-ran
returns-in_err-write_out-clause-ran g c =
    let each = c.answer_each-ended.ensures in
    let n = not_so _ _ c.is_cut.ensures c.if-is_cut.false in
    let told = c.in_err-write_out.ensures in
    let p = err_from_is_err_and c.from_residual.result c.from_residual.ensures.1 in
    ran_cut (g.C.Clerk.After c.answer_each-ended.new.clerk) (g.C.Clerk.Script c.args.clerk.now) _ _ _ _ _ (rw (p.1, p.2, told.fault.0) refl)
    (cut_at_last (g.C.Clerk.After c.answer_each-ended.new.clerk) (g.C.Clerk.Script c.args.clerk.now) _ _ _ _ _ c.answer_each-ended.result
    (λ lines said a. each.keeps lines said (g.met.C.Clerk.follows c.answer_each-ended.new.clerk lines said a)) each.ok each.fault n told.part.1)
    (rw (each.writes n) at told.fault.1)

pub returns-clause-ran : goal.returns-clause-ran
returns-clause-ran g c =
    let each = c.answer_each-ended.ensures in
    let out = c.in_ok-write_out.ensures in
    let came = each.came in
    let n = not_so _ _ c.is_cut.ensures c.if-is_cut.false in
    record {
      ok = ok_written (g.C.Clerk.After c.answer_each-ended.new.clerk) (g.C.Clerk.Script c.args.clerk.now) _ _ _ _ _ c.answer_each-ended.result each.ok out.all out.nothing_waits;
      fault = fault_written (g.C.Clerk.After c.answer_each-ended.new.clerk) (g.C.Clerk.Script c.args.clerk.now) _ _ _ _ _ c.answer_each-ended.result each.fault n out.all out.nothing_waits;
      read_only_at_fault = each.read_only_at_fault;
      write_only_at_fault = λ e. absurd (n e);
      ok_without_fault = on_ok c.answer_each-ended.result _ (λ x e. (each.reads (λ h. let both = sym e ∙ h in let wrong : ⊥ = cc in wrong), out.counts ∙ each.writes n));
      write_told = λ _. out.counts ∙ each.writes n;
      read_told = λ e. each.reads (λ h. let both = sym e ∙ h in let wrong : ⊥ = cc in wrong);
      long_only_past_limit = λ e h. past_limit _ _ came.0 came.1 (came.4 e) h;
      ok_within_limit = on_ok c.answer_each-ended.result _ (λ x e. within_limit _ _ came.0 came.1 (rw e at came.2));
      read_within_limit = λ e. within_limit _ _ came.0 came.1 (came.3 e);
    }
