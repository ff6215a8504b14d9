use Rattle.std.proofs.Common.{◌<◌, ◌++◌, Err, ap, refl, subst, ◌∙◌}
use Rattle.std.proofs.lemmas.Result.{err_from_is_err_and, on_ok_weaker}
use Rattle.desk_lines.proofs.Talking.{not_so}
use Rattle.desk_serving.specs.LanesView.{lanes_in, names_in}
use Rattle.desk_serving.specs.Owed.{AreFirst, AreHanded}
use Rattle.desk_serving.specs.Script.{texts_of}
use Rattle.desk_serving.proofs.Hearing.{kept_script}
use Rattle.desk_serving.proofs.Fronting.{after_more, in_part_more}
use Rattle.desk_serving.proofs.Running.{ends_in_part, ends_of, err_is, fault_of, goes_not, goes_without, ok_of, ran_from}
use Rattle.desk_serving.proofs.Saying.{ends_cut_off, ends_more, ends_stop}
use Rattle.desk_serving.proofs.run.ServeRunHost.run.Goals as goal

pub returns-else-goes_on : goal.returns-else-goes_on
returns-else-goes_on g c = let a = c.answer_lines-ended.ensures in record { ran = ran_from _ _ _ _ _ _ _ _ c.tie.ensures a.ran; waits = λ goes. absurd (not_so _ _ c.goes_on.ensures c.if-goes_on.false goes); writes = a.writes; links = a.same; reader = refl; writer = refl }

pub returns-in_ok-end_workers : goal.returns-in_ok-end_workers
returns-in_ok-end_workers g c =
    let a = c.answer_lines-ended.ensures in
    let ran = ran_from _ _ _ _ _ _ _ _ c.tie.ensures a.ran in
    let e = c.in_ok-end_workers.ensures in let written = e.written in
    let result = c.answer_lines-ended.result in
    let goes = c.goes_on.ensures.0 c.if-goes_on.true in
    let mid = c.answer_lines-ended.new.clerk in
    let ends = ends_more _ _ _ _ _ _ _ (AreHanded (names_in mid.lanes) (lanes_in mid.lanes) (lanes_in c.end_workers.new.lanes)) _
    (λ lines said more x h. after_more mid (record { rt = mid.rt; lanes = c.end_workers.new.lanes; plan = mid.plan; marks = mid.marks; texts = mid.texts }) lines said more x e.names refl h)
    result goes (ends_of _ _ _ _ _ _ result ran.ok ran.fault) written.ok in
    record {
      ran = record {
        ok = ok_of _ _ _ _ _ _ result ends;
        fault = fault_of _ _ _ _ _ _ result ends;
        read_only_at_fault = ran.read_only_at_fault;
        write_only_at_fault = λ h. absurd ((goes_without result goes).0 h);
        ok_without_fault = on_ok_weaker result (λ h. (h.0, written.counts (λ k. cc) ∙ h.1)) ran.ok_without_fault;
        write_told = λ n. written.counts (λ k. cc) ∙ a.writes n;
        read_told = ran.read_told;
        long_only_past_limit = ran.long_only_past_limit;
        ok_within_limit = ran.ok_within_limit;
        read_within_limit = ran.read_within_limit;
      };
      waits = λ goes. e.clear;
      writes = λ n. written.counts (λ h. cc) ∙ a.writes n;
      links = e.same ∙ a.same;
      reader = refl;
      writer = refl;
    }

pub returns-in_err-end_workers : goal.returns-in_err-end_workers
returns-in_err-end_workers g c =
    let a = c.answer_lines-ended.ensures in
    let ran = ran_from _ _ _ _ _ _ _ _ c.tie.ensures a.ran in
    let same = c.in_err-end_workers.ensures.same in let told = c.in_err-end_workers.ensures.written in
    let result = c.answer_lines-ended.result in
    let fault = c.in_err-end_workers.field-0.0 in
    let goes = c.goes_on.ensures.0 c.if-goes_on.true in
    let others = goes_without result goes in
    let mid = c.answer_lines-ended.new.clerk in
    let ended = ends_of _ _ _ _ _ _ result ran.ok ran.fault in
    let e = err_from_is_err_and c.from_residual.result c.from_residual.ensures.1 in
    rw (e.1, e.2) (record {
      ran = record {
        ok = tt;
        fault = ends_in_part _ _ _ _ _ _ fault told.only
            (λ w. ends_cut_off _ _ _ _ _ _ _ (AreFirst (names_in mid.lanes) (lanes_in mid.lanes))
            (λ lines said more x h. kept_script c.args.self.now.state mid lines (said ++ texts_of more) a.same (in_part_more mid lines said more x h))
            result goes ended (told.write (ap Err w)))
            (λ w. ends_stop _ _ _ _ _ _ _ (AreFirst (names_in mid.lanes) (lanes_in mid.lanes))
            (λ lines said more x h. kept_script c.args.self.now.state mid lines (said ++ texts_of more) a.same (in_part_more mid lines said more x h))
            result goes ended (told.memory (ap Err w)));
        read_only_at_fault = λ h. absurd (told.only.0 (err_is fault _ h));
        write_only_at_fault = λ h. subst (λ k. k < (g.W.Sink.seen c.end_workers.new.writer).faults) (a.writes others.0) (told.fault h);
        ok_without_fault = tt;
        write_told = λ n. told.counts n ∙ a.writes others.0;
        read_told = λ h. absurd (told.only.1 (err_is fault _ h));
        long_only_past_limit = λ h. absurd (told.only.1 (err_is fault _ h));
        ok_within_limit = tt;
        read_within_limit = λ h. absurd (told.only.0 (err_is fault _ h));
      };
      waits = λ on. absurd (goes_not (Unit {0}) fault told.only on);
      writes = λ n. told.counts n ∙ a.writes others.0;
      links = same ∙ a.same;
      reader = refl;
      writer = refl;
    })
