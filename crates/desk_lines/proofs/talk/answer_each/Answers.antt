use Rattle.std.proofs.Common.{[], Err, ap, arith, ◌∙◌, subst, sym}
use Rattle.desk_lines.specs.LineReader.{IsInStep}
use Rattle.std.proofs.lemmas.Result.{err_from_is_err_and}
use Rattle.desk_lines.proofs.CatchingUp.{part_weaker, says_weaker}
use Rattle.desk_lines.proofs.Gathering.{gathers_none}
use Rattle.desk_lines.proofs.Talking.{progress_caught, progress_cut, progress_held, progress_lost, progress_end, progress_last, progress_refused, progress_refused_by, progress_next, first_line, first_of_last, none_begun, still_open, progress_seen, number_small, stops_at_once, on_err, on_ok}
use Rattle.desk_lines.proofs.talk.answer_each.Goals as goal

pub returns-in_err-lines-clause-fault : goal.returns-in_err-lines-clause-fault
returns-in_err-lines-clause-fault g c =
    let p = err_from_is_err_and c.from_residual.result c.from_residual.ensures.1 in
    rw (p.1, p.2) (λ n. record {
      text = [];
      gathers = rw c.requires.nothing_waits (gathers_none _ []);
      ends = stops_at_once (g.C.Clerk.Script c.args.clerk.now) _ (g.met.C.Clerk.follows c.args.clerk.now [] [] c.requires.starts);
    })

pub returns-in_err-before_read-clause-fault : goal.returns-in_err-before_read-clause-fault
returns-in_err-before_read-clause-fault g c =
    let told = c.in_err-before_read.ensures in
    let e = err_from_is_err_and c.from_residual-in_err-before_read.result c.from_residual-in_err-before_read.ensures.1 in
    rw (e.1, e.2) (λ n.
    progress_held (g.C.Clerk.Script c.args.clerk.now) _ (progress_seen (ap (λ s. s.remaining) c.before_read.ensures.source) c.lines.invariant.underway.progress) c.in_err-before_read.field-0.0 told.only n
    (λ e. says_weaker _ (g.C.Clerk.Script c.lines.clerk) (g.C.Clerk.Script c.args.clerk.now) c.lines.invariant.keeps (told.memory (ap Err e))))

pub returns-in_err-before_read-clause-cut : goal.returns-in_err-before_read-clause-cut
returns-in_err-before_read-clause-cut g c = λ h.
    let told = c.in_err-before_read.ensures in
    let e = err_from_is_err_and c.from_residual-in_err-before_read.result c.from_residual-in_err-before_read.ensures.1 in
    let part = told.write (ap Err (sym e.2) ∙ sym e.1 ∙ h) in
    progress_cut (g.C.Clerk.Script c.args.clerk.now) (progress_seen (ap (λ s. s.remaining) c.before_read.ensures.source) c.lines.invariant.underway.progress)
    (says_weaker _ (g.C.Clerk.Script c.lines.clerk) (g.C.Clerk.Script c.args.clerk.now) c.lines.invariant.keeps part.1)

pub returns-in_err-next_line-clause-fault : goal.returns-in_err-next_line-clause-fault
returns-in_err-next_line-clause-fault g c =
    let told = c.in_err-next_line.ensures in
    let u = c.lines.invariant.underway in let lost = told.lost u.begun u.one u.keeps in
    let p = progress_caught {After' = g.C.Clerk.After c.before_read.new.clerk} (progress_seen (ap (λ s. s.remaining) c.before_read.ensures.source) c.lines.invariant.underway.progress) c.in_ok-before_read.ensures.said in
    let e = err_from_is_err_and c.from_residual-in_err-next_line.result c.from_residual-in_err-next_line.ensures.1 in
    rw (e.1, e.2) (λ n. record {
      text = _;
      gathers = p.gathers;
      ends = progress_lost (g.C.Clerk.After c.before_read.new.clerk) (g.C.Clerk.Script c.args.clerk.now) p c.in_err-next_line.field-0.0 lost.0 lost.1 lost.2
          (λ e. told.never (ap Err e)) (λ e. (told.read (ap Err e)).1) (λ e. told.long (ap Err e))
          (λ lines said a. a) (λ lines said a. c.lines.invariant.keeps lines said (c.in_ok-before_read.ensures.keeps lines said (g.met.C.Clerk.follows c.before_read.new.clerk lines said a)));
    })

pub returns-in_err-answer_line-in-Line-clause-fault : goal.returns-in_err-answer_line-in-Line-clause-fault
returns-in_err-answer_line-in-Line-clause-fault g c =
    let told = c.in_err-answer_line-in-Line.ensures in
    let u = c.lines.invariant.underway in let took = (rw c.in-Line.is at c.in_ok-next_line.ensures.took) u.begun u.one u.keeps in
    let p = progress_caught {After' = g.C.Clerk.After c.before_read.new.clerk} (progress_seen (ap (λ s. s.remaining) c.before_read.ensures.source) c.lines.invariant.underway.progress) c.in_ok-before_read.ensures.said in
    let e = err_from_is_err_and c.from_residual-in_err-answer_line-in-Line.result c.from_residual-in_err-answer_line-in-Line.ensures.1 in
    rw (e.1, e.2) (λ n.
    progress_refused_by (g.C.Clerk.Script c.args.clerk.now) _ p took.0 _ c.in_err-answer_line-in-Line.field-0.0 took.1
    (first_line p (g.R.Source.seen c.next_line.new.source).remaining took.0 _ _ took.2)
    told.only n (λ e. part_weaker (g.C.Clerk.After c.before_read.new.clerk) (g.C.Clerk.Script c.before_read.new.clerk) (g.C.Clerk.Script c.args.clerk.now) (λ lines said a. c.lines.invariant.keeps lines said (c.in_ok-before_read.ensures.keeps lines said a)) (told.memory (ap Err e))))

pub returns-in_err-answer_line-in-Line-clause-cut : goal.returns-in_err-answer_line-in-Line-clause-cut
returns-in_err-answer_line-in-Line-clause-cut g c = λ h.
    let told = c.in_err-answer_line-in-Line.ensures in
    let u = c.lines.invariant.underway in let took = (rw c.in-Line.is at c.in_ok-next_line.ensures.took) u.begun u.one u.keeps in
    let p = progress_caught {After' = g.C.Clerk.After c.before_read.new.clerk} (progress_seen (ap (λ s. s.remaining) c.before_read.ensures.source) c.lines.invariant.underway.progress) c.in_ok-before_read.ensures.said in
    let e = err_from_is_err_and c.from_residual-in_err-answer_line-in-Line.result c.from_residual-in_err-answer_line-in-Line.ensures.1 in
    progress_refused (g.C.Clerk.Script c.args.clerk.now) p took.0 _ took.1
    (first_line p (g.R.Source.seen c.next_line.new.source).remaining took.0 _ _ took.2)
    (part_weaker (g.C.Clerk.After c.before_read.new.clerk) (g.C.Clerk.Script c.before_read.new.clerk) (g.C.Clerk.Script c.args.clerk.now) (λ lines said a. c.lines.invariant.keeps lines said (c.in_ok-before_read.ensures.keeps lines said a)) (told.write (ap Err (sym e.2) ∙ sym e.1 ∙ h)).1)

pub returns-in-Last-clause-ok : goal.returns-in-Last-clause-ok
returns-in-Last-clause-ok g c =
    let u = c.lines.invariant.underway in let took = (rw c.in-Last.is at c.in_ok-next_line.ensures.took) u.begun u.one u.keeps in
    let short = rw c.in-Last.is at c.in_ok-next_line.ensures.within in
    let p = progress_caught {After' = g.C.Clerk.After c.before_read.new.clerk} (progress_seen (ap (λ s. s.remaining) c.before_read.ensures.source) c.lines.invariant.underway.progress) c.in_ok-before_read.ensures.said in
    on_ok c.answer_line-in-Last.result _ (λ x e.
    progress_last (g.C.Clerk.After c.answer_line-in-Last.new.clerk) p took.0 _ _ _ took.1 took.2 (short (λ f. cc) (λ f. cc))
    (rw e at c.answer_line-in-Last.ensures.said)
    (λ lines said a. a))

pub returns-in-Last-clause-fault : goal.returns-in-Last-clause-fault
returns-in-Last-clause-fault g c =
    let u = c.lines.invariant.underway in let took = (rw c.in-Last.is at c.in_ok-next_line.ensures.took) u.begun u.one u.keeps in
    let short = rw c.in-Last.is at c.in_ok-next_line.ensures.within in
    let p = progress_caught {After' = g.C.Clerk.After c.before_read.new.clerk} (progress_seen (ap (λ s. s.remaining) c.before_read.ensures.source) c.lines.invariant.underway.progress) c.in_ok-before_read.ensures.said in
    on_err c.answer_line-in-Last.result _ (λ e is n.
    progress_refused_by (g.C.Clerk.Script c.args.clerk.now) _ p took.0 _ e took.1
    (first_of_last p took.0 _ _ took.1 took.2 (short (λ f. cc) (λ f. cc)))
    (rw is at c.answer_line-in-Last.ensures.only) n
    (λ f. part_weaker (g.C.Clerk.After c.before_read.new.clerk) (g.C.Clerk.Script c.before_read.new.clerk) (g.C.Clerk.Script c.args.clerk.now) (λ lines said a. c.lines.invariant.keeps lines said (c.in_ok-before_read.ensures.keeps lines said a)) (c.answer_line-in-Last.ensures.memory (is ∙ ap Err f))))

pub returns-in-Last-clause-cut : goal.returns-in-Last-clause-cut
returns-in-Last-clause-cut g c = λ h.
    let u = c.lines.invariant.underway in let took = (rw c.in-Last.is at c.in_ok-next_line.ensures.took) u.begun u.one u.keeps in
    let short = rw c.in-Last.is at c.in_ok-next_line.ensures.within in
    let p = progress_caught {After' = g.C.Clerk.After c.before_read.new.clerk} (progress_seen (ap (λ s. s.remaining) c.before_read.ensures.source) c.lines.invariant.underway.progress) c.in_ok-before_read.ensures.said in
    progress_refused (g.C.Clerk.Script c.args.clerk.now) p took.0 _ took.1
    (first_of_last p took.0 _ _ took.1 took.2 (short (λ f. cc) (λ f. cc)))
    (part_weaker (g.C.Clerk.After c.before_read.new.clerk) (g.C.Clerk.Script c.before_read.new.clerk) (g.C.Clerk.Script c.args.clerk.now) (λ lines said a. c.lines.invariant.keeps lines said (c.in_ok-before_read.ensures.keeps lines said a)) (c.answer_line-in-Last.ensures.write h).1)

pub returns-in-End-clause-ok : goal.returns-in-End-clause-ok
returns-in-End-clause-ok g c =
    let u = c.lines.invariant.underway in let took = (rw c.in-End.is at c.in_ok-next_line.ensures.took) u.begun u.one u.keeps in
    let short = rw c.in-End.is at c.in_ok-next_line.ensures.within in
    let p = progress_caught {After' = g.C.Clerk.After c.before_read.new.clerk} (progress_seen (ap (λ s. s.remaining) c.before_read.ensures.source) c.lines.invariant.underway.progress) c.in_ok-before_read.ensures.said in
    record {
      text = _;
      gathers = p.gathers;
      ends = progress_end (g.C.Clerk.After c.before_read.new.clerk) p took.0 _ c.next_line.new.line took.1 took.2 (short (λ f. cc) (λ f. cc)) (λ lines said a. a);
    }

pub returns-in-Last-clause-reads : goal.returns-in-Last-clause-reads
returns-in-Last-clause-reads g c =
    λ _. c.in_ok-next_line.ensures.counts (λ e. cc) ∙ ap (λ s. s.faults) c.before_read.ensures.source ∙ c.lines.invariant.reads

pub overflow_add-number : goal.overflow_add-number
overflow_add-number g c = let small = number_small c.lines.invariant.underway.progress in omega arith

pub lines-preserved : goal.lines-preserved
lines-preserved g c =
    let u = c.lines.invariant.underway in let took = (rw c.in-Line.is at c.in_ok-next_line.ensures.took) u.begun u.one u.keeps in
    let p = progress_caught {After' = g.C.Clerk.After c.before_read.new.clerk} (progress_seen (ap (λ s. s.remaining) c.before_read.ensures.source) c.lines.invariant.underway.progress) c.in_ok-before_read.ensures.said in
    record {
      underway = none_begun c.clear.ensures (progress_next p took.0 _ _ _ took.1 took.2 c.in_ok-answer_line-in-Line.ensures.said);
      reads = c.in_ok-next_line.ensures.counts (λ e. cc) ∙ ap (λ s. s.faults) c.before_read.ensures.source ∙ c.lines.invariant.reads;
      writes = c.in_ok-answer_line-in-Line.ensures.counts (λ e. cc) ∙ c.in_ok-before_read.ensures.counts (λ e. cc) ∙ c.lines.invariant.writes;
      in_step = c.in_ok-next_line.ensures.in_step _ (subst (λ s. IsInStep (g.R.Source.seen c.args.reader.now).came s.came c.lines.lines.came) (sym c.before_read.ensures.source) c.lines.invariant.in_step);
      keeps = λ lines said h. c.lines.invariant.keeps lines said (c.in_ok-before_read.ensures.keeps lines said (c.in_ok-answer_line-in-Line.ensures.keeps lines said h));
      same = c.in_ok-answer_line-in-Line.ensures.same ∙ c.in_ok-before_read.ensures.same ∙ c.lines.invariant.same;
    }

pub lines-preserved-in-Open : goal.lines-preserved-in-Open
lines-preserved-in-Open g c =
    let u = c.lines.invariant.underway in let took = (rw c.in-Open.is at c.in_ok-next_line.ensures.took) u.begun u.one u.keeps in
    let p = progress_caught {After' = g.C.Clerk.After c.before_read.new.clerk} (progress_seen (ap (λ s. s.remaining) c.before_read.ensures.source) c.lines.invariant.underway.progress) c.in_ok-before_read.ensures.said in
    record {
      underway = still_open p took.0 _ took.1 took.2;
      reads = c.in_ok-next_line.ensures.counts (λ e. cc) ∙ ap (λ s. s.faults) c.before_read.ensures.source ∙ c.lines.invariant.reads;
      writes = c.in_ok-before_read.ensures.counts (λ e. cc) ∙ c.lines.invariant.writes;
      in_step = c.in_ok-next_line.ensures.in_step _ (subst (λ s. IsInStep (g.R.Source.seen c.args.reader.now).came s.came c.lines.lines.came) (sym c.before_read.ensures.source) c.lines.invariant.in_step);
      keeps = λ lines said h. c.lines.invariant.keeps lines said (c.in_ok-before_read.ensures.keeps lines said h);
      same = c.in_ok-before_read.ensures.same ∙ c.lines.invariant.same;
    }

pub answer_line-requires-clause-few : goal.answer_line-requires-clause-few
answer_line-requires-clause-few g c = let small = number_small c.lines.invariant.underway.progress in omega arith

pub answer_line-requires-in-Last-clause-few : goal.answer_line-requires-in-Last-clause-few
answer_line-requires-in-Last-clause-few g c = let small = number_small c.lines.invariant.underway.progress in omega arith

pub answer_line-requires-clause-stands : goal.answer_line-requires-clause-stands
answer_line-requires-clause-stands g c = let p = progress_caught {After' = g.C.Clerk.After c.before_read.new.clerk} (progress_seen (ap (λ s. s.remaining) c.before_read.ensures.source) c.lines.invariant.underway.progress) c.in_ok-before_read.ensures.said in (p.done, p.said, p.stands, p.counted)

pub answer_line-requires-in-Last-clause-stands : goal.answer_line-requires-in-Last-clause-stands
answer_line-requires-in-Last-clause-stands g c = let p = progress_caught {After' = g.C.Clerk.After c.before_read.new.clerk} (progress_seen (ap (λ s. s.remaining) c.before_read.ensures.source) c.lines.invariant.underway.progress) c.in_ok-before_read.ensures.said in (p.done, p.said, p.stands, p.counted)
