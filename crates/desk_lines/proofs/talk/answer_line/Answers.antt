use Rattle.std.proofs.Common.{◌≡◌, Err, ap, sym, ◌∙◌}
use Rattle.std.proofs.lemmas.Result.{err_from_is_err_and}
use Rattle.desk_lines.specs.declared.fault.FrontFault.TheVariants.{Memory, Write}
use Rattle.desk_lines.proofs.CatchingUp.{answered, part_after, part_before, part_within}
use Rattle.desk_lines.proofs.Talking.{on_ok}
use Rattle.desk_lines.proofs.talk.answer_line.Goals as goal

pub returns-in_err-text-clause-write : goal.returns-in_err-text-clause-write
returns-in_err-text-clause-write g c = λ h.
    let e = err_from_is_err_and c.from_residual.result c.from_residual.ensures.1 in
    let both = sym e.1 ∙ h in let same : e.0 ≡ Write = cc in
    let part = c.in_err-text.ensures.write (ap Err (sym e.2 ∙ same)) in
    (part.0, part_before (g.C.Clerk.After c.args.clerk.now) (g.C.Clerk.Script c.args.clerk.now) part.1)

pub returns-in_err-text-clause-memory : goal.returns-in_err-text-clause-memory
returns-in_err-text-clause-memory g c = λ h.
    let e = err_from_is_err_and c.from_residual.result c.from_residual.ensures.1 in
    let both = sym e.1 ∙ h in let same : e.0 ≡ Memory = cc in
    part_before (g.C.Clerk.After c.args.clerk.now) (g.C.Clerk.Script c.args.clerk.now) (c.in_err-text.ensures.memory (ap Err (sym e.2 ∙ same)))

pub returns-clause-said : goal.returns-clause-said
returns-clause-said g c =
    on_ok c.add.result _ (λ x e.
    answered (g.C.Clerk.After c.args.clerk.now) (g.C.Clerk.Script c.args.clerk.now) (g.C.Clerk.After c.answer.new.self)
    c.in_ok-text.ensures.answers (rw (← c.deref.ensures.value) (rw e at c.add.ensures.said)))

pub returns-clause-write : goal.returns-clause-write
returns-clause-write g c = λ e.
    let w = c.add.ensures.part e in (
      w.0,
      part_after (g.C.Clerk.After c.args.clerk.now) (g.C.Clerk.Script c.args.clerk.now) (g.C.Clerk.After c.answer.new.self)
          (λ lines said a. c.in_ok-text.ensures.keeps lines said (g.met.C.Clerk.follows c.answer.new.self lines said a)) c.in_ok-text.ensures.answers
          (rw (← c.deref.ensures.value) w.1),
    )

pub returns-clause-memory : goal.returns-clause-memory
returns-clause-memory g c = λ e.
    part_within (g.C.Clerk.After c.args.clerk.now) (g.C.Clerk.Script c.args.clerk.now) (g.C.Clerk.After c.answer.new.self) c.in_ok-text.ensures.answers (c.add.ensures.memory e)
