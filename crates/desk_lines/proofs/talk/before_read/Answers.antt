use Rattle.std.proofs.Common.{Err, ap, sym, ◌∙◌}
use Rattle.std.proofs.lemmas.Result.{err_from_is_err_and}
use Rattle.desk_lines.proofs.CatchingUp.{says_nothing, says_then, says_weaker}
use Rattle.desk_lines.proofs.Talking.{on_ok}
use Rattle.desk_lines.proofs.talk.before_read.Goals as goal

pub returns-then-has_line-clause-said : goal.returns-then-has_line-clause-said
returns-then-has_line-clause-said g c = says_nothing (g.C.Clerk.After c.args.clerk.now) _ _

pub returns-in_err-catch_up-clause-write : goal.returns-in_err-catch_up-clause-write
returns-in_err-catch_up-clause-write g c = λ h.
    let e = err_from_is_err_and c.from_residual.result c.from_residual.ensures.1 in
    c.in_err-catch_up.ensures.write (ap Err (sym e.2) ∙ sym e.1 ∙ h)

pub returns-in_err-catch_up-clause-memory : goal.returns-in_err-catch_up-clause-memory
returns-in_err-catch_up-clause-memory g c = λ h.
    let e = err_from_is_err_and c.from_residual.result c.from_residual.ensures.1 in
    c.in_err-catch_up.ensures.memory (ap Err (sym e.2) ∙ sym e.1 ∙ h)

pub returns-clause-said : goal.returns-clause-said
returns-clause-said g c =
    on_ok c.write_out.result _ (λ x e.
    says_then (g.C.Clerk.After c.args.clerk.now) (g.C.Clerk.After c.catch_up.new.self) c.in_ok-catch_up.ensures.said (rw e at c.write_out.ensures.all))

pub returns-clause-write : goal.returns-clause-write
returns-clause-write g c = λ h.
    let part = rw h at c.write_out.ensures.part in (
      part.0,
      says_then (g.C.Clerk.After c.args.clerk.now) (g.C.Clerk.Script c.args.clerk.now)
          (says_weaker (g.C.Clerk.After c.args.clerk.now) (g.C.Clerk.After c.catch_up.new.self) (g.C.Clerk.Script c.args.clerk.now)
          (λ lines said a. c.in_ok-catch_up.ensures.keeps lines said (g.met.C.Clerk.follows c.catch_up.new.self lines said a)) c.in_ok-catch_up.ensures.said)
          part.1,
    )
