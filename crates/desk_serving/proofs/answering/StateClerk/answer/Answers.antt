use Rattle.std.proofs.Common.{◌≡◌, ◌<◌, ◌^◌, ◌∙◌, Err, ap, arith, length, refl, sym}
use Rattle.std.proofs.lemmas.Result.{err_from_is_err_and}
use Rattle.desk_lines.specs.declared.fault.FrontFault.TheVariants.{Memory, Write}
use Rattle.desk_serving.specs.LanesView.{lanes_in, names_in}
use Rattle.desk_serving.specs.Owed.{unhanded}
use Rattle.desk_serving.proofs.Hearing.{has_room, kept_script}
use Rattle.desk_serving.proofs.CatchingUp.{caught_handed, caught_in_part, caught_nothing, line_answered}
use Rattle.desk_serving.proofs.Settling.{still_due}
use Rattle.desk_serving.proofs.answering.StateClerk.answer.Goals as goal

pub returns-in_err-heard-clause-memory : goal.returns-in_err-heard-clause-memory
returns-in_err-heard-clause-memory g c = λ e. caught_nothing c.args.self.now _ _

pub returns-in_err-due-clause-memory : goal.returns-in_err-due-clause-memory
returns-in_err-due-clause-memory g c = λ e. caught_nothing c.args.self.now _ _

pub returns-in_err-due-clause-keeps : goal.returns-in_err-due-clause-keeps
returns-in_err-due-clause-keeps g c = λ lines said. kept_script c.args.self.now c.due_to.new.self lines said c.due_to.ensures.same

pub returns-in_err-hand_out_until-clause-write : goal.returns-in_err-hand_out_until-clause-write
returns-in_err-hand_out_until-clause-write g c = λ h.
    let e = err_from_is_err_and c.from_residual-in_err-hand_out_until.result c.from_residual-in_err-hand_out_until.ensures.1 in
    let both = sym e.1 ∙ h in let same : e.0 ≡ Write = cc in
    let part = rw c.in_ok-due.ensures.lanes at (c.in_err-hand_out_until.ensures.handed.write (ap Err (sym e.2 ∙ same))) in (part.0, caught_in_part c.args.self.now part.1)

pub returns-in_err-hand_out_until-clause-memory : goal.returns-in_err-hand_out_until-clause-memory
returns-in_err-hand_out_until-clause-memory g c = λ h.
    let e = err_from_is_err_and c.from_residual-in_err-hand_out_until.result c.from_residual-in_err-hand_out_until.ensures.1 in
    let both = sym e.1 ∙ h in let same : e.0 ≡ Memory = cc in
    caught_in_part c.args.self.now (rw c.in_ok-due.ensures.lanes at (c.in_err-hand_out_until.ensures.handed.memory (ap Err (sym e.2 ∙ same))))

pub returns-in_err-hand_out_some-clause-memory : goal.returns-in_err-hand_out_some-clause-memory
returns-in_err-hand_out_some-clause-memory g c = λ e. caught_handed c.args.self.now c.hand_out_until.new.lanes (rw c.in_ok-due.ensures.lanes at c.in_ok-hand_out_until.ensures.handed.ok)

pub returns-in_err-settle_heard-clause-memory : goal.returns-in_err-settle_heard-clause-memory
returns-in_err-settle_heard-clause-memory g c = λ e. caught_handed c.args.self.now c.hand_out_until.new.lanes (rw c.in_ok-due.ensures.lanes at c.in_ok-hand_out_until.ensures.handed.ok)

pub returns-in_err-hand_out_some-clause-counts : goal.returns-in_err-hand_out_some-clause-counts
returns-in_err-hand_out_some-clause-counts g c = λ h. c.in_ok-hand_out_until.ensures.handed.counts (λ e. cc)

pub returns-in_err-settle_heard-clause-counts : goal.returns-in_err-settle_heard-clause-counts
returns-in_err-settle_heard-clause-counts g c = λ h. c.in_ok-hand_out_until.ensures.handed.counts (λ e. cc)

pub returns-clause-counts : goal.returns-clause-counts
returns-clause-counts g c = λ h. c.in_ok-hand_out_until.ensures.handed.counts (λ e. cc)

pub settle_heard-requires-clause-few : goal.settle_heard-requires-clause-few
settle_heard-requires-clause-few g c =
    let old = c.args.self.now in let st = c.requires.stands in let at = c.due_to.new.self in
    let few : length st.0 < 2 ^ 60 = omega (arith, st.3, c.requires.few) in
    has_room old (record { rt = at.rt; lanes = c.hand_out_some.new.self; plan = at.plan; marks = at.marks; texts = at.texts }) st.0 st.1 st.2
    (c.in_ok-hand_out_some.ensures.hands.handed.lanes ∙ c.in_ok-hand_out_until.ensures.handed.ok.are.lanes ∙ ap (λ ls. unhanded (lanes_in ls)) c.in_ok-due.ensures.lanes) few

pub settle_heard-requires-clause-due : goal.settle_heard-requires-clause-due
settle_heard-requires-clause-due g c =
    let at = c.due_to.new.self in
    still_due at (record { rt = at.rt; lanes = c.hand_out_some.new.self; plan = at.plan; marks = at.marks; texts = at.texts }) c.args.number _ _
    (c.hand_out_some.ensures.names ∙ c.hand_out_until.ensures.names)
    (c.in_ok-hand_out_some.ensures.hands.handed.lanes ∙ c.in_ok-hand_out_until.ensures.handed.ok.are.lanes) refl c.in_ok-due.ensures.due

pub returns-in_err-hand_out_until-clause-keeps : goal.returns-in_err-hand_out_until-clause-keeps
returns-in_err-hand_out_until-clause-keeps g c = λ lines said.
    let old = c.args.self.now in let at = c.due_to.new.self in
    kept_script old (record { rt = at.rt; lanes = c.hand_out_until.new.lanes; plan = at.plan; marks = at.marks; texts = at.texts }) lines said (c.hand_out_until.ensures.same ∙ c.due_to.ensures.same)

pub returns-in_err-hand_out_some-clause-keeps : goal.returns-in_err-hand_out_some-clause-keeps
returns-in_err-hand_out_some-clause-keeps g c = λ lines said.
    let old = c.args.self.now in let at = c.due_to.new.self in
    kept_script old (record { rt = at.rt; lanes = c.hand_out_some.new.self; plan = at.plan; marks = at.marks; texts = at.texts }) lines said
    (c.hand_out_some.ensures.same ∙ c.hand_out_until.ensures.same ∙ c.due_to.ensures.same)

pub returns-in_err-settle_heard-clause-keeps : goal.returns-in_err-settle_heard-clause-keeps
returns-in_err-settle_heard-clause-keeps g c = λ lines said.
    kept_script c.args.self.now c.settle_heard.new.self lines said (c.settle_heard.ensures.same ∙ c.hand_out_some.ensures.same ∙ c.hand_out_until.ensures.same ∙ c.due_to.ensures.same)

pub returns-clause-keeps : goal.returns-clause-keeps
returns-clause-keeps g c = λ lines said.
    kept_script c.args.self.now c.settle_heard.new.self lines said (c.settle_heard.ensures.same ∙ c.hand_out_some.ensures.same ∙ c.hand_out_until.ensures.same ∙ c.due_to.ensures.same)

pub returns-clause-answers : goal.returns-clause-answers
returns-clause-answers g c =
    let old = c.args.self.now in let at = c.due_to.new.self in let lanes = c.in_ok-due.ensures.lanes in
    line_answered old (record { rt = at.rt; lanes = c.hand_out_until.new.lanes; plan = at.plan; marks = at.marks; texts = at.texts })
    (record { rt = at.rt; lanes = c.hand_out_some.new.self; plan = at.plan; marks = at.marks; texts = at.texts }) _ c.args.line.now c.args.number
    c.hand_out_some.new.text.items c.settle_heard.new.text.items
    (c.hand_out_until.ensures.names ∙ ap (λ ls. names_in ls) lanes) c.in_ok-due.ensures.model c.hand_out_some.ensures.names refl
    (rw lanes at c.in_ok-hand_out_until.ensures.handed.ok) (rw (sym c.new-text.ensures.items) c.in_ok-hand_out_some.ensures.hands)
    (λ it e. c.in_ok-settle_heard.ensures.hears it (c.in_ok-heard.ensures it e))
