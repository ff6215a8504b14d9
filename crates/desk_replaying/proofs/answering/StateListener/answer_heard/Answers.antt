use Rattle.std.proofs.Common.{◌++◌, ap, sym, ◌∙◌, Some}
use Rattle.std.proofs.lemmas.Result.{on_ok_weaker}
use Rattle.desk_lines.specs.Lines.{ended}
use Rattle.desk_wire.specs.Reports.{report_text}
use Rattle.desk_replaying.specs.Line.{line_view}
use Rattle.desk_replaying.proofs.Hearing.{after_line, heard_line, heard_no_object, heard_strange}
use Rattle.desk_replaying.proofs.answering.StateListener.answer_heard.Goals as goal

pub returns-in_default-clause-answers : goal.returns-in_default-clause-answers
returns-in_default-clause-answers g c =
    let old = c.args.self.now in
    let text = c.args.text.now.items in
    on_ok_weaker c.add_refusal.result
    (λ is lines said it a h n. after_line old old c.args.number it text _ lines said a n (heard_no_object old c.args.number c.args.heard.now it text _ c.in_default.not-Object h is))
    c.add_refusal.ensures

pub returns-in_default-line_in-clause-answers : goal.returns-in_default-line_in-clause-answers
returns-in_default-line_in-clause-answers g c =
    let old = c.args.self.now in
    let text = c.args.text.now.items in
    let none = rw c.in_default-line_in.is at c.line_in.ensures.other in
    on_ok_weaker c.add_refusal-in_default-line_in.result
    (λ is lines said it a h n. after_line old old c.args.number it text _ lines said a n
    (heard_strange old c.args.number c.args.heard.now c.in-Object.members it text _ c.in-Object.is (rw c.deref.ensures.value at none) h is))
    c.add_refusal-in_default-line_in.ensures

pub returns-clause-answers : goal.returns-clause-answers
returns-clause-answers g c =
    let old = c.args.self.now in
    let new = c.hear.new.self in
    let text = c.args.text.now.items in
    let line = rw (c.in-Some.is, c.deref.ensures.value) at c.line_in.ensures.found in
    on_ok_weaker c.add_to.result
    (λ is lines said it a h n. let hears = rw c.in-Object.is at h in
    after_line old new c.args.number it text _ lines said a n
    (heard_line old new c.args.number it text _ (line_view c.in-Some.line) c.in_ok-effect.effect c.in_ok-effect.ensures
    (hears.0, hears.1, hears.2, hears.3 ∙ ap Some (sym line.0), line.1)
    (is ∙ ap (λ report. text ++ ended (report_text report)) c.report_on.ensures)))
    c.add_to.ensures
