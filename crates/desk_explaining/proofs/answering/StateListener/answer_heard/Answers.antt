use Rattle.std.proofs.Common.{refl}
use Rattle.std.proofs.lemmas.Result.{on_ok_weaker}
use Rattle.desk_explaining.proofs.Answered.{after_line, heard_other, heard_said}
use Rattle.desk_explaining.proofs.answering.StateListener.answer_heard.Goals as goal

pub returns-in_default-clause-answers : goal.returns-in_default-clause-answers
returns-in_default-clause-answers c =
    let none = rw c.in_default.is at c.line_heard.ensures in
    let old = c.args.self.now in
    let text = c.args.text.now.items in
    on_ok_weaker c.add_refusal.result (λ is lines said it a h n. after_line old old c.args.number it text _ lines said refl a n (heard_other old c.args.number c.args.heard.now it text _ h none is))
    c.add_refusal.ensures

pub returns-clause-answers : goal.returns-clause-answers
returns-clause-answers c =
    let says = rw c.in-Some.is at c.line_heard.ensures in
    let old = c.args.self.now in
    let new = c.answer_line.new.self in
    let text = c.args.text.now.items in
    on_ok_weaker c.answer_line.result
    (λ hears lines said it a h n. after_line old new c.args.number it text _ lines said c.answer_line.ensures.misses a n (heard_said old new c.args.number c.args.heard.now c.in-Some.says it text _ h says hears))
    c.answer_line.ensures.hears
