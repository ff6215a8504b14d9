use Rattle.std.proofs.Common.{refl, subst}
use Rattle.std.proofs.lemmas.Result.{on_ok_weaker}
use Rattle.desk_requests.specs.Line.{line_view}
use Rattle.desk_explaining.specs.StateView.{Explains}
use Rattle.desk_explaining.proofs.Answered.{hears_asked, hears_loaded, hears_told}
use Rattle.desk_explaining.proofs.state.State.answer_line.Goals as goal

pub returns-in-Asked-clause-hears : goal.returns-in-Asked-clause-hears
returns-in-Asked-clause-hears c =
    let old = c.args.self.now in
    let asked = c.in-Asked.asked in
    on_ok_weaker c.add_explanation.result
    (λ e. hears_asked old _ c.args.number (line_view c.args.says.now) asked c.args.text.now.items c.add_explanation.new.text.items (rw c.in-Asked.is at c.in_ok-asked.ensures.answers)
    (rw c.in-Asked.is at c.in_ok-asked.ensures.asks) refl
    (subst (λ s. Explains c.args.number s asked old.misses c.args.text.now.items c.add_explanation.new.text.items) c.as_str.ensures.value e))
    c.add_explanation.ensures

pub returns-in-Loaded-clause-hears : goal.returns-in-Loaded-clause-hears
returns-in-Loaded-clause-hears c =
    let old = c.args.self.now in
    on_ok_weaker c.tell_loaded.result
    (λ l. hears_loaded old _ c.tell_loaded.new.self c.args.number c.in-Loaded.field-0 (line_view c.args.says.now) c.args.text.now.items c.tell_loaded.new.text.items
    (rw (c.in-Told.is, c.in-Loaded.is) at c.in_ok-asked.ensures.answers) (rw (c.in-Told.is, c.in-Loaded.is) at c.in_ok-asked.ensures.asks) c.tell_loaded.ensures.same.0 l)
    c.tell_loaded.ensures.loads

pub returns-in_default : goal.returns-in_default
returns-in_default c =
    let old = c.args.self.now in
    record {
      misses = refl;
      lanes = c.answer.ensures.lanes;
      hears = on_ok_weaker c.add_to.result
          (λ is. hears_told old _ c.args.number (line_view c.args.says.now) c.in-Told.report c.args.text.now.items c.add_to.new.text.items (rw c.in-Told.is at c.in_ok-asked.ensures.answers)
          (rw c.in-Told.is at c.in_ok-asked.ensures.asks) c.in_default.not-Loaded refl is)
          c.add_to.ensures;
    }
