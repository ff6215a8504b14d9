use Rattle.std.proofs.Common.{◌≡◌, ◌++◌, ℕ, List, Some, None, option_map, string_bytes, sym, ap, ◌∙◌}
use Rattle.std.specs.Arc.{arc_value}
use Rattle.serde_json.specs.Written.{compact_text}
use Rattle.desk_lines.specs.Lines.{ended}
use Rattle.desk_explaining.specs.Due.{sum_of}
use Rattle.desk_explaining.specs.ExplainedLine.{loaded_line}
use Rattle.desk_explaining.specs.StateView.{model_of}
use Rattle.desk_explaining.proofs.Answered.{same_some}
use Rattle.desk_explaining.proofs.Telling.{loaded_told}
use Rattle.desk_explaining.proofs.state.State.tell_loaded.Goals as goal

pub returns-clause-loads : goal.returns-clause-loads
returns-clause-loads c =
    let number = c.args.number in
    let text = c.text-2.result.now in
    let some : model_of c.args.self.now ≡ Some (arc_value c.in-Some.plan.now) = sym c.model.ensures ∙ ap (option_map (λ plan. arc_value plan.now)) c.in-Some.is in
    let one : c.text.result.now ≡ arc_value c.in-Some.plan.now = cc (c.text.ensures, c.deref.ensures) in
    let two : c.text-2.result.now ≡ arc_value c.in-Some.plan.now = cc (c.text-2.ensures, c.deref-2.ensures) in
    let sum : string_bytes c.in_ok-sum.sum ≡ sum_of (arc_value c.in-Some.plan.now) = c.in_ok-sum.ensures ∙ ap sum_of one in
    record {
      says = λ json h.
          let is : arc_value c.in-Some.plan.now ≡ compact_text json = same_some _ _ (sym some ∙ h) in
          c.in_ok-add_loaded.ensures
          ∙ ap (λ t. c.args.text.now.items ++ loaded_line number t c.as_str.result.now) (two ∙ is)
          ∙ ap (λ s. c.args.text.now.items ++ loaded_line number (compact_text json) s) (c.as_str.ensures.value ∙ (sum ∙ ap sum_of is))
          ∙ ap (λ l. c.args.text.now.items ++ l) (loaded_told number json);
      sum = λ model h. sum ∙ ap sum_of (same_some _ _ (sym some ∙ h));
    }
