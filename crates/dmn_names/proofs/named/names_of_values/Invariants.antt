use Rattle.std.proofs.Common.{◌≡◌, ◌++◌, map, drop, string_bytes}
use Rattle.dmn_form.specs.FormView.{texts_view}
use Rattle.dmn_form.specs.ModelView.{decision_view, model_view}
use Rattle.dmn_names.specs.Parts.{value_names}
use Rattle.dmn_names.proofs.named.names_of_values.Given as goal

abbrev pub invariant-loop-input : goal.invariant-loop-input
invariant-loop-input l = texts_view l.model.inputs ≡ map (λ n. n.now) l.names.items ++ map string_bytes (drop l.input-index l.input-items)

abbrev pub invariant-loop-decision : goal.invariant-loop-decision
invariant-loop-decision l = value_names (model_view l.model) ≡ map (λ n. n.now) l.names.items ++ map (λ d. d.name) (map decision_view (drop l.decision-index l.decision-items))
