use Rattle.std.proofs.Common.{ap, ◌∙◌, ◌++◌, List, ℕ}
use Rattle.std.proofs.lemmas.Result.{on_ok_weaker}
use Rattle.serde_json.specs.Data.{Members, object}
use Rattle.serde_json.specs.Written.{compact_text}
use Rattle.feel_value.specs.declared.feel.Outcome.{Outcome}
use Rattle.dmn_explain.specs.Placed.{inputs_by_place}
use Rattle.dmn_explain.proofs.GivenInputs.{inputs_same}
use Rattle.dmn_explain.proofs.inputs.add_inputs.Goals as goal

pub returns : goal.returns
returns c =
    let course = c.args.course.now in
    let items = course.items.now in
    let plan = course.service.now in
    let found = course.outcomes.items in
    let old = c.args.text.now.items in
    on_ok_weaker c.add_all_inputs.result
    (λ is. λ q of count.
    is
    ∙ ap (λ (f : List Outcome). old ++ compact_text (object (inputs_by_place f items c.deref.result.now))) c.deref-2.ensures.value
    ∙ ap (λ (qs : List ℕ). old ++ compact_text (object (inputs_by_place found items qs))) c.deref.ensures.value
    ∙ ap (λ (ms : Members). old ++ compact_text (object ms)) (inputs_same of.model of.service items plan found q.values of.plan of.given count))
    c.add_all_inputs.ensures
