use Rattle.std.proofs.Common.{◌∙◌, ap}
use Rattle.dmn_service.specs.Places.{name_at}
use Rattle.dmn_service.specs.Run.{values_in, outputs_at}
use Rattle.dmn_service.proofs.Result.{found_is_result, found_within, found_obeys}
use Rattle.dmn_service.proofs.service.service_outcome_in_order.Goals as goal

pub returns : goal.returns
returns c =
    let items = c.args.items.now in
    let service = c.args.service.now in
    let values = c.args.values.now in
    let name = name_at items in
    let found =
    c.in_ok-value.ensures
    ∙ ap (λ f. outputs_at name (values_in f) c.deref.result.now) c.deref-2.ensures.value
    ∙ ap (λ qs. outputs_at name (values_in c.in_ok-found.found.items) qs) c.deref.ensures.value
    ∙ ap (λ f. outputs_at name f service.outputs.items) c.in_ok-found.ensures in
    record {
      result = λ m s plan. found ∙ found_is_result m s items service values plan c.requires.places c.requires.values;
      steps = λ m s plan steps enough. found ∙ found_within steps m s items service values plan c.requires.places c.requires.values enough;
      recursion = λ m s plan outcome obeys. found ∙ found_obeys m s items service values plan c.requires.places c.requires.values outcome obeys;
    }
