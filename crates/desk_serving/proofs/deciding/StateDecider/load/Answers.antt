use Rattle.std.proofs.Common.{◌∙◌, ℕ, List}
use Rattle.serde_json.specs.View.{view}
use Rattle.dmn_plan.specs.ReadModel.{read_model}
use Rattle.desk_requests.proofs.Models.{due_model, faulty_of, loaded_of}
use Rattle.desk_serving.proofs.deciding.StateDecider.load.Goals as goal

pub returns-in_ok-kept-in-Ok-clause-loaded : goal.returns-in_ok-kept-in-Ok-clause-loaded
returns-in_ok-kept-in-Ok-clause-loaded g c =
    let json = view c.args.model.now in
    loaded_of (λ (text : List ℕ). text) json (read_model json) c.in_ok-kept-in-Ok.kept c.in-Ok.ensures.read (c.in_ok-kept-in-Ok.ensures.plan ∙ c.in-Ok.ensures.compact)

pub returns-in_default-clause-loaded : goal.returns-in_default-clause-loaded
returns-in_default-clause-loaded g c =
    let json = view c.args.model.now in
    faulty_of (λ (text : List ℕ). text) json (read_model json) c.in-Err.fault c.of_fault.result (due_model (read_model json) c.in-Err.fault c.in-Err.ensures.err c.in_default.not-Memory) c.of_fault.ensures
