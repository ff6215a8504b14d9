use Rattle.std.proofs.Common.{refl}
use Rattle.serde_json.specs.View.{view}
use Rattle.dmn_plan.specs.ReadModel.{read_model}
use Rattle.desk_requests.proofs.Models.{due_to_faulty, due_to_loaded}
use Rattle.desk_requests.proofs.decider.decide_model.Goals as goal

pub returns-in-Ok-clause-due : goal.returns-in-Ok-clause-due
returns-in-Ok-clause-due g c =
    let json = view c.args.model.now in let loaded = c.in_ok-loaded.ensures in
    (loaded.keeps, loaded.forced, due_to_loaded g.D.Decider.text_of c.args.number json (read_model json) c.in-Ok.plan _ (rw c.in-Ok.is at loaded.loaded) refl)

pub returns-in-Err-clause-due : goal.returns-in-Err-clause-due
returns-in-Err-clause-due g c =
    let json = view c.args.model.now in let loaded = c.in_ok-loaded.ensures in
    (loaded.keeps, loaded.forced, due_to_faulty g.D.Decider.text_of c.args.number json (read_model json) c.in-Err.why _ (rw c.in-Err.is at loaded.loaded) refl)
