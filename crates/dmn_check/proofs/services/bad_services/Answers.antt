use Rattle.std.proofs.Common.{nat_lt, ap, ◌∙◌}
use Rattle.dmn_form.specs.ModelView.{model_view}
use Rattle.dmn_check.specs.Told.{Told}
use Rattle.dmn_check.proofs.ServiceLaws.{service_exactly}
use Rattle.dmn_check.proofs.services.bad_services.Goals as goal

pub returns-clause-fault : goal.returns-clause-fault
returns-clause-fault c = ap (λ (t : Told). nat_lt 0 t.count) c.in_ok-told.ensures ∙ service_exactly (model_view c.args.model.now)
