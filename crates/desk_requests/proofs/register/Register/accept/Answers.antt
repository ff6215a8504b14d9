use Rattle.std.proofs.Common.{◌≡◌, slice_set, sym, ap, ◌∙◌}
use Rattle.dmn_plan.specs.Request.{request_result}
use Rattle.desk_wire.specs.Reports.{Reply}
use Rattle.desk_requests.specs.Register.{client_view, clients_of, with_accepted}
use Rattle.desk_requests.proofs.Answering.{at_place, within_names}
use Rattle.desk_requests.proofs.Names.{map_set}
use Rattle.desk_requests.proofs.register.Register.accept.Goals as goal

pub returns-clause-told : goal.returns-clause-told
returns-clause-told c = λ client at.
    let clients = c.args.self.now.clients.items in let place = c.args.place in let x = c.index_mut-client.result.now in
    let is = at_place clients place x client (within_names clients place c.args.name.now c.requires) c.index_mut-client.ensures.value at in
    ap (λ a. Reply c.args.name.now a (request_result c.args.task)) (sym (ap (λ k. k.accepted) is))

pub returns-clause-counts : goal.returns-clause-counts
returns-clause-counts c = λ client at.
    let clients = c.args.self.now.clients.items in let place = c.args.place in let x = c.index_mut-client.result.now in
    let is = at_place clients place x client (within_names clients place c.args.name.now c.requires) c.index_mut-client.ensures.value at in
    map_set client_view clients place _ ∙ ap (λ k. slice_set (clients_of c.args.self.now) place (with_accepted k)) (sym is)
