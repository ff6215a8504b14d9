use Rattle.std.proofs.Common.{◌≡◌, slice_set, sym, ap, ◌∙◌}
use Rattle.desk_requests.specs.Register.{client_view, clients_of, with_closed}
use Rattle.desk_requests.proofs.Answering.{at_place, within_clients}
use Rattle.desk_requests.proofs.Names.{map_set}
use Rattle.desk_requests.proofs.register.Register.close_at.Goals as goal

pub returns-clause-closes : goal.returns-clause-closes
returns-clause-closes c = λ client at.
    let clients = c.args.self.now.clients.items in let place = c.args.place in let x = c.index_mut-client.result.now in
    let is = at_place clients place x client (within_clients clients place c.requires) c.index_mut-client.ensures.value at in
    map_set client_view clients place _ ∙ ap (λ k. slice_set (clients_of c.args.self.now) place (with_closed k)) (sym is)
