use Rattle.std.proofs.Common.{◌∙◌, sym, ap, Some, map, option_map}
use Rattle.desk_requests.proofs.Taken.{one_more_service}
use Rattle.desk_requests.proofs.services.Services.learn.Goals as goal

pub returns-clause-known : goal.returns-clause-known
returns-clause-known c =
    one_more_service c.args.plan.now c.args.service.now c.args.self.now (record { known = c.insert.new.self }) c.in_ok-name.name c.in_ok-set.set (map (λ k. k.now) c.deref.result.now)
    c.in_ok-insert.ensures.updates c.in_ok-name.ensures.ok
    (sym c.in_ok-names.ensures ∙ ap (option_map (λ v. map (λ n. n.now) v.items)) c.in-Some.is ∙ ap (λ is. Some (map (λ k. k.now) is)) (sym c.deref.ensures.value)) c.in_ok-set.ensures
