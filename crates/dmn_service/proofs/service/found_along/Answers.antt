use Rattle.std.proofs.Common.{◌∙◌, ap}
use Rattle.dmn_service.specs.Run.{values_in, nothing_found, filled_by, given_at}
use Rattle.dmn_service.proofs.service.found_along.Goals as goal

pub returns : goal.returns
returns c =
    let items = c.args.items.now in
    let order = c.args.service.now.order.items in
    let values = c.args.values.now in
    c.in_ok-fill.ensures
    ∙ ap (λ qs. filled_by items qs (values_in c.give.new.found.items)) c.deref-2.ensures.value
    ∙ ap (filled_by items order) c.in_ok-give.ensures.given
    ∙ ap (λ f. filled_by items order (given_at c.deref.result.now values f)) c.in_ok-found.ensures.nothing
    ∙ ap (λ ps. filled_by items order (given_at ps values nothing_found)) c.deref.ensures.value
