use Rattle.std.proofs.Common.{◌∙◌, ap, sym, subst}
use Rattle.dmn_service.specs.Run.{Found, values_in, nothing_found, filled_by, given_at, AreKnown}
use Rattle.dmn_service.proofs.Known.{known_first}
use Rattle.dmn_service.proofs.service.found_in_order.Goals as goal

pub fill_in_order-requires-clause-known : goal.fill_in_order-requires-clause-known
fill_in_order-requires-clause-known c =
    let items = c.args.items.now in
    let service = c.args.service.now in
    let values = c.args.values.now in
    let given = c.in_ok-give.ensures.given ∙ ap (λ ps. given_at ps values (values_in c.in_ok-found.found.items)) c.deref.ensures.value in
    subst (λ qs. AreKnown items (values_in c.give.new.found.items) qs) (sym c.deref-2.ensures.value)
    (subst (λ (f : Found). AreKnown items f service.order.items) (sym given)
    (known_first items service.parameters.items service.order.items values (values_in c.in_ok-found.found.items) c.requires.order c.requires.values))

pub returns : goal.returns
returns c =
    let items = c.args.items.now in
    let order = c.args.service.now.order.items in
    let values = c.args.values.now in
    c.in_ok-fill_in_order.ensures
    ∙ ap (λ qs. filled_by items qs (values_in c.give.new.found.items)) c.deref-2.ensures.value
    ∙ ap (filled_by items order) c.in_ok-give.ensures.given
    ∙ ap (λ f. filled_by items order (given_at c.deref.result.now values f)) c.in_ok-found.ensures.nothing
    ∙ ap (λ ps. filled_by items order (given_at ps values nothing_found)) c.deref.ensures.value
