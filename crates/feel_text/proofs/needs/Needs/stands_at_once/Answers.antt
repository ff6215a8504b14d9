use Rattle.std.proofs.Common.{◌≡◌, ◌∙◌, sym, ap, subst, ◌<◌, length, get_or, true, bytes_eq}
use Rattle.feel_text.specs.Places.{last_place}
use Rattle.feel_text.proofs.Needed.{stands_last}
use Rattle.feel_text.proofs.needs.Needs.stands_at_once.Goals as goal

pub returns-then-is_at_once : goal.returns-then-is_at_once
returns-then-is_at_once c = λ ordered.
    let name = c.args.name.now in
    let same : bytes_eq name c.in-Some.need.now.name ≡ true = c.is_at_once.ensures c.if-is_at_once.true in
    ap (last_place name) (sym c.self.view_is)
    ∙ stands_last name c.self.inside.needs.items c.self.inside.order.items c.args.position c.in-Some.need.now (c.self.invariant.sorted ordered)
    (subst (λ ys. c.in-Some.need.now ≡ get_or ys c.args.position c.in-Some.need.now) c.deref.ensures.value c.in-Some.ensures.lookup.1)
    (subst (λ ys. c.args.position < length ys) c.deref.ensures.value c.in-Some.ensures.lookup.3.0) same
