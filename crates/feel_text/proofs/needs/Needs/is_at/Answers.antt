use Rattle.std.proofs.Common.{◌≡◌, ◌∙◌, sym, ap, subst, ◌<◌, length, get_or, true, bytes_eq, arith}
use Rattle.feel_text.specs.Places.{last_place}
use Rattle.feel_text.proofs.Needed.{stands_last}
use Rattle.feel_text.proofs.needs.Needs.is_at.Goals as goal

pub returns-then-eq : goal.returns-then-eq
returns-then-eq c = λ ordered.
    let name = c.args.name.now in
    let same : bytes_eq name c.in-Some.need.now.name ≡ true = grind (arith, c.eq.ensures, c.as_str.ensures, c.if-eq.true) in
    ap (last_place name) (sym c.self.view_is)
    ∙ stands_last name c.self.inside.needs.items c.self.inside.order.items c.args.position c.in-Some.need.now (c.self.invariant.sorted ordered)
    (subst (λ ys. c.in-Some.need.now ≡ get_or ys c.args.position c.in-Some.need.now) c.deref.ensures.value c.in-Some.ensures.lookup.1)
    (subst (λ ys. c.args.position < length ys) c.deref.ensures.value c.in-Some.ensures.lookup.3.0) same
