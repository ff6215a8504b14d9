use Rattle.std.proofs.Common.{◌≡◌, ◌∙◌, ◌+◌, ◌-◌, Some, ap, arith, bytes_eq, false, if◌then◌else◌, sym, take, true}
use Rattle.feel_text.specs.Needed.{named_places}
use Rattle.feel_text.specs.Places.{last_place}
use Rattle.feel_text.proofs.Needed.{last_up_to}
use Rattle.feel_text.proofs.needs.Needs.position_among.Goals as goal

pub returns-then-eq : goal.returns-then-eq
returns-then-eq c =
    let name = c.args.name.now in
    let xs = c.self.inside.needs.items in
    let x = c.index.result.now in
    let i = c.loop-i.i in
    let back : i - 1 + 1 ≡ i = omega (arith, c.loop-i-test.true) in
    let here : bytes_eq name x.name ≡ true = grind (arith, c.eq.ensures, c.as_str.ensures, c.if-eq.true) in
    sym (ap (λ ns. last_place name (take c.args.len ns)) (sym c.self.view_is) ∙ c.loop-i.invariant.1 ∙ ap (λ n. last_place name (take n (named_places xs))) (sym back)
    ∙ last_up_to name xs (i - 1) x c.index.ensures (omega (arith, c.loop-i-test.true, c.loop-i.invariant.0))
    ∙ ap (λ t. if t then Some (i - 1) else last_place name (take (i - 1) (named_places xs))) here)

pub loop-i-preserved : goal.loop-i-preserved
loop-i-preserved c =
    let name = c.args.name.now in
    let xs = c.self.inside.needs.items in
    let x = c.index.result.now in
    let i = c.loop-i.i in
    let back : i - 1 + 1 ≡ i = omega (arith, c.loop-i-test.true) in
    let other : bytes_eq name x.name ≡ false = grind (arith, c.eq.ensures, c.as_str.ensures, c.if-eq.false) in (
      omega (arith, c.loop-i.invariant.0),
      c.loop-i.invariant.1 ∙ ap (λ n. last_place name (take n (named_places xs))) (sym back)
          ∙ last_up_to name xs (i - 1) x c.index.ensures (omega (arith, c.loop-i-test.true, c.loop-i.invariant.0))
          ∙ ap (λ t. if t then Some (i - 1) else last_place name (take (i - 1) (named_places xs))) other,
    )
