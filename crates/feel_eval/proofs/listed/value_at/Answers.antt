use Rattle.std.proofs.Common.{◌≡◌, ◌∙◌, ◌-◌, sym, ap, Some, None, arith}
use Rattle.std.specs.Prelude.{slice_index_or}
use Rattle.feel_eval.specs.Listed.{numbered}
use Rattle.feel_eval.specs.declared.listed.Placed.{Placed}
use Rattle.feel_eval.proofs.Positions.{value_listed, number_is}
use Rattle.feel_eval.proofs.listed.value_at.Goals as goal

pub returns-then-number-eq0 : goal.returns-then-number-eq0
returns-then-number-eq0 c =
    let lies : slice_index_or c.args.slots.now.items c.args.position 0 ≡ 0 = sym c.slot-number.ensures ∙ omega (arith, c.if-number-eq0.true) in
    sym (value_listed c.args.scope.now c.args.bindings.now.items c.args.slots.now.items c.args.name.now c.args.position None c.requires.listed c.requires.position (ap numbered lies))

pub index-requires : goal.index-requires
index-requires c =
    let n = c.slot-number.result in
    let there = value_listed c.args.scope.now c.args.bindings.now.items c.args.slots.now.items c.args.name.now c.args.position (Some (n - 1)) c.requires.listed c.requires.position
    (ap numbered (sym c.slot-number.ensures) ∙ number_is n (omega (arith, c.if-number-eq0.false))) in
    omega (arith, there.0)

pub returns : goal.returns
returns c =
    let n = c.slot-number.result in
    let there = value_listed c.args.scope.now c.args.bindings.now.items c.args.slots.now.items c.args.name.now c.args.position (Some (n - 1)) c.requires.listed c.requires.position
    (ap numbered (sym c.slot-number.ensures) ∙ number_is n (omega (arith, c.if-number-eq0.false))) in
    ap (λ (b : Placed). Some b.value) c.index.ensures ∙ sym (there.1 c.index.result.now)
