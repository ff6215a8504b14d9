use Rattle.std.proofs.Common.{◌≡◌, ◌∙◌, ◌+◌, ◌-◌, Some, ap, arith, bytes_eq, false, if◌then◌else◌, sym, take, true}
use Rattle.feel_text.specs.Meaning.{bound}
use Rattle.feel_eval.specs.Few.{few_of, named_of}
use Rattle.feel_eval.proofs.Few.{bound_up_to}
use Rattle.feel_eval.proofs.added.last_named.Goals as goal

pub returns-then-eq : goal.returns-then-eq
returns-then-eq c =
    let name = c.args.name.now in
    let xs = c.args.bindings.now in
    let x = c.index-bindings-i.result in
    let i = c.loop-i.i in
    let back : i - 1 + 1 ≡ i = omega (arith, c.loop-i-test.true) in
    let here : bytes_eq name (named_of x).0 ≡ true = grind (arith, c.eq.ensures, c.if-eq.true) in
    sym (c.loop-i.invariant.1 ∙ ap (λ n. bound name (few_of (take n xs))) (sym back) ∙ bound_up_to name xs (i - 1) x c.index-bindings-i.is (omega (arith, c.loop-i-test.true, c.loop-i.invariant.0))
    ∙ ap (λ t. if t then Some (named_of x).1 else bound name (few_of (take (i - 1) xs))) here)

pub loop-i-preserved : goal.loop-i-preserved
loop-i-preserved c =
    let name = c.args.name.now in
    let xs = c.args.bindings.now in
    let x = c.index-bindings-i.result in
    let i = c.loop-i.i in
    let back : i - 1 + 1 ≡ i = omega (arith, c.loop-i-test.true) in
    let other : bytes_eq name (named_of x).0 ≡ false = grind (arith, c.eq.ensures, c.if-eq.false) in (
      omega (arith, c.loop-i.invariant.0),
      c.loop-i.invariant.1 ∙ ap (λ n. bound name (few_of (take n xs))) (sym back) ∙ bound_up_to name xs (i - 1) x c.index-bindings-i.is (omega (arith, c.loop-i-test.true, c.loop-i.invariant.0))
          ∙ ap (λ t. if t then Some (named_of x).1 else bound name (few_of (take (i - 1) xs))) other,
    )
