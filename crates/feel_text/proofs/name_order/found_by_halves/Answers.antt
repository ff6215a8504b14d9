use Rattle.std.proofs.Common.{◌≡◌, ◌∙◌, ◌<◌, ◌+◌, ◌-◌, ◌/◌, [], ap, sym, map, length, get_or, Less, Equal, Greater, is_lt, arith}
use Rattle.std.proofs.lemmas.List.{length-map}
use Rattle.feel_text.specs.NameOrder.{name_cmp, name_ranked}
use Rattle.feel_text.proofs.NameOrder.{same_name}
use Rattle.feel_text.proofs.Ordered.{before_middle, after_middle, found_nowhere}
use Rattle.feel_text.proofs.name_order.found_by_halves.Goals as goal

pub loop-low-preserved-in-Less : goal.loop-low-preserved-in-Less
loop-low-preserved-in-Less g c =
    let names = map g.T.HasName.name_of c.args.items.now in
    let order = c.args.order.now in
    let middle = c.loop-low.low + (c.loop-low.high - c.loop-low.low) / 2 in
    let there : name_ranked names order middle ≡ c.name_at.result.now = sym (c.name_at.ensures ∙ ap (λ k. get_or names k []) c.position_of-position.ensures) in
    let tie : name_cmp (name_ranked names order middle) c.args.name.now ≡ Less = ap (λ n. name_cmp n c.args.name.now) there ∙ sym c.compare_names.ensures ∙ c.in-Less.is in
    let inside : middle < length names = omega (arith, length-map c.args.items.now g.T.HasName.name_of, c.loop-low.invariant.within, c.loop-low-test.true) in
    record {
      within = c.loop-low.invariant.within;
      before = before_middle names order c.args.name.now middle c.requires inside (ap is_lt tie);
      after = c.loop-low.invariant.after;
    }

pub returns-in-Equal : goal.returns-in-Equal
returns-in-Equal g c =
    let names = map g.T.HasName.name_of c.args.items.now in
    let order = c.args.order.now in
    let middle = c.loop-low.low + (c.loop-low.high - c.loop-low.low) / 2 in
    let tie : name_cmp c.name_at.result.now c.args.name.now ≡ Equal = sym c.compare_names.ensures ∙ c.in-Equal.is in
    let inside : middle < length names = omega (arith, length-map c.args.items.now g.T.HasName.name_of, c.loop-low.invariant.within, c.loop-low-test.true) in
    let below = c.requires.within middle inside in
    (omega (arith, below, c.position_of-position.ensures), sym c.name_at.ensures ∙ same_name c.name_at.result.now c.args.name.now tie)

pub loop-low-preserved : goal.loop-low-preserved
loop-low-preserved g c =
    let names = map g.T.HasName.name_of c.args.items.now in
    let order = c.args.order.now in
    let middle = c.loop-low.low + (c.loop-low.high - c.loop-low.low) / 2 in
    let there : name_ranked names order middle ≡ c.name_at.result.now = sym (c.name_at.ensures ∙ ap (λ k. get_or names k []) c.position_of-position.ensures) in
    let tie : name_cmp (name_ranked names order middle) c.args.name.now ≡ Greater = ap (λ n. name_cmp n c.args.name.now) there ∙ sym c.compare_names.ensures ∙ c.in-Greater.is in
    record {
      within = omega (arith, c.loop-low.invariant.within, c.loop-low-test.true);
      before = c.loop-low.invariant.before;
      after = after_middle names order c.args.name.now middle c.requires tie;
    }

pub returns : goal.returns
returns g c = λ i w.
    found_nowhere (map g.T.HasName.name_of c.args.items.now) c.args.order.now c.args.name.now c.loop-low.low c.loop-low.high c.requires (omega (arith, c.loop-low-test.false))
    c.loop-low.invariant.before c.loop-low.invariant.after i (rw (length-map c.args.items.now g.T.HasName.name_of) w)
