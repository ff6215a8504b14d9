use Rattle.std.proofs.Common.{◌≡◌, ◌∙◌, sym, ap, subst, pos, false, true, arith, length, get_or, inl, inr}
use Rattle.std.specs.List.{slice_get}
use Rattle.std.proofs.lemmas.Option.{IfSome_then, same_Some, slice_get-get_or, slice_get_within}
use Rattle.feel_value.specs.declared.logic.Truth.TheVariants.{Yes}
use Rattle.feel_text.specs.Satisfied.{Told, satisfied}
use Rattle.dmn_table.specs.Table.{Rule}
use Rattle.dmn_analysis.specs.declared.cell.Cell.{Cell}
use Rattle.dmn_analysis.specs.declared.cell.Others.TheVariants as others
use Rattle.dmn_analysis.proofs.Places.{at_place, below_next}
use Rattle.dmn_analysis.proofs.RulesOn.{IsSettled, must}
use Rattle.dmn_analysis.proofs.rule_on.first_unsettled.Goals as goal

pub loop-place-preserved : goal.loop-place-preserved
loop-place-preserved c = λ k t less here.
    let words = c.args.words.now in
    let cells = c.args.cells.now in
    let tests = c.deref-tests-items.result.now in
    let place = c.loop-place.place in
    let none : Cell = record { null = false; yes = false; no = false; low = pos 0; high = pos 0; from = 0; to = 0; others = others.None; parted = false } in
    elim (below_next k place less) [
      | inl before ↦ c.loop-place.invariant k t before here
      | inr at ↦
          let same = same_Some c.tests-item.result t (sym (at_place tests place c.tests-item.result c.loop-place-test.true c.tests-item.is) ∙ ap (slice_get tests) (sym at) ∙ ap (λ ts. slice_get ts k) c.deref-tests-items.ensures.value ∙ ap (λ (r : Rule). slice_get r.tests k) c.rule.ensures ∙ here) in
          subst (λ j. IsSettled true words cells j t) (sym at) (record {
            ws = c.index-words-place.result;
            cell = get_or cells place none;
            words_there = at_place words place c.index-words-place.result c.if-place-words.false c.index-words-place.is;
            cell_there = slice_get-get_or cells place none c.if-place-cells.false;
            settles = λ order v m inside. subst (λ u. satisfied u v m ≡ Told Yes) same (c.asked.ensures c.if-not-asked.false order v m inside);
          })
    ]

pub returns-then-place-cells-clause-must : goal.returns-then-place-cells-clause-must
returns-then-place-cells-clause-must c = λ _. must c.args.words.now c.args.cells.now c.args.row.now (λ k t less here. c.loop-place.invariant k t (omega (arith, less, c.if-place-cells.true)) here)

pub returns-clause-must : goal.returns-clause-must
returns-clause-must c = λ _. must c.args.words.now c.args.cells.now c.args.row.now (λ k t less here.
    let within = slice_get_within c.args.row.now.tests k t here in
    c.loop-place.invariant k t (omega (arith, within, ap length c.deref-tests-items.ensures.value, ap (λ (r : Rule). length r.tests) c.rule.ensures, c.loop-place-test.false)) here)

pub asked-requires : goal.asked-requires
asked-requires c =
    let tests = c.deref-tests-items.result.now in
    let place = c.loop-place.place in
    let there = ap (λ (r : Rule). slice_get r.tests place) (sym c.rule.ensures) ∙ ap (λ ts. slice_get ts place) (sym c.deref-tests-items.ensures.value) ∙ at_place tests place c.tests-item.result c.loop-place-test.true c.tests-item.is in
    IfSome_then c.listing-listing.result c.listing-listing.ensures (λ l lists. lists c.tests-item.result there)
