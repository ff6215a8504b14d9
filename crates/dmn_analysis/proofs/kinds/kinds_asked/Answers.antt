use Rattle.std.proofs.Common.{◌∙◌, ◌++◌, ℕ, [], ◌∷◌, sym, ap, subst, length, map, arith}
use Rattle.std.proofs.lemmas.List.{length-append}
use Rattle.dmn_table.specs.Parts.{rule_view}
use Rattle.dmn_analysis.specs.Kinds.{AsksOf, column_tests, kinds_of}
use Rattle.dmn_analysis.specs.Seeing.{seen_kinds}
use Rattle.dmn_analysis.specs.declared.asked.Asked.{Asked}
use Rattle.dmn_analysis.proofs.Places.{told_more}
use Rattle.dmn_analysis.proofs.kinds.kinds_asked.Goals as goal

pub loop-place-preserved : goal.loop-place-preserved
loop-place-preserved c =
    let rules = c.args.table.now.rules in
    let P : ℕ → Asked → Type 0 = λ place a. AsksOf c.args.words_only (kinds_of (column_tests rules place)) a in
    let asked = c.loop-place.asked.items in
    let long = c.loop-place.invariant.0 in
    let kinds = c.in_ok-seen.ensures ∙ ap (λ rs. kinds_of (column_tests rs c.loop-place.place)) c.rules.ensures.rules in
    let one : P c.loop-place.place c.into_asked-one.result = subst (λ k. AsksOf c.args.words_only k c.into_asked-one.result) kinds c.into_asked-one.ensures in (
      ap length c.in_ok-push.ensures.items ∙ omega (arith, long, length-append asked (c.into_asked-one.result ∷ [])),
      told_more P asked _ c.into_asked-one.result c.loop-place.invariant.1 c.in_ok-push.ensures.items (subst (λ n. P n c.into_asked-one.result) (sym long) one),
    )

pub returns : goal.returns
returns c = record {
  one_each = c.loop-place.invariant.0 ∙ omega (arith, c.loop-place-test.false, c.loop-place.auto.place-end) ∙ ap length c.inputs-count.ensures;
  each = c.loop-place.invariant.1;
}
