use Rattle.std.proofs.Common.{◌≡◌, ◌∙◌, sym, ap, subst, []}
use Rattle.std.specs.List.{All}
use Rattle.std.specs.Prelude.{◌≢◌}
use Rattle.feel_value.specs.Datum.{null}
use Rattle.feel_text.specs.Satisfied.{Broken, satisfied}
use Rattle.dmn_table.specs.declared.table.Rule.{Rule}
use Rattle.dmn_analysis.proofs.KeptLimits.{Keeps, constant_keeps, is_true_not, kept_rules, some_pushed}
use Rattle.dmn_analysis.proofs.Places.{at_place}
use Rattle.dmn_analysis.proofs.Turning.{all_of, one_more}
use Rattle.dmn_analysis.proofs.broken.broken_rules.Goals as goal

pub loop-place-preserved : goal.loop-place-preserved
loop-place-preserved c = (
  λ none. absurd (some_pushed c.loop-place.broken.items c.loop-place.place (sym c.in_ok-push.ensures.items ∙ none)),
  λ constant.
      let rule = c.index-rules-place.result in
      let same = c.deref.ensures.value ∙ ap (λ (r : Rule). r.tests.items) (sym c.index-rules-place.is) in
      let keeps = constant_keeps c.args.rules.now null c.loop-place.place rule constant (at_place c.args.rules.now c.loop-place.place rule c.loop-place-test.true c.index-rules-place.is) in
      let here = subst (λ ts. All (λ t. satisfied t c.null-null.result c.new-env.result ≢ Broken) ts) (sym same)
      (subst (λ w. All (λ t. satisfied t w c.new-env.result ≢ Broken) rule.tests.items) (sym c.null-null.ensures) (subst (λ m. All (λ t. satisfied t null m ≢ Broken) rule.tests.items) (sym c.new-env.ensures) keeps)) in
      absurd (is_true_not c.in_ok-kept.kept (c.in_ok-kept.ensures.all here) c.if-kept.false),
)

pub loop-place-preserved-then-kept : goal.loop-place-preserved-then-kept
loop-place-preserved-then-kept c = (
  λ none.
      let rule = c.index-rules-place.result in
      let same = c.deref.ensures.value ∙ ap (λ (r : Rule). r.tests.items) (sym c.index-rules-place.is) in
      let here = subst (λ ts. All (λ t. satisfied t c.null-null.result c.new-env.result ≢ Broken) ts) same (c.in_ok-kept.ensures.kept c.if-kept.true) in
      one_more (Keeps null) c.args.rules.now c.loop-place.place rule c.loop-place-test.true c.index-rules-place.is (c.loop-place.invariant.0 none)
      (subst (λ m. All (λ t. satisfied t null m ≢ Broken) rule.tests.items) c.new-env.ensures (subst (λ w. All (λ t. satisfied t w c.new-env.result ≢ Broken) rule.tests.items) c.null-null.ensures here)),
  c.loop-place.invariant.1,
)

pub returns-clause-kept : goal.returns-clause-kept
returns-clause-kept c = λ none. kept_rules c.args.rules.now null (all_of (Keeps null) c.args.rules.now c.loop-place.place c.loop-place-test.false (c.loop-place.invariant.0 none))

pub returns-clause-none : goal.returns-clause-none
returns-clause-none c = c.loop-place.invariant.1
