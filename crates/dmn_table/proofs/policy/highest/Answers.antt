use Rattle.std.proofs.Common.{◌≡◌, ◌∷◌, ◌+◌, List, map, sym, ap, ◌∙◌, subst, Some, None, if◌then◌else◌, IfOk, rules, length}
use Rattle.std.proofs.lemmas.List.{length-map}
use Rattle.feel_value.specs.declared.feel.Outcome.TheVariants.{Is}
use Rattle.dmn_table.specs.declared.priority.Ranked.{Ranked}
use Rattle.dmn_table.specs.Hits.{hit_of, output_of}
use Rattle.dmn_table.specs.Parts.{column_view, rule_view}
use Rattle.dmn_table.specs.Priority.{Hit}
use Rattle.dmn_table.specs.RuleOutputs.{have_entries, rules_view}
use Rattle.dmn_table.specs.View.{ranked_hit}
use Rattle.dmn_table.proofs.FirstInPriority.{better, better_higher, better_lower, better_places, first_hit, from_best, hits_from, one_hit}
use Rattle.dmn_table.specs.Table.{Column}
use Rattle.dmn_table.proofs.LawfulValues.{best_at_end}
use Rattle.dmn_table.proofs.policy.highest.Goals as goal
use Rattle.dmn_table.proofs.policy.highest.Goals.{then-is_higher, else-is_higher}

abbrev IsGiven : List Column → Ranked → Type 0
IsGiven cs r = output_of cs r.values.items ≡ Is (ranked_hit cs r).output

pub loop-rule-init : goal.loop-rule-init
loop-rule-init c =
    let cs = map column_view c.args.outputs.now in
    let m = c.args.env.now in
    let split : c.args.rules.now ≡ c.in-Some.rule.now ∷ c.in-Some.rest.now = search rules in
    let found : hit_of cs m (rule_view c.in-Some.rule.now.now) ≡ Some (ranked_hit cs c.rank.new.ranked) = sym c.in_ok-is_hit.ensures.hit ∙ ap (λ b. if b then Some (ranked_hit cs c.rank.new.ranked) else None) c.if-not-is_hit.false in
    let begun = first_hit cs m c.args.rules.now c.in-Some.rest.now c.in-Some.rule.now (ranked_hit cs c.rank.new.ranked) split found
    (ap (λ n. have_entries n (rules_view c.args.rules.now)) (length-map c.args.outputs.now column_view) ∙ c.requires.entries) in
    (begun.0, begun.1, begun.2, c.in_ok-is_hit.ensures.output c.if-not-is_hit.false)

pub is_higher-requires : goal.is_higher-requires
is_higher-requires c =
    let cs = map column_view c.args.outputs.now in
    let m = c.args.env.now in
    let kept = c.loop-rule.invariant in
    let found : hit_of cs m (rule_view c.rule-item.result.now) ≡ Some (ranked_hit cs c.rank-in-loop-rule.new.ranked) = sym c.in_ok-is_hit-2.ensures.hit ∙ ap (λ b. if b then Some (ranked_hit cs c.rank-in-loop-rule.new.ranked) else None) c.if-not-is_hit-2.false in
    let turn = one_hit cs m c.in-Some.rest.now c.loop-rule.rule-index c.rule-item.result (ranked_hit cs c.loop-rule.best) (ranked_hit cs c.rank-in-loop-rule.new.ranked) c.rule-item.is c.loop-rule-test.true found kept.1 kept.2 in
    turn.1 ∙ sym kept.1

pub loop-rule-preserved : goal.loop-rule-preserved
loop-rule-preserved c =
    let cs = map column_view c.args.outputs.now in
    let m = c.args.env.now in
    let rest = c.in-Some.rest.now in
    let next = c.loop-rule.rule-index + 1 in
    let best = ranked_hit cs c.loop-rule.best in
    let hit = ranked_hit cs c.rank-in-loop-rule.new.ranked in
    let kept = c.loop-rule.invariant in
    let found : hit_of cs m (rule_view c.rule-item.result.now) ≡ Some hit = sym c.in_ok-is_hit-2.ensures.hit ∙ ap (λ b. if b then Some (ranked_hit cs c.rank-in-loop-rule.new.ranked) else None) c.if-not-is_hit-2.false in
    let turn = one_hit cs m rest c.loop-rule.rule-index c.rule-item.result best hit c.rule-item.is c.loop-rule-test.true found kept.1 kept.2 in
    let chosen : ranked_hit cs c.if-is_higher.best ≡ better best hit = elim c.if-is_higher.branch [
      | then-is_higher w ↦ ap (ranked_hit cs) (w.best-is ∙ w.swap.ensures.x_after) ∙ sym (better_higher best hit (sym c.is_higher.ensures ∙ w.if-is_higher.true))
      | else-is_higher w ↦ ap (ranked_hit cs) w.best-is ∙ sym (better_lower best hit (sym c.is_higher.ensures ∙ w.if-is_higher.false))
    ] in (
      kept.0 ∙ turn.0 ∙ ap (λ g. from_best g (hits_from cs m rest next)) (sym chosen),
      ap (λ (g : Hit). length g.places) chosen ∙ better_places (length cs) best hit kept.1 turn.1,
      turn.2,
      elim c.if-is_higher.branch [
        | then-is_higher w ↦ subst (IsGiven cs) (sym (w.best-is ∙ w.swap.ensures.x_after)) (c.in_ok-is_hit-2.ensures.output c.if-not-is_hit-2.false)
        | else-is_higher w ↦ subst (IsGiven cs) (sym w.best-is) kept.3
      ],
    )

pub returns : goal.returns
returns c =
    let cs = map column_view c.args.outputs.now in
    let kept = c.loop-rule.invariant in
    subst (λ d. IfOk c.one_or_context.result (λ o. o ≡ d))
    (kept.3 ∙ sym (kept.0 ∙ best_at_end cs c.args.env.now c.in-Some.rest.now c.loop-rule.rule-index (ranked_hit cs c.loop-rule.best) c.loop-rule-test.false))
    c.one_or_context.ensures
