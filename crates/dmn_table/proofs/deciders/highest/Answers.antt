use Rattle.std.proofs.Common.{◌≡◌, ◌∷◌, ◌+◌, ℕ, map, sym, ap, ap₂, ◌∙◌, Some, None, if◌then◌else◌, rules, length, get_or, drop, true, arith}
use Rattle.std.proofs.lemmas.List.{length-map}
use Rattle.dmn_table.specs.declared.priority.Ranked.{Ranked}
use Rattle.dmn_table.specs.Hits.{hit_of}
use Rattle.dmn_table.specs.Parts.{column_view, rule_view, rules_view, have_entries}
use Rattle.dmn_table.specs.Priority.{Hit}
use Rattle.dmn_table.specs.View.{ranked_hit}
use Rattle.dmn_table.proofs.FirstInPriority.{first_hit, hits_from, one_hit}
use Rattle.dmn_table.proofs.HighestHit.{better_one, from_number, better_one_higher, better_one_lower, better_placed, first_best, last_best, next_best, none_best}
use Rattle.dmn_table.proofs.deciders.highest.Goals as goal
use Rattle.dmn_table.proofs.deciders.highest.Goals.{then-is_higher, else-is_higher}

pub loop-i-init : goal.loop-i-init
loop-i-init c =
    let cs = map column_view c.args.outputs.now in
    let m = c.args.env.now in
    let hit = ranked_hit cs c.rank.new.ranked in
    let split : c.args.rules.now ≡ c.in-Some.rule.now ∷ c.in-Some.rest.now = search rules in
    let found : hit_of cs m (rule_view c.in-Some.rule.now.now) ≡ Some hit = sym c.in_ok-is_hit.ensures.hit ∙ ap (λ b. if b then Some hit else None) c.if-not-is_hit.false in
    let fits : have_entries (length cs) (rules_view c.args.rules.now) ≡ true =
    ap (λ n. have_entries n (rules_view c.args.rules.now)) (length-map c.args.outputs.now column_view) ∙ c.requires.entries in
    let begun = first_hit cs m c.args.rules.now c.in-Some.rest.now c.in-Some.rule.now hit split found fits in
    record {
      found = first_best cs m c.args.rules.now c.in-Some.rest.now c.in-Some.rule.now hit c.args.numbers.now split found fits c.requires.numbers;
      placed = begun.1;
      entries = begun.2;
    }

pub is_higher-requires : goal.is_higher-requires
is_higher-requires c =
    let cs = map column_view c.args.outputs.now in
    let kept = c.loop-i.invariant in
    let hit = ranked_hit cs c.rank-in-loop-i.new.ranked in
    let found : hit_of cs c.args.env.now (rule_view c.index-rest-i.result.now) ≡ Some hit = sym c.in_ok-is_hit-2.ensures.hit ∙ ap (λ b. if b then Some hit else None) c.if-not-is_hit-2.false in
    let turn = one_hit cs c.args.env.now c.in-Some.rest.now c.loop-i.i c.index-rest-i.result (ranked_hit cs c.loop-i.best) hit c.index-rest-i.is c.loop-i-test.true found kept.placed kept.entries in
    turn.1 ∙ sym kept.placed

pub loop-i-preserved : goal.loop-i-preserved
loop-i-preserved c =
    let cs = map column_view c.args.outputs.now in
    let m = c.args.env.now in
    let rest = c.in-Some.rest.now in
    let numbers = c.args.numbers.now in
    let i = c.loop-i.i in
    let kept = c.loop-i.invariant in
    let best : ℕ × Hit = (c.loop-i.number, ranked_hit cs c.loop-i.best) in
    let hit = ranked_hit cs c.rank-in-loop-i.new.ranked in
    let next : ℕ × Hit = (get_or numbers (i + 1) 0, hit) in
    let split : c.args.rules.now ≡ c.in-Some.rule.now ∷ rest = search rules in
    let found : hit_of cs m (rule_view c.index-rest-i.result.now) ≡ Some hit = sym c.in_ok-is_hit-2.ensures.hit ∙ ap (λ b. if b then Some hit else None) c.if-not-is_hit-2.false in
    let turn = one_hit cs m rest i c.index-rest-i.result best.1 hit c.index-rest-i.is c.loop-i-test.true found kept.placed kept.entries in
    let chosen : (c.if-is_higher.number, ranked_hit cs c.if-is_higher.best) ≡ better_one best next = elim c.if-is_higher.branch [
      | then-is_higher w ↦ ap₂ (λ (k : ℕ) (r : Ranked). (k, ranked_hit cs r)) w.number-is (w.best-is ∙ w.swap.ensures.x_after) ∙ sym (better_one_higher best next (sym c.is_higher.ensures ∙ w.if-is_higher.true))
      | else-is_higher w ↦ ap₂ (λ (k : ℕ) (r : Ranked). (k, ranked_hit cs r)) w.number-is w.best-is ∙ sym (better_one_lower best next (sym c.is_higher.ensures ∙ w.if-is_higher.false))
    ] in
    record {
      found = kept.found ∙ next_best cs m rest numbers i best c.index-rest-i.result hit c.index-rest-i.is c.loop-i-test.true found (omega (arith, c.requires.numbers, ap length split, c.loop-i-test.true))
          ∙ ap (λ g. from_number (drop (i + 1 + 1) numbers) g (hits_from cs m rest (i + 1))) (sym chosen);
      placed = ap (λ (g : ℕ × Hit). length g.1.places) chosen ∙ better_placed (length cs) best next kept.placed turn.1;
      entries = turn.2;
    }

pub returns : goal.returns
returns c =
    let cs = map column_view c.args.outputs.now in
    ap Some c.in_ok-from_slice.ensures.items ∙ sym (c.loop-i.invariant.found ∙ last_best cs c.args.env.now c.in-Some.rest.now c.args.numbers.now c.loop-i.i (c.loop-i.number, ranked_hit cs c.loop-i.best) c.loop-i-test.false)
