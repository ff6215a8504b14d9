use Rattle.std.proofs.Common.{◌≡◌, Some, false, [], map, rules, sym, subst}
use Rattle.std.specs.List.{All}
use Rattle.std.proofs.lemmas.List.Elements.{All-map}
use Rattle.dmn_table.specs.Hits.{does_hit}
use Rattle.dmn_table.specs.Parts.{rule_view}
use Rattle.dmn_table.specs.Table.{Rule}
use Rattle.dmn_analysis.proofs.Constants.{not_both}
use Rattle.dmn_analysis.proofs.Places.{All-at, All-from_places, map_at}
use Rattle.dmn_analysis.proofs.gap_answers.gap_of.Goals as goal

pub returns-clause-witness : goal.returns-clause-witness
returns-clause-witness c =
    let all = c.args.rules.now in
    let P : Rule → Type 0 = λ r. does_hit [] c.args.values.items r ≡ Some false in
    let misses = subst (λ vs. All (λ r. does_hit [] vs (rule_view r) ≡ Some false) all) c.deref.ensures.value (c.in_ok-all_miss.ensures.each c.if-not-branch.false) in
    record {
      one_each = search rules;
      misses = All-map P rule_view all misses;
    }

pub returns-then-not-branch-clause-unless : goal.returns-then-not-branch-clause-unless
returns-then-not-branch-clause-unless c = λ none gap.
    let rules = c.args.rules.now in
    let P : Rule → Type 0 = λ r. does_hit [] c.deref.result.now r ≡ Some false in
    let all = All-from_places (λ r. P (rule_view r)) rules (λ k r there.
    All-at P (map rule_view rules) k (rule_view r) (subst (λ vs. All (λ r. does_hit [] vs r ≡ Some false) (map rule_view rules)) (sym c.deref.ensures.value) gap.misses) (map_at rule_view rules k r there)) in
    not_both _ c.if-not-branch.true (c.in_ok-all_miss.ensures.all all)
