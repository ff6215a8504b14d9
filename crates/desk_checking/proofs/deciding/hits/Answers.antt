use Rattle.std.proofs.Common.{◌≡◌, ◌∙◌, ◌<◌, sym, ap, length, Some, true, arith}
use Rattle.std.specs.List.{slice_get}
use Rattle.std.proofs.lemmas.List.Elements.{All-weaker}
use Rattle.std.proofs.lemmas.List.{length-map}
use Rattle.feel_value.specs.Limits.{is_value}
use Rattle.dmn_table.specs.Parts.{rule_view}
use Rattle.dmn_analysis.specs.Asked.{is_in_utf8}
use Rattle.desk_checking.proofs.Deciders.{there_at}
use Rattle.desk_checking.proofs.deciding.hits.Goals as goal

pub returns : goal.returns
returns c = λ yes.
    let values = c.args.values.now in
    let all = c.rules-rules.result.now in
    let one = c.index-rules-rule.result in
    let within : c.args.rule < length all = omega (arith, c.requires, ap length c.rules-rules.ensures.rules, length-map all rule_view) in
    record {
      inputs = record {
        one_each = grind (arith, c.if-values-count.false, ap length c.inputs-count.ensures);
        lawful = All-weaker (λ v. (is_value v ≡ true) × (is_in_utf8 v ≡ true)) (λ v. is_value v ≡ true) (λ v both. both.0) values c.see_values.ensures;
      };
      utf8 = All-weaker (λ v. (is_value v ≡ true) × (is_in_utf8 v ≡ true)) (λ v. is_in_utf8 v ≡ true) (λ v both. both.1) values c.see_values.ensures;
      rule = rule_view one;
      there = ap (λ rs. slice_get rs c.args.rule) (sym c.rules-rules.ensures.rules) ∙ there_at rule_view all c.args.rule one within c.index-rules-rule.is;
      hits = sym c.in_ok-hit.ensures ∙ c.in-Some.is ∙ ap Some yes;
    }
