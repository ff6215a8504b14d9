use Rattle.std.proofs.Common.{◌≡◌, ◌∙◌, sym, ap, None, Some, true, [], arith}
use Rattle.std.proofs.lemmas.List.{length-map}
use Rattle.std.proofs.lemmas.Option.{same_Some, slice_get_within}
use Rattle.dmn_table.specs.Hits.{does_hit}
use Rattle.dmn_table.specs.Parts.{rule_view}
use Rattle.dmn_analysis.proofs.Places.{at_place, map_at}
use Rattle.dmn_analysis.proofs.asking.hits.Goals as goal

pub returns-clause-hits : goal.returns-clause-hits
returns-clause-hits c = λ hit.
    let rules = c.args.rules.now in
    let one = c.index-rules-i.result in
    record {
      rule = rule_view one;
      there = map_at rule_view rules c.args.i one (at_place rules c.args.i one (omega (arith, c.if-i-rules.false)) c.index-rules-i.is);
      hits = ap (λ m. does_hit m c.args.values.now (rule_view one)) (sym c.new-env.ensures) ∙ sym c.in_ok-hit.ensures ∙ c.in-Some.is ∙ ap Some hit;
    }

pub returns-then-i-rules-clause-all : goal.returns-then-i-rules-clause-all
returns-then-i-rules-clause-all c = λ hits.
    absurd (omega (arith, slice_get_within _ c.args.i hits.rule hits.there, length-map c.args.rules.now rule_view, c.if-i-rules.true))

pub returns-in_default-clause-all : goal.returns-in_default-clause-all
returns-in_default-clause-all c = λ hits.
    let rules = c.args.rules.now in
    let one = c.index-rules-i.result in
    let same = same_Some (rule_view one) hits.rule (sym (map_at rule_view rules c.args.i one (at_place rules c.args.i one (omega (arith, c.if-i-rules.false)) c.index-rules-i.is)) ∙ hits.there) in
    let wrong : None ≡ Some true = sym c.in_default.is ∙ c.in_ok-hit.ensures ∙ ap (λ m. does_hit m c.args.values.now (rule_view one)) c.new-env.ensures ∙ ap (does_hit [] c.args.values.now) same ∙ hits.hits in cc

pub returns-clause-all : goal.returns-clause-all
returns-clause-all c = λ hits.
    let rules = c.args.rules.now in
    let one = c.index-rules-i.result in
    let same = same_Some (rule_view one) hits.rule (sym (map_at rule_view rules c.args.i one (at_place rules c.args.i one (omega (arith, c.if-i-rules.false)) c.index-rules-i.is)) ∙ hits.there) in
    same_Some c.in-Some.hit true (sym c.in-Some.is ∙ c.in_ok-hit.ensures ∙ ap (λ m. does_hit m c.args.values.now (rule_view one)) c.new-env.ensures ∙ ap (does_hit [] c.args.values.now) same ∙ hits.hits)
