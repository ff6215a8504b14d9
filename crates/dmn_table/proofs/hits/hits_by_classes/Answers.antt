use Rattle.std.proofs.Common.{◌∙◌, ◌+◌, sym, ap, subst, refl, map, Some, None, if◌then◌else◌, arith}
use Rattle.dmn_table.specs.Classes.{input_entries}
use Rattle.dmn_table.specs.Parts.{rule_view}
use Rattle.dmn_table.specs.RuleOutputs.{rules_view, hits_among}
use Rattle.table_classes.specs.Classes.{AreRowsOf}
use Rattle.table_classes.proofs.ClassWords.{rest_after}
use Rattle.dmn_table.proofs.WordHits.{block_broken, block_misses, block_more}
use Rattle.dmn_table.proofs.hits.hits_by_classes.Goals as goal

pub add_hits-requires-clause-others : goal.add_hits-requires-clause-others
add_hits-requires-clause-others c =
    let rules = c.args.rules.now in
    let values = c.args.values.now in
    block_misses c.args.env.now values rules c.split_at.result.0.now c.loop-rest.rest.now c.deref.result.now c.loop-rest.place c.min.result c.common-word.result
    (subst (AreRowsOf (input_entries rules) values) (sym c.deref.ensures.value) (c.in_ok-rows.ensures (input_entries rules) c.requires.tell))
    c.common-word.ensures c.loop-rest.invariant.left c.split_at.ensures.front (omega (arith, c.min.ensures))

pub returns-then-not-all : goal.returns-then-not-all
returns-then-not-all c =
    let rules = c.args.rules.now in
    let more = c.split_at.ensures in
    block_broken c.args.env.now c.args.values.now (hits_among c.args.env.now c.args.values.now (map rule_view rules)) (rules_view c.loop-rest.hits.items)
    c.min.result c.loop-rest.rest.now c.split_at.result.0.now c.split_at.result.1.now c.loop-rest.invariant.found more.front more.back
    (sym (ap (λ b. if b then Some (rules_view c.add_hits.new.hits.items) else None) c.if-not-all.true) ∙ c.in_ok-all.ensures)

pub loop-rest-preserved : goal.loop-rest-preserved
loop-rest-preserved c =
    let rules = c.args.rules.now in
    let rest = c.loop-rest.rest.now in
    let place = c.loop-rest.place in
    let more = c.split_at.ensures in
    record {
      left = rest_after place (place + 1) c.min.result rules rest c.split_at.result.1.now c.loop-rest.invariant.left c.min.ensures more.back refl;
      found = block_more c.args.env.now c.args.values.now (hits_among c.args.env.now c.args.values.now (map rule_view rules)) (rules_view c.loop-rest.hits.items) (rules_view c.add_hits.new.hits.items)
          c.min.result rest c.split_at.result.0.now c.split_at.result.1.now c.loop-rest.invariant.found more.front more.back
          (sym (ap (λ b. if b then Some (rules_view c.add_hits.new.hits.items) else None) c.if-not-all.false) ∙ c.in_ok-all.ensures);
    }
