use Rattle.std.proofs.Common.{◌≡◌, map, length, option_map, sym, ap, ◌∙◌, subst, IfOk}
use Rattle.std.proofs.lemmas.List.{length-map}
use Rattle.feel_value.specs.Found.{each}
use Rattle.dmn_table.specs.Deciding.{deciding}
use Rattle.dmn_table.specs.Hits.{hit_of}
use Rattle.dmn_table.specs.Parts.{column_view, rule_view, rules_view}
use Rattle.dmn_table.proofs.DecidingHits.{rules_unique, rules_any, rules_first, rules_output_order, rules_rule_order, rules_collect, rules_sum, rules_least, rules_greatest, rules_count}
use Rattle.dmn_table.proofs.deciders.deciding_under.Goals as goal

pub returns-in-Unique : goal.returns-in-Unique
returns-in-Unique c =
    let cs = map column_view c.args.outputs.now in
    let m = c.args.env.now in
    let rs = rules_view c.args.rules.now in
    let ns = c.args.numbers.now in
    subst (λ o. IfOk c.only_one.result (λ found. option_map (λ v. v.items) found ≡ o))
    (rules_unique cs m rs ns (c.requires.numbers ∙ sym (length-map c.args.rules.now (λ r. rule_view r.now))) ∙ ap (λ p. option_map (deciding p ns) (each (hit_of cs m) rs)) (sym c.in-Unique.is)) c.only_one.ensures

pub returns-in-Any : goal.returns-in-Any
returns-in-Any c =
    let cs = map column_view c.args.outputs.now in
    let m = c.args.env.now in
    let rs = rules_view c.args.rules.now in
    let ns = c.args.numbers.now in
    subst (λ o. IfOk c.equal_ones.result (λ found. option_map (λ v. v.items) found ≡ o))
    (rules_any cs m rs ns (c.requires.numbers ∙ sym (length-map c.args.rules.now (λ r. rule_view r.now))) ∙ ap (λ p. option_map (deciding p ns) (each (hit_of cs m) rs)) (sym c.in-Any.is)) c.equal_ones.ensures

pub returns-in-First : goal.returns-in-First
returns-in-First c =
    let cs = map column_view c.args.outputs.now in
    let m = c.args.env.now in
    let rs = rules_view c.args.rules.now in
    let ns = c.args.numbers.now in
    subst (λ o. IfOk c.first.result (λ found. option_map (λ v. v.items) found ≡ o))
    (rules_first cs m rs ns (c.requires.numbers ∙ sym (length-map c.args.rules.now (λ r. rule_view r.now))) ∙ ap (λ p. option_map (deciding p ns) (each (hit_of cs m) rs)) (sym c.in-First.is)) c.first.ensures

pub returns-in-OutputOrder : goal.returns-in-OutputOrder
returns-in-OutputOrder c =
    let cs = map column_view c.args.outputs.now in
    let m = c.args.env.now in
    let rs = rules_view c.args.rules.now in
    let ns = c.args.numbers.now in
    subst (λ o. IfOk c.all.result (λ found. option_map (λ v. v.items) found ≡ o))
    (rules_output_order cs m rs ns (c.requires.numbers ∙ sym (length-map c.args.rules.now (λ r. rule_view r.now))) ∙ ap (λ p. option_map (deciding p ns) (each (hit_of cs m) rs)) (sym c.in-OutputOrder.is)) c.all.ensures

pub returns-in-RuleOrder : goal.returns-in-RuleOrder
returns-in-RuleOrder c =
    let cs = map column_view c.args.outputs.now in
    let m = c.args.env.now in
    let rs = rules_view c.args.rules.now in
    let ns = c.args.numbers.now in
    subst (λ o. IfOk c.all-in-RuleOrder.result (λ found. option_map (λ v. v.items) found ≡ o))
    (rules_rule_order cs m rs ns (c.requires.numbers ∙ sym (length-map c.args.rules.now (λ r. rule_view r.now))) ∙ ap (λ p. option_map (deciding p ns) (each (hit_of cs m) rs)) (sym c.in-RuleOrder.is)) c.all-in-RuleOrder.ensures

pub returns-in-Collect : goal.returns-in-Collect
returns-in-Collect c =
    let cs = map column_view c.args.outputs.now in
    let m = c.args.env.now in
    let rs = rules_view c.args.rules.now in
    let ns = c.args.numbers.now in
    subst (λ o. IfOk c.all-in-Collect.result (λ found. option_map (λ v. v.items) found ≡ o))
    (rules_collect cs m rs ns (c.requires.numbers ∙ sym (length-map c.args.rules.now (λ r. rule_view r.now))) ∙ ap (λ p. option_map (deciding p ns) (each (hit_of cs m) rs)) (sym c.in-Collect.is)) c.all-in-Collect.ensures

pub returns-in-Sum : goal.returns-in-Sum
returns-in-Sum c =
    let cs = map column_view c.args.outputs.now in
    let m = c.args.env.now in
    let rs = rules_view c.args.rules.now in
    let ns = c.args.numbers.now in
    subst (λ o. IfOk c.summands.result (λ found. option_map (λ v. v.items) found ≡ o))
    (rules_sum cs m rs ns (c.requires.numbers ∙ sym (length-map c.args.rules.now (λ r. rule_view r.now))) ∙ ap (λ p. option_map (deciding p ns) (each (hit_of cs m) rs)) (sym c.in-Sum.is)) c.summands.ensures

pub returns-in-Least : goal.returns-in-Least
returns-in-Least c =
    let cs = map column_view c.args.outputs.now in
    let m = c.args.env.now in
    let rs = rules_view c.args.rules.now in
    let ns = c.args.numbers.now in
    subst (λ o. IfOk c.least.result (λ found. option_map (λ v. v.items) found ≡ o))
    (rules_least cs m rs ns (c.requires.numbers ∙ sym (length-map c.args.rules.now (λ r. rule_view r.now))) ∙ ap (λ p. option_map (deciding p ns) (each (hit_of cs m) rs)) (sym c.in-Least.is)) c.least.ensures

pub returns-in-Greatest : goal.returns-in-Greatest
returns-in-Greatest c =
    let cs = map column_view c.args.outputs.now in
    let m = c.args.env.now in
    let rs = rules_view c.args.rules.now in
    let ns = c.args.numbers.now in
    subst (λ o. IfOk c.greatest.result (λ found. option_map (λ v. v.items) found ≡ o))
    (rules_greatest cs m rs ns (c.requires.numbers ∙ sym (length-map c.args.rules.now (λ r. rule_view r.now))) ∙ ap (λ p. option_map (deciding p ns) (each (hit_of cs m) rs)) (sym c.in-Greatest.is)) c.greatest.ensures

pub returns-in-Count : goal.returns-in-Count
returns-in-Count c =
    let cs = map column_view c.args.outputs.now in
    let m = c.args.env.now in
    let rs = rules_view c.args.rules.now in
    let ns = c.args.numbers.now in
    subst (λ o. IfOk c.all-in-Count.result (λ found. option_map (λ v. v.items) found ≡ o))
    (rules_count cs m rs ns (c.requires.numbers ∙ sym (length-map c.args.rules.now (λ r. rule_view r.now))) ∙ ap (λ p. option_map (deciding p ns) (each (hit_of cs m) rs)) (sym c.in-Count.is)) c.all-in-Count.ensures
