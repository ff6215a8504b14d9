use Rattle.std.proofs.Common.{Some, option_map, sym, ap, ◌∙◌}
use Rattle.std.specs.Option.{is_none}
use Rattle.dmn_table.specs.Parts.{rule_view}
use Rattle.dmn_table.proofs.FirstMiss.{hits_without_miss}
use Rattle.desk_checking.proofs.deciding.does_hit.Goals as goal

pub returns-in-None : goal.returns-in-None
returns-in-None c =
    ap (option_map is_none) (sym (ap Some c.in-None.is) ∙ (sym c.in-Some.is ∙ c.in_ok-miss.ensures))
    ∙ hits_without_miss c.args.env.now c.args.values.now (rule_view c.args.rule.now)

pub returns-in-Some-miss : goal.returns-in-Some-miss
returns-in-Some-miss c =
    ap (option_map is_none) (sym (ap Some c.in-Some-miss.is) ∙ (sym c.in-Some.is ∙ c.in_ok-miss.ensures))
    ∙ hits_without_miss c.args.env.now c.args.values.now (rule_view c.args.rule.now)
