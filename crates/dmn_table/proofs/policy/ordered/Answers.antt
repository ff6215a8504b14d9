use Rattle.std.proofs.Common.{◌≡◌, map, sym, ap, ◌∙◌, Some, None, option_map}
use Rattle.feel_value.specs.Found.{each}
use Rattle.dmn_table.specs.Hits.{hit_of}
use Rattle.dmn_table.specs.Parts.{column_view}
use Rattle.dmn_table.specs.RuleOutputs.{fitting, rules_view}
use Rattle.dmn_table.specs.View.{hit_view}
use Rattle.dmn_table.proofs.EqualPlaces.{equal_places}
use Rattle.dmn_table.proofs.FittingHits.{fitting_found, none_in_priority}
use Rattle.dmn_table.proofs.policy.ordered.Goals as goal

pub in_priority-requires : goal.in_priority-requires
in_priority-requires c =
    let found = each (hit_of (map column_view c.args.outputs.now) c.args.env.now) (rules_view c.args.rules.now) in
    let kept : Some (map hit_view c.in-Some.hits.items) ≡ fitting found = sym (ap (option_map (λ v. map hit_view v.items)) c.in-Some.is) ∙ c.in_ok-hits.ensures in
    equal_places c.args.outputs.now (rules_view c.args.rules.now) c.args.env.now c.in-Some.hits.items c.requires.entries (fitting_found (map hit_view c.in-Some.hits.items) found kept)

pub returns-in-None : goal.returns-in-None
returns-in-None c =
    let found = each (hit_of (map column_view c.args.outputs.now) c.args.env.now) (rules_view c.args.rules.now) in
    let refused : None ≡ fitting found = sym (ap (option_map (λ v. map hit_view v.items)) c.in-None.is) ∙ c.in_ok-hits.ensures in
    sym (none_in_priority found refused)
