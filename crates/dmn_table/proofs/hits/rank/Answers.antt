use Rattle.std.proofs.Common.{◌≡◌, ℕ, List, map, sym, ap, ◌∙◌, Some, None, if◌then◌else◌}
use Rattle.feel_value.specs.Datum.{Datum}
use Rattle.dmn_table.specs.Hits.{output_of}
use Rattle.dmn_table.specs.Listed.{listed_values, places_among}
use Rattle.dmn_table.specs.Parts.{column_view, rule_view}
use Rattle.dmn_table.specs.Priority.{Hit, places_of}
use Rattle.dmn_table.specs.RuleOutputs.{lawful_values, value_or_null}
use Rattle.dmn_table.proofs.LawfulValues.{lawful_hit}
use Rattle.dmn_table.proofs.Listing.{places_by_lists}
use Rattle.dmn_table.proofs.hits.rank.Goals as goal

abbrev hit_at : Datum → List ℕ → Hit
hit_at d places = record { places = places; output = d }

pub returns-clause-hit : goal.returns-clause-hit
returns-clause-hit c =
    let cs = map column_view c.args.outputs.now in
    let values = c.lawful_values.new.values.items in
    let found : Some values ≡ lawful_values cs c.args.env.now (rule_view c.args.rule.now) = sym (ap (λ b. if b then Some values else None) c.if-not-are_lawful.false) ∙ c.in_ok-are_lawful.ensures in
    let placed : c.put_places.new.places.items ≡ places_of cs values =
    c.in_ok-put_places.ensures ∙ ap (λ lists. places_among lists c.deref.result.now) c.requires.lists ∙ ap (places_among (listed_values cs)) c.deref.ensures.value ∙ places_by_lists cs values in
    ap (λ places. Some (hit_at (value_or_null (output_of cs values)) places)) placed ∙ (lawful_hit cs c.args.env.now (rule_view c.args.rule.now) values found).0

pub returns-clause-output : goal.returns-clause-output
returns-clause-output c =
    let cs = map column_view c.args.outputs.now in
    let values = c.lawful_values.new.values.items in
    let found : Some values ≡ lawful_values cs c.args.env.now (rule_view c.args.rule.now) = sym (ap (λ b. if b then Some values else None) c.if-not-are_lawful.false) ∙ c.in_ok-are_lawful.ensures in
    λ _. (lawful_hit cs c.args.env.now (rule_view c.args.rule.now) values found).1
