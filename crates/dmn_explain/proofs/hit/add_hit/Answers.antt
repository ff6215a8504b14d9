use Rattle.std.proofs.Common.{◌≡◌, ap, sym, ◌∙◌, true, Bool, List, ℕ, Option, None, Some, option_map, Vec, Global}
use Rattle.feel_value.specs.Datum.{Datum}
use Rattle.dmn_table.specs.Faults.{goes_by_priority}
use Rattle.dmn_table.specs.Hits.{values_of}
use Rattle.dmn_table.specs.Parts.{rule_view}
use Rattle.dmn_table.specs.Priority.{listed_places, listed_values}
use Rattle.json_writer.specs.Bounded.{longer}
use Rattle.dmn_explain.specs.Text.{places_text}
use Rattle.dmn_explain.proofs.Pieces.{hit_added, places_added_by}
use Rattle.dmn_explain.proofs.hit.add_hit.Goals as goal

pub returns-in_default : goal.returns-in_default
returns-in_default c =
    let hit = c.args.hit.now in
    let none : None ≡ values_of c.args.env.now (rule_view hit.rule.now).gives =
    ap (option_map (λ (v : Vec Datum Global). v.items)) (sym c.in_default.is) ∙ c.in_ok-values.ensures ∙ ap (values_of c.args.env.now) c.deref.ensures.value in
    hit_added c.args.text.now c.push.new.self c.add_key.new.text c.add_number.new.self c.add_valued.new.text c.push-in_default.new.self c.args.table.now c.args.env.now hit.number (rule_view hit.rule.now)
    None none c.in_ok-push.ensures c.in_ok-add_key.ensures c.in_ok-add_number.ensures c.in_ok-add_valued.ensures c.in_ok-push-2.ensures

pub returns : goal.returns
returns c =
    let hit = c.args.hit.now in
    let t = c.args.table.now in
    let values : List Datum = c.in-Some.values.items in
    let some : Some values ≡ values_of c.args.env.now (rule_view hit.rule.now).gives =
    ap (option_map (λ (v : Vec Datum Global). v.items)) (sym c.in-Some.is) ∙ c.in_ok-values.ensures ∙ ap (values_of c.args.env.now) c.deref.ensures.value in
    let t3 = c.add_number.new.self in
    let t4 = c.add_output.new.text in
    let by : Bool = goes_by_priority t.policy in
    let places : List (Option ℕ) = c.in_ok-places.places.items in
    let are : by ≡ true → places ≡ listed_places (listed_values t.outputs) values =
    λ e. c.in_ok-places.ensures ∙ ap (listed_places c.deref-2.result.now) c.deref-3.ensures.value ∙ ap (λ lists. listed_places lists values) (c.deref-2.ensures.value ∙ c.requires.lists e) in
    hit_added c.args.text.now c.push.new.self c.add_key.new.text t3 t4 c.push-2.new.self t c.args.env.now hit.number (rule_view hit.rule.now)
    (Some values) some c.in_ok-push.ensures c.in_ok-add_key.ensures c.in_ok-add_number.ensures
    c.in_ok-add_output.ensures
    (places_added_by t4 c.add_places.new.text c.push-2.new.self by t.outputs values places are
    (c.in_ok-add_places.ensures
    ∙ ap (λ (b : Bool). longer t4 (places_text b c.deref-4.result.now)) (c.goes_by_priority.ensures ∙ ap goes_by_priority c.policy.ensures)
    ∙ ap (λ (ps : List (Option ℕ)). longer t4 (places_text by ps)) c.deref-4.ensures.value)
    c.in_ok-push-3.ensures)
