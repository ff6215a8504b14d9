use Rattle.std.proofs.Common.{◌≡◌, List, ℕ, map, length, Some, None, option_map, Vec, Global, sym, ap, subst, ◌∙◌}
use Rattle.std.proofs.lemmas.Result.{on_ok_weaker}
use Rattle.json.specs.Print.{quoted}
use Rattle.serde_json.specs.Written.{compact_text}
use Rattle.feel_value.specs.Datum.{Datum, list, items_of}
use Rattle.feel_value.specs.Json.{json_of}
use Rattle.dmn_table.specs.Faults.{policy_text}
use Rattle.dmn_table.specs.Hits.{values_of}
use Rattle.dmn_table.specs.MayHit.{LeavesOutOf}
use Rattle.dmn_table.specs.Parts.{rule_view}
use Rattle.dmn_table.specs.Table.{Rule}
use Rattle.json_writer.specs.Bounded.{longer}
use Rattle.dmn_explain.specs.Numbered.{asked_view, found_from}
use Rattle.dmn_explain.proofs.Pieces.{inputs_added, table_added}
use Rattle.dmn_explain.proofs.Rows.{found_entries}
use Rattle.dmn_explain.proofs.table.add_table.Goals as goal

pub returns-in_default : goal.returns-in_default
returns-in_default c =
    let m = c.args.env.now in
    let t = c.args.table.now in
    let t2 = c.add_key.new.text in
    let none : None ≡ values_of m t.inputs =
    ap (option_map (λ (v : Vec Datum Global). v.items)) (sym c.in_default.is) ∙ c.in_ok-values.ensures ∙ ap (values_of m) c.inputs.ensures in
    table_added c.args.text.now c.push.new.self t2 c.add_quoted.new.self c.push-in_default.new.self c.args.with_misses t m None none c.in_ok-push.ensures c.in_ok-add_key.ensures
    (c.in_ok-add_quoted.ensures ∙ ap (λ (s : List ℕ). longer t2 (quoted s)) (c.text.ensures.text ∙ ap policy_text c.policy.ensures)) c.in_ok-push-2.ensures

pub returns-in_default-2 : goal.returns-in_default-2
returns-in_default-2 c =
    let m = c.args.env.now in
    let t = c.args.table.now in
    let w = c.args.with_misses in
    let t2 = c.add_key.new.text in
    let t3 = c.add_quoted.new.self in
    let t4 = c.add_key-2.new.text in
    let values : List Datum = c.in-Some.values.items in
    let some : Some values ≡ values_of m t.inputs =
    ap (option_map (λ (v : Vec Datum Global). v.items)) (sym c.in-Some.is) ∙ c.in_ok-values.ensures ∙ ap (values_of m) c.inputs.ensures in
    let none : None ≡ found_from w 1 m values t.rules =
    ap (option_map asked_view) (sym c.in_default-2.is) ∙ c.in_ok-asked.ensures
    ∙ ap (λ (vs : List Datum). found_from w 1 m vs (map rule_view c.rules.result.now)) c.deref-3.ensures.value ∙ ap (λ (rs : List Rule). found_from w 1 m values rs) c.rules.ensures.rules in
    table_added c.args.text.now c.push.new.self t2 t3 c.push-in_default-2.new.self w t m (Some values) some c.in_ok-push.ensures c.in_ok-add_key.ensures
    (c.in_ok-add_quoted.ensures ∙ ap (λ (s : List ℕ). longer t2 (quoted s)) (c.text.ensures.text ∙ ap policy_text c.policy.ensures))
    (inputs_added t3 t4 c.add_values.new.text c.push-in_default-2.new.self w t m values None none c.in_ok-add_key-2.ensures
    (c.in_ok-add_values.ensures ∙ ap (λ (vs : List Datum). longer t4 (compact_text (json_of (list (items_of vs))))) c.deref.ensures.value) c.in_ok-push-3.ensures)

pub add_found-requires : goal.add_found-requires
add_found-requires c =
    let m = c.args.env.now in
    let t = c.args.table.now in
    let w = c.args.with_misses in
    let values : List Datum = c.in-Some.values.items in
    let some : Some (asked_view c.in-Some-2.asked) ≡ found_from w 1 m values t.rules =
    ap (option_map asked_view) (sym c.in-Some-2.is) ∙ c.in_ok-asked.ensures
    ∙ ap (λ (vs : List Datum). found_from w 1 m vs (map rule_view c.rules.result.now)) c.deref-3.ensures.value ∙ ap (λ (rs : List Rule). found_from w 1 m values rs) c.rules.ensures.rules in
    found_entries w (length t.outputs) m values t.rules (asked_view c.in-Some-2.asked) c.rules.ensures.entries some

pub returns : goal.returns
returns c =
    let m = c.args.env.now in
    let t = c.args.table.now in
    let w = c.args.with_misses in
    let t2 = c.add_key.new.text in
    let t3 = c.add_quoted.new.self in
    let t4 = c.add_key-2.new.text in
    let values : List Datum = c.in-Some.values.items in
    let some : Some values ≡ values_of m t.inputs =
    ap (option_map (λ (v : Vec Datum Global). v.items)) (sym c.in-Some.is) ∙ c.in_ok-values.ensures ∙ ap (values_of m) c.inputs.ensures in
    let found : Some (asked_view c.in-Some-2.asked) ≡ found_from w 1 m values t.rules =
    ap (option_map asked_view) (sym c.in-Some-2.is) ∙ c.in_ok-asked.ensures
    ∙ ap (λ (vs : List Datum). found_from w 1 m vs (map rule_view c.rules.result.now)) c.deref-3.ensures.value ∙ ap (λ (rs : List Rule). found_from w 1 m values rs) c.rules.ensures.rules in
    on_ok_weaker c.add_found.result
    (λ is. table_added c.args.text.now c.push.new.self t2 t3 c.add_found.new.text w t m (Some values) some c.in_ok-push.ensures c.in_ok-add_key.ensures
    (c.in_ok-add_quoted.ensures ∙ ap (λ (s : List ℕ). longer t2 (quoted s)) (c.text.ensures.text ∙ ap policy_text c.policy.ensures))
    (inputs_added t3 t4 c.add_values.new.text c.add_found.new.text w t m values (Some (asked_view c.in-Some-2.asked)) found c.in_ok-add_key-2.ensures
    (c.in_ok-add_values.ensures ∙ ap (λ (vs : List Datum). longer t4 (compact_text (json_of (list (items_of vs))))) c.deref.ensures.value) is))
    c.add_found.ensures

pub ask_rules-requires : goal.ask_rules-requires
ask_rules-requires c =
    let some = c.in_ok-some.some in
    subst (λ vs. LeavesOutOf (map rule_view c.rules.result.now) vs some) (c.deref-2.ensures.value ∙ sym c.deref-3.ensures.value)
    (subst (λ rs. LeavesOutOf rs c.deref-2.result.now some) (sym c.rules.ensures.rules) c.in_ok-some.ensures)
