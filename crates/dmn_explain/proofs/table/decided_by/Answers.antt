use Rattle.std.proofs.Common.{◌∙◌, List, ℕ, map, length, option_map, sym, ap}
use Rattle.std.proofs.lemmas.List.{length-map}
use Rattle.feel_value.specs.Found.{each}
use Rattle.dmn_table.specs.Deciding.{deciding}
use Rattle.dmn_table.specs.Hits.{hit_of}
use Rattle.dmn_table.specs.Parts.{have_entries, rule_view, rules_view}
use Rattle.dmn_table.specs.Table.{Rule}
use Rattle.dmn_explain.specs.Numbered.{hit_view}
use Rattle.dmn_explain.proofs.table.decided_by.Goals as goal

pub deciding-requires-clause-entries : goal.deciding-requires-clause-entries
deciding-requires-clause-entries c =
    ap (have_entries (length c.args.table.now.outputs)) (ap rules_view c.deref.ensures.value ∙ c.in_ok-rules.ensures) ∙ c.requires

pub deciding-requires-clause-numbers : goal.deciding-requires-clause-numbers
deciding-requires-clause-numbers c =
    let hits = map hit_view c.args.hits.now in
    ap length (c.deref-2.ensures.value ∙ c.in_ok-numbers.ensures) ∙ length-map hits (λ h. h.0)
    ∙ sym (sym (length-map c.deref.result.now (λ r. rule_view r.now)) ∙ ap length (ap rules_view c.deref.ensures.value ∙ c.in_ok-rules.ensures) ∙ length-map hits (λ h. h.1))

pub returns : goal.returns
returns c =
    let t = c.args.table.now in
    let m = c.args.env.now in
    let hits = map hit_view c.args.hits.now in
    c.in_ok-found.ensures.numbers
    ∙ ap (λ (ns : List ℕ). option_map (deciding t.policy ns) (each (hit_of t.outputs m) (rules_view c.deref.result.now))) (c.deref-2.ensures.value ∙ c.in_ok-numbers.ensures)
    ∙ ap (λ (rs : List Rule). option_map (deciding t.policy (map (λ h. h.0) hits)) (each (hit_of t.outputs m) rs)) (ap rules_view c.deref.ensures.value ∙ c.in_ok-rules.ensures)
