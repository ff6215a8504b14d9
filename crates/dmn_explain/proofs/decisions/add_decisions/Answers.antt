use Rattle.std.proofs.Common.{◌≡◌, ◌<◌, ap, sym, subst, ◌∙◌, length, List, ℕ}
use Rattle.std.specs.List.{All, zip}
use Rattle.std.proofs.lemmas.List.Elements.{All-filter}
use Rattle.serde_json.specs.Data.{array, Items}
use Rattle.serde_json.specs.Written.{compact_text, items_text}
use Rattle.feel_value.specs.declared.feel.Outcome.{Outcome}
use Rattle.dmn_service.specs.Decision.{parameters_of, outcome_of}
use Rattle.json_writer.specs.Bounded.{longer}
use Rattle.dmn_explain.specs.Explanation.{needed_parameters}
use Rattle.dmn_explain.specs.Placed.{given_by_place, decided_by_place}
use Rattle.dmn_explain.proofs.Placing.{is_needed, told_same}
use Rattle.dmn_explain.proofs.decisions.add_decisions.Goals as goal

pub add_all_given-requires : goal.add_all_given-requires
add_all_given-requires c =
    let items = c.args.course.now.items.now in
    let plan = c.args.course.now.service.now in
    subst (λ (qs : List ℕ). All (λ q. q < length items) qs) (sym (c.deref.ensures.value ∙ c.in_ok-needed.ensures))
    (All-filter (is_needed items plan) (λ q. q < length items) plan.parameters.items c.requires.parameters)

pub returns : goal.returns
returns c =
    let course = c.args.course.now in
    let items = course.items.now in
    let plan = course.service.now in
    let found = course.outcomes.items in
    let t = c.args.text.now in
    let t1 = c.add_all_given.new.text in
    let later = c.in_ok-later.later in
    let w = c.args.with_misses in
    let rest = decided_by_place w found items plan.order.items in
    let begun : longer t1 (items_text later rest) ≡ longer t (compact_text (array (given_by_place found items (needed_parameters items plan) rest))) =
    c.in_ok-later.ensures rest
    ∙ ap (λ (f : List Outcome). longer t (compact_text (array (given_by_place f items c.deref.result.now rest)))) c.deref-2.ensures.value
    ∙ ap (λ (qs : List ℕ). longer t (compact_text (array (given_by_place found items qs rest)))) (c.deref.ensures.value ∙ c.in_ok-needed.ensures) in
    let ended : c.add_all_decided.new.text ≡ longer t1 (items_text later rest) =
    c.in_ok-add_all_decided.ensures
    ∙ ap (λ (f : List Outcome). longer t1 (items_text later (decided_by_place w f items c.deref-3.result.now))) c.deref-4.ensures.value
    ∙ ap (λ (qs : List ℕ). longer t1 (items_text later (decided_by_place w found items qs))) c.deref-3.ensures.value in
    λ q of.
    ended ∙ begun
    ∙ ap (λ (ds : Items). longer t (compact_text (array ds)))
    (sym (told_same w (outcome_of of.model (zip (parameters_of of.service) q.values)) items found of.model of.service plan of.within of.plan of.given of.decided))
