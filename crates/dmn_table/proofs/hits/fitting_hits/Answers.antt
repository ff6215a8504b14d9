use Rattle.std.proofs.Common.{◌≡◌, ◌∷◌, ◌++◌, [], ◌+◌, map, sym, ap, ◌∙◌, false, Some, if◌then◌else◌, option_map}
use Rattle.std.proofs.lemmas.List.{map-append}
use Rattle.feel_value.specs.Datum.{list, items_of}
use Rattle.feel_value.specs.Limits.{is_value}
use Rattle.feel_value.specs.Found.{each}
use Rattle.dmn_table.specs.Hits.{hit_of}
use Rattle.dmn_table.specs.Parts.{column_view, rule_view}
use Rattle.dmn_table.specs.RuleOutputs.{rules_view}
use Rattle.dmn_table.specs.View.{hit_view}
use Rattle.dmn_table.proofs.Each.{after, after_more}
use Rattle.dmn_table.proofs.FirstInPriority.{hits_from, next_hit}
use Rattle.dmn_table.proofs.FittingHits.{one_counted, one_too_many}
use Rattle.dmn_table.proofs.hits.fitting_hits.Goals as goal

pub returns-then-not-branch : goal.returns-then-not-branch
returns-then-not-branch c =
    let cs = map column_view c.args.outputs.now in
    let m = c.args.env.now in
    let rs = c.args.rules.now in
    let i = c.loop-rule.rule-index in
    let hs = map hit_view c.loop-rule.hits.items in
    let h = hit_view c.in-Some.hit in
    let found : hit_of cs m (rule_view c.rule-item.result.now) ≡ Some h = sym c.in_ok-hit.ensures ∙ ap (option_map hit_view) c.in-Some.is in
    let refused : is_value (list (items_of (c.loop-rule.values ++ c.in_ok-try_clone.field-0 ∷ []))) ≡ false = sym c.in_ok-push.ensures.fits ∙ c.if-not-branch.true in
    one_too_many hs h c.loop-rule.values c.in_ok-try_clone.field-0 (each (hit_of cs m) (rules_view rs)) (hits_from cs m rs (i + 1)) c.loop-rule.invariant.1 c.in_ok-try_clone.ensures
    (c.loop-rule.invariant.0 ∙ ap (after hs) (next_hit cs m rs i c.rule-item.result (Some h) c.rule-item.is c.loop-rule-test.true found) ∙ after_more hs h (hits_from cs m rs (i + 1)))
    refused

pub loop-rule-preserved : goal.loop-rule-preserved
loop-rule-preserved c =
    let cs = map column_view c.args.outputs.now in
    let m = c.args.env.now in
    let rs = c.args.rules.now in
    let i = c.loop-rule.rule-index in
    let hs = map hit_view c.loop-rule.hits.items in
    let h = hit_view c.in-Some.hit in
    let ds = c.loop-rule.values in
    let d = c.in_ok-try_clone.field-0 in
    let found : hit_of cs m (rule_view c.rule-item.result.now) ≡ Some h = sym c.in_ok-hit.ensures ∙ ap (option_map hit_view) c.in-Some.is in
    let pushed : map hit_view c.push-in-loop-rule.new.self.items ≡ hs ++ h ∷ [] = ap (map hit_view) c.in_ok-push-2.ensures.items ∙ map-append hit_view c.loop-rule.hits.items (c.in-Some.hit ∷ []) in
    let taken : c.push.new.self ≡ ds ++ d ∷ [] = c.in_ok-push.ensures.taken ∙ ap (λ b. if b then ds ++ d ∷ [] else ds) c.if-not-branch.false in (
      c.loop-rule.invariant.0 ∙ ap (after hs) (next_hit cs m rs i c.rule-item.result (Some h) c.rule-item.is c.loop-rule-test.true found) ∙ after_more hs h (hits_from cs m rs (i + 1))
          ∙ ap (λ xs. after xs (hits_from cs m rs (i + 1))) (sym pushed),
      taken ∙ one_counted hs h ds d c.loop-rule.invariant.1 c.in_ok-try_clone.ensures ∙ ap (map (λ h. h.output)) (sym pushed),
      ap (λ xs. is_value (list (items_of xs))) taken ∙ sym c.in_ok-push.ensures.fits ∙ c.if-not-branch.false,
    )
