use Rattle.std.proofs.Common.{◌∙◌, ◌+◌, sym, ap, refl, map, drop, ◌||◌}
use Rattle.std.specs.BTreeSet.{contains_text}
use Rattle.std.proofs.lemmas.List.{at_drop_more}
use Rattle.feel_value.specs.Distinct.{is_among}
use Rattle.desk_requests.proofs.Taken.{one_more_name}
use Rattle.desk_requests.proofs.services.set_of.Goals as goal

pub loop-name-init : goal.loop-name-init
loop-name-init c = λ n. rw c.new-set.ensures.empty refl

pub loop-name-preserved : goal.loop-name-preserved
loop-name-preserved c =
    let i = c.loop-name.name-index in
    let names = c.args.names.now in
    let old = c.loop-name.set in
    one_more_name old c.insert.new.self c.in_ok-name.name _ (map (λ k. k.now) (drop (i + 1) names)) (map (λ k. k.now) names) c.in_ok-insert.ensures.updates c.in_ok-name.ensures.ok
    (λ n. ap (λ b. contains_text old n || b) (sym (at_drop_more (λ ys. is_among (map (λ k. k.now) ys) n) names i _ c.loop-name-test.true)) ∙ c.loop-name.invariant n)
