use Rattle.std.proofs.Common.{◌≡◌, ◌∙◌, ◌<◌, sym, ap, ap₂, [], ◌∷◌, drop, length, option_map, vec_len, Some, arith}
use Rattle.std.specs.List.{slice_get}
use Rattle.std.proofs.lemmas.List.{length-map}
use Rattle.dmn_table.specs.Deciding.{deciding}
use Rattle.dmn_table.specs.Parts.{rule_view}
use Rattle.dmn_table.specs.declared.hit_policy.HitPolicy.TheVariants.{Priority}
use Rattle.desk_checking.proofs.Deciders.{both, head_rest, more_than_none, one_at, there_at, two_entries}
use Rattle.desk_checking.proofs.deciding.first_of_two.Goals as goal

pub deciding-requires-clause-entries : goal.deciding-requires-clause-entries
deciding-requires-clause-entries c =
    let t = c.args.table.now in
    let all = c.rules-rules.result.now in
    let in_rules : length t.rules ≡ length all = ap length (sym c.rules-rules.ensures.rules) ∙ length-map all rule_view in
    two_entries (length t.outputs) t.rules c.args.first c.args.second (rule_view c.index-rules-first.result) (rule_view c.index-rules-second.result) c.rules-rules.ensures.entries
    (ap (λ rs. slice_get rs c.args.first) (sym c.rules-rules.ensures.rules) ∙ there_at rule_view all c.args.first c.index-rules-first.result (omega (arith, c.requires.first, in_rules)) c.index-rules-first.is)
    (ap (λ rs. slice_get rs c.args.second) (sym c.rules-rules.ensures.rules) ∙ there_at rule_view all c.args.second c.index-rules-second.result (omega (arith, c.requires.second, in_rules)) c.index-rules-second.is)

pub returns : goal.returns
returns c = λ r s there here.
    let t = c.args.table.now in
    let m = c.args.env.now in
    let all = c.rules-rules.result.now in
    let one = rule_view c.index-rules-first.result in
    let other = rule_view c.index-rules-second.result in
    let numbers = c.args.first ∷ c.args.second ∷ [] in
    let found = c.in-Some.found.items in
    let some : 0 < length found =
    omega (arith, more_than_none (vec_len c.in-Some.found) c.is_empty.result c.is_empty.ensures c.if-is_empty.false, c.in-Some.found.ok.0) in
    let in_rules : length t.rules ≡ length all = ap length (sym c.rules-rules.ensures.rules) ∙ length-map all rule_view in
    let same = one_at rule_view all c.args.first c.index-rules-first.result r (omega (arith, c.requires.first, in_rules)) c.index-rules-first.is (ap (λ rs. slice_get rs c.args.first) c.rules-rules.ensures.rules ∙ there) in
    let also = one_at rule_view all c.args.second c.index-rules-second.result s (omega (arith, c.requires.second, in_rules)) c.index-rules-second.is (ap (λ rs. slice_get rs c.args.second) c.rules-rules.ensures.rules ∙ here) in
    record {
      rest = drop 1 found;
      picked =
          ap Some
          (ap (λ n. n ∷ drop 1 found) c.index.ensures ∙ head_rest found c.index.result.now some)
          ∙ sym (ap (option_map (λ v. v.items)) c.in-Some.is) ∙ c.in_ok-found.ensures.numbers
          ∙ ap (λ p. option_map (deciding p numbers) (both t.outputs m one other)) c.requires.policy
          ∙ ap₂ (λ x y. option_map (deciding Priority numbers) (both t.outputs m x y)) same also;
    }
