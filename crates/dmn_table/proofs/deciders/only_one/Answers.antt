use Rattle.std.proofs.Common.{◌≡◌, ℕ, List, [], map, length, arith, true, false, Some, sym, ap, ◌∙◌}
use Rattle.std.specs.Prelude.{nat_eq, if◌then◌else◌}
use Rattle.std.proofs.lemmas.Bool.Decides.{nat_tests}
use Rattle.dmn_table.specs.Parts.{column_view}
use Rattle.dmn_table.proofs.Wholes.{by_count}
use Rattle.dmn_table.proofs.deciders.only_one.Goals as goal

pub returns-then-rules-ne1 : goal.returns-then-rules-ne1
returns-then-rules-ne1 c =
    let ns = c.args.numbers.now in
    let several : nat_eq (length c.args.rules.now) 1 ≡ false = grind (arith, nat_tests) in
    ap Some c.new.ensures.items ∙ ap (λ b. Some (if b then ns else [])) (sym several)
    ∙ sym (by_count (map column_view c.args.outputs.now) c.args.env.now c.args.rules.now (λ k. if nat_eq k 1 then ns else []) (sym c.in_ok-have_outputs.ensures ∙ c.if-not-branch.false))

pub returns : goal.returns
returns c =
    let ns = c.args.numbers.now in
    let one : nat_eq (length c.args.rules.now) 1 ≡ true = grind (arith, nat_tests) in
    ap Some c.in_ok-from_slice.ensures.items ∙ ap (λ b. Some (if b then ns else [])) (sym one)
    ∙ sym (by_count (map column_view c.args.outputs.now) c.args.env.now c.args.rules.now (λ k. if nat_eq k 1 then ns else []) (sym c.in_ok-have_outputs.ensures ∙ c.if-not-branch.false))
