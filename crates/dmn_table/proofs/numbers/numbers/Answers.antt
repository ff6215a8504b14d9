use Rattle.std.proofs.Common.{◌≡◌, ◌∷◌, ◌++◌, [], ◌+◌, map, sym, ap, ◌∙◌, Some, None, true, if◌then◌else◌, option_map}
use Rattle.std.proofs.lemmas.Int.{ints, to_z-of_z}
use Rattle.std.proofs.lemmas.List.{take_rest}
use Rattle.std.specs.Option.{is_some}
use Rattle.feel_value.specs.Found.{value_of}
use Rattle.dmn_table.specs.Parts.{column_view}
use Rattle.dmn_table.specs.Result.{numbers_of}
use Rattle.dmn_table.specs.RuleOutputs.{rules_view, outputs_of}
use Rattle.dmn_table.proofs.Each.{after}
use Rattle.dmn_table.proofs.Turns.{outputs_from, one_number, no_number}
use Rattle.dmn_table.proofs.numbers.numbers.Goals as goal

pub loop-i-preserved : goal.loop-i-preserved
loop-i-preserved c =
    let cs = map column_view c.args.outputs.now in
    let m = c.args.env.now in
    let rs = c.args.rules.now in
    let i = c.loop-i.i in
    let pushed : c.push.new.self.items ≡ c.loop-i.numbers.items ++ c.in-Some.n ∷ [] = c.in_ok-push-in-Some.ensures.items ∙ ap (λ n. c.loop-i.numbers.items ++ n ∷ []) (search (to_z-of_z, ints)) in
    c.loop-i.invariant
    ∙ one_number cs m rs i c.index-rules-i.result c.index-rules-i.is c.loop-i-test.true c.loop-i.numbers.items c.in-Is.output c.in-Some.n
    (sym c.in_ok-output.ensures ∙ ap value_of c.in-Is.is) (sym c.as_number.ensures ∙ c.in-Some.is)
    ∙ ap (λ ns. option_map (λ ds. after ns (numbers_of ds)) (outputs_from cs m rs (i + 1))) (sym pushed)

pub returns-in-None : goal.returns-in-None
returns-in-None c =
    let cs = map column_view c.args.outputs.now in
    let m = c.args.env.now in
    let rs = c.args.rules.now in
    let i = c.loop-i.i in
    let all : is_some (outputs_from cs m rs (i + 1)) ≡ true =
    ap (λ xs. is_some (outputs_of cs m (rules_view xs))) (sym (take_rest rs (i + 1))) ∙ sym c.in_ok-have_outputs-in-None.ensures ∙ c.if-not-branch.false in
    sym (c.loop-i.invariant
    ∙ no_number cs m rs i c.index-rules-i.result c.index-rules-i.is c.loop-i-test.true c.loop-i.numbers.items c.in-Is.output
    (sym c.in_ok-output.ensures ∙ ap value_of c.in-Is.is) (sym c.as_number.ensures ∙ c.in-None.is)
    ∙ ap (λ b. if b then Some None else None) all)
