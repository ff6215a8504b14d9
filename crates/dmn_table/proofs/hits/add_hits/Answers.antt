use Rattle.std.proofs.Common.{◌≡◌, ◌∙◌, sym, ap, append-nil, arith, Some}
use Rattle.std.specs.Int.{bit_at}
use Rattle.std.proofs.lemmas.Nat.Bits.{bit_at-zero, shr_and_one}
use Rattle.dmn_table.specs.RuleOutputs.{rules_view}
use Rattle.dmn_table.proofs.Each.{after}
use Rattle.dmn_table.proofs.WordHits.{none_hit, next_broken, next_missed}
use Rattle.dmn_table.proofs.hits.add_hits.Goals as goal

pub returns-then-word-eq0 : goal.returns-then-word-eq0
returns-then-word-eq0 c =
    let old = rules_view c.args.hits.now.items in
    let zero : c.args.word ≡ 0 = omega (arith, c.if-word-eq0.true) in
    sym (ap (after old) (none_hit c.args.env.now c.args.values.now c.args.rules.now
    (λ i r there. c.requires.others i r there (ap (λ w. bit_at w i) zero ∙ bit_at-zero i))) ∙ ap Some (append-nil old))

pub loop-i-preserved-then-word-i-eq0 : goal.loop-i-preserved-then-word-i-eq0
loop-i-preserved-then-word-i-eq0 c =
    let i = c.loop-i.i in
    let unset : bit_at c.args.word i ≡ 0 = omega (arith, shr_and_one c.args.word i, c.if-word-i-eq0.true) in
    c.loop-i.invariant
    ∙ ap (after (rules_view c.loop-i.hits.items))
    (next_missed c.args.env.now c.args.values.now c.args.rules.now i c.loop-i-test.true (λ r there. c.requires.others i r there unset))

pub returns-in_default : goal.returns-in_default
returns-in_default c =
    let i = c.loop-i.i in
    let old = rules_view c.args.hits.now.items in
    sym (c.loop-i.invariant ∙ ap (after (rules_view c.loop-i.hits.items)) (next_broken c.args.env.now c.args.values.now c.args.rules.now i c.index-rules-i.result c.loop-i-test.true c.index-rules-i.is (sym c.in_default.is ∙ c.in_ok-is_hit.ensures)))
