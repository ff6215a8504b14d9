use Rattle.std.proofs.Common.{◌≡◌, ◌<◌, sym, subst, length, true, rules}
use Rattle.std.specs.Arc.{arc_str_bytes}
use Rattle.dmn_analysis.specs.Cells.{is_text_among, is_text_in}
use Rattle.dmn_analysis.proofs.Places.{at_place}
use Rattle.dmn_analysis.proofs.TextOrder.{among_at}
use Rattle.dmn_analysis.proofs.Witnesses.{word_in}
use Rattle.dmn_analysis.proofs.witness.text_of.Goals as goal

pub returns-then-not-is_empty-clause-inside : goal.returns-then-not-is_empty-clause-inside
returns-then-not-is_empty-clause-inside c =
    let words = c.args.words.now in
    let some = c.within-some.result.now in
    let word = c.index-some-0.result in
    let within : 0 < length some = search rules in
    let among = among_at some 0 word (at_place some 0 word within c.index-some-0.is) in
    subst (λ s. is_text_in words c.args.cell s ≡ true) (sym c.in_ok-word.ensures.cases)
    (word_in words c.args.cell (arc_str_bytes word) (subst (λ ws. is_text_among ws (arc_str_bytes word) ≡ true) c.within-some.ensures among))
