use Rattle.std.proofs.Common.{◌≡◌, ◌∙◌, sym, ap, Some, arith}
use Rattle.std.specs.List.{slice_get}
use Rattle.std.proofs.lemmas.Nat.Bits.{bit_at_ones}
use Rattle.std.proofs.lemmas.Option.{slice_get-get_or}
use Rattle.table_classes.proofs.classes.word_at.Goals as goal

pub returns-in-Some : goal.returns-in-Some
returns-in-Some c = λ i small unset.
    let word = c.in-Some.word.now in
    ap (λ ws. slice_get ws c.args.place) (sym c.deref.ensures.value) ∙ slice_get-get_or c.deref.result.now c.args.place word c.in-Some.ensures.lookup.3.0 ∙ ap Some (sym c.in-Some.ensures.lookup.1)

pub returns-in-None : goal.returns-in-None
returns-in-None c = λ i small unset. let none : 1 ≡ 0 = sym (bit_at_ones 64 i small) ∙ unset in absurd (omega (arith, none))
