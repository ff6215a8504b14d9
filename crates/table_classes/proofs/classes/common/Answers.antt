use Rattle.std.proofs.Common.{◌≡◌, ◌∙◌, sym, ap, Some, arith}
use Rattle.std.specs.Int.{bit_at}
use Rattle.std.specs.List.{slice_get}
use Rattle.std.proofs.lemmas.Nat.Bits.{bit_at_ones}
use Rattle.std.proofs.lemmas.Option.{slice_get-get_or}
use Rattle.table_classes.proofs.ClassWords.{unset_after}
use Rattle.table_classes.proofs.classes.common.Goals.{in-Some+in-Some-get, in-Some+in_default-get, in_default}
use Rattle.table_classes.proofs.classes.common.Goals as goal

pub loop-row-init : goal.loop-row-init
loop-row-init c = λ i small unset. let none : 1 ≡ 0 = sym (bit_at_ones 64 i small) ∙ unset in absurd (omega (arith, none))

pub loop-row-preserved : goal.loop-row-preserved
loop-row-preserved c = λ i small unset.
    elim c.match-row.branch [
      | in-Some+in-Some-get w ↦
          let rows = c.args.rows.now in
          let place = c.args.place in
          let bits = w.in-Some-get.bits.now in
          unset_after rows place c.loop-row.row-index w.in-Some.row c.loop-row.word bits c.match-row.word
          (slice_get-get_or rows c.loop-row.row-index c.row-item.result c.loop-row-test.true ∙ ap Some (sym c.row-item.is ∙ w.in-Some.is))
          (ap (λ ws. slice_get ws place) (sym w.deref.ensures.value) ∙ slice_get-get_or w.deref.result.now place bits w.in-Some-get.ensures.lookup.3.0 ∙ ap Some (sym w.in-Some-get.ensures.lookup.1))
          w.word-is c.loop-row.invariant i small unset
      | in-Some+in_default-get w ↦ c.loop-row.invariant i small (ap (λ n. bit_at n i) (sym w.word-is) ∙ unset)
      | in_default w ↦ c.loop-row.invariant i small (ap (λ n. bit_at n i) (sym w.word-is) ∙ unset)
    ]
