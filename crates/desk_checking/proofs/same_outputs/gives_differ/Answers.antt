use Rattle.std.proofs.Common.{◌≡◌, ◌∙◌, arith, length, refl, sym, subst, Some, true, false}
use Rattle.std.proofs.lemmas.Option.{slice_get_read}
use Rattle.desk_checking.specs.Literals.{TellsPair}
use Rattle.desk_checking.specs.Outputs.{AreEntries, AreEqual}
use Rattle.desk_checking.proofs.SameValues.{all_below, none_below, one_below}
use Rattle.desk_checking.proofs.same_outputs.gives_differ.Goals as goal
use Rattle.desk_checking.proofs.same_outputs.gives_differ.Goals.{in-Some-false, in-None}

pub loop-column-init : goal.loop-column-init
loop-column-init c = λ _. none_below c.args.ones.now c.args.others.now

pub loop-column-preserved : goal.loop-column-preserved
loop-column-preserved c =
    let column = c.loop-column.column in
    let ones = c.args.ones.now in
    let others = c.args.others.now in
    let one = c.index-ones-column.result in
    let other = c.index-others-column.result in
    let at : AreEntries ones others column one other = record {
      one = slice_get_read ones (length ones) column one refl c.loop-column-test.true c.index-ones-column.is;
      other = slice_get_read others (length others) column other refl (omega (arith, c.if-column-others.false)) c.index-others-column.is;
    } in
    elim c.match-entries_differ.branch [
      | in-Some-false w ↦ λ known.
          let answer : c.entries_differ.result ≡ Some false = cc in
          let same : AreEqual one other true = subst (TellsPair one other) answer c.entries_differ.ensures in
          one_below column ones others one other (c.loop-column.invariant (sym w.is_known-is ∙ known)) at same
      | in-None w ↦ λ known. let wrong : false ≡ true = sym w.is_known-is ∙ known in cc
    ]

pub returns-then-is_known : goal.returns-then-is_known
returns-then-is_known c =
    all_below c.loop-column.column c.args.ones.now c.args.others.now (c.loop-column.invariant c.if-is_known.true) (omega (arith, c.loop-column-test.false, c.loop-column.auto.column-end))
