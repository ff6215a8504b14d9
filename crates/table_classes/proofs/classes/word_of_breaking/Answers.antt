use Rattle.std.proofs.Common.{◌<◌, ◌+◌, sym, subst, map, arith}
use Rattle.std.proofs.lemmas.List.{length-map}
use Rattle.std.proofs.lemmas.Option.{slice_get_within}
use Rattle.table_classes.specs.Unbroken.{KeepLimits}
use Rattle.table_classes.proofs.ClassWords.{TellsBefore, bit_set, entries_at, rule_told}
use Rattle.table_classes.proofs.classes.word_of_breaking.Goals.{then-not-keep_limits, else-not-keep_limits}
use Rattle.table_classes.proofs.classes.word_of_breaking.Goals as goal

pub loop-i-preserved : goal.loop-i-preserved
loop-i-preserved g c =
    let rules = map g.R.HasTests.tests_of c.args.rules.now in
    let i = c.loop-i.i in
    let small : i < 64 = omega (arith, c.loop-i-test.true, c.min-i-end.ensures) in
    let told : TellsBefore KeepLimits i rules c.loop-i.breaking = c.loop-i.invariant in
    elim c.if-not-keep_limits.branch [
      | then-not-keep_limits w ↦ bit_set KeepLimits i rules c.loop-i.breaking c.if-not-keep_limits.breaking told w.breaking-is small
      | else-not-keep_limits w ↦
          subst (TellsBefore KeepLimits (i + 1) rules) (sym w.breaking-is)
          (rule_told KeepLimits i rules c.loop-i.breaking c.tests.result.now told
          (entries_at g.R.HasTests.tests_of c.args.rules.now i c.index-rules-i.result c.tests.result.now (omega (arith, c.loop-i-test.true, c.min-i-end.ensures)) c.index-rules-i.is c.tests.ensures)
          (c.keep_limits.ensures w.if-not-keep_limits.false))
    ]

pub returns : goal.returns
returns g c = λ i r small there unset.
    let rules = map g.R.HasTests.tests_of c.args.rules.now in
    c.loop-i.invariant i r (omega (arith, small, slice_get_within rules i r there, length-map c.args.rules.now g.R.HasTests.tests_of, c.loop-i-test.false, c.min-i-end.ensures)) there unset
