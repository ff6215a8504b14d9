use Rattle.std.proofs.Common.{◌≡◌, ◌+◌, ◌<◌, ◌∙◌, sym, ap, refl, subst, List, Some, None, true, length, get_or, drop}
use Rattle.std.specs.List.{slice_get}
use Rattle.std.specs.Option.{is_some}
use Rattle.std.proofs.lemmas.List.{take_rest}
use Rattle.std.proofs.lemmas.Option.{slice_get_read}
use Rattle.feel_text.specs.Satisfied.{satisfied}
use Rattle.feel_text.specs.Tests.{Tests}
use Rattle.dmn_table.specs.Misses.{missed_from}
use Rattle.dmn_table.proofs.FirstMiss.{answers_from, answers_more}
use Rattle.dmn_table.proofs.Unbroken.{all_told}
use Rattle.table_classes.specs.Unbroken.{KeepLimits}
use Rattle.dmn_explain.proofs.EndsAtMiss.{missed}
use Rattle.dmn_explain.proofs.asking.miss_of.Goals as goal

pub returns-in-No : goal.returns-in-No
returns-in-No c =
    let m = c.args.env.now in
    let tests = c.args.rule.now.tests.items in
    let values = c.args.values.now in
    let i = c.loop-i.i in
    let x = c.tests-item.result in
    let v = c.in-Some.value.now in
    let found = c.in-Some.ensures.lookup in
    let there : slice_get values i ≡ Some v = slice_get_read values (length values) i v refl found.3.0 found.1 in
    let here : x ≡ get_or tests i x = c.tests-item.is ∙ ap (λ (ts : List Tests). get_or ts i x) c.deref-tests-items.ensures.value in
    let more : i < length tests = subst (λ (ts : List Tests). i < length ts) c.deref-tests-items.ensures.value c.loop-i-test.true in
    let keep : KeepLimits (drop (i + 1) tests) =
    subst KeepLimits (take_rest c.deref.result.now (i + 1) ∙ ap (drop (i + 1)) c.deref.ensures.value) (c.keep_limits.ensures c.if-keep_limits.true) in
    let told : is_some (answers_from m tests values (i + 1)) ≡ true = all_told m (drop (i + 1) tests) (drop (i + 1) values) keep in
    sym (c.loop-i.invariant ∙ ap (missed_from (i + 1) None) (answers_more m tests values i x v here more there)
    ∙ missed (i + 1) (satisfied x v m) (answers_from m tests values (i + 1)) (sym c.in-No.is ∙ c.in_ok-holds.ensures) told)
