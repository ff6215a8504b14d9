use Rattle.std.proofs.Common.{◌≡◌, ◌+◌, ◌<◌, ◌∙◌, sym, ap, refl, subst, ℕ, List, Option, Some, length, get_or}
use Rattle.std.specs.List.{slice_get}
use Rattle.std.proofs.lemmas.Option.{slice_get_read}
use Rattle.feel_text.specs.Tests.{Tests}
use Rattle.dmn_table.specs.Misses.{missed_from, once_answered}
use Rattle.dmn_table.proofs.FirstMiss.{answers_from, answers_more}
use Rattle.dmn_table.proofs.misses.first_miss.Goals as goal

pub returns-in_default-2 : goal.returns-in_default-2
returns-in_default-2 c =
    let m = c.args.env.now in
    let tests = c.args.rule.now.tests.items in
    let values = c.args.values.now in
    let i = c.loop-i.i in
    let x = c.tests-item.result in
    let found = c.in-Some.ensures.lookup in
    let there : slice_get values i ≡ Some c.in-Some.value.now = slice_get_read values (length values) i c.in-Some.value.now refl found.3.0 found.1 in
    let here : x ≡ get_or tests i x = c.tests-item.is ∙ ap (λ (ts : List Tests). get_or ts i x) c.deref-tests-items.ensures.value in
    let more : i < length tests = subst (λ (ts : List Tests). i < length ts) c.deref-tests-items.ensures.value c.loop-i-test.true in
    let rest = answers_from m tests values (i + 1) in
    sym (c.loop-i.invariant ∙ ap (missed_from (i + 1) c.loop-i.miss) (answers_more m tests values i x c.in-Some.value.now here more there)
    ∙ c.in_ok-next.ensures rest ∙ ap (λ (o : Option (Option ℕ)). once_answered (i + 1) o rest) c.in_default-2.is)

pub loop-i-preserved : goal.loop-i-preserved
loop-i-preserved c =
    let m = c.args.env.now in
    let tests = c.args.rule.now.tests.items in
    let values = c.args.values.now in
    let i = c.loop-i.i in
    let x = c.tests-item.result in
    let found = c.in-Some.ensures.lookup in
    let there : slice_get values i ≡ Some c.in-Some.value.now = slice_get_read values (length values) i c.in-Some.value.now refl found.3.0 found.1 in
    let here : x ≡ get_or tests i x = c.tests-item.is ∙ ap (λ (ts : List Tests). get_or ts i x) c.deref-tests-items.ensures.value in
    let more : i < length tests = subst (λ (ts : List Tests). i < length ts) c.deref-tests-items.ensures.value c.loop-i-test.true in
    let rest = answers_from m tests values (i + 1) in
    c.loop-i.invariant ∙ ap (missed_from (i + 1) c.loop-i.miss) (answers_more m tests values i x c.in-Some.value.now here more there)
    ∙ c.in_ok-next.ensures rest ∙ ap (λ (o : Option (Option ℕ)). once_answered (i + 1) o rest) c.in-Some-2.is
