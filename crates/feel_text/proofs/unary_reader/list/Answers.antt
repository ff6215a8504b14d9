use Rattle.std.proofs.Common.{◌≡◌, ◌<◌, ◌≤◌, [], ◌∷◌, ◌++◌, length, sym, ap, ◌∙◌, arith}
use Rattle.std.proofs.lemmas.Result.{err_from_is_err_and}
use Rattle.feel_text.specs.TestsView.{test_view, test_views}
use Rattle.feel_text.specs.Token.{views}
use Rattle.feel_text.proofs.TestLists.{pushed, ends_fault, ends_list, goes_on, ends_count}
use Rattle.feel_text.proofs.unary_reader.list.Goals as goal

pub returns-in_err-test : goal.returns-in_err-test
returns-in_err-test c =
    let p = err_from_is_err_and c.from_residual-in_err-test.result c.from_residual-in_err-test.ensures.1 in
    let lt : c.loop.counter < length c.args.tokens.now = omega arith in
    rw (p.1, p.2) (ends_fault c.in_err-test.field-0.0 (length c.args.tokens.now) c.loop.counter (test_views c.loop.tests.items) (views c.loop.rest.now) _ lt c.in_err-test.ensures c.loop.invariant)

pub returns-in_default : goal.returns-in_default
returns-in_default c =
    let lt : c.loop.counter < length c.args.tokens.now = omega arith in
    let seen : test_views c.push.new.self.items ≡ test_views c.loop.tests.items ++ test_view c.in_ok-test.test ∷ [] = ap test_views c.in_ok-push.ensures.items ∙ pushed c.loop.tests.items c.in_ok-test.test in
    rw seen (ends_list (length c.args.tokens.now) c.loop.counter (test_views c.loop.tests.items) (views c.loop.rest.now) (views c.in_ok-test.after.now) (test_view c.in_ok-test.test) _ lt c.in_ok-test.ensures (sym c.in_default.ensures) c.loop.invariant)

pub loop-preserved : goal.loop-preserved
loop-preserved c =
    let lt : c.loop.counter < length c.args.tokens.now = omega arith in
    let seen : test_views c.push.new.self.items ≡ test_views c.loop.tests.items ++ test_view c.in_ok-test.test ∷ [] = ap test_views c.in_ok-push.ensures.items ∙ pushed c.loop.tests.items c.in_ok-test.test in
    rw seen (goes_on (length c.args.tokens.now) c.loop.counter (test_views c.loop.tests.items) (views c.loop.rest.now) (views c.in_ok-test.after.now) (views c.in-Some.next.now) (test_view c.in_ok-test.test) _ lt c.in_ok-test.ensures (sym c.in-Some.ensures) c.loop.invariant)

pub returns : goal.returns
returns c =
    let le : length c.args.tokens.now ≤ c.loop.counter = omega arith in
    ends_count (length c.args.tokens.now) c.loop.counter (test_views c.loop.tests.items) (views c.loop.rest.now) _ le c.loop.invariant
