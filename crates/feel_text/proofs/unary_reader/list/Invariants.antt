use Rattle.std.proofs.Common.{◌≡◌, ◌-◌, length}
use Rattle.feel_text.specs.TestReading.{list_at, preceded}
use Rattle.feel_text.specs.TestsView.{test_views}
use Rattle.feel_text.specs.Token.{views}
use Rattle.feel_text.proofs.unary_reader.list.Given as goal

-- the tests so far before those still to be read are all of them
abbrev pub invariant-loop : goal.invariant-loop
invariant-loop l = preceded (test_views l.tests.items) (list_at (length l.fn.tokens - l.counter) (views l.rest)) ≡ list_at (length (views l.fn.tokens)) (views l.fn.tokens)
