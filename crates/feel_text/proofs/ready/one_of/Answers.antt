use Rattle.std.proofs.Common.{◌≡◌, ◌∙◌, ap, length, arith}
use Rattle.feel_text.proofs.ReadyTests.{lone}
use Rattle.feel_text.specs.Satisfied.{held_of}
use Rattle.feel_text.proofs.ready.one_of.Goals as goal

pub returns-in-Some : goal.returns-in-Some
returns-in-Some c v m h =
    let one : length c.args.tests.now ≡ 1 = omega arith in
    ap held_of (lone c.args.tests.now c.test-item.result v m one c.test-item.is) ∙ c.in-Some.ensures v m h
