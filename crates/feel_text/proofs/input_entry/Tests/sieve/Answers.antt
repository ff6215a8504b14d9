use Rattle.std.proofs.Common.{◌∙◌, sym, ap, subst, IfSome}
use Rattle.feel_text.specs.Ready.{Meets}
use Rattle.feel_text.specs.Satisfied.{satisfied, held_of}
use Rattle.feel_text.specs.TestsView.{tests_view}
use Rattle.feel_text.proofs.input_entry.Tests.sieve.Goals as goal

pub returns : goal.returns
returns c = λ v m lawful stopped.
    let ts = tests_view c.self.inside.tree in
    let known = c.self.invariant.2 v m lawful in
    ap (λ ts. held_of (satisfied ts v m)) (sym c.self.view_is)
    ∙ subst (λ o. IfSome o (Meets (satisfied ts v m))) (c.sieve.ensures v stopped) known
