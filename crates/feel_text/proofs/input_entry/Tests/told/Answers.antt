use Rattle.std.proofs.Common.{◌≡◌, ◌∙◌, sym, ap, Some}
use Rattle.feel_text.specs.Ready.{told}
use Rattle.feel_text.specs.Satisfied.{satisfied, held_of}
use Rattle.feel_text.proofs.input_entry.Tests.told.Goals as goal

pub returns : goal.returns
returns c m =
    let v = c.args.value.now in
    let known : told c.self.inside.ready v ≡ Some c.in_ok-met.met = ap (told c.self.inside.ready) (sym c.value.ensures.same) ∙ sym c.told.ensures ∙ c.in_ok-met.was in
    let met = c.self.invariant.2 v m c.value.ensures.lawful in
    ap (λ ts. held_of (satisfied ts v m)) (sym c.self.view_is) ∙ (rw known at met)
