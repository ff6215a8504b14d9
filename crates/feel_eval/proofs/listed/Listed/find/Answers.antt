use Rattle.std.proofs.Common.{◌∙◌, sym, ap}
use Rattle.feel_text.specs.Meaning.{bound}
use Rattle.feel_eval.proofs.Positions.{none_listed}
use Rattle.feel_eval.proofs.listed.Listed.find.Goals as goal

pub returns-in_err-position : goal.returns-in_err-position
returns-in_err-position c =
    let name = c.args.name.now in
    rw c.from_residual.ensures (sym (none_listed c.self.inside.scope.now c.self.inside.bindings.items c.self.inside.slots.items name c.self.invariant (sym c.in_err-position.ensures)) ∙ ap (bound name) c.self.view_is)

pub returns : goal.returns
returns c = c.value_at.ensures ∙ ap (bound c.args.name.now) c.self.view_is
