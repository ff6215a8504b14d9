use Rattle.std.proofs.Common.{◌∙◌, sym, ap, subst, Ok}
use Rattle.dmn_plan.specs.Plans.{HaveLogicOf}
use Rattle.dmn_plan.specs.ReadModel.{read_text}
use Rattle.dmn_plan.proofs.Logics.{logics_of_items}
use Rattle.dmn_plan.proofs.plan.Plan.logics.Goals as goal

pub returns : goal.returns
returns c = λ m read.
    let items = c.self.inside.items.items in
    let same = ap read_text c.self.view_is ∙ read in
    c.in_ok-found.ensures ∙ logics_of_items m c.deref.result.now (subst (λ xs. HaveLogicOf (Ok m) xs) (sym c.deref.ensures.value) (subst (λ r. HaveLogicOf r items) same c.self.invariant.1))
