use Rattle.std.proofs.Common.{◌≡◌, ◌∙◌, IfSome, List, ap, map, subst, sym, true, false}
use Rattle.dmn_form.specs.Model.{Name}
use Rattle.dmn_told.specs.Coming.{IsComing}
use Rattle.desk_ranges.specs.Gives.{written_name}
use Rattle.desk_checking.specs.Comes.{are_looked_at}
use Rattle.desk_checking.proofs.decision_inputs.DecisionInputs.of.Goals as goal

pub returns-clause-comes : goal.returns-clause-comes
returns-clause-comes c =
    let text = c.args.plan.now in
    let ds = c.args.domains.now in
    let names = ap (λ ns. map (λ n. n.now) ns) c.deref.ensures.value ∙ c.in_ok-names.ensures in
    let coming = c.in-Some.coming in
    let is = subst (λ o. IfSome o (IsComing text ds (map (λ n. n.now) c.deref.result.now))) c.in-Some.is c.in_ok-coming.ensures in
    record {
      coming = subst (λ (ns : List Name). IsComing text ds ns coming) names is;
      places = c.in_ok-places.ensures;
    }

pub returns-clause-unknown : goal.returns-clause-unknown
returns-clause-unknown c = λ off.
    let on : are_looked_at c.args.domains.now (map written_name c.args.services.now) ≡ true = sym c.are_looked_at.ensures ∙ c.if-not-are_looked_at.false in
    let wrong : true ≡ false = sym on ∙ off in
    absurd (cc)
