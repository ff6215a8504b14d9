use Rattle.std.proofs.Common.{◌∙◌, ap, length, subst, Some}
use Rattle.dmn_ranges.specs.Asking.{AskColumns}
use Rattle.desk_checking.proofs.AskedWithin.{at_get, columns_within}
use Rattle.desk_checking.proofs.decision_inputs.DecisionInputs.asked.Goals as goal

pub returns : goal.returns
returns c =
    let self = c.args.self.now in
    let place = c.in-Some.place.now in
    let columns = c.in-Some-get-2.columns.now in record {
      place = place;
      at = at_get c.deref.result.now self.places.items c.args.decision place c.deref.ensures.value c.in-Some.ensures.lookup.3.0 c.in-Some.ensures.lookup.1;
      tables = c.in-Some-told.tables;
      told = at_get c.deref-2.result.now self.coming.tables.items place c.in-Some-get.told.now c.deref-2.ensures.value c.in-Some-get.ensures.lookup.3.0 c.in-Some-get.ensures.lookup.1 ∙ ap Some c.in-Some-told.is;
      columns = columns;
      there = at_get c.deref-3.result.now c.in-Some-told.tables.items c.args.number columns c.deref-3.ensures.value c.in-Some-get-2.ensures.lookup.3.0 c.in-Some-get-2.ensures.lookup.1;
      asks = columns_within columns.items c.in_ok-asked.asked.items c.in_ok-within.within.items (subst (λ os. AskColumns os c.in_ok-asked.asked.items) c.deref-4.ensures.value c.in_ok-asked.ensures.told)
          (c.in_ok-asked.ensures.count ∙ ap length c.deref-4.ensures.value) c.in_ok-within.ensures;
    }
