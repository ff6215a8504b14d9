use Rattle.std.proofs.Common.{◌∙◌, sym, ap, Some, arith}
use Rattle.std.proofs.lemmas.List.{take_all}
use Rattle.feel_text.specs.Needed.{lent_to}
use Rattle.feel_text.proofs.Needed.{lent_whole, lent_length}
use Rattle.feel_eval.proofs.lent.Lent.of_found.Goals as goal

pub invariant_of-result : goal.invariant_of-result
invariant_of-result c = record { size = omega (arith, c.len-count.ensures.number); small = c.len-count.ensures.small; whole = lent_whole c.args.found.now c.args.needs.now c.requires }

pub returns : goal.returns
returns c =
    let bs = lent_to c.args.found.now c.args.needs.now in
    lent_whole c.args.found.now c.args.needs.now c.requires
    ∙ sym (ap Some (take_all c.len-count.result bs (omega (arith, c.len-count.ensures.number, lent_length c.args.found.now c.args.needs.now))))
