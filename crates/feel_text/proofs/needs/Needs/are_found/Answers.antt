use Rattle.std.proofs.Common.{◌∙◌, ap, is_some}
use Rattle.std.specs.List.{list_all}
use Rattle.feel_text.specs.Needed.{is_found, found_at}
use Rattle.feel_text.proofs.Needed.{all_found}
use Rattle.feel_text.proofs.needs.Needs.are_found.Goals as goal

pub returns : goal.returns
returns c =
    c.have_values.ensures ∙ ap (list_all (λ n. is_some (found_at c.args.found.now n.place))) c.deref.ensures.value
    ∙ all_found c.args.found.now c.self.inside.needs.items ∙ ap (list_all (is_found c.args.found.now)) c.self.view_is
