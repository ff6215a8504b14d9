use Rattle.std.proofs.Common.{◌∙◌, sym, ap, true}
use Rattle.std.proofs.lemmas.Option.{same_Some}
use Rattle.dmn_table.specs.Hits.{does_hit}
use Rattle.dmn_table.specs.Parts.{rule_view}
use Rattle.desk_checking.proofs.Deciders.{not_yes, one_at}
use Rattle.desk_checking.proofs.deciding.misses.Goals as goal

pub returns : goal.returns
returns c = λ yes r there hits.
    let rules = c.args.rules.now in
    let one = c.index-rules-other.result in
    let same = one_at rule_view rules c.args.other one r c.requires c.index-rules-other.is there in
    not_yes c.in-Some.hit yes
    (same_Some c.in-Some.hit true (sym c.in-Some.is ∙ c.in_ok-hit.ensures ∙ ap (does_hit c.args.env.now c.args.values.now) same ∙ hits))
