use Rattle.std.proofs.Common.{◌≡◌, ◌∙◌, sym, ap, subst, length}
use Rattle.std.proofs.lemmas.List.{length-map}
use Rattle.dmn_table.specs.Parts.{rule_view}
use Rattle.dmn_analysis.specs.Grouping.{HitInOneGroup}
use Rattle.dmn_analysis.proofs.GroupSearches.{each_alone}
use Rattle.dmn_analysis.proofs.always.known_as_unique.Goals as goal

pub returns : goal.returns
returns c = λ yes.
    let t = c.args.table.now in
    let own = c.rules.result.now in
    let count : length own ≡ length t.rules = sym (length-map own rule_view) ∙ ap length c.rules.ensures.rules in
    each_alone t c.args.asked.now c.in_ok-groups.groups.items (c.in_ok-groups.ensures.long ∙ count) c.in_ok-groups.ensures.rising
    (subst (HitInOneGroup t c.args.asked.now) c.deref.ensures.value (c.in_ok-known.ensures yes))
