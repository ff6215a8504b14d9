use Rattle.std.proofs.Common.{◌∙◌, sym, ap, subst, [], ◌∷◌, ◌++◌}
use Rattle.dmn_analysis.specs.Searching.{AreLeft}
use Rattle.dmn_analysis.specs.declared.gaps.Pending.{Pending}
use Rattle.dmn_analysis.proofs.GroupSearches.{groups_cut}
use Rattle.dmn_analysis.proofs.grouping.put.Goals as goal

pub returns : goal.returns
returns c = λ s groups cells order knows halves left.
    let upper : Pending = record { cells = c.args.upper; left = c.in_ok-copy.copy } in
    let lower : Pending = record { cells = c.args.lower; left = c.args.left } in
    let copied = c.in_ok-copy.ensures.items ∙ c.deref.ensures.value in
    groups_cut s groups cells c.args.pending.now.items c.push-2.new.self.items upper lower (c.in_ok-push-2.ensures.items ∙ ap (λ ps. ps ++ lower ∷ []) c.in_ok-push.ensures.items) order halves
    (subst (AreLeft s cells) (sym copied) left) left knows
