use Rattle.std.proofs.Common.{◌∙◌, refl, sym, ap, subst, [], ◌∷◌, ◌++◌}
use Rattle.dmn_analysis.specs.Searching.{AreLeft}
use Rattle.dmn_analysis.specs.declared.gaps.Pending.{Pending}
use Rattle.dmn_analysis.specs.declared.gaps.Search.{Search}
use Rattle.dmn_analysis.proofs.Searches.{known_cut}
use Rattle.dmn_analysis.proofs.gaps.Search.put.Goals as goal

pub returns-clause-known : goal.returns-clause-known
returns-clause-known c = λ s cells order knows halves left.
    let old = c.args.self.now in
    let new : Search = record { pending = c.push-2.new.self; bare = old.bare; «open» = old.open; sure = old.sure } in
    let upper : Pending = record { cells = c.args.upper; left = c.in_ok-copy.copy } in
    let lower : Pending = record { cells = c.args.lower; left = c.args.left } in
    let copied = c.in_ok-copy.ensures.items ∙ c.deref.ensures.value in
    known_cut s cells old new upper lower (c.in_ok-push-2.ensures.items ∙ ap (λ ps. ps ++ lower ∷ []) c.in_ok-push.ensures.items) refl refl order halves (subst (AreLeft s cells) (sym copied) left) left knows
