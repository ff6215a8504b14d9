use Rattle.std.proofs.Common.{◌∙◌, ◌<◌, ℕ, Vec, Global, length, ap, subst, sym}
use Rattle.std.proofs.lemmas.List.{length-map}
use Rattle.desk_checking.specs.DomainsView.{name_view, name_views}
use Rattle.desk_checking.proofs.Telling.{domain_due}
use Rattle.desk_checking.proofs.model_check.refused_verdict.Goals as goal

pub returns : goal.returns
returns c = λ options d m beside requests lawful short form are.
    let refused = c.args.refused.now in
    domain_due options d m beside (name_views refused) requests c.faulty.result lawful short form are (subst (λ k. 0 < k) (sym (length-map refused name_view)) c.requires) c.faulty.ensures.fault c.faulty.ensures.refused
    (ap (λ (v : Vec ℕ Global). v.items) c.faulty.ensures.text ∙ c.in_ok-text.ensures)
