use Rattle.std.proofs.Common.{refl, sym, ◌∙◌, false}
use Rattle.std.proofs.lemmas.List.{get_or_read}
use Rattle.dmn_check.proofs.Chasing.{met_new}
use Rattle.dmn_check.proofs.chase.Chase.meet.Goals as goal

pub returns : goal.returns
returns c =
    met_new c.args.self.now _ c.args.place c.requires
    (sym (get_or_read c.args.self.now.met.items c.args.place c.index.result.now c.requires c.index.ensures false) ∙ c.if-index.false) refl c.in_ok-push.ensures.items
