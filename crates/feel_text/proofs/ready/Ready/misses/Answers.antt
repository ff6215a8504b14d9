use Rattle.std.proofs.Common.{◌∙◌, ap, subst, Some}
use Rattle.std.specs.List.{All}
use Rattle.feel_text.specs.Classes.{IsApart}
use Rattle.feel_text.specs.Ready.{told}
use Rattle.feel_text.proofs.Classes.{none_equal}
use Rattle.feel_text.proofs.ready.Ready.misses.Goals as goal

pub returns-in-Among : goal.returns-in-Among
returns-in-Among c = λ apart v inside.
    ap (λ r. told r v) c.in-Among.is
    ∙ ap Some (none_equal c.args.class c.in-Among.values.items (subst (All (IsApart c.args.class)) c.deref.ensures.value (c.are_apart.ensures apart)) v inside)
