use Rattle.std.proofs.Common.{ap, sym, ◌∙◌}
use Rattle.feel_text.specs.Classes.{is_in_class}
use Rattle.feel_text.proofs.Classes.{other_text}
use Rattle.feel_text.proofs.class.is_apart_from_text.Goals as goal

pub returns-in-Texts : goal.returns-in-Texts
returns-in-Texts c = λ h v e.
    other_text c.in-Texts.other c.mark.result c.args.text.now c.mark.ensures.mark h v (ap (λ k. is_in_class k v) (sym c.in-Texts.is) ∙ e)
