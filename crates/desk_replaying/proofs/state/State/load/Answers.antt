use Rattle.std.proofs.Common.{ap, ◌∙◌, refl, Some}
use Rattle.desk_replaying.proofs.Turning.{same_state}
use Rattle.desk_replaying.proofs.state.State.load.Goals as goal

pub returns-in_default : goal.returns-in_default
returns-in_default g c = (refl, same_state _ _ refl refl refl c.in_default.ensures.same)

pub returns-in-Ok-of : goal.returns-in-Ok-of
returns-in-Ok-of g c = (c.in-Ok.ensures.read, ap Some (c.in-Ok-of.ensures.plan ∙ c.in-Ok.ensures.compact), refl, refl)
