use Rattle.std.proofs.Common.{ap, refl, ◌∙◌, Some}
use Rattle.desk_replaying.proofs.Turning.{own_lacks, own_nobody, own_repeated, own_strange, same_state}
use Rattle.desk_replaying.proofs.state.State.answer_own.Goals as goal

pub returns-in_default : goal.returns-in_default
returns-in_default g c = own_lacks _ _ _ _ _ (same_state _ _ c.in_default.ensures.unchanged refl refl refl)

pub returns-in_default-found : goal.returns-in_default-found
returns-in_default-found g c = own_nobody _ _ _ _ _ _ c.in-Ok.ensures.answered c.in_default-found.is (λ same. same_state _ _ same refl refl refl)

pub returns-in-Repeated : goal.returns-in-Repeated
returns-in-Repeated g c = own_repeated _ _ _ _ _ _ c.in-Ok.ensures.answered (c.in-Some.is ∙ ap Some c.in-Repeated.is) (λ same. same_state _ _ same refl refl refl)

pub returns-in-Strange : goal.returns-in-Strange
returns-in-Strange g c = own_strange _ _ _ _ _ _ c.in-Ok.ensures.answered (c.in-Some.is ∙ ap Some c.in-Strange.is) (λ same. same_state _ _ same refl refl refl)
