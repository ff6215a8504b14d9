-- What becomes of a ticket that the work accepted under it answers.
use Rattle.std.specs.Prelude.{◌≡◌, ℕ, List, Option, Some, None}
use Rattle.box_core.specs.Mail.{Mail, Status, Unknown, Waiting, Running, Settled}
use Rattle.box_core.specs.History.{Answer, Kept}
use Rattle.box_core.specs.Table.{Step}
use Rattle.box_core.specs.declared.faults.Answered.{Answered}
use Rattle.box_core.specs.declared.faults.Answered.TheVariants as answered

-- what the answer is called, where the ticket stands so
abbrev pub own_answer : {W : Type 0} → Status W → Answered
own_answer Unknown = answered.Strange
own_answer (Waiting work) = answered.Strange
own_answer (Running work) = answered.Kept
own_answer Settled = answered.Repeated

module _ {W R O : Type 0} (request : W → R) (result_of : R → O) where
  -- The client's ticket stands so. Where its work was taken and has no answer, this is the step of an answer with that work.
  -- Otherwise nothing is changed.
  abbrev pub AnswersOwn : List (Mail W O) → ℕ → ℕ → Option (Status W) → Option Answered → List (Mail W O) → Type 0
  AnswersOwn old client ticket None told new = (told ≡ None) × (new ≡ old)
  AnswersOwn old client ticket (Some Unknown) told new = (told ≡ Some answered.Strange) × (new ≡ old)
  AnswersOwn old client ticket (Some (Waiting work)) told new = (told ≡ Some answered.Strange) × (new ≡ old)
  AnswersOwn old client ticket (Some (Running work)) told new =
      (told ≡ Some answered.Kept) × Step request result_of old (Answer client (record { ticket = ticket; work = work })) Kept new
  AnswersOwn old client ticket (Some Settled) told new = (told ≡ Some answered.Repeated) × (new ≡ old)
