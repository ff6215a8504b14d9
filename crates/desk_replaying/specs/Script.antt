-- Which lines are said to which.
use Rattle.std.specs.Prelude.{◌≡◌, ℕ, Bool, true, false, List, [], ◌∷◌, ◌++◌, map}
use Rattle.std.specs.List.{flat_map}
use Rattle.box_core.specs.History as broker
use Rattle.box_core.specs.declared.faults.Refusal.TheVariants as refusal
use Rattle.box_core.specs.declared.faults.AddRefusal.TheVariants as unadded
use Rattle.dmn_plan.specs.Request.{Request}
use Rattle.feel_value.specs.declared.feel.Outcome.{Outcome}
use Rattle.desk_replaying.specs.State.{Deed, Asked, Refused, Turn}
use Rattle.desk_replaying.specs.Due.{Follows}
use Rattle.desk_replaying.specs.Reports.{said_of}
use Rattle.desk_wire.specs.declared.word.Word.TheVariants as word

-- each of the turns follows the turns before it
abbrev pub AreInOrder : List Turn → List Turn → Type 0
AreInOrder before [] = Unit {0}
AreInOrder before (turn ∷ turns) = Follows before turn × AreInOrder (before ++ turn ∷ []) turns

-- each line has its turn, which is due after those before it, and the output is what is said of them
pub record Script (lines output : List (List ℕ)) : Type 0 where
  pub turns : List Turn
  pub each : map (λ turn. turn.line) turns ≡ lines
  pub due : AreInOrder [] turns
  pub said : output ≡ flat_map said_of turns

-- whether a report, and a deed, tells out of memory: where none does, the output is one function of the lines
abbrev pub told_memory : broker.Report Request Outcome → Bool
told_memory (broker.NotAdded unadded.Memory) = true
told_memory (broker.Refused refusal.Memory) = true
told_memory told = false

abbrev pub tells_memory : Deed → Bool
tells_memory (Refused word.Memory) = true
tells_memory (Asked event told) = told_memory told
tells_memory deed = false
