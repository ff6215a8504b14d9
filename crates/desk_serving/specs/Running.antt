-- Internal, cited by no public contract: what a run of the front of `serve` does.
use Rattle.std.specs.Prelude.{[], ◌⊎◌, All, ◌≡◌, ◌≢◌, ℕ, List, length, Option, Result, Ok, Err}
use Rattle.dmn_plan.specs.Request.{Request}
use Rattle.feel_value.specs.declared.feel.Outcome.{Outcome}
use Rattle.desk_serving.specs.Ending.{IsWhole, ends_lanes}
use Rattle.desk_serving.specs.Owed.{AreFirst, AreHanded, Queue, due_to}
use Rattle.desk_serving.specs.Telling.{TellsAll, TellsInPart}
use Rattle.desk_serving.specs.LanesView.{NothingWaits, lanes_in, links_in}
use Rattle.desk_lines.specs.Device.{Reader, Writer}
use Rattle.desk_serving.specs.Script.{ServedInPart}
use Rattle.desk_serving.specs.StateView.{After}
use Rattle.desk_lines.specs.Ran.{Ran}
use Rattle.desk_lines.specs.declared.fault.FrontFault.{FrontFault}
use Rattle.desk_lines.specs.declared.fault.FrontFault.TheVariants.{Read, Write, Long, Memory}
use Rattle.desk_serving.specs.declared.run.ServeRun.{ServeRun}
use Rattle.lanes.specs.Ends.{SettledEnd}
use Rattle.model_marks.specs.declared.mark.Catalog.{Ghosts}

-- all lines heard were answered
abbrev pub GoesOn : {X : Type 0} → Result X FrontFault → Type 0
GoesOn (Ok x) = Unit {0}
GoesOn (Err Read) = Unit {0}
GoesOn (Err Long) = Unit {0}
GoesOn (Err Write) = ⊥
GoesOn (Err Memory) = ⊥

module _ {C T R W : Type 0} {G : Ghosts C} (seen_reader : R → Reader) (seen_writer : W → Writer) where
  -- The lines heard are answered, but for what the lanes owe, and where they all are, nothing waits. The front keeps its ends, its
  -- reader and its writer.
  pub record Runs {X : Type 0} (old new : ServeRun C T R W G) (ended : Result X FrontFault) : Type 0 where
    pub ran : Ran (After new.state) (ServedInPart (length (lanes_in old.state.lanes))) (seen_reader old.reader.now) (seen_reader new.reader.now) (seen_writer old.writer.now) (seen_writer new.writer.now) ended
    pub writes : (ended ≢ Err Write) → (seen_writer new.writer.now).faults ≡ (seen_writer old.writer.now).faults
    pub waits : GoesOn ended → NothingWaits new.state.lanes
    pub links : links_in new.state.lanes ≡ links_in old.state.lanes
    pub reader : new.reader.ghost_name ≡ old.reader.ghost_name
    pub writer : new.writer.ghost_name ≡ old.writer.ghost_name

-- the rest was handed out
pub record IsHandedOut (names : List (List ℕ)) (lanes : List Queue) (wrote wrote' : Option (List ℕ)) (ends : List (SettledEnd Request Outcome)) : Type 0 where
  pub told : TellsAll (AreHanded names lanes (ends_lanes ends)) wrote wrote'
  pub whole : All IsWhole ends

-- some of the rest was handed out before a fault, or all of it, or none where not all lines heard were answered
abbrev pub FinishesBy : (names : List (List ℕ)) → (lanes : List Queue) → (wrote wrote' : Option (List ℕ)) → Result (Unit {0}) FrontFault → FrontFault → Type 0
FinishesBy names lanes wrote wrote' ended fault =
    (GoesOn ended × (fault ≡ Write) × TellsInPart (AreFirst names lanes) wrote wrote')
    ⊎ ((GoesOn ended × (fault ≡ Memory) × TellsAll (AreFirst names lanes) wrote wrote')
    ⊎ ((ended ≡ Err fault) × ((GoesOn ended × ((new : List Queue) × TellsAll (AreHanded names lanes new) wrote wrote' × ((who : Option (List ℕ)) → due_to who names new ≡ []))) ⊎ (¬ GoesOn ended × (wrote' ≡ wrote)))))
