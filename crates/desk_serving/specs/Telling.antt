-- Internal: reports on their way to a writer.
use Rattle.std.specs.Prelude.{◌≡◌, ◌≢◌, ◌<◌, ℕ, List, ◌++◌, Option, Result, Err, OnOk, IfOk, IfErr}
use Rattle.std.specs.List.{flat_map}
use Rattle.std.specs.Io.KnownBytes.{Appends}
use Rattle.desk_lines.specs.Device.{Writer}
use Rattle.desk_lines.specs.Gathers.{Gathers}
use Rattle.desk_lines.specs.Lines.{ended}
use Rattle.desk_lines.specs.declared.fault.FrontFault.{FrontFault}
use Rattle.desk_lines.specs.declared.fault.FrontFault.TheVariants.{Read, Write, Long, Memory}
use Rattle.desk_wire.specs.Reports.{Report}
use Rattle.desk_serving.specs.Script.{texts_of}

-- such reports are said: the first of their lines are written, and the end of them may wait
pub record Tells (Are : List Report → Type 0) (wrote wrote' : Option (List ℕ)) (waits waits' : List ℕ) : Type 0 where
  pub more : List Report
  pub are : Are more
  pub gathers : Gathers wrote wrote' waits (flat_map ended (texts_of more)) waits'

-- such reports are said, and all their lines are written
pub record TellsAll (Are : List Report → Type 0) (wrote wrote' : Option (List ℕ)) : Type 0 where
  pub more : List Report
  pub are : Are more
  pub written : Appends wrote wrote' (flat_map ended (texts_of more))

-- such reports are said, and a beginning of their lines is written, up to any byte
pub record TellsInPart (Are : List Report → Type 0) (wrote wrote' : Option (List ℕ)) : Type 0 where
  pub more : List Report
  pub are : Are more
  pub text : List ℕ
  pub unsaid : List ℕ
  pub written : Appends wrote wrote' text
  pub begins : flat_map ended (texts_of more) ≡ text ++ unsaid

-- How handing out ended: `Whole` are the reports that are said in the end, and `Part` those that are where the writer failed or
-- memory was refused. The end of their lines may wait.
pub record HandsOut (Whole Part : List Report → Type 0) (writer writer' : Writer) (waits waits' : List ℕ) {X : Type 0} (end : Result X FrontFault) : Type 0 where
  pub ok : OnOk end (Tells Whole writer.contents writer'.contents waits waits')
  pub write : (end ≡ Err Write) → (rest : List ℕ) × Tells Part writer.contents writer'.contents waits rest
  pub memory : (end ≡ Err Memory) → Tells Part writer.contents writer'.contents waits waits'
  pub only : IfErr end (λ e. (e ≢ Read) × (e ≢ Long))
  -- A fault of the writer is never made up, and none is passed over.
  pub counts : (end ≢ Err Write) → writer'.faults ≡ writer.faults
  pub fault : (end ≡ Err Write) → writer.faults < writer'.faults

-- The same, where nothing waits before or after. `Whole` are the reports by what it ended with.
pub record WritesOut {X : Type 0} (Whole : X → List Report → Type 0) (Part : List Report → Type 0) (writer writer' : Writer) (end : Result X FrontFault) : Type 0 where
  pub ok : IfOk end (λ x. TellsAll (Whole x) writer.contents writer'.contents)
  pub write : (end ≡ Err Write) → TellsInPart Part writer.contents writer'.contents
  pub memory : (end ≡ Err Memory) → TellsAll Part writer.contents writer'.contents
  pub only : IfErr end (λ e. (e ≢ Read) × (e ≢ Long))
  pub counts : (end ≢ Err Write) → writer'.faults ≡ writer.faults
  pub fault : (end ≡ Err Write) → writer.faults < writer'.faults
