-- How a command ended.
use Rattle.std.specs.Prelude.{◌≡◌, ◌≢◌, ℕ, ◌+◌, ◌-◌, ◌^◌, ◌<◌, ◌≤◌, List, Result, Err, OnOk, IfErr}
use Rattle.desk_lines.specs.Device.{Reader, Writer}
use Rattle.desk_lines.specs.Lines.{max_input}
use Rattle.desk_lines.specs.Talk.{Replays, EndsAs}
use Rattle.desk_lines.specs.declared.fault.FrontFault.{FrontFault}
use Rattle.desk_lines.specs.declared.fault.FrontFault.TheVariants.{Read, Write, Long, Memory}

-- A command read lines from a reader and wrote to a writer, and ended so. `Whole` says which lines answer all the lines that were
-- heard, and `Part` which lines answer some first ones of them.
pub record Ran (Whole Part : List (List ℕ) → List (List ℕ) → Type 0) (reader reader' : Reader) (writer writer' : Writer) {X : Type 0} (end : Result X FrontFault) : Type 0 where
  pub ok : OnOk end (Replays Whole reader.remaining reader'.remaining writer.contents writer'.contents)
  pub fault : IfErr end (λ e. EndsAs Whole Part reader.remaining reader'.remaining writer.contents writer'.contents e)
  -- A fault of a device is never made up, and none is passed over.
  pub read_only_at_fault : (end ≡ Err Read) → reader.faults < reader'.faults
  pub write_only_at_fault : (end ≡ Err Write) → writer.faults < writer'.faults
  pub ok_without_fault : OnOk end ((reader'.faults ≡ reader.faults) × (writer'.faults ≡ writer.faults))
  pub write_told : (end ≢ Err Write) → writer'.faults ≡ writer.faults
  -- Once the reader failed, what is left is answered: where the writer fails or memory is refused meanwhile, that is told in its place.
  pub read_told : (end ≡ Err Long) → reader'.faults ≡ reader.faults
  -- By the reader's own count, also of a reader whose bytes are not known.
  pub long_only_past_limit : (end ≡ Err Long) → reader.came < 2 ^ 63 → max_input < reader'.came - reader.came
  pub ok_within_limit : OnOk end (reader'.came ≤ reader.came + max_input)
  pub read_within_limit : (end ≡ Err Read) → reader'.came ≤ reader.came + max_input

-- The same of a command that answers each line before it reads on. Where the reader failed nothing is left to be answered, so only the
-- writer can fail after that.
abbrev pub RanAtOnce : (Script : List (List ℕ) → List (List ℕ) → Type 0) → (reader reader' : Reader) → (writer writer' : Writer) → {X : Type 0} → Result X FrontFault → Type 0
RanAtOnce Script reader reader' writer writer' end = Ran Script Script reader reader' writer writer' end × ((end ≡ Err Memory) → reader'.faults ≡ reader.faults)
