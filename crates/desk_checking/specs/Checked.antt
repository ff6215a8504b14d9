-- How a check ended.
use Rattle.std.specs.Prelude.{◌≡◌, ◌≢◌, ◌<◌, ◌++◌, ℕ, List, [], None, true, Result, Err, OnOk, IfOk, IfErr, length}
use Rattle.std.specs.Io.KnownBytes.{Appends, Consumes, IsAtEnd}
use Rattle.desk_lines.specs.Device.{Reader, Writer}
use Rattle.desk_lines.specs.declared.fault.FrontFault.{FrontFault}
use Rattle.desk_lines.specs.declared.fault.FrontFault.TheVariants.{Long, Read, Write}
use Rattle.desk_checking.specs.Domains.{FitsDomains}
use Rattle.desk_checking.specs.FirstFault.{IsFirstFault}
use Rattle.desk_checking.specs.Input.{model_text, most_bytes}
use Rattle.desk_checking.specs.Output.{TellsInput}
use Rattle.desk_checking.specs.declared.findings.CheckFindings.{CheckFindings}
use Rattle.desk_checking.specs.declared.options.CheckOptions.{CheckOptions}

-- The reader was read to its end, and what it gave has a model with this first fault, or with none, or it is too long for a line; and this
-- is what is told of it.
pub record Finds (options : CheckOptions) (reader reader' : Reader) (findings : CheckFindings) (told : List ℕ) : Type 0 where
  pub input : List ℕ
  pub read : Consumes reader.remaining reader'.remaining input
  pub at_end : IsAtEnd reader'.remaining
  pub first : IsFirstFault (model_text options input) findings.fault
  pub domains : FitsDomains (model_text options input) findings.fault
  pub tells : TellsInput options input findings told

-- what is found was written
pub record Tells (options : CheckOptions) (reader reader' : Reader) (writer writer' : Writer) (findings : CheckFindings) : Type 0 where
  pub told : List ℕ
  pub finds : Finds options reader reader' findings told
  pub written : Appends writer.contents writer'.contents told

-- the writer failed: the model was read and checked, and a beginning of what is found was written, up to any byte
pub record Breaks (options : CheckOptions) (reader reader' : Reader) (writer writer' : Writer) : Type 0 where
  pub findings : CheckFindings
  pub told : List ℕ
  pub untold : List ℕ
  pub finds : Finds options reader reader' findings (told ++ untold)
  pub written : Appends writer.contents writer'.contents told

-- more came than is checked
pub record Overflows (reader reader' : Reader) : Type 0 where
  pub input : List ℕ
  pub read : Consumes reader.remaining reader'.remaining input
  pub too_long : most_bytes < length input

-- A model was read from a reader and checked, and what is found was written. Or a fault ended this.
pub record Checked (options : CheckOptions) (reader reader' : Reader) (writer writer' : Writer) (found : Result CheckFindings FrontFault) : Type 0 where
  pub tells : IfOk found (Tells options reader reader' writer writer')
  -- Tables are refused only where the options ask for that, and the model is lawful; `tells` says which are.
  pub strict : IfOk found (λ findings. findings.is_strict_failure ≡ true → (options.tables ≡ true) × (options.strict ≡ true) × (findings.fault ≡ None))
  -- So is null.
  pub nulls : IfOk found (λ findings. findings.is_null_failure ≡ true → (options.strict_null ≡ true) × (findings.fault ≡ None))
  pub long : (found ≡ Err Long) → Overflows reader reader'
  pub cut : (found ≡ Err Write) → Breaks options reader reader' writer writer'
  pub unwritten : IfErr found (λ e. e ≢ Write → Appends writer.contents writer'.contents [])
  -- A fault of a device is never made up, and none is passed over.
  pub read_only_at_fault : (found ≡ Err Read) → reader.faults < reader'.faults
  pub write_only_at_fault : (found ≡ Err Write) → writer.faults < writer'.faults
  pub ok_without_fault : OnOk found ((reader'.faults ≡ reader.faults) × (writer'.faults ≡ writer.faults))
  pub write_told : (found ≢ Err Write) → writer'.faults ≡ writer.faults
  pub read_told : (found ≢ Err Read) → reader'.faults ≡ reader.faults
