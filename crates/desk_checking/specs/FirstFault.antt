-- What a text is as a model.
use Rattle.std.specs.Prelude.{◌≡◌, ◌<◌, ◌≤◌, ◌++◌, ℕ, List, length, Option, None, Some, option_map, unwrap_or, Result, Ok, Err, IsUtf8, codes}
use Rattle.serde_json.specs.Data.{Data}
use Rattle.serde_json.specs.Find.{get}
use Rattle.serde_json.specs.Read.{read}
use Rattle.serde_json.specs.Written.{compact_text}
use Rattle.feel_text.specs.Expr.{Expr}
use Rattle.desk_lines.specs.Lines.{max_line}
use Rattle.dmn_table.specs.Table.{Table}
use Rattle.dmn_form.specs.Model.{Model}
use Rattle.dmn_plan.specs.declared.fault.ModelFault.{ModelFault}
use Rattle.dmn_plan.specs.declared.fault.ModelFault.TheVariants as fault
use Rattle.dmn_plan.specs.ReadModel.{of_data}
use Rattle.desk_checking.specs.declared.findings.CheckFault.{CheckFault}
use Rattle.desk_checking.specs.declared.findings.CheckFault.TheVariants as found

-- the value of a model: what stands under the key `model`, or the whole value
abbrev pub subject : Data → Data
subject d = unwrap_or (get (codes "model") d) d

abbrev pub fault_in : Result (Model Expr Table) ModelFault → Option ModelFault
fault_in (Ok m) = None
fault_in (Err f) = Some f

-- the first fault of the model in a text; None where it is lawful
abbrev pub first_fault_of : List ℕ → Option ModelFault
first_fault_of text = fault_in (of_data (option_map subject (read text)))

-- the line of `serve` that brings a model: its compact text under the key `model`
abbrev pub model_line : Data → List ℕ
model_line d = (codes "{\"model\":" ++ compact_text d) ++ codes "}"

-- the fault of the model itself
abbrev pub model_fault : Option CheckFault → Option ModelFault
model_fault (Some (found.Model f)) = Some f
model_fault fault = None

-- a lawful model is told without a fault of its own where `serve` takes its line, and as too long where it doesn't
abbrev pub IsTakenBy : Option CheckFault → Data → Type 0
IsTakenBy None d = length (model_line d) ≤ max_line
IsTakenBy (Some found.Domain) d = length (model_line d) ≤ max_line
IsTakenBy (Some found.Long) d = max_line < length (model_line d)
IsTakenBy (Some (found.Model f)) d = Unit {0}

-- The first fault of the model in a text, or none. What is no UTF-8 is refused as `Syntax`, and has no reading.
abbrev pub IsFirstFault : List ℕ → Option CheckFault → Type 0
IsFirstFault text (Some (found.Model fault.Syntax)) = IsUtf8 text → first_fault_of text ≡ Some fault.Syntax
IsFirstFault text f = IsUtf8 text × (first_fault_of text ≡ model_fault f) × ((d : Data) → read text ≡ Some d → IsTakenBy f (subject d))
