-- When a fault of JSON reading is answered.
use Rattle.std.specs.Prelude.{◌≡◌, if◌then◌else◌, Option, None, Some, Result, Ok, Err, ◌⊎◌}
use Rattle.serde_json.specs.Data as json
use Rattle.feel_value.specs.Datum.{Datum}
use Rattle.feel_value.specs.Limits.{keeps_size}
use Rattle.feel_value.specs.Json.{value_of_json}
use Rattle.feel_value.specs.declared.fault.ValueFault.{ValueFault}
use Rattle.feel_value.specs.declared.fault.ValueFault.TheVariants.{Number, Size, Memory}

-- `Size` where what was read is too deep or has too many nodes
abbrev pub sized : Datum → Result Datum ValueFault
sized d = if keeps_size d then Ok d else Err Size

-- what reading a JSON value answers: `Number` where some number is no whole number in range, otherwise `Size` where the depth or the nodes pass their limit
abbrev pub reading_of : Option Datum → Result Datum ValueFault
reading_of None = Err Number
reading_of (Some d) = sized d

abbrev pub json_reading : json.Data → Result Datum ValueFault
json_reading j = reading_of (value_of_json j)

-- the result is the one that is due, or memory was refused
abbrev pub IsDueUnlessMemory : Result Datum ValueFault → Result Datum ValueFault → Type 0
IsDueUnlessMemory result due = (result ≡ Err Memory) ⊎ (result ≡ due)
