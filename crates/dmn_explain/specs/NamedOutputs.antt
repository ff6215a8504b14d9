-- Internal: no public contract cites these words. The outputs of hits that have no parts, by the places of the columns' names.
use Rattle.std.specs.Prelude.{◌≡◌, List, All, length, Some, option_map}
use Rattle.std.specs.declared.alloc.Global.{Global}
use Rattle.std.specs.declared.string.String.{String}
use Rattle.serde_json.specs.Data.{object}
use Rattle.serde_json.specs.View.{members_view}
use Rattle.serde_json.specs.declared.value.Value.{Value}
use Rattle.feel_value.specs.Datum.{Datum}
use Rattle.feel_value.specs.Found.{value_of}
use Rattle.feel_value.specs.Json.{json_of}
use Rattle.dmn_table.specs.Hits.{output_of}
use Rattle.dmn_table.specs.RuleOutputs.{IsScalar}
use Rattle.dmn_table.specs.Table.{Column}
use Rattle.dmn_explain.specs.ByName.{each_member, json_among}

-- with values that have no parts in the places of the names, they are the output of these columns
abbrev pub TellsOutputs : List Column → List (String Global × Value) → Type 0
TellsOutputs columns places =
    (ds : List Datum) → length ds ≡ length columns → All IsScalar ds
    → option_map json_of (value_of (output_of columns ds)) ≡ Some (object (each_member (json_among ds) (members_view places)))
