-- Internal to this crate: no public contract cites these words. What is read from tokens, as data, with the tokens that follow.
use Rattle.std.specs.Prelude.{ℕ, List, length, Option}
use Rattle.json.specs.Token.{Token}
use Rattle.json.specs.Json.{parse_map, items, members, value}
use Rattle.serde_json.specs.Data.{Data, array, object, no_members}
use Rattle.serde_json.specs.Read.{of_json, of_items, of_members, converted}

abbrev pub value_read : ℕ → List Token → Option (Data × List Token)
value_read depth ts = converted of_json (value depth ts)

-- behind the bracket
abbrev pub list_read : ℕ → List Token → Option (Data × List Token)
list_read depth ts = parse_map array (converted of_items (items (value depth) (length ts) ts))

-- behind the brace
abbrev pub object_read : ℕ → List Token → Option (Data × List Token)
object_read depth ts = parse_map object (converted (λ ms. of_members ms no_members) (members (value depth) (length ts) ts))
