-- Internal to this crate: no public contract cites these words. Members in a list, and what a text or its tokens are.
use Rattle.std.specs.Prelude.{◌≡◌, ◌<◌, ◌≤◌, ℕ, List, length, Option, Some, None}
use Rattle.std.specs.Borrow.{Bor}
use Rattle.json.specs.Token.{Token}
use Rattle.json_reader.specs.Members.{members_of}
use Rattle.json_reader.specs.Listed.{IsNotFew, count, most_listed}
use Rattle.json_reader.specs.declared.listed.Listed.{Listed}
use Rattle.json_reader.specs.declared.listed.Listed.TheVariants.{Object, Other, Syntax}
use Rattle.serde_json.specs.Data.{Data, object, Members}
use Rattle.serde_json.specs.declared.value.Value.{Value}

-- all members are listed, as long as they are few
abbrev pub Lists : Members → List (Bor (List ℕ) × Value) → Type 0
Lists all listed = (length listed ≤ most_listed → all ≡ members_of listed) × (most_listed < length listed → most_listed < count all)

-- what is read from tokens, and the tokens that follow
abbrev pub ListsRead : Option (Data × List Token) → Listed → List Token → Type 0
ListsRead found (Object members) rest = (found ≡ Some (object (members_of members.items), rest)) × (length members.items ≤ most_listed)
ListsRead found Other rest = (value : Data) × (found ≡ Some (value, rest)) × IsNotFew value
ListsRead found Syntax rest = found ≡ None

-- what is read from a whole text
abbrev pub ListsText : Option Data → Listed → Type 0
ListsText found (Object members) = (found ≡ Some (object (members_of members.items))) × (length members.items ≤ most_listed)
ListsText found Other = (value : Data) × (found ≡ Some value) × IsNotFew value
ListsText found Syntax = found ≡ None
