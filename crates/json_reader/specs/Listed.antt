-- What a text is, where the members of an object are listed if they are few.
use Rattle.std.specs.Prelude.{◌≡◌, ◌≢◌, ◌⊎◌, ◌≤◌, ℕ, suc, List, length, Some, None}
use Rattle.std.specs.Str.{IsUtf8}
use Rattle.json_reader.specs.Members.{members_of}
use Rattle.json_reader.specs.declared.listed.Listed.{Listed}
use Rattle.json_reader.specs.declared.listed.Listed.TheVariants.{Object, Other, Syntax}
use Rattle.serde_json.specs.Data.{Data, object, Members, no_members, member}
use Rattle.serde_json.specs.Read.{read}

abbrev pub count : Members → ℕ
count no_members = 0
count (member k d rest) = suc (count rest)

abbrev pub most_listed : ℕ
most_listed = 4

-- the value is no object of few members
abbrev pub IsNotFew : Data → Type 0
IsNotFew value = (members : Members) → count members ≤ most_listed → value ≢ object members

abbrev pub IsReadAs : List ℕ → Listed → Type 0
IsReadAs text (Object members) = IsUtf8 text × (read text ≡ Some (object (members_of members.items))) × (length members.items ≤ most_listed)
IsReadAs text Other = IsUtf8 text × ((value : Data) × (read text ≡ Some value) × IsNotFew value)
IsReadAs text Syntax = ¬ IsUtf8 text ⊎ (read text ≡ None)
