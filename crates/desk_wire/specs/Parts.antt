-- The parts of lines and of reports.
use Rattle.std.specs.Prelude.{◌≡◌, ℕ, ◌^◌, ◌<◌, ◌≤◌, List, length}
use Rattle.serde_json.specs.Data.{Data, string, number, unsigned, object, Members, member}
use Rattle.desk_wire.specs.Words.{word_text}
use Rattle.desk_wire.specs.declared.word.Word.{Word}

-- an object of these members, which stand in the order of their keys
abbrev pub with_name : List ℕ → List ℕ → Members → Members
with_name key name rest = member key (string name) rest

abbrev pub with_number : List ℕ → ℕ → Members → Members
with_number key n rest = member key (number (unsigned n)) rest

abbrev pub with_word : List ℕ → Word → Members → Members
with_word key word rest = member key (string (word_text word)) rest

abbrev pub IsName : List ℕ → Type 0
IsName name = (1 ≤ length name) × (length name ≤ 64)

abbrev pub IsTicket : ℕ → Type 0
IsTicket ticket = ticket < 2 ^ 63

abbrev pub IsObject : Data → Type 0
IsObject value = (members : Members) × (value ≡ object members)
