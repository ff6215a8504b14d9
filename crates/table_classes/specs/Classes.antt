-- Which rules a class of values can't meet, told by words that have a bit for each rule. A rule stands here for its input entries.
-- `TellsBreaking`, `TellsBlock`, `TellsBlocks`, `IsBlockWord` and what is said of sieves are internal.
use Rattle.std.specs.Prelude.{◌≡◌, ◌<◌, ◌*◌, ℕ, List, drop, true, Option, Some}
use Rattle.std.specs.List.{slice_get, All}
use Rattle.std.specs.Int.{bit_at}
use denote.Ref.{Bor}
use Rattle.feel_value.specs.Datum.{Datum}
use Rattle.feel_value.specs.Limits.{is_value}
use Rattle.feel_text.specs.Classes.{is_in_class}
use Rattle.feel_text.specs.Meaning.{Bindings}
use Rattle.feel_text.specs.Satisfied.{satisfied, held_of}
use Rattle.feel_text.specs.Sieves.{IsSieveOf, is_narrow}
use Rattle.feel_text.specs.Tests.{Tests}
use Rattle.feel_text.specs.declared.class.Class.{Class}
use Rattle.feel_text.specs.declared.held.Held.TheVariants.{No}
use Rattle.feel_text.specs.declared.sieve.Sieve.{Sieve}
use Rattle.table_classes.specs.declared.classes.BlockWords.{BlockWords}
use Rattle.table_classes.specs.declared.classes.ClassRules.{ClassRules}
use Rattle.table_classes.specs.declared.classes.ColumnClasses.{ColumnClasses}
use Rattle.table_classes.specs.Unbroken.{KeepLimits}

-- no value of the class meets the tests, whatever the names stand for
abbrev pub Misses : Class → Tests → Type 0
Misses class tests = (v : Datum) (m : Bindings) → is_value v ≡ true → is_in_class class v ≡ true → held_of (satisfied tests v m) ≡ No

-- the rule has an entry in this column, and no value of the class meets it
pub record MissesAt (class : Class) (column : ℕ) (rule : List Tests) : Type 0 where
  pub entry : Tests
  pub there : slice_get rule column ≡ Some entry
  pub misses : Misses class entry

-- the rule has an entry in this column, of which this is a sieve
pub record HasSieve (column : ℕ) (rule : List Tests) (sieve : Sieve) : Type 0 where
  pub entry : Tests
  pub there : slice_get rule column ≡ Some entry
  pub stops : IsSieveOf entry sieve

-- what the sieve stops doesn't meet the rule's entry in this column
abbrev pub IsSieveAt : ℕ → List Tests → Sieve → Type 0
IsSieveAt column rule sieve = is_narrow sieve ≡ true → HasSieve column rule sieve

-- of these rules, whose first stands at the lowest bit, this holds of each whose bit is not set
abbrev pub TellsUnset : (List Tests → Type 0) → List (List Tests) → ℕ → Type 0
TellsUnset P rules word = (i : ℕ) (rule : List Tests) → i < 64 → slice_get rules i ≡ Some rule → bit_at word i ≡ 0 → P rule

-- of these rules, 64 to a word, none breaks a limit whose bit is not set
abbrev pub TellsBreaking : List (List Tests) → List ℕ → Type 0
TellsBreaking rules words = (w word : ℕ) → slice_get words w ≡ Some word → TellsUnset KeepLimits (drop (64 * w) rules) word

-- no entry of the rule breaks a limit, and no value of the class meets the one in this column
pub record IsPassedOver (class : Class) (column : ℕ) (rule : List Tests) : Type 0 where
  pub missed : MissesAt class column rule
  pub keeps : KeepLimits rule

-- of these rules, each whose bit is not set is passed over for the class in this column
abbrev pub TellsWord : List (List Tests) → ℕ → Class → ℕ → Type 0
TellsWord rules column class word = TellsUnset (IsPassedOver class column) rules word

-- the same of all rules, 64 to a word
abbrev pub TellsRules : List (List Tests) → ℕ → ClassRules → Type 0
TellsRules rules column row =
    (w word : ℕ) → slice_get row.words.items w ≡ Some word → TellsWord (drop (64 * w) rules) column row.class word

-- the words of a block of rules tell this, one for each class
abbrev pub TellsBlock : List (List Tests) → ℕ → List Class → List ℕ → Type 0
TellsBlock rules column classes words = (c word : ℕ) (class : Class) → slice_get words c ≡ Some word → slice_get classes c ≡ Some class → TellsWord rules column class word

-- those of each block do
abbrev pub TellsBlocks : List (List Tests) → ℕ → List Class → List BlockWords → Type 0
TellsBlocks rules column classes blocks = (w : ℕ) (block : BlockWords) → slice_get blocks w ≡ Some block → TellsBlock (drop (64 * w) rules) column classes block.words.items

-- a word of a block
pub record IsBlockWord (blocks : List BlockWords) (place w word : ℕ) : Type 0 where
  pub block : BlockWords
  pub there : slice_get blocks w ≡ Some block
  pub has : slice_get block.words.items place ≡ Some word

-- each class of the column tells this
abbrev pub TellsColumn : List (List Tests) → ℕ → ColumnClasses → Type 0
TellsColumn rules column classes = All (TellsRules rules column) classes.rows.items

-- each column's classes do
abbrev pub TellsColumns : List (List Tests) → List ColumnClasses → Type 0
TellsColumns rules columns = (k : ℕ) (classes : ColumnClasses) → slice_get columns k ≡ Some classes → TellsColumn rules k classes

-- the value in a column is of this class
abbrev pub IsRowOf : List (List Tests) → ℕ → Datum → ClassRules → Type 0
IsRowOf rules column v row = (is_in_class row.class v ≡ true) × TellsRules rules column row

-- there is a value in this column, and it is of this class
pub record IsRowAt (rules : List (List Tests)) (values : List Datum) (column : ℕ) (row : ClassRules) : Type 0 where
  pub value : Datum
  pub there : slice_get values column ≡ Some value
  pub lawful : is_value value ≡ true
  pub of_class : IsRowOf rules column value row

-- of each column the class of its value, where there is one
abbrev pub AreRowsOf : List (List Tests) → List Datum → List (Option (Bor ClassRules)) → Type 0
AreRowsOf rules values rows = (k : ℕ) (row : Bor ClassRules) → slice_get rows k ≡ Some (Some row) → IsRowAt rules values k row.now

-- a bit that is not set is not set in a word of one of the rows
pub record IsUnsetIn (rows : List (Option (Bor ClassRules))) (w i : ℕ) : Type 0 where
  pub column : ℕ
  pub row : Bor ClassRules
  pub word : ℕ
  pub there : slice_get rows column ≡ Some (Some row)
  pub has : slice_get row.now.words.items w ≡ Some word
  pub unset : bit_at word i ≡ 0
