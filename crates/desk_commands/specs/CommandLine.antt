-- The command line of the program.
use Rattle.std.specs.Prelude.{◌≡◌, ◌≤◌, ℕ, List, [], ◌∷◌, Option, Some, None, IfSome, Bool, Vec, String, codes, map, string_bytes, true, false, if◌then◌else◌}
use Rattle.std.specs.Str.{bytes_eq}
use Rattle.clap.specs.Words.{App, Row, Rule, Text, IsUnsignedIn, first_of, new_app, new_rule, subcommand_of, takes, with_rule, with_subcommand}
use Rattle.clap.specs.Faults.{fault_of}
use Rattle.clap.specs.Kinds.{Kinds}
use Rattle.clap.specs.declared.builder.action.ArgAction.TheVariants.{Set, SetTrue}
use Rattle.clap.specs.declared.builder.value_parser.ValueParser.TheVariants.{Unsigned}
use Rattle.std.specs.Str.Parse.{digits_value, without_leading_plus}
use Rattle.desk_serving.specs.declared.options.Options.{Options}
use Rattle.desk_checking.specs.declared.options.CheckOptions.{CheckOptions}
use Rattle.desk_explaining.specs.declared.options.ExplainOptions.{ExplainOptions}

-- an option that is a number from 1 to `most`, and `usual` where it is left out
abbrev pub number_option : Text → Text → ℕ → Rule
number_option name usual most = record (new_rule name) {
  long = Some name;
  action = Some Set;
  value_names = 1;
  defaults = usual ∷ [];
  parser = Some (Unsigned 1 most);
}

-- an option that is given or left out
abbrev pub flag : Text → Rule
flag name = record (new_rule name) {
  long = Some name;
  action = Some SetTrue;
}

-- `check [--json] [--requests] [--tables] [--strict] [--gives] [--strict-null]`; `--json` is taken, and means nothing
abbrev pub asking : App → App
asking app = with_rule (with_rule app (flag (codes "gives"))) (flag (codes "strict-null"))

abbrev pub check_app : App
check_app = asking (with_rule (with_rule (with_rule (with_rule (new_app (codes "check")) (flag (codes "json"))) (flag (codes "requests")))
    (flag (codes "tables"))) (flag (codes "strict")))

-- a command that serves: `[--clients N] [--workers N] [--capacity N]`
abbrev pub serving : App → App
serving app = with_rule (with_rule (with_rule app (number_option (codes "clients") (codes "8") 64))
    (number_option (codes "workers") (codes "4") 8)) (number_option (codes "capacity") (codes "64") 4096)

-- `serve [--clients N] [--workers N] [--capacity N]`
abbrev pub serve_app : App
serve_app = serving (new_app (codes "serve"))

-- `explain [--clients N] [--workers N] [--capacity N] [--misses]`
abbrev pub explain_app : App
explain_app = with_rule (serving (new_app (codes "explain"))) (flag (codes "misses"))

-- `desk replay`, `desk serve`, `desk check` and `desk explain`: one of the subcommands has to be named, and `--version` tells the version
abbrev pub desk_command : App
desk_command = with_subcommand (with_subcommand (with_subcommand (with_subcommand (record {
  top = record (new_app (codes "desk")).top { has_version = true; subcommand_required = true };
  subs = [];
}) (new_app (codes "replay")).top) serve_app.top) check_app.top) explain_app.top

-- the words as texts
abbrev pub texts_of : {Z Y : Type 0} → Vec (String Z) Y → List Text
texts_of words = map string_bytes words.items

-- `clap` takes these words
abbrev pub IsCommand : List Text → Type 0
IsCommand words = takes desk_command words ≡ true

-- the kinds of error of which `clap` has one for these words; none where it takes them
abbrev pub kinds_of : List Text → Kinds
kinds_of words = fault_of desk_command words

-- the command that words name which `clap` takes, with what they say of its options
pub data Named : Type 0 where
  Replay : Named
  Serve : (rows : List Row) → Named
  Check : (rows : List Row) → Named
  Explain : (rows : List Row) → Named

-- by the name of the subcommand that the words have, and what they say of its options
abbrev pub named_by : Option (Text × List Row) → Named
named_by None = Replay
named_by (Some found) =
    if bytes_eq found.0 (codes "serve") then Serve found.1
    else (if bytes_eq found.0 (codes "check") then Check found.1
    else (if bytes_eq found.0 (codes "explain") then Explain found.1 else Replay))

abbrev pub named_in : List Text → Named
named_in words = named_by (subcommand_of desk_command words)

-- a number from 1 to `top`: the one that the text says, where it says one of these; `clap` takes no other text
pub record IsNumberOf (top : ℕ) (text : Option Text) (number : ℕ) : Type 0 where
  pub least : 1 ≤ number
  pub most : number ≤ top
  pub said : IfSome text (λ t. IsUnsignedIn 1 top t → number ≡ digits_value 10 (without_leading_plus t))

-- the options of `serve` as the words give them
pub record AreOptionsOf (rows : List Row) (options : Options) : Type 0 where
  pub clients : IsNumberOf 64 (first_of (codes "clients") rows) options.clients
  pub workers : IsNumberOf 8 (first_of (codes "workers") rows) options.workers
  pub capacity : IsNumberOf 4096 (first_of (codes "capacity") rows) options.capacity

-- whether an option that is given or left out is given: `clap` says so by the text `true`
abbrev pub is_true : Option Text → Bool
is_true None = false
is_true (Some text) = bytes_eq text (codes "true")

-- the options of `check` as the words give them
pub record AreCheckOptionsOf (rows : List Row) (options : CheckOptions) : Type 0 where
  pub requests : options.requests ≡ is_true (first_of (codes "requests") rows)
  pub tables : options.tables ≡ is_true (first_of (codes "tables") rows)
  pub strict : options.strict ≡ is_true (first_of (codes "strict") rows)
  pub gives : options.gives ≡ is_true (first_of (codes "gives") rows)
  pub strict_null : options.strict_null ≡ is_true (first_of (codes "strict-null") rows)

-- the options of `explain` as the words give them
pub record AreExplainOptionsOf (rows : List Row) (options : ExplainOptions) : Type 0 where
  pub clients : IsNumberOf 64 (first_of (codes "clients") rows) options.clients
  pub misses : options.misses ≡ is_true (first_of (codes "misses") rows)
