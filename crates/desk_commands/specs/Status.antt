-- What the program does with its words, what its status says of that, and what it tells.
use Rattle.std.specs.Prelude.{◌≡◌, ◌≢◌, ◌⊎◌, ◌<◌, ℕ, List, [], length, codes, Bool, true, false, ◌||◌, Option, Some, None, Result, Ok, Err}
use Rattle.clap.specs.Kinds.{Kinds, IsAmong}
use Rattle.clap.specs.declared.error.kind.ErrorKind.{ErrorKind}
use Rattle.clap.specs.declared.error.kind.ErrorKind.TheVariants as kind
use Rattle.desk_lines.specs.Device.{Reader, Writer}
use Rattle.desk_lines.specs.Fault.{fault_word}
use Rattle.desk_lines.specs.Lines.{ended}
use Rattle.desk_lines.specs.Ran.{Ran, RanAtOnce}
use Rattle.desk_lines.specs.Told.{IsTold}
use Rattle.desk_lines.specs.declared.fault.FrontFault.{FrontFault}
use Rattle.desk_lines.specs.declared.fault.FrontFault.TheVariants.{Memory}
use Rattle.desk_checking.specs.Checked.{Checked}
use Rattle.desk_checking.specs.declared.findings.CheckFault.{CheckFault}
use Rattle.desk_checking.specs.declared.findings.CheckFindings.{CheckFindings}
use Rattle.desk_checking.specs.declared.options.CheckOptions.{CheckOptions}
use Rattle.desk_explaining.specs.Script as explaining
use Rattle.desk_explaining.specs.declared.options.ExplainOptions.{ExplainOptions}
use Rattle.desk_replaying.specs.Script as replaying
use Rattle.desk_serving.specs.Script.{Served, ServedInPart}
use Rattle.desk_serving.specs.declared.options.Options.{Options}
use Rattle.desk_commands.specs.CommandLine.{AreCheckOptionsOf, AreExplainOptionsOf, AreOptionsOf, Named, Replay, Serve, Check, Explain}

-- ## The statuses

-- the command came to its end, or help or the version was asked for
abbrev pub done : ℕ
done = 0

-- a fault ended the run, or memory was refused
abbrev pub stopped : ℕ
stopped = 1

-- the words name no command
abbrev pub wrong_words : ℕ
wrong_words = 2

-- the model that was checked has a fault, or is too long for a line
abbrev pub wrong_model : ℕ
wrong_model = 3

-- the model that was checked is lawful, and a table of it or what a service can give is not as the options are strict about
abbrev pub refused_table : ℕ
refused_table = 4

-- of a command, by how it ended
abbrev pub status_of : {X : Type 0} → Result X FrontFault → ℕ
status_of (Ok x) = done
status_of (Err why) = stopped

-- of a model, by why it isn't taken, and by whether the options refuse it
abbrev pub status_of_model : Option CheckFault → Bool → ℕ
status_of_model (Some fault) is_refused = wrong_model
status_of_model None true = refused_table
status_of_model None false = done

-- of `check`, by what was found of the model, or by how it ended before
abbrev pub status_of_check : Result CheckFindings FrontFault → ℕ
status_of_check (Ok findings) = status_of_model findings.fault (findings.is_strict_failure || findings.is_null_failure)
status_of_check (Err why) = stopped

-- of words that name no command
abbrev pub status_of_kind : ErrorKind → ℕ
status_of_kind kind.DisplayHelp = done
status_of_kind kind.DisplayVersion = done
status_of_kind _ = wrong_words

-- memory was refused, or the status is that of one of these kinds of error
abbrev pub IsStatusOf : Kinds → ℕ → Type 0
IsStatusOf kinds status = (status ≡ stopped) ⊎ ((k : ErrorKind) × IsAmong k kinds × (status ≡ status_of_kind k))

-- ## What is told

-- the line that tells a fault
abbrev pub fault_line : FrontFault → List ℕ
fault_line why = ended (fault_word why)

-- the line that tells of a word that is no text
abbrev pub no_utf8_line : List ℕ
no_utf8_line = ended (codes "error: a word of the command line is not UTF-8")

-- some text is told that is not empty, and nothing else is said of which
pub record IsSomethingTold (old new : Writer) : Type 0 where
  pub text : List ℕ
  pub some : 0 < length text
  pub told : IsTold old new text

-- what is told of how a command ended: a fault on a line of its own, and nothing else
abbrev pub end_text : {X : Type 0} → Result X FrontFault → List ℕ
end_text (Ok x) = []
end_text (Err why) = fault_line why

-- ## A command

-- it ended so that the relation holds; the status follows from how it ended, and a fault is told
pub record EndsBy {X : Type 0} (Did : Result X FrontFault → Type 0) (status_by : Result X FrontFault → ℕ) (faults faults' : Writer) (status : ℕ) : Type 0 where
  pub end : Result X FrontFault
  pub did : Did end
  pub is : status ≡ status_by end
  pub told : IsTold faults faults' (end_text end)

module _ (reader reader' : Reader) (writer writer' : Writer) where
  abbrev pub Replayed : Result (Unit {0}) FrontFault → Type 0
  Replayed end = RanAtOnce replaying.Script reader reader' writer writer' end

  -- with so many lanes
  abbrev pub ServedWith : ℕ → Result (Unit {0}) FrontFault → Type 0
  ServedWith lanes end = Ran (Served lanes) (ServedInPart lanes) reader reader' writer writer' end

  abbrev pub Explained : ExplainOptions → Result (Unit {0}) FrontFault → Type 0
  Explained options end = RanAtOnce (explaining.Script options.misses options.clients) reader reader' writer writer' end

  module _ (faults faults' : Writer) (status : ℕ) where
    -- what is promised of each command
    abbrev pub Does : Named → Type 0
    Does Replay = EndsBy Replayed status_of faults faults' status
    Does (Serve rows) = (options : Options) × AreOptionsOf rows options × EndsBy (ServedWith options.clients) status_of faults faults' status
    Does (Check rows) = (options : CheckOptions) × AreCheckOptionsOf rows options
        × EndsBy (Checked options reader reader' writer writer') status_of_check faults faults' status
    Does (Explain rows) = (options : ExplainOptions) × AreExplainOptionsOf rows options
        × EndsBy (Explained options) status_of faults faults' status

-- ## A command line

-- memory was refused before the command began
pub record Starves {R W F : Type 0} (reader reader' : R) (writer writer' : W) (seen_faults : F → Writer) (faults faults' : F) (status : ℕ) : Type 0 where
  pub is : status ≡ stopped
  pub unread : reader' ≡ reader
  pub unwritten : writer' ≡ writer
  pub told : IsTold (seen_faults faults) (seen_faults faults') (fault_line Memory)

-- the words name this command, and memory was refused before it began, or it does what is promised of it
abbrev pub Runs : Named → {R W F : Type 0} → (R → Reader) → (reader reader' : R) → (W → Writer) → (writer writer' : W) → (F → Writer) → (faults faults' : F) → ℕ → Type 0
Runs named seen reader reader' seen_writer writer writer' seen_faults faults faults' status =
    Starves reader reader' writer writer' seen_faults faults faults' status
    ⊎ Does (seen reader) (seen reader') (seen_writer writer) (seen_writer writer') (seen_faults faults) (seen_faults faults') status named

-- help or the version is told on the writer and nothing else; or on the faults that memory was refused, or what is wrong
pub record Says {W F : Type 0} (seen_writer : W → Writer) (writer writer' : W) (seen_faults : F → Writer) (faults faults' : F) (status : ℕ) : Type 0 where
  pub memory : status ≡ stopped → IsTold (seen_faults faults) (seen_faults faults') (fault_line Memory)
  pub wrong : status ≡ wrong_words → IsSomethingTold (seen_faults faults) (seen_faults faults')
  pub help : status ≡ done → IsSomethingTold (seen_writer writer) (seen_writer writer')
  pub silent : status ≢ done → writer' ≡ writer
  pub no_fault : status ≡ done → faults' ≡ faults

-- the words name no command, for one of these reasons
pub record Refuses (kinds : Kinds) {R W F : Type 0} (reader reader' : R) (seen_writer : W → Writer) (writer writer' : W) (seen_faults : F → Writer) (faults faults' : F) (status : ℕ) : Type 0 where
  pub is : IsStatusOf kinds status
  pub unread : reader' ≡ reader
  pub says : Says seen_writer writer writer' seen_faults faults faults' status
