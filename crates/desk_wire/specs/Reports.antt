-- The reports of all commands, and the JSON of each.
use Rattle.std.specs.Prelude.{ℕ, List, Option, Some, None, codes, map, true}
use Rattle.serde_json.specs.Data.{Data, boolean, object, member, no_members}
use Rattle.serde_json.specs.Written.{compact_text}
use Rattle.feel_value.specs.Json.{json_of}
use Rattle.feel_value.specs.declared.feel.Outcome.{Outcome}
use Rattle.feel_value.specs.declared.feel.Outcome.TheVariants.{Is, Limit}
use Rattle.desk_wire.specs.Parts.{with_name, with_number, with_word}
use Rattle.desk_wire.specs.declared.report.Told.{Told}
use Rattle.desk_wire.specs.declared.report.Told.TheVariants as told
use Rattle.desk_wire.specs.declared.word.Word.{Word}
use Rattle.desk_wire.specs.declared.word.Word.TheVariants as word

-- what is said of a line with this number, or in reply to the request with this ticket
pub data Report : Type 0 where
  -- the model on the line is in force from the next line on
  Loaded : (line : ℕ) → Report
  -- the model on the line has this fault
  Faulty : (line : ℕ) → (fault : Word) → Report
  -- the line is of no client, and is refused
  Refused : (line : ℕ) → (why : Word) → Report
  -- the line is this client's
  Of : (client : List ℕ) → (line : ℕ) → Told → Report
  -- the result of this client's request
  Reply : (client : List ℕ) → (ticket : ℕ) → Outcome → Report

-- of a client's line
abbrev pub told_json : List ℕ → ℕ → Told → Data
told_json c k (told.Accepted t) = object (with_number (codes "accepted") t (with_name (codes "client") c (with_number (codes "line") k no_members)))
told_json c k told.Closed = object (with_name (codes "client") c (member (codes "closed") (boolean true) (with_number (codes "line") k no_members)))
told_json c k (told.Kept t) = object (with_name (codes "client") c (with_number (codes "kept") t (with_number (codes "line") k no_members)))
told_json c k told.Nothing = object (with_name (codes "client") c (with_number (codes "line") k (member (codes "nothing") (boolean true) no_members)))
told_json c k (told.Opened n) = object (with_name (codes "client") c (with_number (codes "line") k (with_number (codes "opened") n no_members)))
told_json c k (told.Refused why) = object (with_name (codes "client") c (with_number (codes "line") k (with_word (codes "refused") why no_members)))
told_json c k (told.Resized n) = object (with_name (codes "client") c (with_number (codes "line") k (with_number (codes "resized") n no_members)))
told_json c k (told.Skipped what) = object (with_name (codes "client") c (with_number (codes "line") k (with_word (codes "skipped") what no_members)))
told_json c k (told.Taken t) = object (with_name (codes "client") c (with_number (codes "line") k (with_number (codes "taken") t no_members)))

abbrev pub report_json : Report → Data
report_json (Loaded k) = object (with_number (codes "line") k (member (codes "model") (boolean true) no_members))
report_json (Faulty k fault) = object (with_word (codes "fault") fault (with_number (codes "line") k (with_word (codes "refused") word.Model no_members)))
report_json (Refused k why) = object (with_number (codes "line") k (with_word (codes "refused") why no_members))
report_json (Of c k what) = told_json c k what
report_json (Reply c t (Is value)) = object (with_name (codes "client") c (member (codes "result") (json_of value) (with_number (codes "ticket") t no_members)))
report_json (Reply c t Limit) = object (with_name (codes "client") c (with_word (codes "fault") word.Limit (with_number (codes "ticket") t no_members)))

-- the line of a report, without its end
abbrev pub report_text : Report → List ℕ
report_text report = compact_text (report_json report)

-- the client that a report is for; one on a line of no client has none
abbrev pub client_on : Report → Option (List ℕ)
client_on (Loaded k) = None
client_on (Faulty k fault) = None
client_on (Refused k why) = None
client_on (Of c k what) = Some c
client_on (Reply c t outcome) = Some c

-- the lines of these reports
abbrev pub texts_of : List Report → List (List ℕ)
texts_of reports = map (λ report. report_text report) reports
