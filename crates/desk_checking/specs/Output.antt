-- All that `check` writes.
use Rattle.std.specs.Prelude.{◌≡◌, ◌++◌, ℕ, List, [], map, Bool, false, Option, None, Some, option_map, Ok}
use Rattle.std.specs.List.{flat_map}
use Rattle.serde_json.specs.Data.{Data}
use Rattle.serde_json.specs.Read.{read}
use Rattle.serde_json.specs.Written.{compact_text}
use Rattle.feel_value.specs.Found.{◌>>=◌}
use Rattle.feel_text.specs.Expr.{Expr}
use Rattle.desk_lines.specs.Lines.{ended}
use Rattle.dmn_table.specs.Table.{Table}
use Rattle.dmn_form.specs.Draft.{Draft, draft_of}
use Rattle.dmn_form.specs.Model.{Model}
use Rattle.dmn_plan.specs.ReadModel.{read_model}
use Rattle.dmn_told.specs.declared.domains.Domain.{Domain}
use Rattle.desk_requests.specs.declared.refused.RefusedLine.{RefusedLine}
use Rattle.desk_checking.specs.Domains.{domain_view, domains_beside, domains_in}
use Rattle.desk_checking.specs.FirstFault.{subject}
use Rattle.desk_checking.specs.GivesTold.{GivesIf, looks_at_services, service_names}
use Rattle.desk_checking.specs.Input.{model_text, request_lines}
use Rattle.desk_checking.specs.Requests.{AreRefused}
use Rattle.desk_checking.specs.Tables.{tables_of}
use Rattle.desk_checking.specs.TablesTold.{IsWithin, TellsIf}
use Rattle.desk_checking.specs.Told.{faulty_lines, lawful_line, refusal_lines}
use Rattle.desk_checking.specs.declared.findings.CheckFault.{CheckFault}
use Rattle.desk_checking.specs.declared.findings.CheckFindings.{CheckFindings}
use Rattle.desk_checking.specs.declared.options.CheckOptions.{CheckOptions}

-- the value of the model in a text, where it is JSON
abbrev pub value_in : List ℕ → Option Data
value_in text = option_map subject (read text)

-- what is declared beside the model in a text, where it is JSON
abbrev pub beside_in : List ℕ → Option Data
beside_in text = read text >>= domains_beside

-- whether `--strict` refuses a table of it, and whether `--strict-null` refuses what a service of it can give
pub record Failures : Type 0 where
  pub tables : Bool
  pub nulls : Bool

abbrev pub no_failure : Failures
no_failure = record { tables = false; nulls = false }

-- What is told of a model without a fault, beside which this is declared: that it has none, with its parts; what its services can give
-- within the domains; what is found of its tables for what comes to them; and the lines of requests behind it that `serve` refuses. A table that `--strict`
-- refuses is a failure, where the options are strict, and so is null under `--strict-null`.
pub record TellsModel (options : CheckOptions) (d : Data) (beside : Option Data) (requests : List (List ℕ)) (refused : List RefusedLine) (failures : Failures) (text : List ℕ) : Type 0 where
  pub model : Draft
  pub form : draft_of d ≡ Some model
  pub lawful : Model Expr Table
  pub read : read_model d ≡ Ok lawful
  pub domains : List Domain
  pub declared : map domain_view domains ≡ domains_in model beside
  pub gives : List ℕ
  pub can : GivesIf (looks_at_services options) options.strict_null (compact_text d) domains (service_names model) gives failures.nulls
  pub tables : List ℕ
  pub told : TellsIf options.tables options.strict (IsWithin lawful domains (service_names model)) (tables_of lawful) tables failures.tables
  pub count : ℕ
  pub are : AreRefused d requests refused count
  pub is : text ≡ ended (lawful_line model) ++ (gives ++ (tables ++ flat_map ended (refusal_lines refused count)))

-- What is told of the model in a text, with these lines of requests behind it: of one with a fault no lines of requests are looked at.
abbrev pub TellsText : CheckOptions → List ℕ → List (List ℕ) → Option CheckFault → List RefusedLine → Failures → List ℕ → Type 0
TellsText options s requests (Some f) refused failures text = (refused ≡ []) × (failures ≡ no_failure) × (text ≡ flat_map ended (faulty_lines (value_in s) (beside_in s) f))
TellsText options s requests None refused failures text = (d : Data) → read s ≡ Some d → TellsModel options (subject d) (domains_beside d) requests refused failures text

abbrev pub failures_of : CheckFindings → Failures
failures_of findings = record { tables = findings.is_strict_failure; nulls = findings.is_null_failure }

-- what is told of an input
abbrev pub TellsInput : CheckOptions → List ℕ → CheckFindings → List ℕ → Type 0
TellsInput options input findings =
    TellsText options (model_text options input) (request_lines options input) findings.fault findings.refused.items (failures_of findings)
