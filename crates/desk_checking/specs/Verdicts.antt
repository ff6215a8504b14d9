-- Internal, cited by no public contract: what a model was found to be.
use Rattle.std.specs.Prelude.{◌≡◌, ℕ, List, [], Bool, ◌&&◌, Option, None, Some}
use Rattle.std.specs.List.{flat_map}
use Rattle.serde_json.specs.Data.{Data}
use Rattle.desk_lines.specs.Lines.{ended}
use Rattle.dmn_form.specs.Draft.{draft_of}
use Rattle.dmn_plan.specs.ReadModel.{read_model}
use Rattle.desk_requests.specs.declared.refused.RefusedLine.{RefusedLine}
use Rattle.desk_checking.specs.Domains.{AreDomainsOf, refused_by}
use Rattle.desk_checking.specs.FirstFault.{IsTakenBy, fault_in, model_fault}
use Rattle.desk_checking.specs.Output.{Failures, TellsModel, no_failure}
use Rattle.desk_checking.specs.Told.{faulty_lines}
use Rattle.desk_checking.specs.declared.findings.CheckFault.{CheckFault}
use Rattle.desk_checking.specs.declared.model_check.Verdict.{Verdict}
use Rattle.desk_checking.specs.declared.options.CheckOptions.{CheckOptions}

-- how a model fails, by its fault, by whether `--strict` refuses a table of it, and by whether a service of it can give null or break a limit
abbrev pub failure_of : CheckOptions → Option CheckFault → Bool → Bool → Failures
failure_of options (Some f) are_refused can_fail = no_failure
failure_of options None are_refused can_fail =
    record { tables = options.tables && (options.strict && are_refused); nulls = options.strict_null && can_fail }

-- what is told of a value with this fault, or with none
abbrev pub TellsValue : CheckOptions → Data → Option Data → List (List ℕ) → Option CheckFault → List RefusedLine → Failures → List ℕ → Type 0
TellsValue options d beside requests (Some f) refused failures text = (refused ≡ []) × (failures ≡ no_failure) × (text ≡ flat_map ended (faulty_lines (Some d) beside f))
TellsValue options d beside requests None refused failures text = TellsModel options d beside requests refused failures text

abbrev pub failures_in : CheckOptions → Verdict → Failures
failures_in options verdict = failure_of options verdict.fault verdict.are_tables_refused verdict.can_fail

-- the value has this fault first, or none, and this is what is told of it
pub record IsDueTo (options : CheckOptions) (d : Data) (beside : Option Data) (requests : List (List ℕ)) (verdict : Verdict) : Type 0 where
  pub fault : model_fault verdict.fault ≡ fault_in (read_model d)
  pub taken : IsTakenBy verdict.fault d
  pub domains : AreDomainsOf verdict.fault (refused_by (draft_of d) beside)
  pub tells : TellsValue options d beside requests verdict.fault verdict.refused.items (failures_in options verdict) verdict.text.items
