-- The model that a JSON value has, or its first fault.
use Rattle.std.specs.Prelude.{ℕ, List, [], ◌∷◌, Bool, if◌then◌else◌, Option, None, Some, Result, Ok, Err}
use Rattle.serde_json.specs.Data.{Data}
use Rattle.serde_json.specs.Read.{read}
use Rattle.feel_text.specs.Expr.{Expr}
use Rattle.dmn_table.specs.Table.{Table}
use Rattle.dmn_form.specs.Model.{Decision, Model}
use Rattle.dmn_form.specs.Draft.{Draft, draft_of}
use Rattle.dmn_names.specs.Names.{has_bad_name, has_name_twice, has_unknown_name}
use Rattle.dmn_names.specs.Size.{is_large}
use Rattle.dmn_logic.specs.Faults.{has_unread_text, has_refused_table}
use Rattle.dmn_logic.specs.ReadLogic.{read_decisions}
use Rattle.dmn_plan.specs.declared.fault.ModelFault.{ModelFault}
use Rattle.dmn_plan.specs.declared.fault.ModelFault.TheVariants as fault
use Rattle.dmn_plan.specs.Faults.{has_cycle, has_bad_service}

-- the faults of a model that has the form, in their order
abbrev pub faults : List (ModelFault × (Draft → Bool))
faults =
    (fault.Name, has_bad_name) ∷ (fault.Twice, has_name_twice) ∷ (fault.Expression, (λ m. has_unread_text m.decisions))
    ∷ (fault.Table, (λ m. has_refused_table m.decisions)) ∷ (fault.Unknown, has_unknown_name) ∷ (fault.Cycle, has_cycle)
    ∷ (fault.Service, has_bad_service) ∷ (fault.Large, is_large) ∷ []

abbrev pub first_among : List (ModelFault × (Draft → Bool)) → Draft → Option ModelFault
first_among [] m = None
first_among (f ∷ fs) m = if f.1 m then Some f.0 else first_among fs m

-- the first fault of a model that has the form
abbrev pub first_fault : Draft → Option ModelFault
first_fault = first_among faults

-- the model with each text read
abbrev pub with_decisions : Draft → Option (List (Decision Expr Table)) → Option (Model Expr Table)
with_decisions m None = None
with_decisions m (Some ds) = Some (record { inputs = m.inputs; decisions = ds; services = m.services })

abbrev pub read_draft : Draft → Option (Model Expr Table)
read_draft m = with_decisions m (read_decisions m.decisions)

abbrev pub found_or : {Y : Type 0} → ModelFault → Option Y → Result Y ModelFault
found_or f None = Err f
found_or f (Some y) = Ok y

-- the first fault, or the model; without a fault every text is read
abbrev pub unless : Option ModelFault → Draft → Result (Model Expr Table) ModelFault
unless None m = found_or fault.Expression (read_draft m)
unless (Some f) m = Err f

abbrev pub checked : Option Draft → Result (Model Expr Table) ModelFault
checked None = Err fault.Shape
checked (Some m) = unless (first_fault m) m

-- the model of a JSON value
unfoldable pub read_model : Data → Result (Model Expr Table) ModelFault
read_model d = checked (draft_of d)

abbrev pub of_data : Option Data → Result (Model Expr Table) ModelFault
of_data None = Err fault.Syntax
of_data (Some d) = read_model d

-- the model of a JSON text
unfoldable pub read_text : List ℕ → Result (Model Expr Table) ModelFault
read_text s = of_data (read s)
