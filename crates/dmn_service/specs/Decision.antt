-- The outcome of a decision and of a decision service: plain recursion over names.
use Rattle.std.specs.Prelude.{ℕ, zero, suc, List, [], ◌∷◌, ◌++◌, Option, None, Some, bytes_eq, length, if◌then◌else◌}
use Rattle.feel_value.specs.Datum.{Datum, null}
use Rattle.feel_value.specs.declared.feel.Outcome.{Outcome}
use Rattle.feel_value.specs.declared.feel.Outcome.TheVariants.{Is, Limit}
use Rattle.feel_text.specs.Expr.{Expr}
use Rattle.feel_text.specs.Meaning.{Bindings}
use Rattle.feel_value.specs.Found.{value_of, ◌>>=◌, each, outcome_from}
use Rattle.dmn_table.specs.Hits.{one_or_context}
use Rattle.dmn_table.specs.Table.{Table}
use Rattle.dmn_form.specs.Model.{Name, Decision, Service, Model}
use Rattle.dmn_logic.specs.Boxed.{boxed}

-- the names of a service's parameters: its input decisions, then its input data
abbrev pub parameters_of : Service → List Name
parameters_of s = s.input_decisions ++ s.input_data

-- the values that a caller gives: those of the service's parameters, each under its name
abbrev pub Given : Type 0
Given = List (Name × Datum)

abbrev pub given_value : Given → Name → Option Datum
given_value [] n = None
given_value (g ∷ gs) n = if bytes_eq n g.0 then Some g.1 else given_value gs n

abbrev pub decision_named : List (Decision Expr Table) → Name → Option (Decision Expr Table)
decision_named [] n = None
decision_named (d ∷ ds) n = if bytes_eq n d.name then Some d else decision_named ds n

-- these names, each bound to the value that it stands for; None where one stands for none
abbrev pub bindings_to : (Name → Outcome) → List Name → Option Bindings
bindings_to stands_for ns = each (λ n. value_of (stands_for n) >>= λ v. Some (n, v)) ns

-- the outcome of a decision's logic, under exactly the names that the decision needs
abbrev pub decided : (Name → Outcome) → Decision Expr Table → Outcome
decided stands_for d = outcome_from (boxed d.logic) (bindings_to stands_for d.needs)

-- the outcome of the decision, if there is one; otherwise null
abbrev pub decided_if : (Name → Outcome) → Option (Decision Expr Table) → Outcome
decided_if stands_for None = Is null
decided_if stands_for (Some d) = decided stands_for d

-- the given value, if there is one; otherwise the outcome
abbrev pub given_or : Option Datum → Outcome → Outcome
given_or (Some v) o = Is v
given_or None o = o

-- One step of the recursion over names: what a name stands for, from what the names that it needs stand for. A given name
-- stands for the given value, a decision for the outcome of its logic, any other name for null.
abbrev pub stands_for : Model Expr Table → Given → (Name → Outcome) → Name → Outcome
stands_for model given needed n = given_or (given_value given n) (decided_if needed (decision_named model.decisions n))

-- the recursion, down to this many steps
unfoldable pub outcome_within : ℕ → Model Expr Table → Given → Name → Outcome
outcome_within zero model given n = Limit
outcome_within (suc steps) model given n = stands_for model given (outcome_within steps model given) n

-- The outcome of a decision or an input, by recursion over the names that it needs. Without a cycle this never needs more
-- steps than the model has decisions, and one for an input.
unfoldable pub outcome_of : Model Expr Table → Given → Name → Outcome
outcome_of model = outcome_within (suc (length model.decisions)) model

-- the outcome of a service, where names have these outcomes: the value of its one output, or the context of its outputs in their order
abbrev pub outputs_result : Service → (Name → Outcome) → Outcome
outputs_result service outcome = outcome_from (one_or_context service.outputs) (each (λ n. value_of (outcome n)) service.outputs)

-- the outcome of a service
unfoldable pub service_result : Model Expr Table → Service → Given → Outcome
service_result model service given = outputs_result service (outcome_of model given)
