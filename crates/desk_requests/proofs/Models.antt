-- What a model line and a request come to.
use Rattle.std.proofs.Common.{◌≡◌, ◌≢◌, ℕ, true, is_ok, List, Option, Some, None, Result, Ok, Err, refl, ap}
use Rattle.serde_json.specs.Data.{Data}
use Rattle.serde_json.specs.Written.{compact_text}
use Rattle.dmn_plan.specs.Due.{IsDue, IsTaskDue}
use Rattle.dmn_plan.specs.Request as plan
use Rattle.dmn_plan.specs.declared.fault.ModelFault.{ModelFault}
use Rattle.dmn_plan.specs.declared.fault.ModelFault.TheVariants as model
use Rattle.dmn_plan.specs.declared.fault.TaskFault.{TaskFault}
use Rattle.dmn_plan.specs.declared.fault.TaskFault.TheVariants as task
use Rattle.desk_wire.specs.Reports.{Loaded, Faulty}
use Rattle.desk_wire.specs.Words.{fault_word}
use Rattle.desk_wire.specs.declared.report.Report.TheVariants as report
use Rattle.desk_wire.specs.declared.word.Word.{Word}
use Rattle.desk_requests.specs.Decider.{IsLoadedOf, IsModelDue}
use Rattle.desk_requests.specs.Due.{model_answer}
use Rattle.desk_requests.specs.Services.{fault_in}
use Rattle.desk_requests.specs.State.{newer_model}
use Rattle.desk_requests.specs.declared.decider.Due.{Due}
use Rattle.desk_requests.specs.declared.decider.Due.TheVariants as due

-- a fault other than out of memory is the one that the reading has
pub due_model : {Y : Type 0} (r : Result Y ModelFault) (f : ModelFault) → IsDue r f → f ≢ model.Memory → r ≡ Err f
due_model r model.Syntax h n = h
due_model r model.Shape h n = h
due_model r model.Name h n = h
due_model r model.Twice h n = h
due_model r model.Expression h n = h
due_model r model.Table h n = h
due_model r model.Unknown h n = h
due_model r model.Cycle h n = h
due_model r model.Service h n = h
due_model r model.Large h n = h
due_model r model.Memory h n = absurd (n refl)

pub due_task : {Y : Type 0} (r : Result Y TaskFault) (f : TaskFault) → IsTaskDue r f → f ≢ task.Memory → r ≡ Err f
due_task r task.Service h n = h
due_task r task.Value h n = h
due_task r task.Memory h n = absurd (n refl)

pub loaded_model : {M : Type 0} (json : Data) (r : Result M ModelFault) (old : Option (List ℕ)) (k : ℕ) → is_ok r ≡ true
    → (newer_model json r old ≡ Some (compact_text json)) × (model_answer k r ≡ Loaded k)
loaded_model json (Ok m) old k h = (refl, refl)
loaded_model json (Err f) old k h = cc

pub faulty_model : {M : Type 0} (json : Data) (r : Result M ModelFault) (old : Option (List ℕ)) (k : ℕ) (f : ModelFault) → r ≡ Err f
    → (newer_model json r old ≡ old) × (model_answer k r ≡ Faulty k (fault_word f))
faulty_model json r old k f e = rw e (refl, refl)

-- a model that is read is kept, or its fault is told
pub loaded_of : {P M : Type 0} (text_of : P → List ℕ) (json : Data) (r : Result M ModelFault) (p : P) → is_ok r ≡ true → text_of p ≡ compact_text json → IsLoadedOf text_of json r (Ok p)
loaded_of text_of json (Ok m) p ok is = is
loaded_of text_of json (Err f) p ok is = cc

pub faulty_of : {P M : Type 0} (text_of : P → List ℕ) (json : Data) (r : Result M ModelFault) (f : ModelFault) (why : Word) → r ≡ Err f → why ≡ fault_word f → IsLoadedOf text_of json r (Err why)
faulty_of text_of json r f why e is = rw e is

pub due_to_loaded : {P W M : Type 0} (text_of : P → List ℕ) (k : ℕ) (json : Data) (r : Result M ModelFault) (p : P) (what : Due P W) → IsLoadedOf text_of json r (Ok p) → what ≡ due.Loaded p
    → IsModelDue text_of k json r what
due_to_loaded text_of k json (Ok m) p what is e = (p, e, is)
due_to_loaded text_of k json (Err f) p what is e = absurd is

pub due_to_faulty : {P W M : Type 0} (text_of : P → List ℕ) (k : ℕ) (json : Data) (r : Result M ModelFault) (why : Word) (what : Due P W) → IsLoadedOf text_of json r (Err why)
    → what ≡ due.Told (report.Faulty k why) → IsModelDue text_of k json r what
due_to_faulty text_of k json (Ok m) why what is e = absurd is
due_to_faulty text_of k json (Err f) why what is e = (_, e, ap (Faulty k) is)

-- the fault that a request has
pub has_fault : (r : Result plan.Request TaskFault) (f : TaskFault) → Some f ≡ fault_in r → r ≡ Err f
has_fault (Ok q) f e = cc
has_fault (Err g) f e = let is : f ≡ g = cc in rw is refl

-- or the request
pub has_request : (r : Result plan.Request TaskFault) → None ≡ fault_in r → (q : plan.Request) × (r ≡ Ok q)
has_request (Ok q) e = (q, refl)
has_request (Err f) e = cc
