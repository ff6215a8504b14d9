-- When each fault is told.
use Rattle.std.specs.Prelude.{◌≡◌, ℕ, List, Result, Err, IsUtf8}
use Rattle.dmn_plan.specs.declared.fault.ModelFault.{ModelFault}
use Rattle.dmn_plan.specs.declared.fault.ModelFault.TheVariants as model
use Rattle.dmn_plan.specs.declared.fault.TaskFault.{TaskFault}
use Rattle.dmn_plan.specs.declared.fault.TaskFault.TheVariants as task
use Rattle.dmn_plan.specs.ReadModel.{read_text}

-- the fault is the one that the reading has; memory may be refused at any time
abbrev pub IsDue : {Y : Type 0} → Result Y ModelFault → ModelFault → Type 0
IsDue reading model.Memory = Unit {0}
IsDue reading f = reading ≡ Err f

-- the same of bytes, which are no JSON text, or none in UTF-8
abbrev pub IsReadDue : List ℕ → ModelFault → Type 0
IsReadDue s model.Memory = Unit {0}
IsReadDue s model.Syntax = IsUtf8 s → read_text s ≡ Err model.Syntax
IsReadDue s f = IsUtf8 s × (read_text s ≡ Err f)

abbrev pub IsTaskDue : {Y : Type 0} → Result Y TaskFault → TaskFault → Type 0
IsTaskDue request task.Memory = Unit {0}
IsTaskDue request f = request ≡ Err f
