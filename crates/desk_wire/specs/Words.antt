-- The words of reports.
use Rattle.std.specs.Prelude.{ℕ, List, codes}
use Rattle.box_core.specs.declared.faults.Refusal.{Refusal}
use Rattle.box_core.specs.declared.faults.Refusal.TheVariants as refusal
use Rattle.box_core.specs.declared.faults.AddRefusal.{AddRefusal}
use Rattle.box_core.specs.declared.faults.AddRefusal.TheVariants as unadded
use Rattle.dmn_plan.specs.declared.fault.ModelFault.{ModelFault}
use Rattle.dmn_plan.specs.declared.fault.ModelFault.TheVariants as fault
use Rattle.dmn_plan.specs.declared.fault.TaskFault.{TaskFault}
use Rattle.dmn_plan.specs.declared.fault.TaskFault.TheVariants as task
use Rattle.desk_wire.specs.declared.word.Word.{Word}
use Rattle.desk_wire.specs.declared.word.Word.TheVariants as word

-- a word as it is written
abbrev pub word_text : Word → List ℕ
word_text word.Capacity = codes "capacity"
word_text word.Clients = codes "clients"
word_text word.Close = codes "close"
word_text word.Closed = codes "closed"
word_text word.Cycle = codes "cycle"
word_text word.Expression = codes "expression"
word_text word.Full = codes "full"
word_text word.Large = codes "large"
word_text word.Limit = codes "limit"
word_text word.Long = codes "long"
word_text word.Memory = codes "memory"
word_text word.Model = codes "model"
word_text word.Name = codes "name"
word_text word.NoClient = codes "no client"
word_text word.NotWaiting = codes "not waiting"
word_text word.Present = codes "present"
word_text word.Repeated = codes "repeated"
word_text word.Resize = codes "resize"
word_text word.Service = codes "service"
word_text word.Shape = codes "shape"
word_text word.Small = codes "small"
word_text word.Spent = codes "spent"
word_text word.Strange = codes "strange"
word_text word.Syntax = codes "syntax"
word_text word.Table = codes "table"
word_text word.Twice = codes "twice"
word_text word.Unknown = codes "unknown"
word_text word.Value = codes "value"

-- of a refusal of the broker
abbrev pub refusal_word : Refusal → Word
refusal_word refusal.NoClient = word.NoClient
refusal_word refusal.Closed = word.Closed
refusal_word refusal.Full = word.Full
refusal_word refusal.Spent = word.Spent
refusal_word refusal.NotWaiting = word.NotWaiting
refusal_word refusal.Capacity = word.Capacity
refusal_word refusal.Small = word.Small
refusal_word refusal.Memory = word.Memory

-- of a refusal to open a client
abbrev pub unadded_word : AddRefusal → Word
unadded_word unadded.Capacity = word.Capacity
unadded_word unadded.Many = word.Clients
unadded_word unadded.Memory = word.Memory

-- of a model's fault
abbrev pub fault_word : ModelFault → Word
fault_word fault.Syntax = word.Syntax
fault_word fault.Shape = word.Shape
fault_word fault.Name = word.Name
fault_word fault.Twice = word.Twice
fault_word fault.Expression = word.Expression
fault_word fault.Table = word.Table
fault_word fault.Unknown = word.Unknown
fault_word fault.Cycle = word.Cycle
fault_word fault.Service = word.Service
fault_word fault.Large = word.Large
fault_word fault.Memory = word.Memory

-- of a request for which there is no task
abbrev pub task_fault_word : TaskFault → Word
task_fault_word task.Service = word.Service
task_fault_word task.Value = word.Value
task_fault_word task.Memory = word.Memory
