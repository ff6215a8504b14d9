-- The fault of a model with a mistake.
use Rattle.dmn_plan.specs.declared.fault.ModelFault.{ModelFault}
use Rattle.dmn_plan.specs.declared.fault.ModelFault.TheVariants as fault
use Rattle.dmn_check.specs.declared.finding.Mistake.{Mistake}
use Rattle.dmn_check.specs.declared.finding.Mistake.TheVariants as mistake

abbrev pub fault_of : Mistake → ModelFault
fault_of mistake.Name = fault.Name
fault_of mistake.Twice = fault.Twice
fault_of (mistake.Expression k) = fault.Expression
fault_of (mistake.Table f) = fault.Table
fault_of mistake.Rule = fault.Table
fault_of mistake.Unknown = fault.Unknown
fault_of mistake.Cycle = fault.Cycle
fault_of (mistake.Service f) = fault.Service
fault_of mistake.Large = fault.Large
