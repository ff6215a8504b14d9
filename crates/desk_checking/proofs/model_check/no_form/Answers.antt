use Rattle.std.proofs.Common.{◌∙◌, ◌++◌, ℕ, Vec, Global, ap}
use Rattle.desk_lines.specs.Lines.{ended}
use Rattle.dmn_plan.specs.declared.fault.ModelFault.TheVariants as fault
use Rattle.desk_checking.specs.Told.{fault_line}
use Rattle.desk_checking.specs.declared.findings.CheckFault.TheVariants as found
use Rattle.desk_checking.proofs.FirstFaults.{no_form}
use Rattle.desk_checking.proofs.Telling.{faulty_due, told_alone}
use Rattle.desk_checking.proofs.model_check.no_form.Goals as goal

pub returns : goal.returns
returns c = λ options d beside requests none.
    faulty_due options d beside requests fault.Shape c.faulty.result (no_form d none) c.faulty.ensures.fault c.faulty.ensures.refused
    (told_alone d beside fault.Shape c.faulty.result.text.items none
    (ap (λ (v : Vec ℕ Global). v.items) c.faulty.ensures.text ∙ c.in_ok-add_fault.ensures ∙ ap (λ s. s ++ ended (fault_line (found.Model fault.Shape))) c.new-text.ensures.items) (λ e. cc))
