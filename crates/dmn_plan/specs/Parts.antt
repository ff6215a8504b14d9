-- Internal but for `fault_of`: what is found on the way to a plan.
use Rattle.std.specs.Prelude.{◌≡◌, ℕ, List, map, Some, option_map, Result, false}
use Rattle.feel_text.specs.Expr.{Expr}
use Rattle.dmn_table.specs.Table.{Table}
use Rattle.dmn_form.specs.Draft.{Draft}
use Rattle.dmn_form.specs.Model.{Boxed, Model}
use Rattle.dmn_logic.specs.Faults.{has_unread_text, has_refused_table}
use Rattle.dmn_logic.specs.ReadLogic.{read_decisions}
use Rattle.dmn_logic.specs.declared.fault.LogicFault.{LogicFault}
use Rattle.dmn_logic.specs.declared.fault.LogicFault.TheVariants as logic
use Rattle.dmn_names.specs.Names.{has_bad_name, has_name_twice, has_unknown_name}
use Rattle.dmn_names.specs.Places.{needs_by_place}
use Rattle.dmn_plan.specs.Faults.{has_cycle, has_bad_service}
use Rattle.dmn_plan.specs.Plans.{AreRoutesOf}
use Rattle.dmn_plan.specs.ReadModel.{unless, first_fault}
use Rattle.dmn_plan.specs.declared.fault.ModelFault.{ModelFault}
use Rattle.dmn_plan.specs.declared.fault.ModelFault.TheVariants as fault
use Rattle.dmn_service.specs.declared.plan.ServicePlan.{ServicePlan}

-- a fault of the logic as one of the model
abbrev pub fault_of : LogicFault → ModelFault
fault_of logic.Expression = fault.Expression
fault_of logic.Table = fault.Table
fault_of logic.Memory = fault.Memory

-- the model as read, or its first fault
abbrev pub reading_of : Draft → Result (Model Expr Table) ModelFault
reading_of m = unless (first_fault m) m

-- every name is lawful and stands once, every text has a reading and no table is refused
pub record IsReadable (m : Draft) : Type 0 where
  pub names : has_bad_name m ≡ false
  pub once : has_name_twice m ≡ false
  pub texts : has_unread_text m.decisions ≡ false
  pub tables : has_refused_table m.decisions ≡ false

-- this is the logic of the decisions
abbrev pub AreLogicsOf : Draft → List (Boxed Expr Table) → Type 0
AreLogicsOf m logics = option_map (map (λ d. d.logic)) (read_decisions m.decisions) ≡ Some logics

-- these are the needs by places, and the plans by routes; there is no fault in needs or services
pub record AreRequirementsOf (m : Draft) (needs : List (List ℕ)) (plans : List ServicePlan) : Type 0 where
  pub needed : needs_by_place m ≡ Some needs
  pub known : has_unknown_name m ≡ false
  pub cycle : has_cycle m ≡ false
  pub fits : has_bad_service m ≡ false
  pub routes : AreRoutesOf m needs m.services plans
