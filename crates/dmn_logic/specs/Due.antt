-- When each fault of the logic of decisions is told.
use Rattle.std.specs.Prelude.{◌≡◌, List, true, false}
use Rattle.dmn_form.specs.Draft.{Written}
use Rattle.dmn_logic.specs.Faults.{has_unread_text, has_refused_table}
use Rattle.dmn_logic.specs.declared.fault.LogicFault.{LogicFault}
use Rattle.dmn_logic.specs.declared.fault.LogicFault.TheVariants.{Expression, Table, Memory}

-- `Expression` where some text has no reading, `Table` where all have one and some table is refused; memory may be refused at any time
abbrev pub IsDue : List Written → LogicFault → Type 0
IsDue ds Expression = has_unread_text ds ≡ true
IsDue ds Table = (has_unread_text ds ≡ false) × (has_refused_table ds ≡ true)
IsDue ds Memory = Unit {0}
