-- The findings of each fault of a model that has the form.
use Rattle.std.specs.Prelude.{List, [], ◌∷◌, Option, None, Some, if◌then◌else◌}
use Rattle.dmn_form.specs.Draft.{Draft}
use Rattle.dmn_plan.specs.declared.fault.ModelFault.{ModelFault}
use Rattle.dmn_plan.specs.declared.fault.ModelFault.TheVariants as fault
use Rattle.dmn_check.specs.Cycles.{cycles}
use Rattle.dmn_check.specs.Findings.{Finding}
use Rattle.dmn_check.specs.Large.{too_large}
use Rattle.dmn_check.specs.NameFaults.{unlawful_names, repeated_names}
use Rattle.dmn_check.specs.Refused.{refused_tables}
use Rattle.dmn_check.specs.Services.{bad_services}
use Rattle.dmn_check.specs.Told.{have_any}
use Rattle.dmn_check.specs.Unknown.{unknown_names}
use Rattle.dmn_check.specs.Unread.{unread_texts}

-- for each fault, in their order, every place where it is
abbrev pub findings_of : List (ModelFault × (Draft → List Finding))
findings_of =
    (fault.Name, unlawful_names) ∷ (fault.Twice, repeated_names) ∷ (fault.Expression, unread_texts) ∷ (fault.Table, refused_tables)
    ∷ (fault.Unknown, unknown_names) ∷ (fault.Cycle, cycles) ∷ (fault.Service, bad_services) ∷ (fault.Large, too_large) ∷ []

-- the first of these faults that has a place
abbrev pub first_with_place : List (ModelFault × (Draft → List Finding)) → Draft → Option ModelFault
first_with_place [] m = None
first_with_place (f ∷ fs) m = if have_any (f.1 m) then Some f.0 else first_with_place fs m
