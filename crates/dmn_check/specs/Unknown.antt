-- The needed names that are neither inputs nor decisions.
use Rattle.std.specs.Prelude.{List, not}
use Rattle.feel_value.specs.Distinct.{is_among}
use Rattle.dmn_form.specs.Model.{Name}
use Rattle.dmn_form.specs.Draft.{Written, Draft}
use Rattle.dmn_names.specs.Parts.{value_names}
use Rattle.dmn_check.specs.declared.place.Step.TheVariants as step
use Rattle.dmn_check.specs.declared.place.Key.TheVariants as key
use Rattle.dmn_check.specs.declared.finding.Mistake.TheVariants as mistake
use Rattle.dmn_check.specs.Findings.{Finding, behind, here, each_of}

abbrev pub unknown_name : Draft → Name → List Finding
unknown_name m n = here mistake.Unknown (not (is_among (value_names m) n))

abbrev pub unknown_needs : Draft → Written → List Finding
unknown_needs m d = behind (step.Key key.Needs) (each_of (unknown_name m) d.needs)

-- each needed name that is neither an input's nor a decision's
abbrev pub unknown_names : Draft → List Finding
unknown_names m = behind (step.Key key.Decisions) (each_of (unknown_needs m) m.decisions)
