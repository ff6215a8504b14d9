-- The decisions that need themselves.
use Rattle.std.specs.Prelude.{List}
use Rattle.dmn_form.specs.Draft.{Written, Draft}
use Rattle.dmn_plan.specs.Faults.{needs_itself}
use Rattle.dmn_check.specs.declared.place.Step.TheVariants as step
use Rattle.dmn_check.specs.declared.place.Key.TheVariants as key
use Rattle.dmn_check.specs.declared.finding.Mistake.TheVariants as mistake
use Rattle.dmn_check.specs.Findings.{Finding, behind, here, each_of}

abbrev pub cycle : Draft → Written → List Finding
cycle m d = here mistake.Cycle (needs_itself m d)

-- each decision that needs itself, directly or through others
abbrev pub cycles : Draft → List Finding
cycles m = behind (step.Key key.Decisions) (each_of (cycle m) m.decisions)
