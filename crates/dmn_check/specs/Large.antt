-- The model itself, where it is too large.
use Rattle.std.specs.Prelude.{List}
use Rattle.dmn_form.specs.Draft.{Draft}
use Rattle.dmn_names.specs.Size.{is_large}
use Rattle.dmn_check.specs.declared.finding.Mistake.TheVariants as mistake
use Rattle.dmn_check.specs.Findings.{Finding, here}

abbrev pub too_large : Draft → List Finding
too_large m = here mistake.Large (is_large m)
