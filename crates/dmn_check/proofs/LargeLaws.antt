-- The model is told exactly where it has the fault.
use Rattle.std.proofs.Common.{◌≡◌, length, ◌∙◌, nat_lt}
use Rattle.dmn_form.specs.Draft.{Draft}
use Rattle.dmn_names.specs.Size.{is_large}
use Rattle.dmn_check.specs.declared.finding.Mistake.TheVariants as mistake
use Rattle.dmn_check.specs.Told.{have_any, capped}
use Rattle.dmn_check.specs.Large.{too_large}
use Rattle.dmn_check.proofs.Presence.{any-here}
use Rattle.dmn_check.proofs.ToldLaws.{some_told}

pub any-large : (m : Draft) → have_any (too_large m) ≡ is_large m
any-large m = any-here mistake.Large (is_large m)

pub large_exactly : (m : Draft) → nat_lt 0 (capped (length (too_large m))) ≡ is_large m
large_exactly m = some_told (too_large m) ∙ any-large m
