-- Internal: no public contract cites these words. Input entries that break no limit, whatever the values.
use Rattle.std.specs.Prelude.{List, All}
use Rattle.table_classes.specs.Unbroken.{KeepLimits}
use Rattle.dmn_table.specs.declared.table.Rule as rule

-- no entry of any of these rules breaks a limit
abbrev pub AllKeepLimits : List rule.Rule → Type 0
AllKeepLimits rules = All (λ r. KeepLimits r.tests.items) rules
