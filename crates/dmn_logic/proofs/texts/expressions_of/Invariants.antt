use Rattle.std.proofs.Common.{◌≡◌, drop, map, string_bytes}
use Rattle.feel_text.specs.Readings.{expr_of}
use Rattle.feel_value.specs.Found.{each}
use Rattle.dmn_table.proofs.Each.{after}
use Rattle.dmn_logic.proofs.texts.expressions_of.Given as goal

abbrev pub invariant-loop-text : goal.invariant-loop-text
invariant-loop-text l = each expr_of (map string_bytes l.texts) ≡ after l.expressions.items (each expr_of (map string_bytes (drop l.text-index l.texts)))
