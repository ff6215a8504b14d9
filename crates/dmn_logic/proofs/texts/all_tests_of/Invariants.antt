use Rattle.std.proofs.Common.{◌≡◌, drop, map, string_bytes}
use Rattle.feel_text.specs.Readings.{tests_of}
use Rattle.feel_value.specs.Found.{each}
use Rattle.dmn_table.proofs.Each.{after}
use Rattle.dmn_logic.proofs.texts.all_tests_of.Given as goal

abbrev pub invariant-loop-text : goal.invariant-loop-text
invariant-loop-text l = each tests_of (map string_bytes l.texts) ≡ after l.entries.items (each tests_of (map string_bytes (drop l.text-index l.texts)))
