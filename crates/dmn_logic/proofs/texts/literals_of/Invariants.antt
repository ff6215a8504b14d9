use Rattle.std.proofs.Common.{◌≡◌, drop, map, string_bytes}
use Rattle.feel_text.specs.Readings.{literal_of}
use Rattle.feel_value.specs.Found.{each}
use Rattle.dmn_table.proofs.Each.{after}
use Rattle.dmn_logic.proofs.texts.literals_of.Given as goal

abbrev pub invariant-loop-text : goal.invariant-loop-text
invariant-loop-text l = each literal_of (map string_bytes l.texts) ≡ after l.values.items (each literal_of (map string_bytes (drop l.text-index l.texts)))
