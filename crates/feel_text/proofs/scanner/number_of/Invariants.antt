use Rattle.std.proofs.Common.{◌≡◌, ◌≤◌, drop}
use Rattle.std.specs.List.{list_all}
use Rattle.feel_text.specs.Lexical.{is_digit, number_from}
use Rattle.feel_value.specs.Limits.{greatest_number}
use Rattle.feel_text.proofs.scanner.number_of.Given as goal

abbrev pub invariant-loop-byte : goal.invariant-loop-byte
invariant-loop-byte l = record {
  digits : list_all is_digit l.word ≡ list_all is_digit (drop l.byte-index l.word);
  value : number_from l.value (drop l.byte-index l.word) ≡ number_from 0 l.word;
  within : l.value ≤ greatest_number;
}
