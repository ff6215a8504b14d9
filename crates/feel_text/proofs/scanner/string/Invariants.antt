use Rattle.std.proofs.Common.{◌≡◌, false, length, string_bytes}
use denote.Shadow.{shadow}
use denote.Text.{Utf8}
use Rattle.feel_text.specs.Scanning.{text_at, prefixed}
use Rattle.feel_text.proofs.scanner.string.Given as goal

-- what was read before what the rest stands for is what the text stands for
abbrev pub invariant-loop-rest : goal.invariant-loop-rest
invariant-loop-rest l = record {
  utf8 : shadow (Utf8 l.rest);
  so_far : prefixed (string_bytes l.content) (text_at false l.rest) ≡ text_at false l.fn.text;
}

abbrev pub decreases-loop-rest : goal.decreases-loop-rest
decreases-loop-rest l = length l.rest
