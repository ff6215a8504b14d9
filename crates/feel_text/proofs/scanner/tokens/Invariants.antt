use Rattle.std.proofs.Common.{◌≡◌, List, ◌++◌, length}
use denote.Shadow.{shadow}
use denote.Text.{Utf8}
use Rattle.feel_text.specs.Token.{Token, views}
use Rattle.feel_text.specs.Lexical.{IsCut}
use Rattle.feel_text.proofs.scanner.tokens.Given as goal

-- the tokens so far before those of the rest are those of the text
abbrev pub invariant-loop-first : goal.invariant-loop-first
invariant-loop-first l = record {
  utf8 : shadow (Utf8 l.rest);
  found : (ts : List Token) → IsCut l.rest ts → IsCut l.fn.text (views l.tokens.items ++ ts);
  only : (us : List Token) → IsCut l.fn.text us → (ts : List Token) × (us ≡ views l.tokens.items ++ ts) × IsCut l.rest ts;
}

abbrev pub decreases-loop-first : goal.decreases-loop-first
decreases-loop-first l = length l.rest
