use Rattle.std.proofs.Common.{◌≡◌, length}
use Rattle.dmn_table.proofs.WordHits.{TellsFirst}
use Rattle.dmn_table.proofs.may_hit.words_of.Given as goal

abbrev pub invariant-loop-place : goal.invariant-loop-place
invariant-loop-place l = record {
  long : length l.words.items ≡ l.place;
  told : TellsFirst l.rows l.words.items;
}
