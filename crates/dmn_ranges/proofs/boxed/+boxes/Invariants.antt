use Rattle.std.proofs.Common.{◌≡◌, take, length}
use Rattle.dmn_ranges.proofs.SoundBoxes.{MembersFrom, EntriesFrom}
use Rattle.dmn_ranges.proofs.boxed.+boxes.Given as goal

abbrev pub invariant-members-loop-logic : goal.invariant-members-loop-logic
invariant-members-loop-logic l = record {
  told : MembersFrom l.initial.names l.logics l.logic-index l.parts;
  names : l.names ≡ l.initial.names;
}

abbrev pub invariant-bind_entries-loop-name : goal.invariant-bind_entries-loop-name
invariant-bind_entries-loop-name l = record {
  told : EntriesFrom l.initial.names l.entries l.name-index l.limit l.names;
  names : take (length l.initial.names) l.names ≡ l.initial.names;
}
