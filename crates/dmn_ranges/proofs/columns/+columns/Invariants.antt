use Rattle.std.proofs.Common.{◌≡◌, take, length}
use Rattle.dmn_ranges.proofs.SoundColumns.{EntriesFrom, MembersFrom}
use Rattle.dmn_ranges.proofs.columns.+columns.Given as goal

abbrev pub invariant-add_members-loop-logic : goal.invariant-add_members-loop-logic
invariant-add_members-loop-logic l = record {
  tables : MembersFrom l.initial.names l.logics l.logic-index l.initial.columns.items l.columns.items;
  names : l.names ≡ l.initial.names;
}

abbrev pub invariant-add_entries-loop-name : goal.invariant-add_entries-loop-name
invariant-add_entries-loop-name l = record {
  tables : EntriesFrom l.initial.names l.entries l.name-index l.initial.columns.items l.columns.items l.names;
  names : take (length l.initial.names) l.names ≡ l.initial.names;
}
