use Rattle.std.proofs.Common.{◌≡◌, drop, map}
use Rattle.dmn_form.specs.Model.{members_of, entries_of}
use Rattle.dmn_form.specs.LogicView.{logic_view as written_view, entry_view as written_entry}
use Rattle.dmn_logic.specs.LogicView.{logic_view, entry_view}
use Rattle.dmn_logic.specs.Reading.{members_reading, entries_reading}
use Rattle.dmn_logic.proofs.Readings.{read_after}
use Rattle.dmn_logic.proofs.reading.+reading.Given as goal

abbrev pub invariant-members_of-loop-member : goal.invariant-members_of-loop-member
invariant-members_of-loop-member l =
    members_reading (members_of (map written_view l.written)) ≡ read_after l.is_refused (map logic_view l.members.items) (members_reading (members_of (map written_view (drop l.member-index l.written))))

abbrev pub invariant-entries_of-loop-name : goal.invariant-entries_of-loop-name
invariant-entries_of-loop-name l =
    entries_reading (entries_of (map written_entry l.written)) ≡ read_after l.is_refused (map entry_view l.entries.items) (entries_reading (entries_of (map written_entry (drop l.name-index l.written))))
