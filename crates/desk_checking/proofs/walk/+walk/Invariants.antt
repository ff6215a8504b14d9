use Rattle.std.proofs.Common.{◌≡◌, ◌++◌, drop}
use Rattle.dmn_logic.specs.LogicView.{entries_view, members_view}
use Rattle.desk_checking.specs.Tables.{entry_tables, member_tables}
use Rattle.desk_checking.specs.TablesView.{placed_views}
use Rattle.desk_checking.proofs.walk.+walk.Given as goal

-- with the tables of the members that are left they are those of all
abbrev pub invariant-add_members-loop-index : goal.invariant-add_members-loop-index
invariant-add_members-loop-index l =
    placed_views l.tables.items ++ member_tables l.place l.index (members_view (drop l.index l.members))
    ≡ placed_views l.initial.tables.items ++ member_tables l.place 0 (members_view l.members)

abbrev pub invariant-add_entries-loop-index : goal.invariant-add_entries-loop-index
invariant-add_entries-loop-index l =
    placed_views l.tables.items ++ entry_tables l.place l.index (entries_view (drop l.index l.entries))
    ≡ placed_views l.initial.tables.items ++ entry_tables l.place 0 (entries_view l.entries)
