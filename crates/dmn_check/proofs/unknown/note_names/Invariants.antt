use Rattle.std.proofs.Common.{◌≡◌, map, drop, string_bytes}
use Rattle.dmn_names.specs.PlacedModel.{placed_model}
use Rattle.dmn_check.specs.Unknown.{unknown_name}
use Rattle.dmn_check.specs.Findings.{each_from}
use Rattle.dmn_check.specs.Notes.{with_all}
use Rattle.dmn_check.specs.NotesView.{notes_view}
use Rattle.dmn_check.proofs.unknown.note_names.Given as goal

abbrev pub invariant-loop-index : goal.invariant-loop-index
invariant-loop-index l =
    with_all (notes_view l.initial.notes) (each_from (unknown_name (placed_model l.places)) 0 (map string_bytes l.names))
    ≡ with_all (notes_view l.notes) (each_from (unknown_name (placed_model l.places)) l.index (map string_bytes (drop l.index l.names)))
