use Rattle.std.proofs.Common.{string_bytes, sym}
use Rattle.dmn_names.specs.PlacedModel.{placed_model}
use Rattle.dmn_check.specs.Unknown.{unknown_name}
use Rattle.dmn_check.specs.NotesView.{notes_view}
use Rattle.dmn_check.proofs.Walking.{turn_through, alike}
use Rattle.dmn_check.proofs.unknown.note_names.Goals as goal

pub loop-index-preserved : goal.loop-index-preserved
loop-index-preserved c =
    let f = unknown_name (placed_model c.args.places.now) in
    let name = c.index-names-index.result in
    turn_through string_bytes f c.args.names.now c.loop-index.index name
    (notes_view c.loop-index.notes) (notes_view c.enter.new.self) (notes_view c.note_name.new.notes) (notes_view c.leave.new.self) _
    c.loop-index.invariant c.index-names-index.is c.loop-index-test.true c.in_ok-enter.ensures
    (alike f (string_bytes name) c.as_str.result.now (notes_view c.enter.new.self) (notes_view c.note_name.new.notes) (sym c.as_str.ensures.value) c.in_ok-note_name.ensures)
    c.leave.ensures
