use Rattle.std.proofs.Common.{◌++◌, codes, refl}
use Rattle.serde_json.specs.Data.{array}
use Rattle.serde_json.specs.Written.{compact_text}
use Rattle.desk_checking.specs.TablePieces.{witness_text}
use Rattle.desk_checking.specs.TableTold.{cells_told, values_told}
use Rattle.desk_checking.proofs.Lines.{four}
use Rattle.desk_checking.proofs.TableLines.{four_pieces}
use Rattle.desk_checking.proofs.table_lines.add_witness.Goals as goal

pub returns : goal.returns
returns c =
    let values = compact_text (array (values_told c.args.values.now)) in
    let cells = compact_text (array (cells_told c.args.words.now 0 c.args.cells.now)) in
    four c.args.text.now.items _ _ _ _ (codes ",\"witness\":") values (codes ",\"cells\":") cells values cells
    (c.args.text.now.items ++ witness_text c.args.words.now c.args.values.now c.args.cells.now) c.in_ok-extend_from_slice.ensures.items c.in_ok-add_values.ensures
    c.in_ok-extend_from_slice-2.ensures.items c.in_ok-add_cells.ensures refl refl (four_pieces c.args.text.now.items (codes ",\"witness\":") values (codes ",\"cells\":") cells)
