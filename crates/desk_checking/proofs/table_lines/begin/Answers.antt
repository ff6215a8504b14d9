use Rattle.std.proofs.Common.{◌++◌, codes, refl}
use Rattle.json.specs.Print.{quoted}
use Rattle.serde_json.specs.Data.{array}
use Rattle.serde_json.specs.Written.{compact_text}
use Rattle.desk_checking.specs.TablePieces.{begin_text}
use Rattle.desk_checking.specs.Told.{numbers_told}
use Rattle.desk_checking.proofs.Lines.{four}
use Rattle.desk_checking.proofs.TableLines.{four_pieces}
use Rattle.desk_checking.proofs.table_lines.begin.Goals as goal

pub returns : goal.returns
returns c =
    let kind = quoted c.args.kind.now in
    let rules = compact_text (array (numbers_told c.args.rules.now)) in
    four c.args.text.now.items _ _ _ _ (codes "{\"finding\":") kind (codes ",\"rules\":") rules kind rules (c.args.text.now.items ++ begin_text c.args.kind.now c.args.rules.now)
    c.in_ok-extend_from_slice.ensures.items c.in_ok-add_quoted.ensures c.in_ok-extend_from_slice-2.ensures.items c.in_ok-add_rules.ensures refl refl
    (four_pieces c.args.text.now.items (codes "{\"finding\":") kind (codes ",\"rules\":") rules)
