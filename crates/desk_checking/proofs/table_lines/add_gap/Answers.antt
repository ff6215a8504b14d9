use Rattle.std.proofs.Common.{◌++◌, [], ap₂, codes, refl}
use Rattle.serde_json.specs.Data.{boolean}
use Rattle.serde_json.specs.Written.{compact_text}
use Rattle.desk_lines.specs.Lines.{ended}
use Rattle.desk_checking.specs.TablePieces.{begin_text, witness_text}
use Rattle.desk_checking.specs.TableTold.{gap_line}
use Rattle.desk_checking.proofs.Lines.{five}
use Rattle.desk_checking.proofs.TableLines.{gap_pieces}
use Rattle.desk_checking.proofs.table_lines.add_gap.Goals as goal

pub returns : goal.returns
returns c =
    let t = c.args.text.now.items in
    let words = c.args.words.now in
    let gap = c.args.gap.now in
    let is = compact_text (boolean c.args.is_asked) in
    five t _ _ _ _ _ (begin_text (codes "gap") []) (witness_text words c.deref.result.now c.deref-2.result.now) (codes ",\"asked\":") is (codes "}\n")
    (witness_text words gap.values.items gap.cells.items) is (t ++ ended (gap_line words c.args.is_asked gap)) c.in_ok-begin.ensures c.in_ok-add_witness.ensures
    c.in_ok-extend_from_slice.ensures.items c.in_ok-add_bool.ensures c.in_ok-extend_from_slice-2.ensures.items
    (ap₂ (λ vs cs. witness_text words vs cs) c.deref.ensures.value c.deref-2.ensures.value) refl (gap_pieces t words c.args.is_asked gap)
