use Rattle.std.proofs.Common.{◌++◌, ◌∙◌, [], ◌∷◌, ap, ap₂, codes}
use Rattle.desk_checking.specs.TablePieces.{begin_text, witness_text}
use Rattle.desk_checking.proofs.TableLines.{overlap_pieces}
use Rattle.desk_checking.proofs.table_lines.add_overlap.Goals as goal

pub returns : goal.returns
returns c =
    let t = c.args.text.now.items in
    let words = c.args.words.now in
    let overlap = c.args.overlap.now in
    let start = begin_text (codes "overlap") (overlap.first ∷ overlap.second ∷ []) in
    c.in_ok-extend_from_slice.ensures.items
    ∙ ap (λ s. s ++ codes "}\n")
    (c.in_ok-add_witness.ensures ∙ ap (λ s. s ++ witness_text words c.deref.result.now c.deref-2.result.now) c.in_ok-begin.ensures
    ∙ ap₂ (λ vs cs. (t ++ start) ++ witness_text words vs cs) c.deref.ensures.value c.deref-2.ensures.value)
    ∙ overlap_pieces t words overlap
