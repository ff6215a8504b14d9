use Rattle.std.proofs.Common.{◌++◌, ◌∙◌, [], ◌∷◌, ap, codes}
use Rattle.serde_json.specs.Data.{array}
use Rattle.serde_json.specs.Written.{compact_text}
use Rattle.desk_checking.specs.TablePieces.{begin_text}
use Rattle.desk_checking.specs.Told.{numbers_told}
use Rattle.desk_checking.proofs.TableLines.{mask_pieces}
use Rattle.desk_checking.proofs.table_lines.add_mask.Goals as goal

pub returns : goal.returns
returns c =
    let t = c.args.text.now.items in
    let mask = c.args.mask.now in
    let start = begin_text (codes "masked") (mask.rule ∷ []) in
    c.in_ok-extend_from_slice-2.ensures.items
    ∙ ap (λ s. s ++ codes "}\n")
    (c.in_ok-add_rules.ensures
    ∙ ap (λ s. s ++ compact_text (array (numbers_told c.deref.result.now))) (c.in_ok-extend_from_slice.ensures.items ∙ ap (λ s. s ++ codes ",\"before\":") c.in_ok-begin.ensures)
    ∙ ap (λ rules. ((t ++ start) ++ codes ",\"before\":") ++ compact_text (array (numbers_told rules))) c.deref.ensures.value)
    ∙ mask_pieces t mask
