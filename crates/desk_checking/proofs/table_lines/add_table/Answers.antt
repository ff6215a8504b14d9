use Rattle.std.proofs.Common.{◌++◌, ◌∙◌, [], ◌∷◌, ap, refl}
use Rattle.desk_checking.specs.Answering.{gaps_of_kinds}
use Rattle.desk_checking.specs.TableTold.{gap_lines, mask_lines, never_lines, other_lines, overlap_lines, table_line}
use Rattle.desk_checking.proofs.Lines.{one_line, then}
use Rattle.desk_checking.proofs.table_lines.add_table.Goals as goal

pub returns : goal.returns
returns c =
    let t = c.args.text.now.items in
    let a = c.args.answers.now in
    let line = table_line c.args.pointer.now a c.args.steps c.args.undecided.now in
    let overlaps = overlap_lines a.overlaps a.faults.places.items in
    let gaps = gap_lines (gaps_of_kinds a) in
    let others = other_lines a in
    let never = never_lines a.never.items in
    let masks = mask_lines a.masks in
    then t _ _ (((((line ∷ []) ++ overlaps) ++ gaps) ++ others) ++ never) masks masks
    (then t _ _ ((((line ∷ []) ++ overlaps) ++ gaps) ++ others) (never_lines c.deref-2.result.now) never
    (then t _ _ (((line ∷ []) ++ overlaps) ++ gaps) others others
    (then t _ _ ((line ∷ []) ++ overlaps) (gap_lines c.gaps_of_kinds.result.now) gaps
    (then t _ _ (line ∷ []) (overlap_lines a.overlaps c.deref.result.now) overlaps (c.in_ok-add_line.ensures ∙ one_line t line) c.in_ok-add_overlaps.ensures
    (ap (overlap_lines a.overlaps) c.deref.ensures.value))
    c.in_ok-add_gaps.ensures (ap gap_lines c.gaps_of_kinds.ensures))
    c.in_ok-add_others.ensures refl)
    c.in_ok-add_never.ensures (ap never_lines c.deref-2.ensures.value))
    c.in_ok-add_masks.ensures refl
