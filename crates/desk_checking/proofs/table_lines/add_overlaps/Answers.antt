use Rattle.std.proofs.Common.{◌++◌, ◌-◌, ◌∙◌, ℕ, List, ap, codes, length, sym, take}
use Rattle.std.specs.List.{flat_map, slice_get}
use Rattle.desk_lines.specs.Lines.{ended}
use Rattle.dmn_analysis.specs.declared.cell.Words.{Words}
use Rattle.dmn_analysis.specs.declared.found.Overlap.{Overlap}
use Rattle.desk_checking.specs.TableTold.{line_if, more_findings, most_findings, overlap_lines, sum_of}
use Rattle.desk_checking.proofs.Lines.{first, then}
use Rattle.desk_checking.proofs.table_lines.add_overlaps.Goals as goal

-- the lines of the overlaps at these places
abbrev lines_at : List Words → List Overlap → List ℕ → List (List ℕ)
lines_at words found places = flat_map (λ place. line_if words (slice_get found place)) places

pub returns : goal.returns
returns c =
    let t = c.args.text.now.items in
    let o = c.in-Some.overlaps in
    let words = c.deref.result.now in
    let found = c.deref-2.result.now in
    let places = c.args.places.now in
    let some = c.first_of-first.result.now in
    let all = lines_at o.words.items o.found.items (take most_findings places) in
    then t _ _ all (more_findings (codes "overlap") c.saturating_add-all.result) (more_findings (codes "overlap") (sum_of (length places - most_findings) o.more))
    (first t _ (lines_at words found some) all c.in_ok-add_each_overlap.ensures
    (ap (λ ws. lines_at ws found some) c.deref.ensures.value ∙ ap (λ os. lines_at o.words.items os some) c.deref-2.ensures.value ∙ ap (λ ps. lines_at o.words.items o.found.items ps) c.first_of-first.ensures))
    c.in_ok-add_more.ensures (ap (more_findings (codes "overlap")) (c.saturating_add-all.ensures ∙ ap (λ n. sum_of n o.more) c.saturating_sub-more.ensures))
    ∙ ap (λ x. t ++ flat_map ended (overlap_lines x places)) (sym c.in-Some.is)
