use Rattle.std.proofs.Common.{◌++◌, ◌∙◌, ap, arith, length, refl, sym}
use Rattle.std.specs.List.{flat_map}
use Rattle.std.proofs.lemmas.Option.{slice_get_read}
use Rattle.desk_lines.specs.Lines.{ended}
use Rattle.desk_checking.specs.TableTold.{line_if, overlap_line}
use Rattle.desk_checking.proofs.Lines.{one_line}
use Rattle.desk_checking.proofs.table_lines.add_overlap_at.Goals as goal

pub returns : goal.returns
returns c =
    let t = c.args.text.now.items in
    let words = c.args.words.now in
    let found = c.args.found.now in
    let o = c.index-found-place.result in
    c.in_ok-add_overlap.ensures ∙ one_line t (overlap_line words o)
    ∙ ap (λ x. t ++ flat_map ended (line_if words x)) (sym (slice_get_read found (length found) c.args.place o refl (omega (arith, c.if-place-found.false)) c.index-found-place.is))
