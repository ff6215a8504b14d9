use Rattle.std.proofs.Common.{◌∙◌, ap, codes}
use Rattle.json.specs.Print.{quoted}
use Rattle.desk_wire.specs.Words.{word_text}
use Rattle.dmn_check.specs.NotesView.{finding_view}
use Rattle.desk_checking.proofs.Lines.{five, place_pieces}
use Rattle.desk_checking.proofs.fault_lines.add_place.Goals as goal

pub returns : goal.returns
returns c =
    five c.args.text.now.items _ _ _ _ _ (codes "{\"fault\":") _ (codes ",\"pointer\":") _ (codes "}\n") _ _ _ c.in_ok-extend_from_slice.ensures.items c.in_ok-add_quoted.ensures
    c.in_ok-extend_from_slice-2.ensures.items c.in_ok-add_quoted-2.ensures c.in_ok-extend_from_slice-3.ensures.items (ap quoted (c.text.ensures ∙ ap word_text c.of_fault.ensures))
    (ap quoted (c.as_str.ensures.value ∙ c.in_ok-pointer.ensures)) (place_pieces c.args.text.now.items c.args.fault (finding_view c.args.finding.now))
