use Rattle.std.proofs.Common.{◌++◌, codes, decimal, refl}
use Rattle.std.specs.List.{flat_map}
use Rattle.json.specs.Print.{quoted}
use Rattle.desk_lines.specs.Lines.{ended}
use Rattle.desk_checking.specs.TableTold.{more_findings}
use Rattle.desk_checking.proofs.Lines.{five}
use Rattle.desk_checking.proofs.TableLines.{more_pieces}
use Rattle.desk_checking.proofs.table_lines.add_more_line.Goals as goal

pub returns : goal.returns
returns c =
    let kind = quoted c.args.kind.now in
    let more = decimal c.args.more in
    five c.args.text.now.items _ _ _ _ _ (codes "{\"finding\":") kind (codes ",\"more\":") more (codes "}\n") kind more
    (c.args.text.now.items ++ flat_map ended (more_findings c.args.kind.now c.args.more)) c.in_ok-extend_from_slice.ensures.items c.in_ok-add_quoted.ensures
    c.in_ok-extend_from_slice-2.ensures.items c.in_ok-add_number.ensures c.in_ok-extend_from_slice-3.ensures.items refl refl
    (more_pieces c.args.text.now.items c.args.kind.now c.args.more c.requires)
