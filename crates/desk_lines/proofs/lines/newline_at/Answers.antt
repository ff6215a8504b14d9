use Rattle.desk_lines.specs.Lines.{newline}
use Rattle.desk_lines.proofs.Searching.{first_place}
use Rattle.desk_lines.proofs.lines.newline_at.Goals as goal

pub returns : goal.returns
returns c = first_place newline c.args.bytes.now c.memchr.result c.memchr.ensures
