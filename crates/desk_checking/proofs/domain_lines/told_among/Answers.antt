use Rattle.std.proofs.Common.{sym}
use Rattle.std.proofs.lemmas.List.{take_all}
use Rattle.dmn_check.specs.Notes.{most_findings}
use Rattle.desk_checking.proofs.domain_lines.told_among.Goals as goal

pub returns-then-refused-le-MOST_PLACES : goal.returns-then-refused-le-MOST_PLACES
returns-then-refused-le-MOST_PLACES c = sym (take_all most_findings c.args.refused.now c.if-refused-le-MOST_PLACES.true)
