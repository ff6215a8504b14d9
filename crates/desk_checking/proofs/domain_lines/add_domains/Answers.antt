use Rattle.desk_checking.proofs.DomainLines.{told_pieces}
use Rattle.desk_checking.proofs.domain_lines.add_domains.Goals as goal

pub returns : goal.returns
returns c =
    told_pieces c.args.text.now.items c.add_lines.new.text.items c.add_more.new.text.items c.told_among.result.now c.args.refused.now c.saturating_sub-more.result c.told_among.ensures
    c.saturating_sub-more.ensures c.in_ok-add_lines.ensures c.in_ok-add_more.ensures
