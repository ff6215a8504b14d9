use Rattle.std.proofs.Common.{arith}
use Rattle.desk_ranges.proofs.Pieces.{more_told}
use Rattle.desk_ranges.proofs.lines.add_more.Goals as goal

pub returns : goal.returns
returns c =
    more_told c.args.text.now.items c.extend_from_slice.new.self.items c.add_number.new.text.items c.extend_from_slice-2.new.self.items c.args.more (omega (arith, c.if-more-eq0.false))
    c.in_ok-extend_from_slice.ensures.items c.in_ok-add_number.ensures c.in_ok-extend_from_slice-2.ensures.items
