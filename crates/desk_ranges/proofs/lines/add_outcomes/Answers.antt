use Rattle.std.proofs.Common.{◌∙◌}
use Rattle.desk_ranges.proofs.Pieces.{onto, outcomes_pieces}
use Rattle.desk_ranges.proofs.lines.add_outcomes.Goals as goal

pub returns : goal.returns
returns c =
    let parts = onto _ c.in_ok-add_parts.ensures c.in_ok-add_kinds.ensures in
    onto _ c.in_ok-push.ensures.items (onto _ c.in_ok-add_bool.ensures (onto _ c.in_ok-extend_from_slice.ensures.items parts)) ∙ outcomes_pieces c.args.text.now.items c.args.outcomes
