use Rattle.std.proofs.Common.{◌∙◌}
use Rattle.desk_ranges.proofs.Pieces.{onto, service_pieces}
use Rattle.desk_ranges.proofs.lines.add_result.Goals as goal

pub returns : goal.returns
returns c =
    let gives = onto _ c.in_ok-extend_from_slice-2.ensures.items (onto _ c.in_ok-add_quoted.ensures c.in_ok-extend_from_slice.ensures.items) in
    onto _ c.in_ok-extend_from_slice-3.ensures.items (onto _ c.in_ok-add_outcomes.ensures gives) ∙ service_pieces c.args.text.now.items c.args.service.now c.args.outcomes
