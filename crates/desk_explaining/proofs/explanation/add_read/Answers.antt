use Rattle.std.proofs.Common.{◌++◌, codes, decimal, ap, ◌∙◌}
use Rattle.desk_explaining.proofs.Telling.{pieces_4}
use Rattle.desk_explaining.proofs.explanation.add_read.Goals as goal

pub returns : goal.returns
returns c =
    let number = decimal c.args.number in
    let head = codes "{\"line\":" in
    let key = codes ",\"model\":true,\"read\":" in
    c.in_ok-extend_from_slice-3.ensures.items
    ∙ ap (λ t. t ++ c.args.model.now)
    (c.in_ok-extend_from_slice-2.ensures.items ∙ ap (λ t. t ++ key) (c.in_ok-add_number.ensures ∙ ap (λ t. t ++ number) c.in_ok-extend_from_slice.ensures.items))
    ∙ pieces_4 c.args.line.now.items head number key c.args.model.now
