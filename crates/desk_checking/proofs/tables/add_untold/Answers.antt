use Rattle.std.proofs.Common.{◌++◌, ◌∙◌, ap, codes, decimal}
use Rattle.desk_checking.proofs.Lookings.{untold_pieces}
use Rattle.desk_checking.proofs.tables.add_untold.Goals as goal

pub returns : goal.returns
returns c =
    c.in_ok-extend_from_slice-2.ensures.items
    ∙ ap (λ s. s ++ codes "}\n") (c.in_ok-add_number.ensures ∙ ap (λ s. s ++ decimal c.args.untold) c.in_ok-extend_from_slice.ensures.items)
    ∙ untold_pieces c.args.text.now.items c.args.untold c.requires
