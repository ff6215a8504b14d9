use Rattle.std.proofs.Common.{◌∙◌, sym}
use Rattle.std.proofs.lemmas.Option.{same_Some, slice_get-get_or}
use Rattle.desk_checking.proofs.groups.fits_one.Goals as goal

pub returns-then-group-number : goal.returns-then-group-number
returns-then-group-number c = λ yes r s at there here.
    absurd (c.if-group-number.true (same_Some _ _ (sym (slice_get-get_or c.args.groups.now c.args.place 0 c.requires) ∙ at)))

pub returns : goal.returns
returns c = λ yes r s at there here. c.give_same.ensures yes r s there here
