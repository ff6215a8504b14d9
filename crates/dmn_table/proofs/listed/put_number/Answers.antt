use Rattle.std.proofs.Common.{◌≡◌, Some, is_some, of_z, to_z, w64, sym, ap, ◌∙◌, subst}
use Rattle.std.specs.Ordering.{int_cmp}
use Rattle.std.specs.BTreeMap.{get, Updates}
use Rattle.std.proofs.Math.Facts.{to_z-of_z}
use Rattle.dmn_table.proofs.Listing.{number_kept, number_put}
use Rattle.dmn_table.proofs.listed.put_number.Goals as goal

pub returns-in_ok-insert : goal.returns-in_ok-insert
returns-in_ok-insert c =
    let same : to_z w64 (of_z w64 c.args.number) ≡ c.args.number = to_z-of_z c.ranges.number in
    number_put c.args.numbers.now c.insert.new.self c.args.number c.args.place
    (subst (λ z. Updates int_cmp c.args.numbers.now c.insert.new.self z (Some c.args.place)) same c.in_ok-insert.ensures.updates)
    (ap (λ z. is_some (get int_cmp c.args.numbers.now z)) (sym same) ∙ sym c.contains_key.ensures ∙ c.if-not-contains_key.true)

pub returns-else-not-contains_key : goal.returns-else-not-contains_key
returns-else-not-contains_key c =
    let same : to_z w64 (of_z w64 c.args.number) ≡ c.args.number = to_z-of_z c.ranges.number in
    number_kept c.args.numbers.now c.args.number c.args.place (ap (λ z. is_some (get int_cmp c.args.numbers.now z)) (sym same) ∙ sym c.contains_key.ensures ∙ c.if-not-contains_key.false)
