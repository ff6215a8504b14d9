use Rattle.std.proofs.Common.{◌≡◌, ◌∙◌, ◌≤◌, sym, ap, refl, ◌%◌, ◌/◌, Some, arith, length, nat_eq}
use Rattle.std.specs.List.{slice_get}
use Rattle.std.proofs.lemmas.Bool.Decides.{nat_tests}
use Rattle.std.proofs.lemmas.Nat.Bits.{shr_and_one}
use Rattle.std.proofs.lemmas.Option.{slice_get_past, slice_get_read}
use Rattle.dmn_table.specs.MayHit.{is_unset_in}
use Rattle.dmn_table.proofs.may_hit.MayHit.leaves_out.Goals as goal

pub returns : goal.returns
returns c =
    let words = c.deref.result.now in
    let w = c.args.place / 64 in
    let i = c.args.place % 64 in
    let word = c.in-Some.word.now in
    let found = c.in-Some.ensures.lookup in
    let there : slice_get words w ≡ Some word = slice_get_read words (length words) w word refl found.3.0 found.1 in
    ap (λ n. nat_eq n 0) (shr_and_one word i) ∙ ap (λ o. is_unset_in o i) (sym there ∙ ap (λ ws. slice_get ws w) c.deref.ensures.value)

pub returns-in_default : goal.returns-in_default
returns-in_default c =
    let words = c.deref.result.now in
    let w = c.args.place / 64 in
    let past : length words ≤ w = grind (arith, nat_tests, c.in_default.ensures.lookup) in
    sym (ap (λ ws. is_unset_in (slice_get ws w) (c.args.place % 64)) (sym c.deref.ensures.value) ∙ ap (λ o. is_unset_in o (c.args.place % 64)) (slice_get_past words w past))
