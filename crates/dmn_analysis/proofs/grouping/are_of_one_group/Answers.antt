use Rattle.std.proofs.Common.{◌≡◌, ◌∙◌, ◌<◌, sym, ap, ℕ, length, get_or, Some}
use Rattle.std.specs.List.{slice_get}
use Rattle.std.proofs.lemmas.List.Elements.{All-get_or, All-more}
use Rattle.std.proofs.lemmas.Option.{slice_get-get_or}
use Rattle.dmn_analysis.proofs.Places.{All-at}
use Rattle.dmn_analysis.proofs.Turning.{all_of}
use Rattle.dmn_analysis.proofs.grouping.are_of_one_group.Goals as goal

pub loop-number-preserved : goal.loop-number-preserved
loop-number-preserved c =
    let left = c.args.left.now in
    let groups = c.args.groups.now in
    let k = c.loop-number.number-index in
    let P : ℕ → Type 0 = λ r. slice_get groups r ≡ Some (get_or groups (get_or left 0 0) 0) in
    let within : get_or left k 0 < length groups = All-get_or (λ r. r < length groups) left k 0 c.loop-number-test.true c.requires in
    All-more P left k 0 c.loop-number-test.true c.loop-number.invariant (slice_get-get_or groups (get_or left k 0) 0 within ∙ ap Some c.if-group-first.false)

pub returns : goal.returns
returns c = λ yes i j a b.
    let left = c.args.left.now in
    let groups = c.args.groups.now in
    let P : ℕ → Type 0 = λ r. slice_get groups r ≡ Some (get_or groups (get_or left 0 0) 0) in
    let all = all_of P left c.loop-number.number-index c.loop-number-test.false c.loop-number.invariant in
    All-at P left a.place i all a.there ∙ sym (All-at P left b.place j all b.there)
