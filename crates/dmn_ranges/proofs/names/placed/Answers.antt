use Rattle.std.proofs.Common.{◌≡◌, ◌∙◌, ap, length, vec_len, arith}
use Rattle.std.specs.Cow.{cow_str_bytes}
use Rattle.feel_eval.specs.Index.{place_in}
use Rattle.feel_eval.proofs.Index.{takes_place}
use Rattle.dmn_ranges.proofs.names.placed.Goals as goal

pub returns-clause-hidden : goal.returns-clause-hidden
returns-clause-hidden c = c.in_ok-hidden.ensures.old ∙ ap (place_in c.args.places.now) c.in_ok-key.ensures.cases

pub returns-clause-place : goal.returns-clause-place
returns-clause-place c =
    let at_end : vec_len c.reserve.new.self ≡ length c.args.items.now.items = omega (arith, ap length c.in_ok-reserve.ensures.items) in
    takes_place c.args.places.now c.insert.new.self c.in_ok-key.key (cow_str_bytes c.args.name.now) c.len.result (length c.args.items.now.items) c.in_ok-hidden.ensures.updates c.in_ok-key.ensures.cases (c.len.ensures ∙ at_end)
