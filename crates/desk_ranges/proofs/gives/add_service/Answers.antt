use Rattle.std.proofs.Common.{◌∙◌, ◌++◌, ◌<◌, ℕ, List, length, sym, ap, subst}
use Rattle.std.specs.List.{All, flat_map}
use Rattle.desk_lines.specs.Lines.{ended}
use Rattle.desk_ranges.specs.Lines.{decision_lines}
use Rattle.desk_ranges.proofs.Looking.{service_turn}
use Rattle.desk_ranges.proofs.gives.add_service.Goals as goal

pub add_decisions-requires : goal.add_decisions-requires
add_decisions-requires c = subst (λ (qs : List ℕ). All (λ q. q < length c.args.told.now.items.now) qs) (sym c.deref.ensures.value) c.requires

pub returns : goal.returns
returns c =
    let t = c.args.told.now in
    let service = c.args.service.now in
    let first = c.add_result.new.text.items in
    service_turn service t c.args.text.now.items first c.add_decisions.new.text.items c.in_ok-add_result.ensures
    (c.in_ok-add_decisions.ensures ∙ ap (λ (qs : List ℕ). first ++ flat_map ended (decision_lines service t qs)) c.deref.ensures.value)
