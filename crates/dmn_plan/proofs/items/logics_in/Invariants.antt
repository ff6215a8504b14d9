use Rattle.std.proofs.Common.{◌≡◌, ◌++◌, map, option_map, drop}
use Rattle.std.specs.List.{filter_map}
use Rattle.dmn_logic.specs.LogicView.{logic_view}
use Rattle.dmn_service.specs.declared.plan.Item.{Item}
use Rattle.dmn_plan.proofs.items.logics_in.Given as goal

-- with the logic of the items that are left it is that of all
abbrev pub invariant-loop-item : goal.invariant-loop-item
invariant-loop-item l =
    map (λ x. logic_view x.now) l.found.items ++ filter_map (λ (x : Item). option_map logic_view x.logic) (drop l.item-index l.items)
    ≡ filter_map (λ (x : Item). option_map logic_view x.logic) l.items
