use Rattle.std.proofs.Common.{◌∙◌, sym, ap, subst, option_map}
use Rattle.dmn_logic.specs.LogicView.{logic_view}
use Rattle.dmn_service.specs.Places.{name_at}
use Rattle.dmn_ranges.specs.Services.{TellsItem, Told, needs_scope, needs_limit, views}
use Rattle.dmn_ranges.specs.Steps.{given}
use Rattle.dmn_ranges.proofs.SoundServices.{input_told, logic_told}
use Rattle.dmn_ranges.proofs.service.item_outcomes.Goals as goal

pub returns-in_default : goal.returns-in_default
returns-in_default c =
    let items = c.args.items.now in
    let item = c.args.item.now in
    let t : Told = (c.args.told.now, views c.args.known.now) in
    subst (TellsItem items t item) (sym (c.given.ensures ∙ ap given c.null.ensures)) (input_told items t item (ap (option_map logic_view) c.in_default.is))

pub returns : goal.returns
returns c =
    let items = c.args.items.now in
    let told = c.args.told.now in
    let item = c.args.item.now in
    let t : Told = (told, views c.args.known.now) in
    let names = c.in_ok-names.ensures ∙ ap (needs_scope (name_at items) t) c.deref.ensures.value in
    let limit = c.can_break.ensures ∙ ap (needs_limit told) c.deref-2.ensures.value in
    subst (TellsItem items t item) (sym c.limited.ensures)
    (logic_told items t item (logic_view c.in-Some.logic) c.in_ok-names.names c.can_break.result c.in_ok-outcomes.outcomes names limit c.in_ok-outcomes.ensures.told (ap (option_map logic_view) c.in-Some.is))
