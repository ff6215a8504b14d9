use Rattle.std.proofs.Common.{◌∙◌, ◌++◌, [], ◌∷◌, map, take, refl, rules, sym, ap, subst}
use Rattle.std.proofs.lemmas.List.{map_more, take_all}
use Rattle.dmn_form.specs.Model.{Name}
use Rattle.desk_ranges.specs.Gives.{IsMore, TellsEach, written_name}
use Rattle.desk_ranges.proofs.Looking.{none_told, one_more}
use Rattle.desk_ranges.proofs.gives.gives_of_each.Goals as goal

pub loop-place-init : goal.loop-place-init
loop-place-init c = none_told c.args.plan.now c.args.domains.now _ c.new.ensures.items refl

pub loop-place-preserved : goal.loop-place-preserved
loop-place-preserved c =
    let text = c.args.plan.now in
    let ds = c.args.domains.now in
    let services = c.args.services.now in
    let place = c.loop-place.place in
    let x = c.index-services-place.result in
    let so_far = map written_name (take place services) in
    let more = map_more written_name services place x c.loop-place-test.true ∙ ap (λ s. so_far ++ written_name s ∷ []) (sym c.index-services-place.is) in
    let looked = subst (λ (n : Name). IsMore text ds n c.loop-place.gives c.look_at.new.self) c.as_str.ensures.value c.in_ok-look_at.ensures in
    subst (λ ns. TellsEach text ds ns c.look_at.new.self) (sym more) (one_more text ds so_far (written_name x) c.loop-place.gives c.look_at.new.self c.loop-place.invariant looked)

pub returns : goal.returns
returns c =
    subst (λ ss. TellsEach c.args.plan.now c.args.domains.now (map written_name ss) c.loop-place.gives) (take_all c.loop-place.place c.args.services.now (search rules)) c.loop-place.invariant
