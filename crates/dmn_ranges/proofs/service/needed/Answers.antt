use Rattle.std.proofs.Common.{◌∙◌, sym, ap, [], ◌∷◌, ◌++◌, get_or, Option}
use Rattle.std.proofs.lemmas.List.{append-nil, drop_all}
use denote.Ref.{Bor}
use Rattle.dmn_service.proofs.Kept.{name_here}
use Rattle.dmn_service.specs.Places.{name_at}
use Rattle.dmn_ranges.specs.Names.{members_if}
use Rattle.dmn_ranges.specs.Ranges.{Members}
use Rattle.dmn_ranges.specs.Services.{Told, needs_scope, told_at, views}
use Rattle.dmn_ranges.specs.declared.outcomes.Outcomes.{Outcomes}
use Rattle.dmn_ranges.specs.declared.range.ParameterRange.{ParameterRange}
use Rattle.dmn_ranges.proofs.SoundServices.{need_turn, views_at}
use Rattle.dmn_ranges.proofs.service.needed.Goals as goal

pub loop-place-preserved : goal.loop-place-preserved
loop-place-preserved c =
    let items = c.args.items.now in
    let needs = c.args.needs.now in
    let told = c.args.told.now in
    let known = c.args.known.now in
    let t : Told = (told, views known) in
    let i = c.loop-place.place-index in
    let place = get_or needs i 0 in
    let x = c.index-items-place.result in
    let old = c.loop-place.names in
    let ms : Members = members_if c.parameter_at-parameter.result in
    let named = c.as_str.ensures.value ∙ sym (name_here items place x (c.requires i 0 c.loop-place-test.true)) in
    let members = ap (λ (p : Option (Bor ParameterRange)). members_if p) c.parameter_at-parameter.ensures ∙ views_at known place in
    let bound = c.in_ok-bind.ensures ∙ ap (λ n. old ++ (n, (c.told_at-outcomes.result.range, ms)) ∷ []) named
    ∙ ap (λ (o : Outcomes). old ++ (name_at items place, (o.range, ms)) ∷ []) c.told_at-outcomes.ensures
    ∙ ap (λ (ks : Members). old ++ (name_at items place, ((told_at told place).range, ks)) ∷ []) members in
    need_turn (name_at items) t (needs_scope (name_at items) t needs) old c.bind.new.self needs i c.loop-place.invariant c.loop-place-test.true bound

pub returns : goal.returns
returns c =
    let items = c.args.items.now in
    let t : Told = (c.args.told.now, views c.args.known.now) in
    let done = drop_all c.loop-place.place-index c.args.needs.now c.loop-place-test.false in
    sym (c.loop-place.invariant ∙ ap (λ qs. c.loop-place.names ++ needs_scope (name_at items) t qs) done ∙ append-nil c.loop-place.names)
