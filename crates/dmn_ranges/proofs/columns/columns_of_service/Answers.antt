use Rattle.std.proofs.Common.{◌∙◌, sym, subst, List, Option}
use denote.Ref.{Bor}
use Rattle.dmn_ranges.specs.Columns.{StandAt, TellsEachPlace}
use Rattle.dmn_ranges.specs.Services.{Told, views}
use Rattle.dmn_ranges.specs.declared.range.ParameterRange.{ParameterRange}
use Rattle.dmn_ranges.proofs.SoundColumns.{columns_told}
use Rattle.dmn_ranges.proofs.SoundServices.{within_length}
use Rattle.dmn_ranges.proofs.columns.columns_of_service.Goals as goal

pub returns-clause-columns : goal.returns-clause-columns
returns-clause-columns c =
    let items = c.args.items.now in
    let service = c.args.service.now in
    let columns = c.in_ok-columns.columns.items in
    let old = c.in_ok-along.along.told.items in
    let known = c.in_ok-along.along.known.items in
    let t : Told = (old, views known) in
    λ m s values plan within. columns_told t columns m s items service values plan c.requires.places (sym (within_length c.args.domains.now values within) ∙ c.requires.domains)
    (c.in_ok-along.ensures.told values within)
    (subst (λ (ks : List (Option (Bor ParameterRange))). TellsEachPlace items (old, views ks) columns) c.deref-3.ensures.value (subst (λ ts. TellsEachPlace items (ts, views c.deref-3.result.now) columns) c.deref-2.ensures.value c.in_ok-columns.ensures.told))
    (subst (λ qs. StandAt qs columns) c.deref.ensures.value c.in_ok-columns.ensures.places)

pub returns-clause-places : goal.returns-clause-places
returns-clause-places c = subst (λ qs. StandAt qs c.in_ok-columns.columns.items) c.deref.ensures.value c.in_ok-columns.ensures.places
