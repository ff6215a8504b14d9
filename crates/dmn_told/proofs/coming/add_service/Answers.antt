use Rattle.std.proofs.Common.{◌∙◌, ap, sym, subst, length, map, ◌<◌, List}
use Rattle.std.specs.List.{All}
use Rattle.dmn_ranges.specs.Columns.{AreColumnsOf}
use Rattle.dmn_ranges.specs.declared.range.ParameterRange.{ParameterRange}
use Rattle.dmn_told.proofs.Comings.{all_placed, of_service}
use Rattle.dmn_told.proofs.coming.add_service.Goals as goal

pub returns-clause-keeps : goal.returns-clause-keeps
returns-clause-keeps c = c.in_ok-add_each.ensures.keeps

pub returns-clause-count : goal.returns-clause-count
returns-clause-count c = c.in_ok-add_each.ensures.count

pub returns-clause-comes : goal.returns-clause-comes
returns-clause-comes c =
    let items = c.args.items.now in
    let plan = c.args.planned.now in
    let cs = c.in_ok-columns.columns.items in
    let columns = subst (λ (rs : List ParameterRange). AreColumnsOf items plan rs cs) c.deref.ensures.value c.in_ok-columns.ensures.columns in
    λ text n served named. of_service text n c.args.domains.now items plan (map (λ x. x.now) c.args.names.now) c.in_ok-ranges.ranges.items cs c.add_each.new.told.items served named c.in_ok-ranges.ensures.covered columns
    c.in_ok-columns.ensures.places c.in_ok-add_each.ensures.has

pub add_each-requires : goal.add_each-requires
add_each-requires c =
    subst (λ n. All (λ t. t.place < n) c.in_ok-columns.columns.items) (sym c.requires.count)
    (all_placed (length c.args.items.now) c.args.planned.now.order.items c.in_ok-columns.columns.items c.in_ok-columns.ensures.places c.requires.places.order)

pub columns_of_service-requires-clause-domains : goal.columns_of_service-requires-clause-domains
columns_of_service-requires-clause-domains c = ap length c.deref.ensures.value ∙ c.in_ok-ranges.ensures.count ∙ c.requires.names
