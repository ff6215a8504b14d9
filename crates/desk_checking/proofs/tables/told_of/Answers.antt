use Rattle.std.proofs.Common.{◌∙◌, ◌+◌, ◌<◌, ◌++◌, [], ◌∷◌, ap, arith, get_or, length, refl, subst, sym, take}
use Rattle.std.proofs.lemmas.List.{map_more, take_all}
use Rattle.desk_checking.specs.ComesView.{number_view, number_views}
use Rattle.desk_checking.specs.Looking.{IsTold}
use Rattle.desk_checking.specs.TablesView.{placed_view, placed_views}
use Rattle.desk_checking.proofs.Lookings.{none_told, one_at_most, turned}
use Rattle.desk_checking.proofs.tables.told_of.Goals as goal

pub loop-place-init : goal.loop-place-init
loop-place-init c = (none_told c.args.inputs.now _ c.new.ensures.items refl refl, omega arith)

pub loop-place-preserved : goal.loop-place-preserved
loop-place-preserved c =
    let inputs = c.args.inputs.now in
    let tables = c.args.tables.now in
    let numbers = c.args.numbers.now in
    let place = c.loop-place.place in
    let x = c.index-tables-place.result in
    let less : place < length numbers = omega (arith, c.loop-place-test.true, c.requires) in
    let more = map_more placed_view tables place x c.loop-place-test.true ∙ ap (λ y. placed_views (take place tables) ++ placed_view y ∷ []) (sym c.index-tables-place.is) in (
      subst (λ ps. IsTold inputs ps (number_views (take (place + 1) numbers)) c.look_at.new.self) (sym more)
          (subst (λ ns. IsTold inputs (placed_views (take place tables) ++ placed_view x ∷ []) ns c.look_at.new.self) (sym (map_more number_view numbers place _ less))
          (turned inputs (placed_views (take place tables)) (number_views (take place numbers)) (placed_view x) (number_view (get_or numbers place _)) c.loop-place.telling c.look_at.new.self c.loop-place.invariant.0 c.in_ok-look_at.ensures)),
      omega (arith, c.loop-place.invariant.1, one_at_most inputs (placed_view x) (number_view (get_or numbers place _)) c.loop-place.telling c.look_at.new.self c.in_ok-look_at.ensures),
    )

pub returns : goal.returns
returns c =
    let place = c.loop-place.place in
    let tables = take_all place c.args.tables.now (omega (arith, c.loop-place-test.false)) in
    let numbers = take_all place c.args.numbers.now (omega (arith, c.loop-place-test.false, c.requires)) in
    subst (λ ts. IsTold c.args.inputs.now (placed_views ts) (number_views c.args.numbers.now) c.loop-place.telling) tables
    (subst (λ ns. IsTold c.args.inputs.now (placed_views (take place c.args.tables.now)) (number_views ns) c.loop-place.telling) numbers c.loop-place.invariant.0)
