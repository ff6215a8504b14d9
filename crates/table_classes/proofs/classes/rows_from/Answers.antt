use Rattle.std.proofs.lemmas.List.Elements.{All-push, All-same}
use Rattle.std.proofs.lemmas.Option.{slice_get-get_or}
use Rattle.table_classes.specs.Classes.{TellsRules}
use Rattle.table_classes.proofs.classes.rows_from.Goals as goal

pub loop-place-preserved : goal.loop-place-preserved
loop-place-preserved c = λ rules column tells.
    let classes = c.args.classes.now in
    let place = c.loop-place.place in
    let last = c.in_ok-rules_of.field-0 in
    All-same (TellsRules rules column) _ _ c.in_ok-push.ensures.items
    (All-push (TellsRules rules column) c.loop-place.rows.items last (c.loop-place.invariant rules column tells)
    (c.in_ok-rules_of.ensures rules column classes tells
    (slice_get-get_or classes place _ c.loop-place-test.true)))
