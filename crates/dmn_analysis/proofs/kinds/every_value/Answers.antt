use Rattle.std.proofs.Common.{◌≡◌, sym, subst, true}
use Rattle.std.specs.List.{All}
use Rattle.std.proofs.lemmas.List.Elements.{All-push}
use Rattle.feel_value.specs.Datum.{Datum}
use Rattle.dmn_analysis.specs.Asked.{is_asked, is_in_utf8}
use Rattle.dmn_analysis.specs.declared.asked.Asked.{Asked}
use Rattle.dmn_analysis.proofs.kinds.every_value.Goals as goal

pub loop-place-preserved : goal.loop-place-preserved
loop-place-preserved c =
    let P : Asked → Type 0 = λ a. (v : Datum) → is_in_utf8 v ≡ true → is_asked a v ≡ true in
    subst (All P) (sym c.in_ok-push.ensures.items) (All-push P c.loop-place.asked.items c.every.result c.loop-place.invariant c.every.ensures.asked)
