use Rattle.std.proofs.Common.{◌≡◌, ◌∙◌, sym, ap, arith}
use Rattle.std.specs.Prelude.{bytes_eq}
use Rattle.std.specs.Arc.{arc_str_bytes}
use Rattle.std.proofs.lemmas.List.Folds.{list_any_at}
use Rattle.std.proofs.lemmas.Slice.Eq.{bytes_eq-Decides}
use Rattle.feel_value.specs.Comparison.{equal}
use Rattle.feel_value.specs.Datum.{text}
use Rattle.feel_value.specs.Logic.{decided, is_yes}
use Rattle.dmn_analysis.proofs.listing.is_text_at.Goals as goal

pub returns : goal.returns
returns c = λ told.
    let ts = c.args.texts.now in
    let s = c.args.text.now in
    let one = c.index-texts-place.result in
    let same : arc_str_bytes one ≡ s = (bytes_eq-Decides (arc_str_bytes one) s).0 (ap (λ u. bytes_eq u s) (sym c.as_str.ensures.value) ∙ sym c.eq.ensures ∙ told) in
    list_any_at (λ t. is_yes (equal (text s) (text (arc_str_bytes t)))) ts c.args.place one (omega arith)
    (ap (λ t. is_yes (equal (text s) (text (arc_str_bytes t)))) (sym c.index-texts-place.is) ∙ ap (λ b. is_yes (decided b)) ((bytes_eq-Decides s (arc_str_bytes one)).1 (sym same)))
