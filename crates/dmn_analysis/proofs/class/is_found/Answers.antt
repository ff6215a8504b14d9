use Rattle.std.proofs.Common.{◌≡◌, ◌∙◌, sym, ap, arith}
use Rattle.std.specs.Prelude.{bytes_eq}
use Rattle.std.specs.Arc.{arc_str_bytes}
use Rattle.std.proofs.lemmas.List.Folds.{list_any_at}
use Rattle.std.proofs.lemmas.Slice.Eq.{bytes_eq-Decides}
use Rattle.dmn_analysis.proofs.class.is_found.Goals as goal

pub returns : goal.returns
returns c = λ told.
    let ts = c.args.texts.now in
    let s = c.args.text.now in
    let place = c.first_text-place.result in
    let one = c.index-texts-place.result in
    let same : arc_str_bytes one ≡ s = (bytes_eq-Decides (arc_str_bytes one) s).0 (ap (λ u. bytes_eq u s) (sym c.as_str.ensures.value) ∙ sym c.eq.ensures ∙ told) in
    list_any_at (λ t. bytes_eq s (arc_str_bytes t)) ts place one (omega arith) (ap (λ t. bytes_eq s (arc_str_bytes t)) (sym c.index-texts-place.is) ∙ (bytes_eq-Decides s (arc_str_bytes one)).1 (sym same))
