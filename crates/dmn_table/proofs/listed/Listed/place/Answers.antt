use Rattle.std.proofs.Common.{◌≡◌, length, rules, sym, ap, ◌∙◌}
use Rattle.std.specs.Option.{unwrap_or}
use Rattle.std.specs.BTreeMap.{get_by_text}
use Rattle.feel_value.specs.Datum.{text}
use Rattle.feel_value.specs.View.{datum_of}
use Rattle.feel_value.proofs.Views.{datum_of-Text}
use Rattle.dmn_table.specs.Priority.{place}
use Rattle.dmn_table.proofs.listed.Listed.place.Goals as goal

pub returns-in-Text : goal.returns-in-Text
returns-in-Text c =
    let ds = c.args.self.now in
    let texts = c.in-Some.index.texts in
    let s = c.as_str.result.now in
    let is_text : c.args.value.now ≡ text s = sym c.value.ensures.same ∙ ap datum_of c.in-Text.is ∙ datum_of-Text c.in-Text.text ∙ ap text (sym c.as_str.ensures.value) in
    let found : c.copied-place-in-Text.result ≡ get_by_text texts s = search rules in
    let placed : place ds (text s) ≡ unwrap_or (get_by_text texts s) (length ds) = search rules in
    let given : c.unwrap_or-in-Text.result ≡ unwrap_or c.copied-place-in-Text.result (length ds) = search rules in
    given ∙ ap (λ o. unwrap_or o (length ds)) found ∙ sym placed ∙ ap (place ds) (sym is_text)
