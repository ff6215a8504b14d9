use Rattle.std.proofs.Common.{◌≡◌, ◌∙◌, ◌-◌, sym, ap, subst, length, true, rules, arith}
use Rattle.std.specs.Arc.{arc_str_bytes}
use Rattle.feel_value.specs.Datum.{text}
use Rattle.dmn_analysis.specs.Classes.{AreGreaterFrom, AreLessBefore}
use Rattle.dmn_analysis.specs.Listing.{is_word_among}
use Rattle.dmn_analysis.proofs.Listings.{no_word_among, word_there}
use Rattle.dmn_analysis.proofs.Places.{at_place}
use Rattle.dmn_analysis.proofs.listing.Constants.have_words.Goals as goal

pub returns-then-is_text_at : goal.returns-then-is_text_at
returns-then-is_text_at c =
    let words = c.args.words.now in
    let texts = c.args.self.now.texts.items in
    let first = c.index-words-0.result in
    let one : length words ≡ 1 = search rules in
    let among : is_word_among texts (text (arc_str_bytes first)) ≡ true =
    ap (λ ts. is_word_among ts (text (arc_str_bytes first))) (sym c.deref-then-count-eq1.ensures.value)
    ∙ ap (λ s. is_word_among c.deref-then-count-eq1.result.now (text s)) (sym c.as_str-first.ensures.value)
    ∙ c.is_text_at.ensures c.if-is_text_at.true in
    word_there words texts c.args.self.now.numbers.items first one (at_place words 0 first (omega (arith, one)) c.index-words-0.is) among

pub returns : goal.returns
returns c =
    let words = c.args.words.now in
    let texts = c.args.self.now.texts.items in
    let place = c.first_text-place.result in
    let first = c.index-words-0.result in
    let last = c.index-words-count.result in
    let before = subst (λ s. AreLessBefore place s texts) c.as_str-first.ensures.value (subst (AreLessBefore place c.as_str-first.result.now) c.deref-2.ensures.value (c.texts_are_less_before.ensures c.if-not-texts_are_less_before.false)) in
    let after = subst (λ s. AreGreaterFrom place s texts) c.as_str.ensures.value (subst (AreGreaterFrom place c.as_str.result.now) c.deref-3.ensures.value (c.texts_are_greater_from.ensures c.if-not-texts_are_greater_from.false)) in
    no_word_among words c.args.self.now.numbers.items texts place first last (at_place words 0 first (omega arith) c.index-words-0.is) (at_place words (length words - 1) last (omega arith) c.index-words-count.is) before after
