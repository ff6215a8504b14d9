use Rattle.std.proofs.Common.{◌≡◌, ◌∙◌, sym, ap, ap₂, subst, true, IfSome, rules, arith, FitsSigned, w64, to_z, of_z}
use Rattle.std.proofs.lemmas.Int.{ints}
use Rattle.std.proofs.lemmas.Option.{IfSome_then}
use Rattle.feel_value.specs.Comparison.{less}
use Rattle.feel_value.specs.Datum.{Datum}
use Rattle.feel_value.specs.View.{datum_of}
use Rattle.dmn_analysis.specs.Classes.{is_number_in, is_of}
use Rattle.dmn_analysis.proofs.OnClasses.{is_a_text, parted_above, same_value}
use Rattle.dmn_analysis.proofs.class.Class.above.Goals as goal

pub returns-in-One : goal.returns-in-One
returns-in-One c = λ v h.
    let same = same_value (datum_of c.in-One.one) v (ap (λ k. is_of k v) (sym c.in-One.is) ∙ h) in
    ap (λ w. less (datum_of c.args.value.now) w) same ∙ sym c.less.ensures

pub returns-in-Numbers : goal.returns-in-Numbers
returns-in-Numbers c = IfSome_then c.numbers_above.result c.numbers_above.ensures (λ t told v h.
    let low = c.in-Numbers.low in
    let high = c.in-Numbers.high in
    let low_fits : FitsSigned w64 low = search rules in
    let high_fits : FitsSigned w64 high = search rules in
    let same_low : to_z w64 (of_z w64 low) ≡ low = omega (arith, ints) in
    let same_high : to_z w64 (of_z w64 high) ≡ high = omega (arith, ints) in
    told v (ap₂ (λ a b. is_number_in a b v) same_low same_high ∙ ap (λ k. is_of k v) (sym c.in-Numbers.is) ∙ h))

pub returns-in-Words : goal.returns-in-Words
returns-in-Words c = subst (λ k. IfSome c.words_above.result (λ t. (v : Datum) → is_of k v ≡ true → less (datum_of c.args.value.now) v ≡ t)) (sym c.in-Words.is) c.words_above.ensures

pub returns-in-OtherTexts : goal.returns-in-OtherTexts
returns-in-OtherTexts c = IfSome_then c.text_above.result c.text_above.ensures (λ t told v h.
    let text = is_a_text c.in-OtherTexts.field-0.now v (ap (λ k. is_of k v) (sym c.in-OtherTexts.is) ∙ h) in
    ap (λ w. less (datum_of c.args.value.now) w) text.1 ∙ told text.0)

pub returns-in-Between : goal.returns-in-Between
returns-in-Between c = subst (λ k. IfSome c.between_above.result (λ t. (v : Datum) → is_of k v ≡ true → less (datum_of c.args.value.now) v ≡ t)) (sym c.in-Between.is) c.between_above.ensures

pub returns-in-Parted : goal.returns-in-Parted
returns-in-Parted c = λ v h. parted_above (datum_of c.args.value.now) v (ap (λ k. is_of k v) (sym c.in-Parted.is) ∙ h)
