use Rattle.std.proofs.Common.{◌≡◌, ◌∙◌, sym, ap, ap₂, subst, true, IfSome, rules, arith, FitsSigned, w64, to_z, of_z}
use Rattle.std.proofs.lemmas.Int.{ints}
use Rattle.std.proofs.lemmas.Option.{IfSome_then}
use Rattle.feel_value.specs.Comparison.{equal}
use Rattle.feel_value.specs.Datum.{Datum}
use Rattle.feel_value.specs.Logic.{is_yes}
use Rattle.feel_value.specs.View.{datum_of}
use Rattle.dmn_analysis.specs.Classes.{is_number_in, is_of}
use Rattle.dmn_analysis.proofs.OnClasses.{same_value}
use Rattle.dmn_analysis.proofs.class.Class.equals.Goals as goal

pub returns-in-One : goal.returns-in-One
returns-in-One c = λ v h.
    let same = same_value (datum_of c.in-One.one) v (ap (λ k. is_of k v) (sym c.in-One.is) ∙ h) in
    ap (λ w. is_yes (equal w (datum_of c.args.value.now))) same ∙ sym c.is_equal.ensures

pub returns-in-Numbers : goal.returns-in-Numbers
returns-in-Numbers c = IfSome_then c.numbers_equal.result c.numbers_equal.ensures (λ t told v h.
    let low = c.in-Numbers.low in
    let high = c.in-Numbers.high in
    let low_fits : FitsSigned w64 low = search rules in
    let high_fits : FitsSigned w64 high = search rules in
    let same_low : to_z w64 (of_z w64 low) ≡ low = omega (arith, ints) in
    let same_high : to_z w64 (of_z w64 high) ≡ high = omega (arith, ints) in
    told v (ap₂ (λ a b. is_number_in a b v) same_low same_high ∙ ap (λ k. is_of k v) (sym c.in-Numbers.is) ∙ h))

pub returns-in-Words : goal.returns-in-Words
returns-in-Words c =
    subst (λ k. IfSome c.words_equal.result (λ b. (v : Datum) → is_of k v ≡ true → is_yes (equal v (datum_of c.args.value.now)) ≡ b)) (sym c.in-Words.is) c.words_equal.ensures

pub returns-in-OtherTexts : goal.returns-in-OtherTexts
returns-in-OtherTexts c =
    subst (λ k. IfSome c.other_texts_equal.result (λ b. (v : Datum) → is_of k v ≡ true → is_yes (equal v (datum_of c.args.value.now)) ≡ b)) (sym c.in-OtherTexts.is) c.other_texts_equal.ensures

pub returns-in-Between : goal.returns-in-Between
returns-in-Between c = subst (λ k. IfSome c.between_equal.result (λ t. (v : Datum) → is_of k v ≡ true → is_yes (equal v (datum_of c.args.value.now)) ≡ t)) (sym c.in-Between.is) c.between_equal.ensures

pub returns-in-Parted : goal.returns-in-Parted
returns-in-Parted c =
    subst (λ k. IfSome c.parted_equal.result (λ b. (v : Datum) → is_of k v ≡ true → is_yes (equal v (datum_of c.args.value.now)) ≡ b)) (sym c.in-Parted.is) c.parted_equal.ensures
