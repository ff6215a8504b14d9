use Rattle.std.proofs.Common.{◌≡◌, ◌<◌, ◌≤◌, ℕ, ℤ, true, subst, to_z, of_z, w64, arith}
use Rattle.std.proofs.lemmas.Int.{ints}
use Rattle.feel_text.specs.declared.sieve.Sieve.TheVariants as sieve
use Rattle.table_classes.specs.Classes.{IsSieveAt}
use Rattle.table_classes.specs.Spans.{class_at, is_above, is_below}
use Rattle.table_classes.proofs.Marked.{missed, spanned}
use Rattle.table_classes.proofs.classes.mark.Goals as goal

pub returns-in-Numbers-clause-told : goal.returns-in-Numbers-clause-told
returns-in-Numbers-clause-told c = λ k class has unset.
    let classes = c.args.classes.now in
    let low = c.in-Numbers.low in
    let high = c.in-Numbers.high in
    let same_low : to_z w64 (of_z w64 low) ≡ low = omega (arith, ints) in
    let same_high : to_z w64 (of_z w64 high) ≡ high = omega (arith, ints) in
    let below = subst (λ z. (j : ℕ) → j < c.start_of-from.result → is_below z (class_at classes j) ≡ true) same_low c.start_of-from.ensures in
    let above = subst (λ z. (j : ℕ) → c.end_of-to.result ≤ j → is_above z (class_at classes j) ≡ true) same_high c.end_of-to.ensures in
    missed c.args.column c.args.rule.now (sieve.Numbers low high) class (subst (IsSieveAt c.args.column c.args.rule.now) c.in-Numbers.is c.sieve_at-sieve.ensures)
    (spanned classes low high c.start_of-from.result c.end_of-to.result k class below above (λ from to. c.set_bits.ensures.set k from to unset) has)

pub returns-in-Texts-clause-told : goal.returns-in-Texts-clause-told
returns-in-Texts-clause-told c = λ k class has unset.
    missed c.args.column c.args.rule.now c.sieve_at-sieve.result class c.sieve_at-sieve.ensures (c.mark_sieved.ensures.told k class has unset)
