use Rattle.std.proofs.Common.{◌∙◌, sym, subst}
use Rattle.dmn_ranges.specs.Asking.{AskColumns}
use Rattle.dmn_ranges.proofs.SoundAsking.{narrows_nothing, narrows_by}
use Rattle.dmn_ranges.proofs.analysed.narrowed.Goals as goal

pub returns-then-not-either : goal.returns-then-not-either
returns-then-not-either c = λ long. narrows_nothing c.args.table.now.rules c.args.columns.now c.args.tally

pub returns-then-not-have_values : goal.returns-then-not-have_values
returns-then-not-have_values c = λ long. narrows_nothing c.args.table.now.rules c.args.columns.now c.args.tally

pub returns : goal.returns
returns c = λ long.
    let asked = c.in_ok-asked.asked.items in
    narrows_by c.args.table.now c.args.columns.now c.deref.result.now c.deref-2.result.now c.args.tally c.without.result c.have_values.result c.in_ok-none.none c.in_ok-several.several long c.have_values.ensures c.if-not-have_values.false
    (subst (AskColumns c.args.columns.now) (sym c.deref.ensures.value) c.in_ok-asked.ensures.told) (c.deref-2.ensures.value ∙ sym c.deref.ensures.value) c.in_ok-none.ensures c.in_ok-several.ensures c.without.ensures
