use Rattle.std.proofs.Common.{◌≡◌, ◌∙◌, sym, subst, length, map, arith}
use Rattle.dmn_table.specs.Parts.{rule_view}
use Rattle.dmn_analysis.specs.Claims.{Hits}
use Rattle.dmn_analysis.proofs.Constants.{not_both}
use Rattle.dmn_analysis.proofs.Sharings.{hits_from, void_not_filled}
use Rattle.dmn_analysis.proofs.pair_answers.witness.Goals as goal

pub returns-in_default-clause-unless : goal.returns-in_default-clause-unless
returns-in_default-clause-unless c = λ none must. void_not_filled c.args.words.now c.args.cells.now (c.in_ok-values.ensures.none c.in_default.is) must.filled

pub returns-then-len-count-clause-unless : goal.returns-then-len-count-clause-unless
returns-then-len-count-clause-unless c = λ none must.
    let long : length c.in-Some.values.items ≡ c.args.count = (rw c.in-Some.is at c.in_ok-values.ensures.long) ∙ must.long in
    c.if-len-count.true (omega (arith, c.len.ensures, long))

pub returns-then-not-branch-clause-unless : goal.returns-then-not-branch-clause-unless
returns-then-not-branch-clause-unless c = λ none must.
    let values = c.in-Some.values.items in
    let hits = hits_from c.args.words.now (map rule_view c.args.rules.now) c.args.cells.now c.args.i values c.requires must.first (rw c.in-Some.is at c.in_ok-values.ensures.long) (rw c.in-Some.is at c.in_ok-values.ensures.inside) in
    not_both _ c.if-not-branch.true (c.in_ok-hits.ensures.all (subst (Hits (map rule_view c.args.rules.now) c.args.i) (sym c.deref.ensures.value) hits))

pub returns-then-not-branch-2-clause-unless : goal.returns-then-not-branch-2-clause-unless
returns-then-not-branch-2-clause-unless c = λ none must.
    let values = c.in-Some.values.items in
    let hits = hits_from c.args.words.now (map rule_view c.args.rules.now) c.args.cells.now c.args.j values c.requires must.second (rw c.in-Some.is at c.in_ok-values.ensures.long) (rw c.in-Some.is at c.in_ok-values.ensures.inside) in
    not_both _ c.if-not-branch-2.true (c.in_ok-hits-2.ensures.all (subst (Hits (map rule_view c.args.rules.now) c.args.j) (sym c.deref-2.ensures.value) hits))
