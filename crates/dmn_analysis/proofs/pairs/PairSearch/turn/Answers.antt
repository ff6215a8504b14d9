use Rattle.std.proofs.Common.{◌<◌, refl, sym, subst, length, map}
use Rattle.std.specs.List.{All}
use Rattle.dmn_analysis.specs.Cells.{AllInOrder}
use Rattle.dmn_analysis.specs.Cutting.{AreHalves}
use Rattle.dmn_analysis.specs.Sharing.{IsMustHit, IsRising}
use Rattle.dmn_analysis.proofs.PairSearches.{pairs_few}
use Rattle.dmn_analysis.proofs.Searches.{left_moved}
use Rattle.dmn_analysis.proofs.pairs.PairSearch.turn.Goals as goal

pub returns-then-are_few-clause-known : goal.returns-then-are_few-clause-known
returns-then-are_few-clause-known c = λ s words rules knows left rising.
    let cells = c.args.next.cells.items in
    let kept = left_moved s c.deref.result.now cells c.in_ok-left.left.items c.in_ok-left.left.items (sym c.deref.ensures.value) refl
    (c.in_ok-left.ensures.left s words rules (left_moved s cells c.deref.result.now c.args.next.left.items c.deref-2.result.now c.deref.ensures.value c.deref-2.ensures.value left)) in
    pairs_few s cells c.in_ok-left.left.items c.args.self.now (subst (λ xs. length xs < 2) c.deref-3.ensures.value (c.are_few.ensures.few c.if-are_few.true)) (subst AllInOrder (sym words) c.requires) kept knows

pub returns-clause-known : goal.returns-clause-known
returns-clause-known c = λ s words rules knows left rising.
    let cells = c.args.next.cells.items in
    let kept = left_moved s c.deref.result.now cells c.in_ok-left.left.items c.in_ok-left.left.items (sym c.deref.ensures.value) refl
    (c.in_ok-left.ensures.left s words rules (left_moved s cells c.deref.result.now c.args.next.left.items c.deref-2.result.now c.deref.ensures.value c.deref-2.ensures.value left)) in
    let found = rw c.in-Some-2.is at c.in_ok-lower.ensures.halves in
    c.in_ok-put.ensures.known s cells (subst AllInOrder (sym words) c.requires) knows (subst (λ cs. AreHalves cs c.in-Some-2.lower.items c.in-Some-2.upper.items) c.deref-6.ensures.value found) kept
    (c.in_ok-left.ensures.rising (subst IsRising (sym c.deref-2.ensures.value) rising))

pub returns-in_default-clause-known : goal.returns-in_default-clause-known
returns-in_default-clause-known c = λ s words rules knows left rising.
    let cells = c.args.next.cells.items in
    let found = c.in_ok-left.left.items in
    let seen = c.args.rows.now in
    let must : All (IsMustHit c.args.words.now seen cells) found =
    subst (λ cs. All (IsMustHit c.args.words.now seen cs) found) c.deref-4.ensures.value (subst (All (IsMustHit c.args.words.now seen c.deref-4.result.now)) c.deref-5.ensures.value (c.first_unsure.ensures.must c.in_default.is)) in
    c.in_ok-share.ensures.known s words knows (subst (λ ws. All (IsMustHit ws s.rules cells) found) (sym words) (subst (λ rs. All (IsMustHit c.args.words.now rs cells) found) (sym rules) must))
    (c.in_ok-left.ensures.rising (subst IsRising (sym c.deref-2.ensures.value) rising))

pub returns-in_default-2-clause-known : goal.returns-in_default-2-clause-known
returns-in_default-2-clause-known c = λ s words rules knows left rising.
    c.in_ok-leave.ensures s words rules knows (c.in_ok-left.ensures.rising (subst IsRising (sym c.deref-2.ensures.value) rising))
