use Rattle.std.proofs.Common.{◌∙◌, refl, sym, subst, map}
use Rattle.dmn_analysis.specs.Cells.{AllInOrder}
use Rattle.dmn_analysis.specs.Searching.{AreLeft, KnowsBut, TellsOutlook}
use Rattle.dmn_analysis.specs.Telling.{IsVoid}
use Rattle.dmn_analysis.specs.declared.gaps.Bare.{Bare}
use Rattle.dmn_analysis.specs.declared.gaps.Search.{Search}
use Rattle.dmn_analysis.proofs.Searches.{known_bare, known_hit, known_void, left_moved, sure_moved}
use Rattle.dmn_analysis.proofs.gaps.Search.look.Goals as goal

pub returns-then-void-clause-known : goal.returns-then-void-clause-known
returns-then-void-clause-known c = λ s words rules knows left.
    let cells = c.args.next.cells.items in
    let void = c.in_ok-void.ensures c.if-void.true in
    known_void s cells c.args.self.now (subst (λ ws. IsVoid ws cells) (sym words) (subst (IsVoid c.args.words.now) c.deref.ensures.value void)) knows

pub returns-in_ok-push-in-Nothing-clause-known : goal.returns-in_ok-push-in-Nothing-clause-known
returns-in_ok-push-in-Nothing-clause-known c = λ s words rules knows left.
    let old = c.args.self.now in
    let cells = c.args.next.cells.items in
    let new : Search = record { pending = old.pending; bare = c.push.new.self; «open» = old.open; sure = old.sure } in
    let kept = left_moved s c.deref-2.result.now cells c.in_ok-left.left.items c.in_ok-left.left.items (sym c.deref-2.ensures.value) refl
    (c.in_ok-left.ensures.left s words rules (left_moved s cells c.deref-2.result.now c.args.next.left.items c.deref-3.result.now c.deref-2.ensures.value c.deref-3.ensures.value left)) in
    let bare : Bare = record { cells = c.args.next.cells } in
    let told = subst (TellsOutlook c.args.words.now c.args.rows.now c.deref-4.result.now c.deref-5.result.now) c.in-Nothing.is c.outlook_for.ensures in
    known_bare s cells old new bare refl c.in_ok-push-in-Nothing.ensures.items refl refl (subst (AreLeft s cells) (sym c.deref-5.ensures.value ∙ told) kept) knows

pub returns-in_ok-push-in-Sure-clause-known : goal.returns-in_ok-push-in-Sure-clause-known
returns-in_ok-push-in-Sure-clause-known c = λ s words rules knows left.
    let old = c.args.self.now in
    let cells = c.args.next.cells.items in
    let new : Search = record { pending = old.pending; bare = old.bare; «open» = old.open; sure = c.push-in-Sure.new.self } in
    let kept = left_moved s c.deref-2.result.now cells c.in_ok-left.left.items c.in_ok-left.left.items (sym c.deref-2.ensures.value) refl
    (c.in_ok-left.ensures.left s words rules (left_moved s cells c.deref-2.result.now c.args.next.left.items c.deref-3.result.now c.deref-2.ensures.value c.deref-3.ensures.value left)) in
    let told = subst (TellsOutlook c.args.words.now c.args.rows.now c.deref-4.result.now c.deref-5.result.now) c.in-Sure.is c.outlook_for.ensures in
    let sure = sure_moved c.args.words.now s.words _ s.rules c.deref-4.result.now cells c.deref-5.result.now c.in_ok-left.left.items c.in-Sure.rule words rules (sym c.deref-4.ensures.value) (sym c.deref-5.ensures.value) told in
    known_hit s cells c.in_ok-left.left.items c.in-Sure.rule old new refl refl refl (subst AllInOrder (sym words) c.requires) sure kept knows

pub returns-in_ok-part-in-Unsure-clause-known : goal.returns-in_ok-part-in-Unsure-clause-known
returns-in_ok-part-in-Unsure-clause-known c = λ s words rules knows left.
    let cells = c.args.next.cells.items in
    let here = c.deref-in-Unsure.result.now in
    let kept = left_moved s c.deref-2.result.now cells c.in_ok-left.left.items c.in_ok-left.left.items (sym c.deref-2.ensures.value) refl
    (c.in_ok-left.ensures.left s words rules (left_moved s cells c.deref-2.result.now c.args.next.left.items c.deref-3.result.now c.deref-2.ensures.value c.deref-3.ensures.value left)) in
    c.in_ok-part-in-Unsure.ensures.known s (subst AllInOrder (sym words) c.requires) (subst (λ cs. KnowsBut s cs c.args.self.now) (sym c.deref-in-Unsure.ensures.value) knows) (left_moved s cells here c.in_ok-left.left.items c.in_ok-left.left.items c.deref-in-Unsure.ensures.value refl kept)
