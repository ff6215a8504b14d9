use Rattle.std.proofs.Common.{◌<◌, sym, subst, length, refl, map}
use Rattle.std.specs.List.{All}
use Rattle.dmn_analysis.specs.Cells.{AllInOrder}
use Rattle.dmn_analysis.specs.Cutting.{AreHalves}
use Rattle.dmn_analysis.specs.Grouping.{AreOfOneGroup}
use Rattle.dmn_analysis.specs.Telling.{IsVoid}
use Rattle.dmn_analysis.proofs.GroupSearches.{groups_one, groups_void}
use Rattle.dmn_analysis.proofs.Searches.{left_moved}
use Rattle.dmn_analysis.proofs.grouping.turn.Goals as goal

pub are_of_one_group-requires : goal.are_of_one_group-requires
are_of_one_group-requires c =
    subst (λ n. All (λ r. r < n) c.deref-3.result.now) (sym c.requires.groups) (subst (All (λ r. r < length c.args.rows.now)) (sym c.deref-3.ensures.value) c.in_ok-left.ensures.there)

pub returns-then-are_of_one_group : goal.returns-then-are_of_one_group
returns-then-are_of_one_group c = λ yes s words rules knows left.
    let cells = c.args.next.cells.items in
    let kept = left_moved s c.deref.result.now cells c.in_ok-left.left.items c.in_ok-left.left.items (sym c.deref.ensures.value) refl
    (c.in_ok-left.ensures.left s words rules (left_moved s cells c.deref.result.now c.args.next.left.items c.deref-2.result.now c.deref.ensures.value c.deref-2.ensures.value left)) in
    groups_one s c.args.groups.now cells c.in_ok-left.left.items c.args.pending.now.items (subst (AreOfOneGroup c.args.groups.now) c.deref-3.ensures.value (c.are_of_one_group.ensures c.if-are_of_one_group.true))
    (subst AllInOrder (sym words) c.requires.order) kept knows

pub returns-in_default : goal.returns-in_default
returns-in_default c = λ yes s words rules knows left.
    let cells = c.args.next.cells.items in
    let void = subst (λ cs. IsVoid c.args.words.now cs) c.deref-in_default.ensures.value (c.in_ok-void.ensures yes) in
    groups_void s c.args.groups.now cells c.args.pending.now.items (subst (λ ws. IsVoid ws cells) (sym words) void) knows

pub returns : goal.returns
returns c = λ yes s words rules knows left.
    let cells = c.args.next.cells.items in
    let kept = left_moved s c.deref.result.now cells c.in_ok-left.left.items c.in_ok-left.left.items (sym c.deref.ensures.value) refl
    (c.in_ok-left.ensures.left s words rules (left_moved s cells c.deref.result.now c.args.next.left.items c.deref-2.result.now c.deref.ensures.value c.deref-2.ensures.value left)) in
    let found = rw c.in-Some-2.is at c.in_ok-lower.ensures.halves in
    c.in_ok-put.ensures s c.args.groups.now cells (subst AllInOrder (sym words) c.requires.order) knows (subst (λ cs. AreHalves cs c.in-Some-2.lower.items c.in-Some-2.upper.items) c.deref-6.ensures.value found) kept
