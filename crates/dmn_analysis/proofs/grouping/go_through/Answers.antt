use Rattle.std.proofs.Common.{◌≡◌, ◌∙◌, sym, subst, ap, [], ◌∷◌, ◌++◌}
use Rattle.std.proofs.lemmas.List.{append-nil}
use Rattle.dmn_analysis.specs.Grouping.{KnowsGroups}
use Rattle.dmn_analysis.proofs.GroupSearches.{groups_first, groups_popped}
use Rattle.dmn_analysis.proofs.grouping.go_through.Goals as goal

pub loop-turn-init : goal.loop-turn-init
loop-turn-init c = λ s words rules first whole.
    groups_first s c.args.groups.now c.push.new.self.items c.args.first first whole (c.in_ok-push.ensures.items ∙ ap (λ ps. ps ++ c.args.first ∷ []) c.new-pending.ensures.items)

pub returns-then-are_none : goal.returns-then-are_none
returns-then-are_none c = λ yes s words rules first whole.
    let nothing : c.loop-turn.pending.items ≡ [] = sym c.deref.ensures.value ∙ c.are_none.ensures.none c.if-are_none.true in
    subst (KnowsGroups s c.args.groups.now) nothing (c.loop-turn.invariant s words rules first whole)

pub loop-turn-preserved : goal.loop-turn-preserved
loop-turn-preserved c = λ s words rules first whole.
    let popped = groups_popped s c.args.groups.now c.loop-turn.pending.items c.pop.new.self.items c.in-Some.next c.in-Some.ensures.items (c.loop-turn.invariant s words rules first whole) in
    c.in_ok-known.ensures c.if-not-known.false s words rules popped.0 popped.1
