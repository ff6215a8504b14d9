use Rattle.std.proofs.Common.{◌∙◌, refl, sym, ap, [], ◌∷◌, ◌++◌}
use Rattle.std.proofs.lemmas.List.{append-nil}
use Rattle.dmn_analysis.specs.declared.gaps.Search.{Search}
use Rattle.dmn_analysis.proofs.Searches.{known_first, known_popped, known_same}
use Rattle.dmn_analysis.proofs.gaps.go_through.Goals as goal

pub loop-turn-init : goal.loop-turn-init
loop-turn-init c = (
  λ s words rules chosen first whole.
      let search : Search = record { pending = c.push.new.self; bare = c.new-2.result; «open» = c.new-3.result; sure = c.new-4.result } in
      known_first s search c.args.first first whole (c.in_ok-push.ensures.items ∙ ap (λ ps. ps ++ c.args.first ∷ []) c.new.ensures.items) c.new-2.ensures.items,
  λ constant. c.new-3.ensures.items,
)

pub returns-in_default-clause-known : goal.returns-in_default-clause-known
returns-in_default-clause-known c = λ s words rules chosen first whole.
    let old = c.loop-turn.search in
    let new : Search = record { pending = c.pop.new.self; bare = old.bare; «open» = old.open; sure = old.sure } in
    known_same s old new (sym (c.in_default.ensures.items ∙ append-nil c.pop.new.self.items)) refl refl (c.loop-turn.invariant.0 s words rules chosen first whole)

pub loop-turn-preserved : goal.loop-turn-preserved
loop-turn-preserved c = (
  λ s words rules chosen first whole.
      let old = c.loop-turn.search in
      let new : Search = record { pending = c.pop.new.self; bare = old.bare; «open» = old.open; sure = old.sure } in
      let popped = known_popped s old new c.in-Some.next c.in-Some.ensures.items refl refl (c.loop-turn.invariant.0 s words rules chosen first whole) in
      c.in_ok-turn.ensures.known s words rules chosen popped.0 popped.1,
  λ constant. c.in_ok-turn.ensures.decided constant (c.loop-turn.invariant.1 constant),
)
