use Rattle.std.proofs.Common.{◌∙◌, refl, sym, ap, [], ◌∷◌, ◌++◌}
use Rattle.std.proofs.lemmas.List.{append-nil}
use Rattle.dmn_analysis.specs.declared.pairs.PairSearch.{PairSearch}
use Rattle.dmn_analysis.proofs.PairSearches.{pairs_first, pairs_popped, pairs_same}
use Rattle.dmn_analysis.proofs.pairs.find_shared.Goals as goal

pub loop-turn-init : goal.loop-turn-init
loop-turn-init c = (
  λ s words rules first whole rising.
      let search : PairSearch = record { pending = c.push.new.self; shared = c.new-2.result; «open» = c.new-3.result } in
      pairs_first s search c.args.first first whole (c.in_ok-push.ensures.items ∙ ap (λ ps. ps ++ c.args.first ∷ []) c.new.ensures.items) c.new-2.ensures.items rising,
  λ constant. c.new-3.ensures.items,
)

pub returns-in_default-clause-known : goal.returns-in_default-clause-known
returns-in_default-clause-known c = λ s words rules first whole rising.
    let old = c.loop-turn.search in
    let new : PairSearch = record { pending = c.pop.new.self; shared = old.shared; «open» = old.open } in
    pairs_same s old new (sym (c.in_default.ensures.items ∙ append-nil c.pop.new.self.items)) refl refl (c.loop-turn.invariant.0 s words rules first whole rising)

pub loop-turn-preserved : goal.loop-turn-preserved
loop-turn-preserved c = (
  λ s words rules first whole rising.
      let old = c.loop-turn.search in
      let new : PairSearch = record { pending = c.pop.new.self; shared = old.shared; «open» = old.open } in
      let popped = pairs_popped s old new c.in-Some.next c.in-Some.ensures.items refl refl (c.loop-turn.invariant.0 s words rules first whole rising) in
      c.in_ok-turn.ensures.known s words rules popped.0 popped.1.0 popped.1.1,
  λ constant. c.in_ok-turn.ensures.decided constant (c.loop-turn.invariant.1 constant),
)
