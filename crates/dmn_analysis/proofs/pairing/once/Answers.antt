use Rattle.std.proofs.Common.{◌∙◌, length, sym, ap, subst, arith, of_calls}
use Rattle.std.specs.List.{All}
use Rattle.std.proofs.RetainMut.{IsDeduped-is_dedup}
use Rattle.std.proofs.lemmas.List.Filters.{All-dedup}
use Rattle.std.proofs.lemmas.List.Sorted.{All-permutation, length_permutation}
use Rattle.dmn_analysis.specs.Sharing.{IsPair, IsPairOf}
use Rattle.dmn_analysis.proofs.Searches.{no_elements}
use Rattle.dmn_analysis.proofs.Sharings.{dedup_none, pair_deduped, pair_permuted, same_rules}
use Rattle.dmn_analysis.proofs.pairing.once.Goals as goal

pub dedup_by-requires : goal.dedup_by-requires
dedup_by-requires c = search of_calls parts 8

pub returns-clause-each : goal.returns-clause-each
returns-clause-each c = λ all each.
    let old = c.args.pairs.items in
    let sorted = c.sort_unstable.new.self.items in
    let deduped = IsDeduped-is_dedup _ _ _ _ c.dedup_by.ensures.filtered same_rules (λ s x k b t x' k' h. let met = h.called.met.0 in (met.0 ∙ (λ i. same_rules (h.shows.0 i) (h.shows.1 i)), (sym h.leaves.0 ∙ met.1.0 ∙ h.shows.0, sym h.leaves.1 ∙ met.1.1 ∙ h.shows.1))) in
    subst (All (IsPairOf all)) (sym deduped) (All-dedup same_rules (IsPairOf all) sorted (All-permutation (IsPairOf all) old sorted c.sort_unstable.ensures.permutation each))

pub returns-clause-some : goal.returns-clause-some
returns-clause-some c = λ none.
    let sorted = c.sort_unstable.new.self.items in
    let deduped = IsDeduped-is_dedup _ _ _ _ c.dedup_by.ensures.filtered same_rules (λ s x k b t x' k' h. let met = h.called.met.0 in (met.0 ∙ (λ i. same_rules (h.shows.0 i) (h.shows.1 i)), (sym h.leaves.0 ∙ met.1.0 ∙ h.shows.0, sym h.leaves.1 ∙ met.1.1 ∙ h.shows.1))) in
    no_elements c.args.pairs.items (omega (arith, length_permutation c.args.pairs.items sorted c.sort_unstable.ensures.permutation, ap length (dedup_none same_rules sorted (sym deduped ∙ none))))

pub returns-clause-all : goal.returns-clause-all
returns-clause-all c = λ a b of.
    let sorted = c.sort_unstable.new.self.items in
    let deduped = IsDeduped-is_dedup _ _ _ _ c.dedup_by.ensures.filtered same_rules (λ s x k b t x' k' h. let met = h.called.met.0 in (met.0 ∙ (λ i. same_rules (h.shows.0 i) (h.shows.1 i)), (sym h.leaves.0 ∙ met.1.0 ∙ h.shows.0, sym h.leaves.1 ∙ met.1.1 ∙ h.shows.1))) in
    subst (λ ps. IsPair ps a b) (sym deduped) (pair_deduped sorted a b (pair_permuted c.args.pairs.items sorted a b c.sort_unstable.ensures.permutation of))
