use Rattle.std.proofs.Common.{refl, sym, subst}
use Rattle.dmn_analysis.specs.Sharing.{AreFilled}
use Rattle.dmn_analysis.specs.Telling.{IsVoid}
use Rattle.dmn_analysis.specs.declared.pairs.PairSearch.{PairSearch}
use Rattle.dmn_analysis.specs.declared.pairs.Shared.{Shared}
use Rattle.dmn_analysis.proofs.PairSearches.{pairs_shared, pairs_void}
use Rattle.dmn_analysis.proofs.pairs.PairSearch.share.Goals as goal

pub returns-in_default-clause-known : goal.returns-in_default-clause-known
returns-in_default-clause-known c = λ s words knows must rising.
    let cells = c.args.cells.items in
    let void = subst (λ cs. IsVoid c.args.words.now cs) c.deref.ensures.value (c.in_ok-values_of.ensures.none c.in_default.is) in
    pairs_void s cells c.args.self.now (subst (λ ws. IsVoid ws cells) (sym words) void) knows

pub returns-clause-known : goal.returns-clause-known
returns-clause-known c = λ s words knows must rising.
    let old = c.args.self.now in
    let cells = c.args.cells.items in
    let new : PairSearch = record { pending = old.pending; shared = c.push.new.self; «open» = old.open } in
    let shared : Shared = record { cells = c.args.cells; rules = c.args.rules } in
    let values = c.in-Some.field-0 in
    let filled : AreFilled c.args.words.now c.deref.result.now = record {
      values = values.items;
      long = rw c.in-Some.is at c.in_ok-values_of.ensures.long;
      lawful = rw c.in-Some.is at c.in_ok-values_of.ensures.lawful;
      inside = rw c.in-Some.is at c.in_ok-values_of.ensures.inside;
    } in
    pairs_shared s cells old new shared refl c.in_ok-push.ensures.items (record {
      long = knows.long;
      filled = subst (λ ws. AreFilled ws cells) (sym words) (subst (AreFilled c.args.words.now) c.deref.ensures.value filled);
      must = must;
      rising = rising;
      several = c.requires.several;
    }) knows
