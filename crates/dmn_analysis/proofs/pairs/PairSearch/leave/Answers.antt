use Rattle.std.proofs.Common.{refl, sym, subst}
use Rattle.std.specs.List.{All}
use Rattle.dmn_analysis.specs.Sharing.{IsMustHit, IsRising}
use Rattle.dmn_analysis.specs.declared.pairs.PairSearch.{PairSearch}
use Rattle.dmn_analysis.proofs.PairSearches.{pairs_open, pairs_open_but}
use Rattle.dmn_analysis.proofs.pairs.PairSearch.leave.Goals as goal

pub returns-then-are_few : goal.returns-then-are_few
returns-then-are_few c = λ s words rules knows rising.
    let old = c.args.self.now in
    let new : PairSearch = record { pending = old.pending; shared = old.shared; «open» = c.push.new.self } in
    pairs_open s c.args.cells.items old new c.args.unsure refl refl c.in_ok-push.ensures.items knows

pub returns : goal.returns
returns c = λ s words rules knows rising.
    let old = c.args.self.now in
    let cells = c.args.cells.items in
    let new : PairSearch = record { pending = old.pending; shared = old.shared; «open» = c.push.new.self } in
    let sure = c.in_ok-sure.sure.items in
    let must : All (IsMustHit c.args.words.now c.args.rows.now cells) sure = subst (λ cs. All (IsMustHit c.args.words.now c.args.rows.now cs) sure) c.deref.ensures.value c.in_ok-sure.ensures.must in
    c.in_ok-share.ensures.known s words (pairs_open_but s cells old new c.args.unsure refl refl c.in_ok-push.ensures.items knows)
    (subst (λ ws. All (IsMustHit ws s.rules cells) sure) (sym words) (subst (λ rs. All (IsMustHit c.args.words.now rs cells) sure) (sym rules) must)) (c.in_ok-sure.ensures.rising (subst IsRising (sym c.deref-2.ensures.value) rising))
