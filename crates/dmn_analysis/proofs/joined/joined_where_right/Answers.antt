use Rattle.std.proofs.Common.{◌∙◌, sym, ap, subst, map}
use Rattle.std.specs.List.{slice_get, All}
use Rattle.std.proofs.lemmas.List.Elements.{All-weaker}
use Rattle.dmn_analysis.specs.Joining.{AreCovered, AreMissed}
use Rattle.dmn_analysis.specs.Searching.{CannotHit, IsBare}
use Rattle.dmn_analysis.specs.declared.gaps.Bare.{Bare}
use Rattle.dmn_analysis.proofs.Joins.{own}
use Rattle.dmn_analysis.proofs.Places.{All-at}
use Rattle.dmn_analysis.proofs.joined.joined_where_right.Goals as goal

pub returns-in_default-clause-covered : goal.returns-in_default-clause-covered
returns-in_default-clause-covered c = own c.args.bare.items

pub returns-then-not-are_all_missed-clause-covered : goal.returns-then-not-are_all_missed-clause-covered
returns-then-not-are_all_missed-clause-covered c = own c.args.bare.items

pub returns-then-not-are_covered-clause-covered : goal.returns-then-not-are_covered-clause-covered
returns-then-not-are_covered-clause-covered c = own c.args.bare.items

pub returns-clause-bare : goal.returns-clause-bare
returns-clause-bare c = λ s words rules long bare.
    let all = c.in-Some.all.items in
    let views = c.args.rows.now in
    let missed = subst (All (AreMissed c.args.words.now views c.args.count)) c.deref-2.ensures.value (c.are_all_missed.ensures c.if-not-are_all_missed.false) in
    All-weaker (AreMissed c.args.words.now views c.args.count) (IsBare s) (λ b m. record {
      long = m.long ∙ sym long;
      none = λ r rule first there.
          subst (λ ws. CannotHit ws b.cells.items rule) (sym words) (All-at (CannotHit c.args.words.now b.cells.items) views r rule m.none (ap (λ rs. slice_get rs r) (sym rules) ∙ there));
    }) all missed

pub returns-clause-covered : goal.returns-clause-covered
returns-clause-covered c =
    subst (λ bs. All (λ (b : Bare). AreCovered b.cells.items c.in-Some.all.items) bs) c.deref-3.ensures.value
    (subst (λ bs. All (λ (b : Bare). AreCovered b.cells.items bs) c.deref-3.result.now) c.deref-4.ensures.value (c.are_covered.ensures c.if-not-are_covered.false))
