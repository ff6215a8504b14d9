use Rattle.std.proofs.Common.{◌∙◌, sym, ap, subst, arith, length, map, get_or}
use Rattle.std.specs.List.{All}
use Rattle.std.proofs.lemmas.List.Elements.{All-push}
use Rattle.std.proofs.lemmas.Bool.Decides.{nat_tests}
use Rattle.std.proofs.lemmas.Option.{slice_get-get_or, slice_get_within}
use Rattle.dmn_table.specs.Parts.{rule_view}
use Rattle.dmn_analysis.specs.Claims.{AreOverlappingIn}
use Rattle.dmn_analysis.specs.Sharing.{IsPairOf, MustOverlap}
use Rattle.dmn_analysis.specs.declared.pairing.Pair.{Pair}
use Rattle.dmn_analysis.specs.declared.found.Overlap.{Overlap}
use Rattle.dmn_analysis.proofs.Places.{All-at, at_place}
use Rattle.dmn_analysis.proofs.Searches.{no_elements, not_empty}
use Rattle.dmn_analysis.proofs.Sharings.{pair_overlaps}
use Rattle.dmn_analysis.proofs.pair_answers.tell.Goals as goal

pub loop-pair-preserved : goal.loop-pair-preserved
loop-pair-preserved c =
    let P : Overlap → Type 0 = λ (o : Overlap). AreOverlappingIn c.args.count (map rule_view c.args.rules.now) o.first o.second o.values.items in
    let one : P c.in-Some-2.overlap = rw c.in-Some-2.is at c.in_ok-overlap.ensures.overlap in
    let is = c.in_ok-push.ensures.items in (
      subst (All P) (sym is) (All-push P c.loop-pair.found.items c.in-Some-2.overlap c.loop-pair.invariant.0 one),
      λ positive shared pairs none. absurd (not_empty c.loop-pair.found.items c.in-Some-2.overlap (sym is ∙ none)),
    )

pub returns-then-len-most-clause-some : goal.returns-then-len-most-clause-some
returns-then-len-most-clause-some c = λ positive shared pairs none. absurd (omega (arith, positive, c.if-len-most.true, c.len.ensures, ap length none))

pub returns-clause-each : goal.returns-clause-each
returns-clause-each c = c.loop-pair.invariant.0

pub returns-clause-some : goal.returns-clause-some
returns-clause-some c = λ positive shared pairs none.
    no_elements c.args.pairs.now (omega (arith, c.loop-pair.invariant.1 positive shared pairs none, c.loop-pair-test.false))

pub loop-pair-preserved-in_default : goal.loop-pair-preserved-in_default
loop-pair-preserved-in_default c = (
  c.loop-pair.invariant.0,
  λ positive shared pairs none.
      let all = c.args.all.now in
      let i = c.loop-pair.pair-index in
      let blank : Pair = record { first = 0; second = 0; shared = 0 } in
      let pair = get_or c.args.pairs.now i blank in
      let of = All-at (IsPairOf all) c.args.pairs.now i pair pairs (slice_get-get_or c.args.pairs.now i blank c.loop-pair-test.true) in
      let within = slice_get_within all pair.shared of.shared of.there in
      absurd (grind (arith, nat_tests, c.in_default.ensures.lookup, within)),
)

pub loop-pair-preserved-in_default-2 : goal.loop-pair-preserved-in_default-2
loop-pair-preserved-in_default-2 c = (
  c.loop-pair.invariant.0,
  λ positive shared pairs none.
      let all = c.args.all.now in
      let seen = map rule_view c.args.rules.now in
      let i = c.loop-pair.pair-index in
      let blank : Pair = record { first = 0; second = 0; shared = 0 } in
      let pair = get_or c.args.pairs.now i blank in
      let of = All-at (IsPairOf all) c.args.pairs.now i pair pairs (slice_get-get_or c.args.pairs.now i blank c.loop-pair-test.true) in
      let one = c.in-Some.shared.now in
      let there = at_place all pair.shared one c.in-Some.ensures.lookup.3.0 c.in-Some.ensures.lookup.1 in
      let must = pair_overlaps c.args.words.now seen c.args.count all pair one shared of there in
      absurd (c.in_ok-overlap.ensures.unless c.in_default-2.is (subst (λ cs. MustOverlap c.args.words.now seen c.args.count cs pair.first pair.second) (sym c.deref.ensures.value) must)),
)
