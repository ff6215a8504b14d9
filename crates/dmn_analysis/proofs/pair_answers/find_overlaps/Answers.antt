use Rattle.std.proofs.Common.{◌≡◌, ◌∙◌, ◌<◌, refl, sym, ap, subst, arith, length, map}
use Rattle.std.specs.List.{All}
use Rattle.std.proofs.lemmas.List.{length-map}
use Rattle.dmn_table.specs.Parts.{rule_view}
use Rattle.dmn_analysis.specs.Claims.{AreKnown, AreOverlappingIn}
use Rattle.dmn_analysis.specs.Constant.{AreConstant}
use Rattle.dmn_analysis.specs.Searching.{Scene}
use Rattle.dmn_analysis.specs.Sharing.{IsPairOf, IsShared}
use Rattle.dmn_analysis.specs.Whole.{AreWhole}
use Rattle.dmn_analysis.specs.declared.found.Overlap.{Overlap}
use Rattle.dmn_analysis.specs.declared.pairs.Shared.{Shared}
use Rattle.dmn_analysis.proofs.Answering.{never_two}
use Rattle.dmn_analysis.proofs.Searches.{steps_left}
use Rattle.dmn_analysis.proofs.Sharings.{none_shared}
use Rattle.dmn_analysis.proofs.pair_answers.find_overlaps.Goals as goal

pub returns-clause-tells : goal.returns-clause-tells
returns-clause-tells c =
    let t = c.args.table.now in
    let asked = c.args.asked.now in
    let words = c.in_ok-words.words.items in
    let cells = c.in-Some.cells.items in
    let first = c.in_ok-left.left.items in
    let search = c.in_ok-search.search in
    let rules = c.rules-rules.ensures.rules in
    let inputs = c.inputs-count.ensures in
    let s : Scene = record { words = words; rules = t.rules; chosen = length t.rules; first = first; whole = cells } in
    let long = rw c.in-Some.is at c.in_ok-cells.ensures.long in
    let whole = rw c.in-Some.is at c.in_ok-cells.ensures.all in
    let same_count : length t.rules ≡ length c.rules-rules.result.now = ap length (sym rules) ∙ length-map c.rules-rules.result.now rule_view in
    let in_rows : t.rules ≡ c.deref-3.result.now = sym rules ∙ sym c.in_ok-rows.ensures ∙ sym c.deref-3.ensures.value in
    let knows = c.in_ok-search.ensures.known s (sym c.deref-2.ensures.value) in_rows refl refl c.in_ok-left.ensures.rising in
    let found = c.in_ok-found.ensures.each in
    record {
      each = subst (λ is. All (λ (o : Overlap). AreOverlappingIn (length is) t.rules o.first o.second o.values.items) c.in_ok-found.found.items) inputs
          (subst (λ rs. All (λ (o : Overlap). AreOverlappingIn (length c.inputs-count.result.now) rs o.first o.second o.values.items) c.in_ok-found.found.items) rules found);
      unique = λ sure nothing.
          let done = c.are_all-is_all.ensures.done sure in
          never_two t words asked cells first search (long ∙ ap length inputs) (subst (λ ws. AreWhole ws asked cells) c.deref.ensures.value whole)
          (λ r less. c.in_ok-left.ensures.each r (omega (arith, less, same_count))) knows done.0 done.1 (c.are_all-is_all.ensures.none sure (c.deref-8.ensures.value ∙ nothing));
    }

pub returns-clause-decides : goal.returns-clause-decides
returns-clause-decides c = λ constant known positive less nothing.
    let t = c.args.table.now in
    let words = c.in_ok-words.words.items in
    let cells = c.in-Some.cells.items in
    let first = c.in_ok-left.left.items in
    let search = c.in_ok-search.search in
    let rules = c.rules-rules.ensures.rules in
    let count = length c.inputs-count.result.now in
    let s : Scene = record { words = words; rules = t.rules; chosen = length t.rules; first = first; whole = cells } in
    let long = rw c.in-Some.is at c.in_ok-cells.ensures.long in
    let in_rows : t.rules ≡ c.deref-3.result.now = sym rules ∙ sym c.in_ok-rows.ensures ∙ sym c.deref-3.ensures.value in
    let knows = c.in_ok-search.ensures.known s (sym c.deref-2.ensures.value) in_rows refl refl c.in_ok-left.ensures.rising in
    let seen = map rule_view c.rules-rules.result.now in
    let all = search.shared.items in
    let shared : All (IsShared words seen count) all = subst (λ n. All (IsShared words seen n) all) long (subst (λ rs. All (IsShared words rs (length cells)) all) (sym rules) knows.shared) in
    let told = c.deref-6.result.now in
    let shared_there = subst (λ ws. All (IsShared ws seen count) told) (sym c.deref-5.ensures.value) (subst (All (IsShared words seen count)) (sym c.deref-6.ensures.value) shared) in
    let pairs_there = subst (All (IsPairOf told)) (sym c.deref-7.ensures.value) (subst (λ ss. All (IsPairOf ss) c.in_ok-pairs.pairs.found.items) (c.deref-4.ensures.value ∙ sym c.deref-6.ensures.value) c.in_ok-pairs.ensures.each) in
    let no_pairs = sym c.deref-7.ensures.value ∙ c.in_ok-found.ensures.some positive shared_there pairs_there nothing in
    let few = subst (All (λ (x : Shared). length x.rules.items < 2)) c.deref-4.ensures.value (c.in_ok-pairs.ensures.some no_pairs) in
    let unshared = none_shared words seen count all shared few in
    let left = steps_left c.args.steps c.find_shared.new.steps (subst (λ n. n < c.args.steps) c.saturating_sub-2.ensures less) in
    c.are_all-is_all.ensures.all (c.in_ok-pairs.ensures.none no_pairs) unshared (c.in_ok-search.ensures.ended (omega arith) left unshared) (c.in_ok-search.ensures.decided (subst AreConstant in_rows constant))

pub returns-in_default-clause-decides : goal.returns-in_default-clause-decides
returns-in_default-clause-decides c = λ constant known positive less nothing.
    absurd (c.in_ok-cells.ensures.none c.in_default.is (omega (arith, c.in_ok-words.ensures.count, ap length c.deref.ensures.value))
    (subst (λ is. AreKnown (length is) c.deref.result.now c.args.asked.now) (sym c.inputs-count.ensures) (known c.deref.result.now)))
