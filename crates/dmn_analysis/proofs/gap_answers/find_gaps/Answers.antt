use Rattle.std.proofs.Common.{◌≡◌, ◌∙◌, refl, sym, ap, subst, ◌<◌, ◌++◌, List, true, IsTrue, arith, length, map}
use Rattle.std.specs.List.{All}
use Rattle.std.proofs.lemmas.List.{length-map}
use Rattle.std.proofs.lemmas.List.Elements.{All-weaker}
use Rattle.feel_value.specs.Datum.{Datum}
use Rattle.feel_value.specs.Limits.{is_value}
use Rattle.dmn_table.specs.Parts.{rule_view}
use Rattle.dmn_table.specs.Table.{Rule}
use Rattle.dmn_analysis.specs.Cells.{AreIn}
use Rattle.dmn_analysis.specs.Claims.{AreKnown, IsInGap, KeepLimits}
use Rattle.dmn_analysis.specs.Constant.{AreConstant}
use Rattle.dmn_analysis.specs.Joining.{AreCovered, AreMissed}
use Rattle.dmn_analysis.specs.Searching.{IsBare, Scene}
use Rattle.dmn_analysis.specs.Telling.{IsDealtWith, IsToldGap}
use Rattle.dmn_analysis.specs.Whole.{AreWhole}
use Rattle.dmn_analysis.specs.declared.found.Gaps.{Gaps}
use Rattle.dmn_analysis.specs.declared.gaps.Bare.{Bare}
use Rattle.dmn_analysis.proofs.Answering.{both_empty, in_told, missed_from_bare, tells_gaps}
use Rattle.dmn_analysis.proofs.Searches.{steps_left}
use Rattle.dmn_analysis.proofs.gap_answers.find_gaps.Goals as goal

pub returns-clause-tells : goal.returns-clause-tells
returns-clause-tells c =
    let t = c.args.table.now in
    let asked = c.args.asked.now in
    let words = c.in_ok-words.words in
    let cells = c.in-Some.cells.items in
    let first = c.in_ok-left.left.items in
    let search = c.in_ok-search.search in
    let rules = c.rules-rules.ensures.rules in
    let inputs = c.inputs-count.ensures in
    let all = c.in_ok-all.all.items in
    let gaps : Gaps = record { words = words; found = c.in_ok-told.told.found; more = c.in_ok-told.told.more; is_all = c.are_all-is_all.result; «open» = c.distinct.result; steps = c.saturating_sub.result } in
    let s : Scene = record { words = words.items; rules = t.rules; chosen = length t.rules; first = first; whole = cells } in
    let long = rw c.in-Some.is at c.in_ok-cells.ensures.long in
    let whole = rw c.in-Some.is at c.in_ok-cells.ensures.all in
    let in_rows = λ (rs : List Rule) (same : rs ≡ c.in_ok-rows.rows.items). sym rules ∙ sym c.in_ok-rows.ensures ∙ sym same in
    let same_count : length t.rules ≡ length c.rules-rules.result.now = ap length (sym rules) ∙ length-map c.rules-rules.result.now rule_view in
    let knows = c.in_ok-search.ensures.known s (sym c.deref-2.ensures.value) (in_rows c.deref-3.result.now c.deref-3.ensures.value) same_count refl refl in
    let bare = c.in_ok-all.ensures.bare s (sym c.deref-4.ensures.value) (in_rows c.deref-5.result.now c.deref-5.ensures.value) long knows.bare in
    let told = c.in_ok-told.ensures.each s (sym rules) (subst (All (IsBare s)) (sym c.deref-7.ensures.value) bare) in
    let opened = λ (sure : IsTrue c.are_all-is_all.result).
    both_empty search.open.items c.in_ok-broken.broken.items (sym (c.in_ok-open.ensures ∙ ap (λ xs. search.open.items ++ xs) c.deref-8.ensures.value) ∙ sym c.deref-10.ensures.value ∙ (c.are_all-is_all.ensures.done sure).1) in
    tells_gaps t asked cells first search gaps (long ∙ ap length inputs) c.in_ok-words.ensures.order (subst (λ ws. AreWhole ws asked cells) c.deref.ensures.value whole)
    (λ r less. c.in_ok-left.ensures.each r (omega (arith, less, same_count))) knows (subst (λ is. All (IsToldGap s (length is)) gaps.found.items) inputs told)
    (λ sure zero. All-weaker (λ (b : Bare). AreCovered b.cells.items all) (λ (b : Bare). (values : List Datum) → length values ≡ length cells → All (λ v. is_value v ≡ true) values → AreIn words.items b.cells.items values → IsInGap words.items gaps.found.items values) (λ b covered.
    in_told s words.items gaps.found.items all b.cells.items covered bare
    (subst (λ ws. All (λ (b : Bare). IsDealtWith ws gaps.found.items b.cells.items) all) c.deref-6.ensures.value (subst (All (λ (b : Bare). IsDealtWith c.deref-6.result.now gaps.found.items b.cells.items)) c.deref-7.ensures.value (c.in_ok-told.ensures.all (c.are_all-is_all.ensures.told sure) zero)))) search.bare.items c.in_ok-all.ensures.covered)
    (λ sure. let done = c.are_all-is_all.ensures.done sure in (sym c.deref-9.ensures.value ∙ done.0, (opened sure).0))
    (λ sure. subst KeepLimits rules (c.in_ok-broken.ensures.kept ((opened sure).1)))

pub returns-clause-decides : goal.returns-clause-decides
returns-clause-decides c = λ constant known positive less.
    let t = c.args.table.now in
    let words = c.in_ok-words.words.items in
    let cells = c.in-Some.cells.items in
    let first = c.in_ok-left.left.items in
    let rules = c.rules-rules.ensures.rules in
    let count = length c.inputs-count.result.now in
    let all = c.in_ok-all.all.items in
    let s : Scene = record { words = words; rules = t.rules; chosen = length t.rules; first = first; whole = cells } in
    let long = rw c.in-Some.is at c.in_ok-cells.ensures.long in
    let in_rows = λ (rs : List Rule) (same : rs ≡ c.in_ok-rows.rows.items). sym rules ∙ sym c.in_ok-rows.ensures ∙ sym same in
    let same_count : length t.rules ≡ length c.rules-rules.result.now = ap length (sym rules) ∙ length-map c.rules-rules.result.now rule_view in
    let knows = c.in_ok-search.ensures.known s (sym c.deref-2.ensures.value) (in_rows c.deref-3.result.now c.deref-3.ensures.value) same_count refl refl in
    let bare = c.in_ok-all.ensures.bare s (sym c.deref-4.ensures.value) (in_rows c.deref-5.result.now c.deref-5.ensures.value) long knows.bare in
    let constants = subst AreConstant (sym rules) constant in
    let missed = missed_from_bare s count all long (λ r less. c.in_ok-left.ensures.each r (omega (arith, less, same_count))) bare in
    let missed_here = subst (λ ws. All (AreMissed ws (map rule_view c.rules-rules.result.now) count) c.deref-7.result.now) (sym c.deref-6.ensures.value)
    (subst (λ bs. All (AreMissed words (map rule_view c.rules-rules.result.now) count) bs) (sym c.deref-7.ensures.value) (subst (λ rs. All (AreMissed words rs count) all) (sym rules) missed)) in
    record {
      all = c.are_all-is_all.ensures.all (c.in_ok-told.ensures.decided constants missed_here) (c.deref-9.ensures.value ∙ c.in_ok-search.ensures.ended refl (steps_left c.args.steps c.go_through.new.steps (subst (λ n. n < c.args.steps) c.saturating_sub.ensures less))) (c.deref-10.ensures.value ∙ c.in_ok-open.ensures ∙ ap (λ xs. xs ++ c.deref-8.result.now) (c.in_ok-search.ensures.decided (subst AreConstant (in_rows c.deref-3.result.now c.deref-3.ensures.value) constant)) ∙ c.deref-8.ensures.value ∙ c.in_ok-broken.ensures.none constants);
      one = c.in_ok-told.ensures.one positive;
    }

pub returns-in_default-clause-decides : goal.returns-in_default-clause-decides
returns-in_default-clause-decides c = λ constant known positive less.
    let asked = c.args.asked.now in
    let words = c.deref.result.now in
    let told = subst (λ ws. AreKnown (length c.args.table.now.inputs) ws asked) (c.nothing_told.ensures.words ∙ sym c.deref.ensures.value) known in
    let here = subst (λ is. AreKnown (length is) words asked) (sym c.inputs-count.ensures) told in
    absurd (c.in_ok-cells.ensures.none c.in_default.is (omega (arith, c.in_ok-words.ensures.count, ap length c.deref.ensures.value)) here)
