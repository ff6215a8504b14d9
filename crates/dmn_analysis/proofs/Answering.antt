-- What a search has found, as it is told of a table.
use Rattle.std.proofs.Common.{◌≡◌, ◌∙◌, sym, ap, subst, ℕ, ◌<◌, ◌≤◌, ◌⊎◌, inl, inr, List, [], ◌∷◌, ◌++◌, length, map, refl, true, false, IsTrue, Some, None, arith}
use Rattle.std.specs.List.{slice_get, All}
use Rattle.std.proofs.lemmas.List.Elements.{All-weaker}
use Rattle.std.proofs.lemmas.Option.{same_Some, slice_get_past, slice_get_within}
use Rattle.feel_value.specs.Datum.{Datum}
use Rattle.feel_value.specs.Limits.{is_value}
use Rattle.feel_text.specs.Meaning.{Bindings}
use Rattle.dmn_table.specs.Hits.{does_hit}
use Rattle.dmn_table.specs.Table.{Rule, Table}
use Rattle.dmn_analysis.specs.Cells.{AllInOrder, AreIn}
use Rattle.dmn_analysis.specs.Claims.{AlwaysHit, AreAsked, AreInputs, GoesBefore, HasHit, IsGapIn, IsInGap, IsMaskedAmong, KeepLimits, NeverHits, NeverTwo, TellsGap, TellsGaps}
use Rattle.dmn_analysis.specs.Constant.{AreConstant, is_constant}
use Rattle.dmn_analysis.specs.Joining.{AreCovered, AreMissed}
use Rattle.dmn_analysis.specs.Searching.{CannotHit, IsAmong, IsBare, IsInSome, Knows, Scene, cells_of}
use Rattle.dmn_analysis.specs.Sharing.{KnowsPairs}
use Rattle.dmn_analysis.specs.Telling.{HasHitAmong, IsBehind, IsDealtWith, IsMaskedOn, IsToldGap}
use Rattle.dmn_analysis.specs.Whole.{AreWhole}
use Rattle.dmn_analysis.specs.declared.asked.Asked.{Asked}
use Rattle.dmn_analysis.specs.declared.cell.Cell.{Cell}
use Rattle.dmn_analysis.specs.declared.cell.Words.{Words}
use Rattle.dmn_analysis.specs.declared.found.Gap.{Gap}
use Rattle.dmn_analysis.specs.declared.found.Gaps.{Gaps}
use Rattle.dmn_analysis.specs.declared.gaps.Bare.{Bare}
use Rattle.dmn_analysis.specs.declared.gaps.Search.{Search}
use Rattle.dmn_analysis.specs.declared.pairs.PairSearch.{PairSearch}
use Rattle.dmn_analysis.proofs.HitRules.{mapped}
use Rattle.dmn_analysis.proofs.Constants.{misses}
use Rattle.dmn_analysis.proofs.Places.{All-at, All-from_places}

-- two lists of which nothing is left
pub both_empty : (xs ys : List ℕ) → xs ++ ys ≡ [] → (xs ≡ []) × (ys ≡ [])
both_empty [] ys e = (refl, e)
both_empty (x ∷ xs) ys e = cc

nowhere : (words : List Words) (values : List Datum) → IsInSome words [] values → ⊥
nowhere words values h = let e : None ≡ Some h.cells = h.there in cc

-- values that are asked about are in the whole cells
pub in_whole : (words : List Words) (asked : List Asked) (cells : List Cell) (values : List Datum) → AreWhole words asked cells → All (λ v. is_value v ≡ true) values → AreAsked asked values → AreIn words cells values
in_whole words asked cells values whole lawful all = λ k ws c v of there has.
    let one = whole k ws c of there in
    one.is_whole v (All-at (λ v. is_value v ≡ true) values k v lawful has) (all k one.asked_there v one.there has)

-- ---- gaps

pub tells_gaps : (t : Table) (asked : List Asked) (cells : List Cell) (first : List ℕ) (search : Search) (gaps : Gaps) → length cells ≡ length t.inputs → AllInOrder gaps.words.items → AreWhole gaps.words.items asked cells
    → ((r : ℕ) → r < length t.rules → IsAmong first r) → Knows (record { words = gaps.words.items; rules = t.rules; chosen = length t.rules; first = first; whole = cells }) search
    → All (IsToldGap (record { words = gaps.words.items; rules = t.rules; chosen = length t.rules; first = first; whole = cells }) (length t.inputs)) gaps.found.items
    → (IsTrue gaps.is_all → gaps.more ≡ 0 → All (λ (b : Bare). (values : List Datum) → length values ≡ length cells → All (λ v. is_value v ≡ true) values → AreIn gaps.words.items b.cells.items values → IsInGap gaps.words.items gaps.found.items values) search.bare.items)
    → (IsTrue gaps.is_all → (search.pending.items ≡ []) × (search.open.items ≡ [])) → (IsTrue gaps.is_all → KeepLimits t.rules) → TellsGaps t asked gaps
tells_gaps t asked cells first search gaps long order whole each knows told covers done kept = record {
  each = All-weaker (IsToldGap s (length t.inputs)) (TellsGap t gaps.words.items) (λ gap is. record {
    none = λ m values r rule same inside there. is.bare.none r rule (each r (slice_get_within t.rules r rule there)) there order m values same inside;
    witness = is.witness;
  }) gaps.found.items told;
  all = all_told;
  complete = λ sure zero nothing. record {
    hit = λ m values inputs are_asked.
        elim (all_told sure zero m values inputs are_asked) [
          | inl hit ↦ hit
          | inr gap ↦ absurd (no_gap gap.place gap.gap (ap (λ gs. slice_get gs gap.place) (sym nothing) ∙ gap.there))
        ];
    kept = kept sure;
  };
}
  where
    s : Scene
    s = record { words = gaps.words.items; rules = t.rules; chosen = length t.rules; first = first; whole = cells }

    no_gap : (k : ℕ) (g : Gap) → slice_get [] k ≡ Some g → ⊥
    no_gap k g e = let none : None ≡ Some g = e in cc

    all_told : IsTrue gaps.is_all → gaps.more ≡ 0 → (m : Bindings) (values : List Datum) → AreInputs (length t.inputs) values → AreAsked asked values → HasHit m values t.rules ⊎ IsInGap gaps.words.items gaps.found.items values
    all_told sure zero m values inputs are_asked =
        elim (knows.parted (done sure).1 m values (record {
          long = inputs.one_each ∙ sym long;
          lawful = inputs.lawful;
          inside = in_whole gaps.words.items asked cells values whole inputs.lawful are_asked;
          chosen = λ rule there. let none : None ≡ Some rule = sym (slice_get_past t.rules (length t.rules) (omega arith)) ∙ there in cc;
        })) [
          | inl hit ↦ inl (record { place = hit.number; rule = hit.rule; there = hit.there; hits = hit.hits })
          | inr rest ↦ elim rest [
            | inl b ↦
                let one = mapped (λ (b : Bare). b.cells.items) search.bare.items b.place b.cells b.there in
                inr (All-at (λ (b : Bare). (values : List Datum) → length values ≡ length cells → All (λ v. is_value v ≡ true) values → AreIn gaps.words.items b.cells.items values → IsInGap gaps.words.items gaps.found.items values) search.bare.items b.place one.0 (covers sure zero) one.1
                values (inputs.one_each ∙ sym long) inputs.lawful (subst (λ cs. AreIn gaps.words.items cs values) (sym one.2) b.inside))
            | inr p ↦ absurd (nowhere gaps.words.items values (subst (λ ps. IsInSome gaps.words.items (cells_of ps) values) (done sure).0 p))
          ]
        ]

-- ---- overlaps

pub never_two : (t : Table) (words : List Words) (asked : List Asked) (cells : List Cell) (first : List ℕ) (search : PairSearch) → length cells ≡ length t.inputs → AreWhole words asked cells
    → ((r : ℕ) → r < length t.rules → IsAmong first r)
    → KnowsPairs (record { words = words; rules = t.rules; chosen = length t.rules; first = first; whole = cells }) search
    → search.pending.items ≡ [] → search.open.items ≡ [] → search.shared.items ≡ [] → NeverTwo (length t.inputs) t.rules asked
never_two t words asked cells first search long whole each knows none unopened unshared m values inputs are_asked i j r q less there other hits also =
    elim (knows.parted unopened unshared m values (record { one_each = inputs.one_each ∙ sym long; lawful = inputs.lawful }) (in_whole words asked cells values whole inputs.lawful are_asked)) [
      | inl few ↦ few i j r q less (each i (slice_get_within t.rules i r there)) (each j (slice_get_within t.rules j q other)) there other hits also
      | inr p ↦ nowhere words values (subst (λ ps. IsInSome words (cells_of ps) values) none p)
    ]

-- ---- single rules

pub behind_from : (s : Scene) (search : Search) → Knows s search → search.pending.items ≡ [] → search.open.items ≡ [] → search.bare.items ≡ [] → IsBehind s.words s.rules s.whole s.chosen s.first
behind_from s search knows none unopened covered m values long lawful inside chosen =
    elim (knows.parted unopened m values (record { long = long; lawful = lawful; inside = inside; chosen = chosen })) [
      | inl hit ↦ record { number = hit.number; among = hit.among; rule = hit.rule; there = hit.there; hits = hit.hits }
      | inr rest ↦ elim rest [
        | inl b ↦ absurd (nowhere s.words values (subst (λ bs. IsInSome s.words (map (λ (b : Bare). b.cells.items) bs) values) covered b))
        | inr p ↦ absurd (nowhere s.words values (subst (λ ps. IsInSome s.words (cells_of ps) values) none p))
      ]
    ]

-- one of all rules hits, where none is chosen
pub always_hit : (words : List Words) (rules : List Rule) (asked : List Asked) (cells : List Cell) (count chosen : ℕ) (first : List ℕ) → length cells ≡ count → AreWhole words asked cells → length rules ≤ chosen
    → IsBehind words rules cells chosen first → AlwaysHit count rules asked
always_hit words rules asked cells count chosen first long whole past behind m values inputs are_asked =
    let hit = behind m values (inputs.one_each ∙ sym long) inputs.lawful (in_whole words asked cells values whole inputs.lawful are_asked)
    (λ rule there. let none : None ≡ Some rule = sym (slice_get_past rules chosen past) ∙ there in cc) in
    record { place = hit.number; rule = hit.rule; there = hit.there; hits = hit.hits }

nobody : (rules : List Rule) (m : Bindings) (values : List Datum) → HasHitAmong rules [] m values → ⊥
nobody rules m values h = let e : None ≡ Some h.number = h.among.there in cc

pub never_hits : (words : List Words) (rules : List Rule) (asked : List Asked) (cells : List Cell) (count i : ℕ) → length cells ≡ count → AreWhole words asked cells
    → IsBehind words rules cells i [] → NeverHits count rules asked i
never_hits words rules asked cells count i long whole behind m values inputs are_asked r there hits =
    nobody rules m values (behind m values (inputs.one_each ∙ sym long) inputs.lawful (in_whole words asked cells values whole inputs.lawful are_asked)
    (λ q here. subst (λ x. does_hit m values x ≡ Some true) (same_Some r q (sym there ∙ here)) hits))

pub masked : (t : Table) (words : List Words) (asked : List Asked) (cells : List Cell) (i : ℕ) → length cells ≡ length t.inputs → AreWhole words asked cells
    → IsMaskedOn t words cells i → IsMaskedAmong t asked i
masked t words asked cells i long whole on m values inputs are_asked r there hits =
    let found = on.behind m values (inputs.one_each ∙ sym long) inputs.lawful (in_whole words asked cells values whole inputs.lawful are_asked)
    (λ q here. subst (λ x. does_hit m values x ≡ Some true) (same_Some r q (sym there ∙ here)) hits) in
    record { place = found.number; before = All-at (λ j. GoesBefore t j i) on.first found.among.place found.number on.before found.among.there; rule = found.rule; there = found.there; hits = found.hits }

-- ---- gaps of cells that were joined

pub in_told : (s : Scene) (words : List Words) (found : List Gap) (all : List Bare) (cells : List Cell) → AreCovered cells all → All (IsBare s) all → All (λ (b : Bare). IsDealtWith words found b.cells.items) all
    → (values : List Datum) → length values ≡ length s.whole → All (λ v. is_value v ≡ true) values → AreIn words cells values → IsInGap words found values
in_told s words found all cells covered bare told values long lawful inside =
    let b = covered words values inside in
    let one = mapped (λ (b : Bare). b.cells.items) all b.place b.cells b.there in
    let here = subst (λ cs. AreIn words cs values) (sym one.2) b.inside in
    elim (All-at (λ (b : Bare). IsDealtWith words found b.cells.items) all b.place one.0 told one.1) [
      | inl gap ↦ record { place = gap.place; gap = gap.gap; there = gap.there; inside = subst (λ cs. AreIn words cs values) (sym gap.same) here }
      | inr void ↦ absurd (void values (long ∙ sym (All-at (IsBare s) all b.place one.0 bare one.1).long) lawful here)
    ]

-- ---- gaps that are decided

pub missed_from_bare : (s : Scene) (count : ℕ) (all : List Bare) → length s.whole ≡ count → ((r : ℕ) → r < length s.rules → IsAmong s.first r) → All (IsBare s) all → All (AreMissed s.words s.rules count) all
missed_from_bare s count all long each bare =
    All-weaker (IsBare s) (AreMissed s.words s.rules count) (λ b is. record {
      long = is.long ∙ long;
      none = All-from_places (CannotHit s.words b.cells.items) s.rules (λ k r there. is.none k r (each k (slice_get_within s.rules k r there)) there);
    }) all bare

-- values of cells for which no rule hits, where each entry is constant
pub gap_from : (words : List Words) (rules : List Rule) (count : ℕ) (bare : Bare) (values : List Datum) → AllInOrder words → AreConstant rules → AreMissed words rules count bare → length values ≡ length bare.cells.items
    → AreIn words bare.cells.items values → IsGapIn count rules values
gap_from words rules count bare values order constant missed long inside = record {
  one_each = long ∙ missed.long;
  misses = All-from_places (λ r. does_hit [] values r ≡ Some false) rules (λ k r there.
      misses [] values r (λ j ts here. All-at (λ ts. is_constant ts ≡ true) r.tests j ts (All-at (λ r. All (λ ts. is_constant ts ≡ true) r.tests) rules k r constant there) here)
      (All-at (CannotHit words bare.cells.items) rules k r missed.none there order [] values long inside));
}
