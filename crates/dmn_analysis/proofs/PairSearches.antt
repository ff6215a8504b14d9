-- Searches for two rules.
use Rattle.std.proofs.Common.{◌≡◌, ◌∙◌, sym, ap, subst, ℕ, zero, suc, ◌<◌, ◌⊎◌, inl, inr, List, [], ◌∷◌, ◌++◌, length, Some, None, arith}
use Rattle.std.specs.List.{slice_get, All}
use Rattle.std.proofs.lemmas.List.Elements.{All-nil, All-push}
use Rattle.std.proofs.lemmas.Option.{same_Some}
use Rattle.feel_value.specs.Datum.{Datum}
use Rattle.dmn_analysis.specs.Cells.{AllInOrder, AreIn}
use Rattle.dmn_analysis.specs.Cutting.{AreHalves}
use Rattle.dmn_analysis.specs.Searching.{AreLeft, IsAmong, IsInSome, IsPending, Scene, cells_of}
use Rattle.dmn_analysis.specs.Sharing.{ArePending, AreShared, IsRising, IsShared, KnowsPairs, KnowsPairsBut}
use Rattle.dmn_analysis.specs.Telling.{IsVoid}
use Rattle.dmn_analysis.specs.declared.cell.Cell.{Cell}
use Rattle.dmn_analysis.specs.declared.gaps.Pending.{Pending}
use Rattle.dmn_analysis.specs.declared.pairs.PairSearch.{PairSearch}
use Rattle.dmn_analysis.specs.declared.pairs.Shared.{Shared}
use Rattle.dmn_analysis.proofs.HitRules.{mapped}
use Rattle.dmn_analysis.proofs.Places.{All-at, All-from_places, map_at, pushed}
use Rattle.dmn_analysis.proofs.Searches.{Grows, cell_at, grown, kept_same, last_there, left_within, more_there, not_empty, pending_grows}

pending_push : (s : Scene) (old : List Pending) (p : Pending) → ArePending s old → IsPending s p → IsRising p.left.items → ArePending s (old ++ p ∷ [])
pending_push s old p h is rising = (All-push (IsPending s) old p h.0 is, All-push (λ (p : Pending). IsRising p.left.items) old p h.1 rising)

-- the values that were left out are in cells that were cut in two
pub pairs_cut : (s : Scene) (cells : List Cell) (old new : PairSearch) (a b : Pending) → new.pending.items ≡ (old.pending.items ++ a ∷ []) ++ b ∷ [] → new.shared.items ≡ old.shared.items → new.open.items ≡ old.open.items
    → AllInOrder s.words → AreHalves cells b.cells.items a.cells.items → AreLeft s cells a.left.items → AreLeft s cells b.left.items → IsRising a.left.items → IsRising b.left.items → KnowsPairsBut s cells old → KnowsPairs s new
pairs_cut s cells old new a b is shared_is open_is order halves left_a left_b rising_a rising_b knows = record {
  pending = subst (ArePending s) (sym is) (pending_push s (old.pending.items ++ a ∷ []) b (pending_push s old.pending.items a knows.pending pending_a rising_a) pending_b rising_b);
  shared = subst (AreShared s) (sym shared_is) knows.shared;
  parted = λ none unshared m values inputs in_whole.
      elim (knows.parted (sym open_is ∙ none) (sym shared_is ∙ unshared) m values inputs in_whole) [
        | inl few ↦ inl few
        | inr rest ↦ inr (elim rest [
          | inl p ↦ pending_grows s.words old.pending.items new.pending.items values pending_more p
          | inr inside ↦
              elim (halves.parted s.words values order (inputs.one_each ∙ sym knows.long) inside) [
                | inl low ↦ cell_at s.words new.pending.items (length (old.pending.items ++ a ∷ [])) b values (ap (λ ps. slice_get ps (length (old.pending.items ++ a ∷ []))) is ∙ last_there (old.pending.items ++ a ∷ []) b) low
                | inr high ↦ cell_at s.words new.pending.items (length old.pending.items) a values (ap (λ ps. slice_get ps (length old.pending.items)) is ∙ more_there (old.pending.items ++ a ∷ []) b a (length old.pending.items) (last_there old.pending.items a)) high
              ]
        ])
      ];
}
  where
    pending_a : IsPending s a
    pending_a = record { long = halves.upper_long ∙ knows.long; left = left_within s cells a.cells.items a.left.items halves.upper_long (λ values. halves.upper_within s.words values order) left_a }

    pending_b : IsPending s b
    pending_b = record { long = halves.lower_long ∙ knows.long; left = left_within s cells b.cells.items b.left.items halves.lower_long (λ values. halves.lower_within s.words values order) left_b }

    pending_more : Grows old.pending.items new.pending.items
    pending_more k x h = grown (old.pending.items ++ a ∷ []) new.pending.items b is k x (more_there old.pending.items a x k h)

-- of at most one number
same_among : (xs : List ℕ) (i j : ℕ) → length xs < 2 → IsAmong xs i → IsAmong xs j → i ≡ j
same_among [] i j few a b = let e : None ≡ Some i = a.there in cc
same_among (x ∷ []) i j few a b = at_first x i a.place a.there ∙ sym (at_first x j b.place b.there)
  where
    at_first : (x y k : ℕ) → slice_get (x ∷ []) k ≡ Some y → y ≡ x
    at_first x y zero e = sym (same_Some x y e)
    at_first x y (suc k) e = cc
same_among (x ∷ y ∷ xs) i j few a b = absurd (omega (arith, few))

-- at most one of the rules may hit for the values of the cells
pub pairs_few : (s : Scene) (cells : List Cell) (left : List ℕ) (search : PairSearch) → length left < 2 → AllInOrder s.words → AreLeft s cells left → KnowsPairsBut s cells search → KnowsPairs s search
pairs_few s cells left search few order are_left knows = record {
  pending = knows.pending;
  shared = knows.shared;
  parted = λ none unshared m values inputs in_whole.
      elim (knows.parted none unshared m values inputs in_whole) [
        | inl one ↦ inl one
        | inr rest ↦ elim rest [
          | inl p ↦ inr p
          | inr inside ↦ inl (λ i j r q less first second there other hits also.
              elim (are_left.others i r first there) [
                | inr cannot ↦ cannot order m values (inputs.one_each ∙ sym knows.long) inside hits
                | inl a ↦ elim (are_left.others j q second other) [
                  | inr cannot ↦ cannot order m values (inputs.one_each ∙ sym knows.long) inside also
                  | inl b ↦ absurd (omega (arith, less, same_among left i j few a b))
                ]
              ])
        ]
      ];
}

-- several do
pub pairs_shared : (s : Scene) (cells : List Cell) (old new : PairSearch) (x : Shared) → new.pending.items ≡ old.pending.items → new.shared.items ≡ old.shared.items ++ x ∷ [] → IsShared s.words s.rules (length s.whole) x
    → KnowsPairsBut s cells old → KnowsPairs s new
pairs_shared s cells old new x is shared_is shared knows = record {
  pending = subst (ArePending s) (sym is) knows.pending;
  shared = subst (AreShared s) (sym shared_is) (All-push (IsShared s.words s.rules (length s.whole)) old.shared.items x knows.shared shared);
  parted = λ none unshared m values inputs in_whole. absurd (not_empty old.shared.items x (sym shared_is ∙ unshared));
}

-- there are no values in the cells
pub pairs_void : (s : Scene) (cells : List Cell) (search : PairSearch) → IsVoid s.words cells → KnowsPairsBut s cells search → KnowsPairs s search
pairs_void s cells search void knows = record {
  pending = knows.pending;
  shared = knows.shared;
  parted = λ none unshared m values inputs in_whole.
      elim (knows.parted none unshared m values inputs in_whole) [
        | inl one ↦ inl one
        | inr rest ↦ elim rest [
          | inl p ↦ inr p
          | inr inside ↦ absurd (void values (inputs.one_each ∙ sym knows.long) inputs.lawful inside)
        ]
      ];
}

-- it isn't known
pub pairs_open : (s : Scene) (cells : List Cell) (old new : PairSearch) (x : ℕ) → new.pending.items ≡ old.pending.items → new.shared.items ≡ old.shared.items → new.open.items ≡ old.open.items ++ x ∷ []
    → KnowsPairsBut s cells old → KnowsPairs s new
pairs_open s cells old new x is shared_is open_is knows = record {
  pending = subst (ArePending s) (sym is) knows.pending;
  shared = subst (AreShared s) (sym shared_is) knows.shared;
  parted = λ none unshared m values inputs in_whole. absurd (not_empty old.open.items x (sym open_is ∙ none));
}

pub pairs_open_but : (s : Scene) (cells : List Cell) (old new : PairSearch) (x : ℕ) → new.pending.items ≡ old.pending.items → new.shared.items ≡ old.shared.items → new.open.items ≡ old.open.items ++ x ∷ []
    → KnowsPairsBut s cells old → KnowsPairsBut s cells new
pairs_open_but s cells old new x is shared_is open_is knows = record {
  long = knows.long;
  pending = subst (ArePending s) (sym is) knows.pending;
  shared = subst (AreShared s) (sym shared_is) knows.shared;
  parted = λ none unshared m values inputs in_whole. absurd (not_empty old.open.items x (sym open_is ∙ none));
}

-- one is taken to be looked at
pub pairs_popped : (s : Scene) (old new : PairSearch) (next : Pending) → old.pending.items ≡ new.pending.items ++ next ∷ [] → new.shared.items ≡ old.shared.items → new.open.items ≡ old.open.items
    → KnowsPairs s old → KnowsPairsBut s next.cells.items new × (AreLeft s next.cells.items next.left.items × IsRising next.left.items)
pairs_popped s old new next is shared_is open_is knows = (
  record {
    long = next_is.long;
    pending = (before (IsPending s) knows.pending.0, before (λ (p : Pending). IsRising p.left.items) knows.pending.1);
    shared = subst (AreShared s) (sym shared_is) knows.shared;
    parted = λ none unshared m values inputs in_whole.
        elim (knows.parted (sym open_is ∙ none) (sym shared_is ∙ unshared) m values inputs in_whole) [
          | inl few ↦ inl few
          | inr p ↦ inr (in_pending values p)
        ];
  },
  (next_is.left, All-at (λ (p : Pending). IsRising p.left.items) old.pending.items (length new.pending.items) next knows.pending.1 next_there),
)
  where
    next_there : slice_get old.pending.items (length new.pending.items) ≡ Some next
    next_there = ap (λ ps. slice_get ps (length new.pending.items)) is ∙ last_there new.pending.items next

    next_is : IsPending s next
    next_is = All-at (IsPending s) old.pending.items (length new.pending.items) next knows.pending.0 next_there

    before : (P : Pending → Type 0) → All P old.pending.items → All P new.pending.items
    before P all = All-from_places P new.pending.items (λ k p there. All-at P old.pending.items k p all (ap (λ ps. slice_get ps k) is ∙ more_there new.pending.items next p k there))

    in_pending : (values : List Datum) → IsInSome s.words (cells_of old.pending.items) values → IsInSome s.words (cells_of new.pending.items) values ⊎ AreIn s.words next.cells.items values
    in_pending values p =
        let one = mapped (λ (p : Pending). p.cells.items) old.pending.items p.place p.cells p.there in
        elim (pushed new.pending.items next one.0 p.place (ap (λ ps. slice_get ps p.place) (sym is) ∙ one.1)) [
          | inl before ↦ inl (record {
            place = p.place;
            cells = p.cells;
            there = map_at (λ (p : Pending). p.cells.items) new.pending.items p.place one.0 before ∙ ap Some one.2;
            inside = p.inside;
          })
          | inr last ↦ inr (subst (λ cs. AreIn s.words cs values) (sym one.2 ∙ ap (λ (p : Pending). p.cells.items) (sym last.1)) p.inside)
        ]

-- all is to be looked at
pub pairs_first : (s : Scene) (search : PairSearch) (first : Pending) → s.first ≡ first.left.items → s.whole ≡ first.cells.items → search.pending.items ≡ first ∷ [] → search.shared.items ≡ [] → IsRising first.left.items → KnowsPairs s search
pairs_first s search first left_is whole_is is shared_is rising = record {
  pending = subst (ArePending s) (sym is) (pending_push s [] first (All-nil (IsPending s), All-nil (λ (p : Pending). IsRising p.left.items)) first_is rising);
  shared = subst (AreShared s) (sym shared_is) (All-nil (IsShared s.words s.rules (length s.whole)));
  parted = λ none unshared m values inputs in_whole. inr (record {
    place = 0;
    cells = first.cells.items;
    there = ap (λ ps. slice_get (cells_of ps) 0) is;
    inside = subst (λ cs. AreIn s.words cs values) whole_is in_whole;
  });
}
  where
    first_is : IsPending s first
    first_is = record {
      long = ap length (sym whole_is);
      left = record {
        among = subst (λ xs. All (IsAmong s.first) xs) left_is (All-from_places (IsAmong s.first) s.first (λ k x there. record { place = k; there = there }));
        others = λ r rule a of. inl (subst (λ xs. IsAmong xs r) left_is a);
      };
    }

-- nothing changed
pub pairs_same : (s : Scene) (old new : PairSearch) → new.pending.items ≡ old.pending.items → new.shared.items ≡ old.shared.items → new.open.items ≡ old.open.items → KnowsPairs s old → KnowsPairs s new
pairs_same s old new is shared_is open_is knows = record {
  pending = subst (ArePending s) (sym is) knows.pending;
  shared = subst (AreShared s) (sym shared_is) knows.shared;
  parted = λ none unshared m values inputs in_whole.
      elim (knows.parted (sym open_is ∙ none) (sym shared_is ∙ unshared) m values inputs in_whole) [
        | inl few ↦ inl few
        | inr p ↦ inr (pending_grows s.words old.pending.items new.pending.items values (kept_same old.pending.items new.pending.items is) p)
      ];
}
