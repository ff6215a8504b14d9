-- Searches for rules of two groups that hit for the same values.
use Rattle.std.proofs.Common.{◌≡◌, ◌∙◌, sym, ap, subst, ℕ, ◌<◌, ◌⊎◌, inl, inr, List, [], ◌∷◌, ◌++◌, length, get_or, None, Some, arith}
use Rattle.std.specs.List.{slice_get, All}
use Rattle.std.proofs.lemmas.List.Elements.{All-nil, All-push}
use Rattle.std.proofs.lemmas.Option.{same_Some, slice_get-get_or, slice_get_within}
use Rattle.feel_value.specs.Datum.{Datum}
use Rattle.dmn_table.specs.Table.{Table}
use Rattle.dmn_analysis.specs.Cells.{AllInOrder, AreIn}
use Rattle.dmn_analysis.specs.Claims.{IsUniqueAmong}
use Rattle.dmn_analysis.specs.Cutting.{AreHalves}
use Rattle.dmn_analysis.specs.Grouping.{AreOfOneGroup, HitInOneGroup, KnowsGroups, KnowsGroupsBut}
use Rattle.dmn_analysis.specs.Searching.{AreLeft, IsAmong, IsInSome, IsPending, Scene, cells_of}
use Rattle.dmn_analysis.specs.Sharing.{IsRising}
use Rattle.dmn_analysis.specs.Telling.{IsVoid}
use Rattle.dmn_analysis.specs.Whole.{AreWhole}
use Rattle.dmn_analysis.specs.declared.asked.Asked.{Asked}
use Rattle.dmn_analysis.specs.declared.cell.Cell.{Cell}
use Rattle.dmn_analysis.specs.declared.cell.Words.{Words}
use Rattle.dmn_analysis.specs.declared.gaps.Pending.{Pending}
use Rattle.dmn_analysis.proofs.Answering.{in_whole}
use Rattle.dmn_analysis.proofs.HitRules.{mapped}
use Rattle.dmn_analysis.proofs.Places.{All-at, All-from_places, map_at, pushed}
use Rattle.dmn_analysis.proofs.Searches.{Grows, cell_at, grown, last_there, left_within, more_there, pending_grows}

-- the values that were left out are in cells that were cut in two
pub groups_cut : (s : Scene) (groups : List ℕ) (cells : List Cell) (old new : List Pending) (a b : Pending) → new ≡ (old ++ a ∷ []) ++ b ∷ [] → AllInOrder s.words → AreHalves cells b.cells.items a.cells.items
    → AreLeft s cells a.left.items → AreLeft s cells b.left.items → KnowsGroupsBut s groups cells old → KnowsGroups s groups new
groups_cut s groups cells old new a b is order halves left_a left_b knows = record {
  pending = subst (All (IsPending s)) (sym is) (All-push (IsPending s) (old ++ a ∷ []) b (All-push (IsPending s) old a knows.pending pending_a) pending_b);
  parted = λ m values inputs in_whole.
      elim (knows.parted m values inputs in_whole) [
        | inl one ↦ inl one
        | inr rest ↦ inr (elim rest [
          | inl p ↦ pending_grows s.words old new values pending_more p
          | inr inside ↦
              elim (halves.parted s.words values order (inputs.one_each ∙ sym knows.long) inside) [
                | inl low ↦ cell_at s.words new (length (old ++ a ∷ [])) b values (ap (λ ps. slice_get ps (length (old ++ a ∷ []))) is ∙ last_there (old ++ a ∷ []) b) low
                | inr high ↦ cell_at s.words new (length old) a values (ap (λ ps. slice_get ps (length old)) is ∙ more_there (old ++ a ∷ []) b a (length old) (last_there old a)) high
              ]
        ])
      ];
}
  where
    pending_a : IsPending s a
    pending_a = record { long = halves.upper_long ∙ knows.long; left = left_within s cells a.cells.items a.left.items halves.upper_long (λ values. halves.upper_within s.words values order) left_a }

    pending_b : IsPending s b
    pending_b = record { long = halves.lower_long ∙ knows.long; left = left_within s cells b.cells.items b.left.items halves.lower_long (λ values. halves.lower_within s.words values order) left_b }

    pending_more : Grows old new
    pending_more k x h = grown (old ++ a ∷ []) new b is k x (more_there old a x k h)

-- all rules that may hit for the values of the cells are of one group
pub groups_one : (s : Scene) (groups : List ℕ) (cells : List Cell) (left : List ℕ) (pending : List Pending) → AreOfOneGroup groups left → AllInOrder s.words → AreLeft s cells left → KnowsGroupsBut s groups cells pending → KnowsGroups s groups pending
groups_one s groups cells left pending one order are_left knows = record {
  pending = knows.pending;
  parted = λ m values inputs in_whole.
      elim (knows.parted m values inputs in_whole) [
        | inl known ↦ inl known
        | inr rest ↦ elim rest [
          | inl p ↦ inr p
          | inr inside ↦ inl (λ i j r q first second there other hits also.
              elim (are_left.others i r first there) [
                | inr cannot ↦ absurd (cannot order m values (inputs.one_each ∙ sym knows.long) inside hits)
                | inl a ↦ elim (are_left.others j q second other) [
                  | inr cannot ↦ absurd (cannot order m values (inputs.one_each ∙ sym knows.long) inside also)
                  | inl b ↦ one i j a b
                ]
              ])
        ]
      ];
}

-- there are no values in the cells
pub groups_void : (s : Scene) (groups : List ℕ) (cells : List Cell) (pending : List Pending) → IsVoid s.words cells → KnowsGroupsBut s groups cells pending → KnowsGroups s groups pending
groups_void s groups cells pending void knows = record {
  pending = knows.pending;
  parted = λ m values inputs in_whole.
      elim (knows.parted m values inputs in_whole) [
        | inl one ↦ inl one
        | inr rest ↦ elim rest [
          | inl p ↦ inr p
          | inr inside ↦ absurd (void values (inputs.one_each ∙ sym knows.long) inputs.lawful inside)
        ]
      ];
}

-- one is taken to be looked at
pub groups_popped : (s : Scene) (groups : List ℕ) (old new : List Pending) (next : Pending) → old ≡ new ++ next ∷ [] → KnowsGroups s groups old → KnowsGroupsBut s groups next.cells.items new × AreLeft s next.cells.items next.left.items
groups_popped s groups old new next is knows = (
  record {
    long = next_is.long;
    pending = All-from_places (IsPending s) new (λ k p there. All-at (IsPending s) old k p knows.pending (ap (λ ps. slice_get ps k) is ∙ more_there new next p k there));
    parted = λ m values inputs in_whole.
        elim (knows.parted m values inputs in_whole) [
          | inl one ↦ inl one
          | inr p ↦ inr (in_pending values p)
        ];
  },
  next_is.left,
)
  where
    next_is : IsPending s next
    next_is = All-at (IsPending s) old (length new) next knows.pending (ap (λ ps. slice_get ps (length new)) is ∙ last_there new next)

    in_pending : (values : List Datum) → IsInSome s.words (cells_of old) values → IsInSome s.words (cells_of new) values ⊎ AreIn s.words next.cells.items values
    in_pending values p =
        let one = mapped (λ (p : Pending). p.cells.items) old p.place p.cells p.there in
        elim (pushed new next one.0 p.place (ap (λ ps. slice_get ps p.place) (sym is) ∙ one.1)) [
          | inl before ↦ inl (record {
            place = p.place;
            cells = p.cells;
            there = map_at (λ (p : Pending). p.cells.items) new p.place one.0 before ∙ ap Some one.2;
            inside = p.inside;
          })
          | inr last ↦ inr (subst (λ cs. AreIn s.words cs values) (sym one.2 ∙ ap (λ (p : Pending). p.cells.items) (sym last.1)) p.inside)
        ]

-- all is to be looked at
pub groups_first : (s : Scene) (groups : List ℕ) (pending : List Pending) (first : Pending) → s.first ≡ first.left.items → s.whole ≡ first.cells.items → pending ≡ first ∷ [] → KnowsGroups s groups pending
groups_first s groups pending first left_is whole_is is = record {
  pending = subst (All (IsPending s)) (sym is) (All-push (IsPending s) [] first (All-nil (IsPending s)) first_is);
  parted = λ m values inputs in_whole. inr (record {
    place = 0;
    cells = first.cells.items;
    there = ap (λ ps. slice_get (cells_of ps) 0) is;
    inside = subst (λ cs. AreIn s.words cs values) whole_is in_whole;
  });
}
  where
    first_is : IsPending s first
    first_is = record {
      long = ap length (sym whole_is);
      left = record {
        among = subst (λ xs. All (IsAmong s.first) xs) left_is (All-from_places (IsAmong s.first) s.first (λ k x there. record { place = k; there = there }));
        others = λ r rule a of. inl (subst (λ xs. IsAmong xs r) left_is a);
      };
    }

nowhere : (words : List Words) (values : List Datum) → IsInSome words [] values → ⊥
nowhere words values h = let e : None ≡ Some h.cells = h.there in cc

-- nothing is left to be looked at
pub groups_known : (t : Table) (words : List Words) (asked : List Asked) (cells : List Cell) (first groups : List ℕ) → length cells ≡ length t.inputs → AreWhole words asked cells
    → ((r : ℕ) → r < length t.rules → IsAmong first r)
    → KnowsGroups (record { words = words; rules = t.rules; chosen = length t.rules; first = first; whole = cells }) groups []
    → HitInOneGroup t asked groups
groups_known t words asked cells first groups long whole each knows m values inputs are_asked i j r q there other hits also =
    elim (knows.parted m values (record { one_each = inputs.one_each ∙ sym long; lawful = inputs.lawful }) (in_whole words asked cells values whole inputs.lawful are_asked)) [
      | inl one ↦ one i j r q (each i (slice_get_within t.rules i r there)) (each j (slice_get_within t.rules j q other)) there other hits also
      | inr p ↦ absurd (nowhere words values p)
    ]

-- where each rule has a group of its own, no two hit
pub each_alone : (t : Table) (asked : List Asked) (groups : List ℕ) → length groups ≡ length t.rules → IsRising groups → HitInOneGroup t asked groups → IsUniqueAmong t asked
each_alone t asked groups long rising one m values inputs are_asked i j r q less there other hits also =
    let first : i < length groups = subst (λ n. i < n) (sym long) (slice_get_within t.rules i r there) in
    let second : j < length groups = subst (λ n. j < n) (sym long) (slice_get_within t.rules j q other) in
    let a = slice_get-get_or groups i 0 first in
    let b = slice_get-get_or groups j 0 second in
    let same = same_Some (get_or groups i 0) (get_or groups j 0) (sym a ∙ one m values inputs are_asked i j r q there other hits also ∙ b) in
    omega (arith, same, rising i j (get_or groups i 0) (get_or groups j 0) less a b)
