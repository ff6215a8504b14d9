-- Searches through cells.
use Rattle.std.proofs.Common.{◌≡◌, ◌∙◌, sym, ap, subst, refl, ℕ, zero, suc, ◌+◌, ◌-◌, ◌<◌, ◌⊎◌, inl, inr, List, [], ◌∷◌, ◌++◌, length, Some, None, arith}
use Rattle.std.specs.List.{slice_get, All}
use Rattle.std.proofs.lemmas.List.Elements.{All-cons, All-nil, All-push}
use Rattle.std.proofs.lemmas.Option.{same_Some, slice_get_within}
use Rattle.feel_value.specs.Datum.{Datum}
use Rattle.feel_text.specs.Meaning.{Bindings}
use Rattle.dmn_table.specs.Table.{Rule}
use Rattle.dmn_analysis.specs.Cells.{AllInOrder, AreIn}
use Rattle.dmn_analysis.specs.Cutting.{AreHalves}
use Rattle.dmn_analysis.specs.Searching.{AreBare, AreLeft, CannotHit, HasMissing, IsAmong, IsBare, IsInSome, IsPending, IsSure, IsTold, Knows, KnowsBut, Scene, bare_cells, cells_of}
use Rattle.dmn_analysis.specs.Telling.{IsVoid}
use Rattle.dmn_analysis.specs.declared.cell.Cell.{Cell}
use Rattle.dmn_analysis.specs.declared.cell.Words.{Words}
use Rattle.dmn_analysis.specs.declared.gaps.Bare.{Bare}
use Rattle.dmn_analysis.specs.declared.gaps.Pending.{Pending}
use Rattle.dmn_analysis.specs.declared.gaps.Search.{Search}
use Rattle.dmn_analysis.proofs.HitRules.{mapped}
use Rattle.dmn_analysis.proofs.Places.{All-at, All-from_places, below_next, map_at, pushed}

-- ---- numbers of rules

pub more_there : {X : Type 0} (xs : List X) (x y : X) (k : ℕ) → slice_get xs k ≡ Some y → slice_get (xs ++ x ∷ []) k ≡ Some y
more_there [] x y k h = cc
more_there (z ∷ xs) x y zero h = h
more_there (z ∷ xs) x y (suc k) h = more_there xs x y k h

pub last_there : {X : Type 0} (xs : List X) (x : X) → slice_get (xs ++ x ∷ []) (length xs) ≡ Some x
last_there [] x = refl
last_there (z ∷ xs) x = last_there xs x

pub among_more : (xs : List ℕ) (x y : ℕ) → IsAmong xs y → IsAmong (xs ++ x ∷ []) y
among_more xs x y a = record { place = a.place; there = more_there xs x y a.place a.there }

pub among_last : (xs : List ℕ) (x : ℕ) → IsAmong (xs ++ x ∷ []) x
among_last xs x = record { place = length xs; there = last_there xs x }

-- of the first rules that were left, those that are kept
pub record Sifted (s : Scene) (cells : List Cell) (left kept : List ℕ) (count : ℕ) : Type 0 where
  pub among : All (IsAmong s.first) kept
  pub others : (j r : ℕ) (rule : Rule) → j < count → slice_get left j ≡ Some r → slice_get s.rules r ≡ Some rule → IsAmong kept r ⊎ CannotHit s.words cells rule

-- one more that is not kept
pub sifted_out : (s : Scene) (cells : List Cell) (left kept : List ℕ) (count r : ℕ) → Sifted s cells left kept count → slice_get left count ≡ Some r
    → ((rule : Rule) → slice_get s.rules r ≡ Some rule → CannotHit s.words cells rule) → Sifted s cells left kept (count + 1)
sifted_out s cells left kept count r h there out = record {
  among = h.among;
  others = λ j q rule less here of.
      elim (below_next j count less) [
        | inl before ↦ h.others j q rule before here of
        | inr at ↦ inr (out rule (ap (slice_get s.rules) (same_Some r q (sym there ∙ ap (slice_get left) (sym at) ∙ here)) ∙ of))
      ];
}

-- one more that is
pub sifted_in : (s : Scene) (cells : List Cell) (left kept : List ℕ) (count r : ℕ) → Sifted s cells left kept count → slice_get left count ≡ Some r → All (IsAmong s.first) (kept ++ r ∷ [])
    → Sifted s cells left (kept ++ r ∷ []) (count + 1)
sifted_in s cells left kept count r h there among = record {
  among = among;
  others = λ j q rule less here of.
      elim (below_next j count less) [
        | inl before ↦ elim (h.others j q rule before here of) [ inl a ↦ inl (among_more kept r q a) | inr c ↦ inr c ]
        | inr at ↦ inl (subst (IsAmong (kept ++ r ∷ [])) (same_Some r q (sym there ∙ ap (slice_get left) (sym at) ∙ here)) (among_last kept r))
      ];
}

pub left_sifted : (s : Scene) (cells : List Cell) (left kept : List ℕ) (count : ℕ) → AreLeft s cells left → Sifted s cells left kept count → length left ≡ count → AreLeft s cells kept
left_sifted s cells left kept count before h all = record {
  among = h.among;
  others = λ r rule first of.
      elim (before.others r rule first of) [
        | inl a ↦ h.others a.place r rule (omega (arith, all, slice_get_within left a.place r a.there)) a.there of
        | inr c ↦ inr c
      ];
}

-- ---- lists that grow

-- what stands in the old list stands in the new one at its place
abbrev pub Grows : {X : Type 0} → List X → List X → Type 0
Grows {X} old new = (k : ℕ) (x : X) → slice_get old k ≡ Some x → slice_get new k ≡ Some x

pub grown : {X : Type 0} (old new : List X) (x : X) → new ≡ old ++ x ∷ [] → Grows old new
grown old new x is k y h = ap (λ xs. slice_get xs k) is ∙ more_there old x y k h

pub kept_same : {X : Type 0} (old new : List X) → new ≡ old → Grows old new
kept_same old new is k y h = ap (λ xs. slice_get xs k) is ∙ h

pub pending_grows : (words : List Words) (old new : List Pending) (values : List Datum) → Grows old new → IsInSome words (cells_of old) values → IsInSome words (cells_of new) values
pending_grows words old new values grows h =
    let one = mapped (λ (p : Pending). p.cells.items) old h.place h.cells h.there in
    record { place = h.place; cells = h.cells; there = map_at (λ (p : Pending). p.cells.items) new h.place one.0 (grows h.place one.0 one.1) ∙ ap Some one.2; inside = h.inside }

bare_grows : (words : List Words) (old new : Search) (values : List Datum) → Grows old.bare.items new.bare.items → IsInSome words (bare_cells old) values → IsInSome words (bare_cells new) values
bare_grows words old new values grows h =
    let one = mapped (λ (b : Bare). b.cells.items) old.bare.items h.place h.cells h.there in
    record { place = h.place; cells = h.cells; there = map_at (λ (b : Bare). b.cells.items) new.bare.items h.place one.0 (grows h.place one.0 one.1) ∙ ap Some one.2; inside = h.inside }

-- what was told is told
told_grows : (s : Scene) (old new : Search) (m : Bindings) (values : List Datum) → Grows old.pending.items new.pending.items → Grows old.bare.items new.bare.items → IsTold s old m values → IsTold s new m values
told_grows s old new m values pending bare told =
    elim told [
      | inl hit ↦ inl hit
      | inr rest ↦ inr (elim rest [ inl b ↦ inl (bare_grows s.words old new values bare b) | inr p ↦ inr (pending_grows s.words old.pending.items new.pending.items values pending p) ])
    ]

pub not_empty : {X : Type 0} (xs : List X) (x : X) → xs ++ x ∷ [] ≡ [] → ⊥
not_empty [] x e = cc
not_empty (y ∷ xs) x e = cc

-- ---- a part of cells

cannot_within : (words : List Words) (cells part : List Cell) (rule : Rule) → length part ≡ length cells → ((values : List Datum) → AreIn words part values → AreIn words cells values)
    → CannotHit words cells rule → CannotHit words part rule
cannot_within words cells part rule long within cannot order m values same inside hits = cannot order m values (same ∙ long) (within values inside) hits

pub left_within : (s : Scene) (cells part : List Cell) (left : List ℕ) → length part ≡ length cells → ((values : List Datum) → AreIn s.words part values → AreIn s.words cells values)
    → AreLeft s cells left → AreLeft s part left
left_within s cells part left long within h = record {
  among = h.among;
  others = λ r rule first of. elim (h.others r rule first of) [ inl a ↦ inl a | inr c ↦ inr (cannot_within s.words cells part rule long within c) ];
}

-- ---- turns

-- the values that were left out are in cells that were cut in two
pub known_cut : (s : Scene) (cells : List Cell) (old new : Search) (a b : Pending) → new.pending.items ≡ (old.pending.items ++ a ∷ []) ++ b ∷ [] → new.bare.items ≡ old.bare.items → new.open.items ≡ old.open.items
    → AllInOrder s.words → AreHalves cells b.cells.items a.cells.items → AreLeft s cells a.left.items → AreLeft s cells b.left.items → KnowsBut s cells old → Knows s new
known_cut s cells old new a b is bare_is open_is order halves left_a left_b knows = record {
  pending = subst (All (IsPending s)) (sym is) (All-push (IsPending s) (old.pending.items ++ a ∷ []) b (All-push (IsPending s) old.pending.items a knows.pending pending_a) pending_b);
  bare = subst (All (IsBare s)) (sym bare_is) knows.bare;
  parted = λ none m values searched.
      elim (knows.parted (sym open_is ∙ none) m values searched) [
        | inl told ↦ inl_told m values told
        | inr inside ↦
            elim (halves.parted s.words values order (searched.long ∙ sym knows.long) inside) [
              | inl low ↦ inr (inr (at_b values low))
              | inr high ↦ inr (inr (at_a values high))
            ]
      ];
}
  where
    pending_a : IsPending s a
    pending_a = record { long = halves.upper_long ∙ knows.long; left = left_within s cells a.cells.items a.left.items halves.upper_long (λ values. halves.upper_within s.words values order) left_a }

    pending_b : IsPending s b
    pending_b = record { long = halves.lower_long ∙ knows.long; left = left_within s cells b.cells.items b.left.items halves.lower_long (λ values. halves.lower_within s.words values order) left_b }

    pending_more : Grows old.pending.items new.pending.items
    pending_more k x h = grown (old.pending.items ++ a ∷ []) new.pending.items b is k x (more_there old.pending.items a x k h)

    inl_told : (m : Bindings) (values : List Datum) → IsTold s old m values → IsTold s new m values
    inl_told m values told = told_grows s old new m values pending_more (kept_same old.bare.items new.bare.items bare_is) told

    at_b : (values : List Datum) → AreIn s.words b.cells.items values → IsInSome s.words (cells_of new.pending.items) values
    at_b values low = record {
      place = length (old.pending.items ++ a ∷ []);
      cells = b.cells.items;
      there = map_at (λ (p : Pending). p.cells.items) new.pending.items (length (old.pending.items ++ a ∷ [])) b (ap (λ ps. slice_get ps (length (old.pending.items ++ a ∷ []))) is ∙ last_there (old.pending.items ++ a ∷ []) b);
      inside = low;
    }

    at_a : (values : List Datum) → AreIn s.words a.cells.items values → IsInSome s.words (cells_of new.pending.items) values
    at_a values high = record {
      place = length old.pending.items;
      cells = a.cells.items;
      there = map_at (λ (p : Pending). p.cells.items) new.pending.items (length old.pending.items) a
          (ap (λ ps. slice_get ps (length old.pending.items)) is ∙ more_there (old.pending.items ++ a ∷ []) b a (length old.pending.items) (last_there old.pending.items a));
      inside = high;
    }

-- one of the rules hits for all of them
pub known_hit : (s : Scene) (cells : List Cell) (left : List ℕ) (r : ℕ) (old new : Search) → new.pending.items ≡ old.pending.items → new.bare.items ≡ old.bare.items → new.open.items ≡ old.open.items
    → AllInOrder s.words → IsSure s.words s.rules cells left r → AreLeft s cells left → KnowsBut s cells old → Knows s new
known_hit s cells left r old new is bare_is open_is order sure are_left knows = record {
  pending = subst (All (IsPending s)) (sym is) knows.pending;
  bare = subst (All (IsBare s)) (sym bare_is) knows.bare;
  parted = λ none m values searched.
      elim (knows.parted (sym open_is ∙ none) m values searched) [
        | inl told ↦ told_grows s old new m values (kept_same old.pending.items new.pending.items is) (kept_same old.bare.items new.bare.items bare_is) told
        | inr inside ↦ inl (record {
          number = r;
          among = All-at (IsAmong s.first) left sure.among.place r are_left.among sure.among.there;
          rule = sure.rule;
          there = sure.there;
          hits = sure.must order m values (searched.long ∙ sym knows.long) inside;
        })
      ];
}

-- none of the rules hits for any of them
pub known_bare : (s : Scene) (cells : List Cell) (old new : Search) (b : Bare) → new.pending.items ≡ old.pending.items → new.bare.items ≡ old.bare.items ++ b ∷ [] → new.open.items ≡ old.open.items → b.cells.items ≡ cells
    → AreLeft s cells [] → KnowsBut s cells old → Knows s new
known_bare s cells old new b is bare_is open_is same are_left knows = record {
  pending = subst (All (IsPending s)) (sym is) knows.pending;
  bare = subst (All (IsBare s)) (sym bare_is) (All-push (IsBare s) old.bare.items b knows.bare (subst (AreBare s) (sym same) are_bare));
  parted = λ none m values searched.
      elim (knows.parted (sym open_is ∙ none) m values searched) [
        | inl told ↦ told_grows s old new m values (kept_same old.pending.items new.pending.items is) (grown old.bare.items new.bare.items b bare_is) told
        | inr inside ↦ inr (inl (record {
          place = length old.bare.items;
          cells = b.cells.items;
          there = map_at (λ (b : Bare). b.cells.items) new.bare.items (length old.bare.items) b (ap (λ bs. slice_get bs (length old.bare.items)) bare_is ∙ last_there old.bare.items b);
          inside = subst (λ cs. AreIn s.words cs values) (sym same) inside;
        }))
      ];
}
  where
    are_bare : AreBare s cells
    are_bare = record {
      long = knows.long;
      none = λ r rule first of. elim (are_left.others r rule first of) [ inl a ↦ absurd (nothing_among a) | inr c ↦ c ];
    }
      where
        nothing_among : {r : ℕ} → IsAmong [] r → ⊥
        nothing_among {r} a = let e : None ≡ Some r = a.there in cc

-- there are no values in the cells
pub known_void : (s : Scene) (cells : List Cell) (search : Search) → IsVoid s.words cells → KnowsBut s cells search → Knows s search
known_void s cells search void knows = record {
  pending = knows.pending;
  bare = knows.bare;
  parted = λ none m values searched.
      elim (knows.parted none m values searched) [
        | inl told ↦ told
        | inr inside ↦ absurd (void values (searched.long ∙ sym knows.long) searched.lawful inside)
      ];
}

-- it isn't known
pub known_open : (s : Scene) (cells : List Cell) (old new : Search) (x : ℕ) → new.pending.items ≡ old.pending.items → new.bare.items ≡ old.bare.items → new.open.items ≡ old.open.items ++ x ∷ []
    → KnowsBut s cells old → Knows s new
known_open s cells old new x is bare_is open_is knows = record {
  pending = subst (All (IsPending s)) (sym is) knows.pending;
  bare = subst (All (IsBare s)) (sym bare_is) knows.bare;
  parted = λ none m values searched. absurd (not_empty old.open.items x (sym open_is ∙ none));
}

-- the chosen rule hits for none of them
pub known_missing : (s : Scene) (cells : List Cell) (search : Search) → AllInOrder s.words → HasMissing s.words s.rules s.chosen cells → KnowsBut s cells search → Knows s search
known_missing s cells search order missing knows = record {
  pending = knows.pending;
  bare = knows.bare;
  parted = λ none m values searched.
      elim (knows.parted none m values searched) [
        | inl told ↦ told
        | inr inside ↦ absurd (missing.cannot order m values (searched.long ∙ sym knows.long) inside (searched.chosen missing.rule missing.there))
      ];
}

-- one is taken to be looked at
pub known_popped : (s : Scene) (old new : Search) (next : Pending) → old.pending.items ≡ new.pending.items ++ next ∷ [] → new.bare.items ≡ old.bare.items → new.open.items ≡ old.open.items
    → Knows s old → KnowsBut s next.cells.items new × AreLeft s next.cells.items next.left.items
known_popped s old new next is bare_is open_is knows = (
  record {
    long = next_is.long;
    pending = All-from_places (IsPending s) new.pending.items (λ k p there. All-at (IsPending s) old.pending.items k p knows.pending (ap (λ ps. slice_get ps k) is ∙ more_there new.pending.items next p k there));
    bare = subst (All (IsBare s)) (sym bare_is) knows.bare;
    parted = λ none m values searched.
        elim (knows.parted (sym open_is ∙ none) m values searched) [
          | inl hit ↦ inl (inl hit)
          | inr rest ↦ elim rest [
            | inl b ↦ inl (inr (inl (bare_grows s.words old new values (kept_same old.bare.items new.bare.items bare_is) b)))
            | inr p ↦ in_pending values p
          ]
        ];
  },
  next_is.left,
)
  where
    next_is : IsPending s next
    next_is = All-at (IsPending s) old.pending.items (length new.pending.items) next knows.pending (ap (λ ps. slice_get ps (length new.pending.items)) is ∙ last_there new.pending.items next)

    in_pending : {m : Bindings} (values : List Datum) → IsInSome s.words (cells_of old.pending.items) values → IsTold s new m values ⊎ AreIn s.words next.cells.items values
    in_pending values p =
        let one = mapped (λ (p : Pending). p.cells.items) old.pending.items p.place p.cells p.there in
        elim (pushed new.pending.items next one.0 p.place (ap (λ ps. slice_get ps p.place) (sym is) ∙ one.1)) [
          | inl before ↦ inl (inr (inr (record {
            place = p.place;
            cells = p.cells;
            there = map_at (λ (p : Pending). p.cells.items) new.pending.items p.place one.0 before ∙ ap Some one.2;
            inside = p.inside;
          })))
          | inr last ↦ inr (subst (λ cs. AreIn s.words cs values) (sym one.2 ∙ ap (λ (p : Pending). p.cells.items) (sym last.1)) p.inside)
        ]

-- all is to be looked at
pub known_first : (s : Scene) (search : Search) (first : Pending) → s.first ≡ first.left.items → s.whole ≡ first.cells.items → search.pending.items ≡ first ∷ [] → search.bare.items ≡ [] → Knows s search
known_first s search first left_is whole_is is bare_is = record {
  pending = subst (All (IsPending s)) (sym is) (All-cons (IsPending s) first [] first_is (All-nil (IsPending s)));
  bare = subst (All (IsBare s)) (sym bare_is) (All-nil (IsBare s));
  parted = λ none m values searched. inr (inr (record {
    place = 0;
    cells = first.cells.items;
    there = ap (λ ps. slice_get (cells_of ps) 0) is;
    inside = subst (λ cs. AreIn s.words cs values) whole_is searched.inside;
  }));
}
  where
    first_is : IsPending s first
    first_is = record {
      long = ap length (sym whole_is);
      left = record {
        among = subst (λ xs. All (IsAmong s.first) xs) left_is (All-from_places (IsAmong s.first) s.first (λ k x there. record { place = k; there = there }));
        others = λ r rule a of. inl (subst (λ xs. IsAmong xs r) left_is a);
      };
    }

-- ---- the same under other names

pub left_moved : (s : Scene) (cells cells' : List Cell) (left left' : List ℕ) → cells' ≡ cells → left' ≡ left → AreLeft s cells left → AreLeft s cells' left'
left_moved s cells cells' left left' e f h = subst (λ cs. AreLeft s cs left') (sym e) (subst (AreLeft s cells) (sym f) h)

pub sure_moved : (words words' : List Words) (rules rules' : List Rule) (cells cells' : List Cell) (left left' : List ℕ) (r : ℕ) → words' ≡ words → rules' ≡ rules → cells' ≡ cells → left' ≡ left
    → IsSure words rules cells left r → IsSure words' rules' cells' left' r
sure_moved words words' rules rules' cells cells' left left' r e f g h sure =
    subst (λ ws. IsSure ws rules' cells' left' r) (sym e) (subst (λ rs. IsSure words rs cells' left' r) (sym f) (subst (λ cs. IsSure words rules cs left' r) (sym g) (subst (λ xs. IsSure words rules cells xs r) (sym h) sure)))

pub missing_moved : (words words' : List Words) (rules rules' : List Rule) (chosen chosen' : ℕ) (cells cells' : List Cell) → words' ≡ words → rules' ≡ rules → chosen' ≡ chosen → cells' ≡ cells
    → HasMissing words rules chosen cells → HasMissing words' rules' chosen' cells'
missing_moved words words' rules rules' chosen chosen' cells cells' e f g h missing =
    subst (λ ws. HasMissing ws rules' chosen' cells') (sym e) (subst (λ rs. HasMissing words rs chosen' cells') (sym f) (subst (λ n. HasMissing words rules n cells') (sym g) (subst (HasMissing words rules chosen) (sym h) missing)))

pub no_elements : {X : Type 0} (xs : List X) → length xs ≡ 0 → xs ≡ []
no_elements [] e = refl
no_elements (x ∷ xs) e = absurd (omega (arith, e))

-- nothing changed
pub known_same : (s : Scene) (old new : Search) → new.pending.items ≡ old.pending.items → new.bare.items ≡ old.bare.items → new.open.items ≡ old.open.items → Knows s old → Knows s new
known_same s old new is bare_is open_is knows = record {
  pending = subst (All (IsPending s)) (sym is) knows.pending;
  bare = subst (All (IsBare s)) (sym bare_is) knows.bare;
  parted = λ none m values searched. told_grows s old new m values (kept_same old.pending.items new.pending.items is) (kept_same old.bare.items new.bare.items bare_is) (knows.parted (sym open_is ∙ none) m values searched);
}

pub cell_at : (words : List Words) (all : List Pending) (k : ℕ) (p : Pending) (values : List Datum) → slice_get all k ≡ Some p → AreIn words p.cells.items values → IsInSome words (cells_of all) values
cell_at words all k p values there inside = record { place = k; cells = p.cells.items; there = map_at (λ (p : Pending). p.cells.items) all k p there; inside = inside }

-- ---- steps

-- where fewer steps were taken than there are, some are left
pub steps_left : (all rest : ℕ) → all - rest < all → 0 < rest
steps_left all zero h = absurd (omega (arith, h))
steps_left all (suc rest) h = omega arith
