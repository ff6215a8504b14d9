-- Marks at places, and the places that are marked.
use Rattle.std.proofs.Common.{◌≡◌, ◌≢◌, ◌∙◌, sym, ap, ap₂, refl, ℕ, zero, suc, ◌+◌, ◌<◌, ◌⊎◌, inl, inr, List, [], ◌∷◌, length, get_or, set, drop, replicate, Bool, true, false, cond, ◌||◌}
use Rattle.std.specs.Prelude.{nat_eq}
use Rattle.std.specs.List.{filter, flat_map}
use Rattle.std.proofs.lemmas.Bool.Decides.{eqb_tells}
use Rattle.std.proofs.lemmas.List.{at_drop_more, get_or-set_same, get_or-set_other}
use Rattle.std.proofs.lemmas.List.Folds.{list_any-append}
use Rattle.dmn_graph.specs.Reach.{has_same}

or_assoc : (a b c : Bool) → ((a || b) || c) ≡ (b || (a || c))
or_assoc true true c = refl
or_assoc true false c = refl
or_assoc false b c = refl

-- the mark at a place, once another place is marked
pub marked_at : (marks : List Bool) (p q : ℕ) → p < length marks → get_or (set marks p true) q false ≡ (nat_eq q p || get_or marks q false)
marked_at marks p q inside = go (eqb_tells q p)
  where
    go : ((nat_eq q p ≡ true) × (q ≡ p)) ⊎ ((nat_eq q p ≡ false) × (q ≢ p)) → get_or (set marks p true) q false ≡ (nat_eq q p || get_or marks q false)
    go (inl e) = ap (λ k. get_or (set marks p true) k false) e.1 ∙ get_or-set_same marks p true false inside ∙ ap (λ b. b || get_or marks q false) (sym e.0)
    go (inr e) = get_or-set_other marks p q true false e.1 ∙ ap (λ b. b || get_or marks q false) (sym e.0)

-- one place more
pub mark_more : (places : List ℕ) (i q : ℕ) (marks new : List Bool) (whole : Bool) → i < length places → get_or places i 0 < length marks → new ≡ set marks (get_or places i 0) true
    → (has_same nat_eq (drop i places) q || get_or marks q false) ≡ whole → (has_same nat_eq (drop (i + 1) places) q || get_or new q false) ≡ whole
mark_more places i q marks new whole more inside is before =
    let p = get_or places i 0 in
    ap (λ (ms : List Bool). has_same nat_eq (drop (i + 1) places) q || get_or ms q false) is
    ∙ ap (λ b. has_same nat_eq (drop (i + 1) places) q || b) (marked_at marks p q inside)
    ∙ sym (or_assoc (nat_eq q p) (has_same nat_eq (drop (i + 1) places) q) (get_or marks q false))
    ∙ sym (at_drop_more (λ (ps : List ℕ). has_same nat_eq ps q || get_or marks q false) places i 0 more)
    ∙ before

-- the needs of one place more
pub needs_more : (needs : ℕ → List ℕ) (places : List ℕ) (i q : ℕ) (marks new : List Bool) (whole : Bool) → i < length places
    → get_or new q false ≡ (has_same nat_eq (needs (get_or places i 0)) q || get_or marks q false)
    → (has_same nat_eq (flat_map needs (drop i places)) q || get_or marks q false) ≡ whole → (has_same nat_eq (flat_map needs (drop (i + 1) places)) q || get_or new q false) ≡ whole
needs_more needs places i q marks new whole more is before =
    let p = get_or places i 0 in
    let rest = flat_map needs (drop (i + 1) places) in
    ap (λ b. has_same nat_eq rest q || b) is
    ∙ sym (or_assoc (has_same nat_eq (needs p) q) (has_same nat_eq rest q) (get_or marks q false))
    ∙ ap (λ b. b || get_or marks q false) (sym (list_any-append (nat_eq q) (needs p) rest))
    ∙ sym (at_drop_more (λ (ps : List ℕ). has_same nat_eq (flat_map needs ps) q || get_or marks q false) places i 0 more)
    ∙ before

or_false : (b : Bool) → (b || false) ≡ b
or_false true = refl
or_false false = refl

none_marked : (n q : ℕ) → get_or (replicate n false) q false ≡ false
none_marked zero q = refl
none_marked (suc n) zero = refl
none_marked (suc n) (suc q) = none_marked n q

-- of no marks only those that were put there are left
pub marks_begun : (marks : List Bool) (n q : ℕ) (b c : Bool) → marks ≡ replicate n false → c ≡ (b || get_or marks q false) → c ≡ b
marks_begun marks n q b c none is = is ∙ ap (λ d. b || d) (ap (λ (ms : List Bool). get_or ms q false) none ∙ none_marked n q) ∙ or_false b

pub filter_same : (f g : ℕ → Bool) → ((q : ℕ) → f q ≡ g q) → (qs : List ℕ) → filter f qs ≡ filter g qs
filter_same f g same [] = refl
filter_same f g same (q ∷ qs) = ap₂ (λ (b : Bool) (ps : List ℕ). cond b (q ∷ ps) ps) (same q) (filter_same f g same qs)
