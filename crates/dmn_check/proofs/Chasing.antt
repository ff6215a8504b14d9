-- A chase along needs meets what its place leads to.
use Rattle.std.proofs.Common.{◌≡◌, ◌⊎◌, inl, inr, ℕ, zero, suc, ◌<◌, ◌≤◌, List, [], ◌∷◌, ◌++◌, length, length-append, get_or, set, replicate, refl, sym, ap, subst, ◌∙◌, Bool, true, false, arith, cond}
use Rattle.std.specs.Prelude.{nat_eq, All}
use Rattle.std.proofs.lemmas.Bool.Decides.{Decides-eqb}
use Rattle.dmn_graph.specs.Reach.{Leads, directly, through}
use Rattle.dmn_graph.specs.Needs.{needs_of, count_needing, needs_itself, AreNeedsBelow}
use Rattle.dmn_graph.specs.Members.{IsIn}
use Rattle.dmn_graph.proofs.Members.{in_left, in_right, in_either, is_in, among}
use Rattle.dmn_graph.proofs.Chains.{leads_from_reached, leads_within}
use Rattle.dmn_graph.proofs.SearchSteps.{needed_below}
use Rattle.dmn_plan.proofs.ServicesByName.{all_from}
use Rattle.dmn_graph.proofs.Cycles.{needing, needing_length, needing_covers}
use Rattle.dmn_check.specs.declared.chase.Chase.{Chase}
use Rattle.dmn_check.specs.Chase.{is_met, unmet, HasMet, IsChase}

-- ---- marks

set_here : (bs : List Bool) (p : ℕ) → p < length bs → get_or (set bs p true) p false ≡ true
set_here [] p l = absurd (omega arith)
set_here (b ∷ bs) zero l = refl
set_here (b ∷ bs) (suc p) l = set_here bs p (omega arith)

set_other : (bs : List Bool) (p q : ℕ) → (q ≡ p → ⊥) → get_or (set bs p true) q false ≡ get_or bs q false
set_other [] p q h = refl
set_other (b ∷ bs) zero zero h = absurd (h refl)
set_other (b ∷ bs) zero (suc q) h = refl
set_other (b ∷ bs) (suc p) zero h = refl
set_other (b ∷ bs) (suc p) (suc q) h = set_other bs p q (λ e. h (ap suc e))

mark_set : (bs : List Bool) (p q : ℕ) → p < length bs → get_or (set bs p true) q false ≡ cond (nat_eq q p) true (get_or bs q false)
mark_set bs p q l = go (nat_eq q p) refl
  where
    go : (b : Bool) → nat_eq q p ≡ b → get_or (set bs p true) q false ≡ cond b true (get_or bs q false)
    go true e = ap (λ r. get_or (set bs p true) r false) ((Decides-eqb q p).0 e) ∙ set_here bs p l
    go false e = set_other bs p q (λ h. let t : nat_eq q p ≡ true = (Decides-eqb q p).1 h in cc)

size_set : (bs : List Bool) (p : ℕ) → length (set bs p true) ≡ length bs
size_set [] p = refl
size_set (b ∷ bs) zero = refl
size_set (b ∷ bs) (suc p) = ap suc (size_set bs p)

unmet_set : (bs : List Bool) (p : ℕ) → p < length bs → get_or bs p false ≡ false → unmet bs ≡ suc (unmet (set bs p true))
unmet_set [] p l e = absurd (omega arith)
unmet_set (true ∷ bs) zero l e = absurd (cc)
unmet_set (false ∷ bs) zero l e = refl
unmet_set (true ∷ bs) (suc p) l e = unmet_set bs p (omega arith) e
unmet_set (false ∷ bs) (suc p) l e = ap suc (unmet_set bs p (omega arith) e)

none_met : (n q : ℕ) → get_or (replicate n false) q false ≡ false
none_met zero q = refl
none_met (suc n) zero = refl
none_met (suc n) (suc q) = none_met n q

pub size_none : (n : ℕ) → length (replicate n false) ≡ n
size_none zero = refl
size_none (suc n) = ap suc (size_none n)

met_below : (bs : List Bool) (q : ℕ) → get_or bs q false ≡ true → q < length bs
met_below [] q e = absurd (cc)
met_below (b ∷ bs) zero e = omega arith
met_below (b ∷ bs) (suc q) e = let r = met_below bs q e in omega arith

pub nothing_left : (xs : List ℕ) → length xs ≡ 0 → xs ≡ []
nothing_left [] e = refl
nothing_left (x ∷ xs) e = absurd (omega arith)

-- what a place needs may be met
pub may_meet : (needs : List (List ℕ)) (n x : ℕ) (qs : List ℕ) (met : List Bool) → AreNeedsBelow n needs → qs ≡ needs_of needs x → length met ≡ n → All (λ q. q < length met) qs
may_meet needs n x qs met below same sized =
    all_from (λ q. q < length met) qs (λ q i. let b = needed_below n needs below x q (subst (λ zs. IsIn q zs) same i) in omega (arith, sized))

-- what waits is a place
pub waits_below : (needs : List (List ℕ)) (place : ℕ) (w : Chase) (rest : List ℕ) (p : ℕ) → IsChase needs place w → w.waiting.items ≡ rest ++ p ∷ [] → p < length needs
waits_below needs place w rest p s taken =
    let b = met_below w.met.items p (s.waiting p (subst (λ qs. IsIn p qs) (sym taken) (in_right p rest (p ∷ []) (inl refl)))) in omega (arith, s.size)

-- ---- meeting places

in_one : (q p : ℕ) → IsIn q (p ∷ []) → q ≡ p
in_one q p (inl e) = e
in_one q p (inr h) = absurd h

-- a place that was met before
pub met_again : (w : Chase) (p : ℕ) → is_met w p ≡ true → HasMet w (p ∷ []) w
met_again w p known = record {
  size = refl;
  kept = λ q h. h;
  met = λ q i. ap (is_met w) (in_one q p i) ∙ known;
  from = λ q h. inl h;
  waits = λ q i. i;
  within = λ q i. inl i;
  left = refl;
}

-- a place that was not
pub met_new : (old new : Chase) (p : ℕ) → p < length old.met.items → is_met old p ≡ false → new.met.items ≡ set old.met.items p true
    → new.waiting.items ≡ old.waiting.items ++ p ∷ [] → HasMet old (p ∷ []) new
met_new old new p l fresh marks waits = record {
  size = ap length marks ∙ size_set old.met.items p;
  kept = λ q h. at q ∙ kept_by q (nat_eq q p) h;
  met = λ q i. at q ∙ ap (λ b. cond b true (is_met old q)) ((Decides-eqb q p).1 (in_one q p i));
  from = λ q h. from_by q (nat_eq q p) refl (sym (at q) ∙ h);
  waits = λ q i. subst (λ qs. IsIn q qs) (sym waits) (in_left q old.waiting.items (p ∷ []) i);
  within = λ q i. in_either q old.waiting.items (p ∷ []) (subst (λ qs. IsIn q qs) waits i);
  left = omega (arith, unmet_set old.met.items p l fresh, ap unmet marks, ap length waits, length-append old.waiting.items (p ∷ []));
}
  where
    at : (q : ℕ) → is_met new q ≡ cond (nat_eq q p) true (is_met old q)
    at q = ap (λ bs. get_or bs q false) marks ∙ mark_set old.met.items p q l

    kept_by : (q : ℕ) (b : Bool) → is_met old q ≡ true → cond b true (is_met old q) ≡ true
    kept_by q true h = refl
    kept_by q false h = h

    from_by : (q : ℕ) (b : Bool) → nat_eq q p ≡ b → cond b true (is_met old q) ≡ true → (is_met old q ≡ true) ⊎ (IsIn q (p ∷ []) × IsIn q new.waiting.items)
    from_by q true e h =
        let same : q ≡ p = (Decides-eqb q p).0 e in
        inr (inl same, subst (λ qs. IsIn q qs) (sym waits) (in_right q old.waiting.items (p ∷ []) (inl same)))
    from_by q false e h = inl h

pub met_none : (w : Chase) → HasMet w [] w
met_none w = record {
  size = refl;
  kept = λ q h. h;
  met = λ q i. absurd i;
  from = λ q h. inl h;
  waits = λ q i. i;
  within = λ q i. inl i;
  left = refl;
}

-- first these and then those
pub met_then : (old mid new : Chase) (qs rs : List ℕ) → HasMet old qs mid → HasMet mid rs new → HasMet old (qs ++ rs) new
met_then old mid new qs rs a b = record {
  size = b.size ∙ a.size;
  kept = λ q h. b.kept q (a.kept q h);
  met = λ q i. elim (in_either q qs rs i) [ inl j ↦ b.kept q (a.met q j) | inr j ↦ b.met q j ];
  from = λ q h. elim (b.from q h) [
    | inl j ↦ elim (a.from q j) [ inl k ↦ inl k | inr k ↦ inr (in_left q qs rs k.0, b.waits q k.1) ]
    | inr j ↦ inr (in_right q qs rs j.0, j.1)
  ];
  waits = λ q i. b.waits q (a.waits q i);
  within = λ q i. elim (b.within q i) [
    | inl j ↦ elim (a.within q j) [ inl k ↦ inl k | inr k ↦ inr (in_left q qs rs k) ]
    | inr j ↦ inr (in_right q qs rs j)
  ];
  left = b.left ∙ a.left;
}

-- ---- the chase

module _ (needs : List (List ℕ)) (place : ℕ) where
  next : ℕ → List ℕ
  next = needs_of needs

  leads_more : (a b c : ℕ) → Leads nat_eq (needs_of needs) a b → IsIn c (needs_of needs b) → Leads nat_eq (needs_of needs) a c
  leads_more a b c (directly e) i = through e (directly (among nat_eq Decides-eqb c (needs_of needs b) i))
  leads_more a b c (through {b = d} e l) i = through e (leads_more d b c l i)

  -- the place's own needs were met
  pub chase_begun : (old w : Chase) (n : ℕ) (qs : List ℕ) → n ≡ length needs → old.met.items ≡ replicate n false → old.waiting.items ≡ [] → qs ≡ needs_of needs place
      → HasMet old qs w → IsChase needs place w
  chase_begun old w n qs many none empty same met_these = let h : HasMet old (needs_of needs place) w = subst (λ zs. HasMet old zs w) same met_these in record {
    size = h.size ∙ ap length none ∙ size_none n ∙ many;
    leads = λ q m. elim (h.from q m) [
      | inl j ↦ absurd (let no : false ≡ true = sym (ap (λ bs. get_or bs q false) none ∙ none_met n q) ∙ j in cc)
      | inr j ↦ directly (among nat_eq Decides-eqb q (needs_of needs place) j.0)
    ];
    begun = h.met;
    passed = λ q y m i. elim (h.from q m) [
      | inl j ↦ absurd (let no : false ≡ true = sym (ap (λ bs. get_or bs q false) none ∙ none_met n q) ∙ j in cc)
      | inr j ↦ inl j.1
    ];
    waiting = λ q i. elim (h.within q i) [
      | inl j ↦ absurd (subst (λ qs. IsIn q qs) empty j)
      | inr j ↦ h.met q j
    ];
  }

  -- the needs of a place that waited were met
  pub chase_on : (before popped after : Chase) (p : ℕ) (qs : List ℕ) → IsChase needs place before → popped.met.items ≡ before.met.items → before.waiting.items ≡ popped.waiting.items ++ p ∷ []
      → qs ≡ needs_of needs p → HasMet popped qs after → IsChase needs place after
  chase_on before popped after p qs s marks taken same met_these = let h : HasMet popped (needs_of needs p) after = subst (λ zs. HasMet popped zs after) same met_these in record {
    size = h.size ∙ ap length marks ∙ s.size;
    leads = λ q m. elim (h.from q m) [
      | inl j ↦ s.leads q (old q j)
      | inr j ↦ leads_more place p q (s.leads p (s.waiting p waited)) j.0
    ];
    begun = λ q i. h.kept q (new q (s.begun q i));
    passed = λ q y m i. elim (h.from q m) [
      | inl j ↦ elim (s.passed q y (old q j) i) [
        | inl k ↦ elim (in_either q popped.waiting.items (p ∷ []) (subst (λ qs. IsIn q qs) taken k)) [
          | inl g ↦ inl (h.waits q g)
          | inr g ↦ inr (h.met y (subst (λ z. IsIn y (needs_of needs z)) (in_one q p g) i))
        ]
        | inr k ↦ inr (h.kept y (new y k))
      ]
      | inr j ↦ inl j.1
    ];
    waiting = λ q i. elim (h.within q i) [
      | inl j ↦ h.kept q (new q (s.waiting q (subst (λ qs. IsIn q qs) (sym taken) (in_left q popped.waiting.items (p ∷ []) j))))
      | inr j ↦ h.met q j
    ];
  }
    where
      waited : IsIn p before.waiting.items
      waited = subst (λ qs. IsIn p qs) (sym taken) (in_right p popped.waiting.items (p ∷ []) (inl refl))

      old : (q : ℕ) → is_met popped q ≡ true → is_met before q ≡ true
      old q m = sym (ap (λ bs. get_or bs q false) marks) ∙ m

      new : (q : ℕ) → is_met before q ≡ true → is_met popped q ≡ true
      new q m = ap (λ bs. get_or bs q false) marks ∙ m

  closed : (w : Chase) → ((q y : ℕ) → is_met w q ≡ true → IsIn y (needs_of needs q) → is_met w y ≡ true) → (a b : ℕ) → ((y : ℕ) → IsIn y (needs_of needs a) → is_met w y ≡ true)
      → Leads nat_eq (needs_of needs) a b → is_met w b ≡ true
  closed w all a b known (directly e) = known b (is_in nat_eq Decides-eqb b (needs_of needs a) e)
  closed w all a b known (through {b = d} e l) = closed w all d b (λ y i. all d y (known d (is_in nat_eq Decides-eqb d (needs_of needs a) e)) i) l

  -- once nothing waits
  pub chase_ended : (w : Chase) → IsChase needs place w → w.waiting.items ≡ [] → (steps : ℕ) → count_needing needs ≤ steps → is_met w place ≡ needs_itself steps needs place
  chase_ended w s empty steps enough = by_both (is_met w place) (needs_itself steps needs place)
      (λ m. leads_within nat_eq Decides-eqb (needs_of needs) steps (needing needs) (needing_covers needs) (let e = needing_length needs in omega arith) place place (s.leads place m))
      (λ t. closed w (λ q y m i. elim (s.passed q y m i) [ inl j ↦ absurd (subst (λ qs. IsIn q qs) empty j) | inr j ↦ j ]) place place s.begun
      (leads_from_reached nat_eq Decides-eqb (needs_of needs) steps place place t))
    where
      by_both : (a b : Bool) → (a ≡ true → b ≡ true) → (b ≡ true → a ≡ true) → a ≡ b
      by_both true b f g = sym (f refl)
      by_both false true f g = g refl
      by_both false false f g = refl
