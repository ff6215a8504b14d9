-- What a walk within a decision service has reached.
use Rattle.std.proofs.Common.{◌≡◌, ◌⊎◌, inl, inr, ℕ, suc, ◌+◌, ◌<◌, ◌≤◌, List, [], ◌∷◌, ◌++◌, refl, sym, ◌∙◌, ap, subst, Bool, true, false, not, ◌&&◌, cond, length, take, arith, get_or, length-append, take_all}
use Rattle.std.specs.Prelude.{nat_eq, All}
use Rattle.std.specs.List.{list_all}
use Rattle.std.proofs.lemmas.Bool.Decides.{Decides-eqb}
use Rattle.std.proofs.lemmas.List.{take_more, take-append-le}
use Rattle.dmn_graph.specs.declared.walk.Walk.{Walk}
use Rattle.dmn_graph.specs.Reach.{has_same, reached}
use Rattle.dmn_graph.specs.Needs.{needs_of, count_needing, AreNeedsBelow}
use Rattle.dmn_graph.specs.Within.{needs_within, reaches_only, IsReachOf}
use Rattle.dmn_graph.specs.Members.{IsIn}
use Rattle.dmn_graph.specs.WalkState.{has_place, IsWalk, HasMet, IsUnlisted, IsReached}
use Rattle.dmn_graph.proofs.Members.{in_left, in_right, in_either, is_in, among, among_not, not_in, distinct_length}
use Rattle.dmn_graph.proofs.Reaching.{reached_step, reached_closed, reached_enough}
use Rattle.dmn_graph.proofs.Cycles.{needing, needing_length, needing_covers}
use Rattle.dmn_graph.proofs.SearchSteps.{needed_below, all_in}
use Rattle.dmn_graph.proofs.WalkSteps.{in_at}

module _ (needs : List (List ℕ)) (through given starts : List ℕ) where
  abbrev next : ℕ → List ℕ
  next = needs_within given needs

  -- what is not given leads to what it needs
  pub next_open : (x y : ℕ) → has_same nat_eq given x ≡ false → IsIn y (needs_of needs x) → IsIn y (next x)
  next_open x y e i = subst (λ b. IsIn y (cond b [] (needs_of needs x))) (sym e) i

  next_less : (x y : ℕ) → IsIn y (next x) → (has_same nat_eq given x ≡ false) × IsIn y (needs_of needs x)
  next_less x y i = go (has_same nat_eq given x) refl i
    where
      go : (b : Bool) → has_same nat_eq given x ≡ b → IsIn y (cond b [] (needs_of needs x)) → (has_same nat_eq given x ≡ false) × IsIn y (needs_of needs x)
      go true e j = absurd j
      go false e j = (e, j)

  enough : (steps : ℕ) → count_needing needs ≤ steps → (m : ℕ) (x : ℕ) → IsIn x (reached m next starts) → IsIn x (reached steps next starts)
  enough steps l m x i =
      reached_enough nat_eq Decides-eqb steps (needing needs) next (λ a b j. needing_covers needs a b (next_less a b j).1) (let e = needing_length needs in omega arith) m starts x i

  found_bounded : (w : Walk) → IsWalk w → ((q : ℕ) → has_place w.through q ≡ has_same nat_eq through q) → length w.found.items ≤ length through
  found_bounded w s t = distinct_length nat_eq Decides-eqb w.found.items through s.once (λ q i. is_in nat_eq Decides-eqb q through (sym (t q) ∙ (s.inside q i).0))

  pub reached_begun : (old w : Walk) → old.found.items ≡ [] → ((q : ℕ) → has_place old.through q ≡ has_same nat_eq through q)
      → ((q : ℕ) → has_place old.given q ≡ has_same nat_eq given q) → All (λ q. q < length needs) starts → HasMet old starts w → IsReached needs through given starts w 0
  reached_begun old w none t g inside h =
      let throughs = λ (q : ℕ). ap (λ s. has_place s q) h.through ∙ t q in
      record {
        state = h.state;
        throughs = throughs;
        givens = λ q. ap (λ s. has_place s q) h.given ∙ g q;
        begun = λ q i. elim (h.met q i) [ inl e ↦ inl (sym (g q) ∙ e) | inr f ↦ inr f ];
        passed = λ q y i. absurd i;
        source = λ q i. (0, from q i);
        places = λ q i. all_in (λ p. p < length needs) starts q inside (from q i);
        sofar = omega arith;
        bounded = found_bounded w h.state throughs;
      }
    where
      from : (q : ℕ) → IsIn q w.found.items → IsIn q starts
      from q i = elim (in_either q old.found.items h.more (subst (λ xs. IsIn q xs) h.found i)) [
        | inl j ↦ absurd (subst (λ xs. IsIn q xs) none j)
        | inr j ↦ h.from q j
      ]

  pub reached_on : (w w' : Walk) (k : ℕ) → AreNeedsBelow (length needs) needs → IsReached needs through given starts w k → k < length w.found.items
      → HasMet w (needs_of needs (get_or w.found.items k 0)) w' → IsReached needs through given starts w' (k + 1)
  reached_on w w' k inside s l h =
      let throughs = λ (q : ℕ). ap (λ s. has_place s q) h.through ∙ s.throughs q in
      let longer : length w'.found.items ≡ length w.found.items + length h.more = ap length h.found ∙ length-append w.found.items h.more in
      record {
        state = h.state;
        throughs = throughs;
        givens = λ q. ap (λ s. has_place s q) h.given ∙ s.givens q;
        begun = λ q i. kept q (s.begun q i);
        passed = λ q y i j. elim (in_either q (take k w.found.items) (get_or w.found.items k 0 ∷ []) (subst (λ xs. IsIn q xs) taken i)) [
          | inl a ↦ kept y (s.passed q y a j)
          | inr a ↦ elim a [
            | inl e ↦ elim (h.met y (subst (λ p. IsIn y (needs_of needs p)) e j)) [ inl g ↦ inl (sym (s.givens y) ∙ g) | inr f ↦ inr f ]
            | inr n ↦ absurd n
          ]
        ];
        source = λ q i. elim (old_or_new q i) [
          | inl j ↦ s.source q j
          | inr j ↦ (let p = get_or w.found.items k 0 in
              let here = in_at w.found.items k 0 l in
              let m = s.source p here in
              (suc m.0, reached_step next m.0 starts p q m.1 (next_open p q (sym (s.givens p) ∙ (s.state.inside p here).1) (h.from q j))))
        ];
        places = λ q i. elim (old_or_new q i) [ inl j ↦ s.places q j | inr j ↦ needed_below (length needs) needs inside (get_or w.found.items k 0) q (h.from q j) ];
        sofar = omega arith;
        bounded = found_bounded w' h.state throughs;
      }
    where
      kept : (q : ℕ) → (has_same nat_eq given q ≡ true) ⊎ IsIn q w.found.items → (has_same nat_eq given q ≡ true) ⊎ IsIn q w'.found.items
      kept q (inl e) = inl e
      kept q (inr i) = inr (subst (λ xs. IsIn q xs) (sym h.found) (in_left q w.found.items h.more i))

      old_or_new : (q : ℕ) → IsIn q w'.found.items → IsIn q w.found.items ⊎ IsIn q h.more
      old_or_new q i = in_either q w.found.items h.more (subst (λ xs. IsIn q xs) h.found i)

      taken : take (k + 1) w'.found.items ≡ take k w.found.items ++ get_or w.found.items k 0 ∷ []
      taken = ap (λ xs. take (k + 1) xs) h.found ∙ (take-append-le (k + 1) w.found.items h.more (omega arith) ∙ take_more w.found.items k 0 l)

  -- ---- the answers

  all_false : (p : ℕ → Bool) (xs : List ℕ) (q : ℕ) → IsIn q xs → p q ≡ false → list_all p xs ≡ false
  all_false p [] q i e = absurd i
  all_false p (x ∷ xs) q (inl s) e = ap (λ b. b && list_all p xs) (ap p (sym s) ∙ e)
  all_false p (x ∷ xs) q (inr i) e = go (p x) (all_false p xs q i e)
    where
      go : (b : Bool) → list_all p xs ≡ false → (b && list_all p xs) ≡ false
      go true f = f
      go false f = refl

  all_true : (p : ℕ → Bool) (xs : List ℕ) → ((q : ℕ) → IsIn q xs → p q ≡ true) → list_all p xs ≡ true
  all_true p [] h = refl
  all_true p (x ∷ xs) h = ap (λ b. b && list_all p xs) (h x (inl refl)) ∙ all_true p xs (λ q i. h q (inr i))

  missed : (q m : ℕ) → IsIn q (reached m next starts) → has_same nat_eq given q ≡ false → has_same nat_eq through q ≡ false
      → (steps : ℕ) → count_needing needs ≤ steps → false ≡ reaches_only steps through given needs starts
  missed q m i g t steps l =
      sym (all_false (has_same nat_eq (through ++ given)) (reached steps next starts) q (enough steps l m q i)
      (among_not nat_eq Decides-eqb q (through ++ given) (λ j. elim (in_either q through given j) [ inl a ↦ not_in nat_eq Decides-eqb q through t a | inr a ↦ not_in nat_eq Decides-eqb q given g a ])))

  pub missed_start : (w : Walk) → ((q : ℕ) → has_place w.through q ≡ has_same nat_eq through q) → ((q : ℕ) → has_place w.given q ≡ has_same nat_eq given q)
      → IsUnlisted w starts → (steps : ℕ) → count_needing needs ≤ steps → false ≡ reaches_only steps through given needs starts
  missed_start w t g u steps l = missed u.0 0 u.1 (sym (g u.0) ∙ u.2) (sym (t u.0) ∙ u.3) steps l

  pub missed_need : (w : Walk) (k : ℕ) → IsReached needs through given starts w k → k < length w.found.items → IsUnlisted w (needs_of needs (get_or w.found.items k 0))
      → (steps : ℕ) → count_needing needs ≤ steps → false ≡ reaches_only steps through given needs starts
  missed_need w k s l u steps b =
      let p = get_or w.found.items k 0 in
      let here = in_at w.found.items k 0 l in
      let m = s.source p here in
      missed u.0 (suc m.0) (reached_step next m.0 starts p u.0 m.1 (next_open p u.0 (sym (s.givens p) ∙ (s.state.inside p here).1) u.1))
      (sym (s.givens u.0) ∙ u.2) (sym (s.throughs u.0) ∙ u.3) steps b

  module _ (w : Walk) (k : ℕ) (s : IsReached needs through given starts w k) (whole : length w.found.items ≤ k) where
    at_hand : (m x : ℕ) → IsIn x (reached m next starts) → (has_same nat_eq given x ≡ true) ⊎ IsIn x w.found.items
    at_hand m x i = reached_closed next (λ y. (has_same nat_eq given y ≡ true) ⊎ IsIn y w.found.items) closed m starts s.begun x i
      where
        closed : (a b : ℕ) → (has_same nat_eq given a ≡ true) ⊎ IsIn a w.found.items → IsIn b (next a) → (has_same nat_eq given b ≡ true) ⊎ IsIn b w.found.items
        closed a b (inl e) j = let f = (next_less a b j).0 in absurd (cc)
        closed a b (inr f) j = s.passed a b (subst (λ xs. IsIn a xs) (sym (take_all k w.found.items whole)) f) (next_less a b j).1

    pub reached_listed : (steps : ℕ) → true ≡ reaches_only steps through given needs starts
    reached_listed steps = sym (all_true (has_same nat_eq (through ++ given)) (reached steps next starts) (λ q i. among nat_eq Decides-eqb q (through ++ given) (listed q (at_hand steps q i))))
      where
        listed : (q : ℕ) → (has_same nat_eq given q ≡ true) ⊎ IsIn q w.found.items → IsIn q (through ++ given)
        listed q (inl e) = in_right q through given (is_in nat_eq Decides-eqb q given e)
        listed q (inr f) = in_left q through given (is_in nat_eq Decides-eqb q through (sym (s.throughs q) ∙ (s.state.inside q f).0))

    pub reach_found : IsReachOf given needs starts w.found.items
    reach_found = record {
      once = s.state.once;
      which = λ steps q l. go steps q l (has_same nat_eq w.found.items q) refl;
    }
      where
        not_found : (steps q : ℕ) → (IsIn q w.found.items → ⊥) → (b c : Bool) → has_same nat_eq (reached steps next starts) q ≡ b → has_same nat_eq given q ≡ c → (b && not c) ≡ false
        not_found steps q n true true e f = refl
        not_found steps q n true false e f = elim (at_hand steps q (is_in nat_eq Decides-eqb q (reached steps next starts) e)) [ inl g ↦ cc | inr i ↦ absurd (n i) ]
        not_found steps q n false c e f = refl

        go : (steps q : ℕ) → count_needing needs ≤ steps → (b : Bool) → has_same nat_eq w.found.items q ≡ b
            → has_same nat_eq w.found.items q ≡ (has_same nat_eq (reached steps next starts) q && not (has_same nat_eq given q))
        go steps q l true e =
            let i = is_in nat_eq Decides-eqb q w.found.items e in
            let m = s.source q i in
            let r : has_same nat_eq (reached steps next starts) q ≡ true = among nat_eq Decides-eqb q (reached steps next starts) (enough steps l m.0 q m.1) in
            let g : has_same nat_eq given q ≡ false = sym (s.givens q) ∙ (s.state.inside q i).1 in
            e ∙ sym (ap (λ b. b && not (has_same nat_eq given q)) r ∙ ap not g)
        go steps q l false e =
            e ∙ sym (not_found steps q (not_in nat_eq Decides-eqb q w.found.items e) (has_same nat_eq (reached steps next starts) q) (has_same nat_eq given q) refl refl)
