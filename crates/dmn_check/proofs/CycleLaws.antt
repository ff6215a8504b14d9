-- A decision needs itself where its place does.
use Rattle.std.proofs.Common.{◌≡◌, inl, inr, ℕ, zero, suc, ◌+◌, ◌<◌, ◌≤◌, List, [], ◌∷◌, map, length, get_or, Some, sym, ap, subst, ◌∙◌, Bool, false, nat_lt, arith}
use Rattle.std.proofs.lemmas.List.{length-map, length-append, get_or-append-add}
use Rattle.dmn_form.specs.Draft.{Draft}
use Rattle.dmn_form.specs.ModelView.{decision_view}
use Rattle.dmn_form.specs.declared.written.WrittenDecision.{WrittenDecision}
use Rattle.dmn_graph.specs.Reach.{reached}
use Rattle.dmn_graph.specs.Members.{IsIn}
use Rattle.dmn_graph.specs.Needs as graph
use Rattle.dmn_names.specs.Parts.{decision_names, value_names}
use Rattle.dmn_names.specs.Names.{has_name_twice}
use Rattle.feel_value.specs.Distinct.{is_among}
use Rattle.dmn_names.specs.Places.{needs_by_place}
use Rattle.dmn_names.proofs.NamesBack.{distinct_values}
use Rattle.dmn_plan.specs.Faults.{needs_of, needs_itself, has_cycle}
use Rattle.dmn_plan.specs.Plans.{place_name}
use Rattle.dmn_plan.proofs.RequirementCycles.{cycle_by_name, later_distinct, needs_of_one}
use Rattle.dmn_plan.proofs.ServicesByName.{as_many_places, few_need}
use Rattle.dmn_check.specs.declared.place.Step.TheVariants as step
use Rattle.dmn_check.specs.declared.place.Key.TheVariants as key
use Rattle.dmn_check.specs.declared.finding.Mistake.TheVariants as mistake
use Rattle.dmn_check.specs.Cycles.{cycle, cycles}
use Rattle.dmn_check.specs.Findings.{each_of}
use Rattle.dmn_check.specs.Told.{have_any, capped}
use Rattle.dmn_check.proofs.Presence.{any-here, any-inside, any-each_of}
use Rattle.dmn_check.proofs.ToldLaws.{some_told}

-- what stands at an index of what is shown
at_in : (ds : List WrittenDecision) (i : ℕ) (d : WrittenDecision) → i < length ds → d ≡ get_or ds i d → IsIn (decision_view d) (map decision_view ds)
at_in [] i d l e = absurd (omega arith)
at_in (x ∷ ds) zero d l e = inl (ap decision_view e)
at_in (x ∷ ds) (suc i) d l e = inr (at_in ds i d (omega arith) e)

name_at : (ds : List WrittenDecision) (i : ℕ) (d : WrittenDecision) → i < length ds → d ≡ get_or ds i d → get_or (map (λ y. y.name) (map decision_view ds)) i [] ≡ (decision_view d).name
name_at [] i d l e = absurd (omega arith)
name_at (x ∷ ds) zero d l e = ap (λ y. (decision_view y).name) (sym e)
name_at (x ∷ ds) (suc i) d l e = name_at ds i d (omega arith) e

module _ (m : Draft) (needs : List (List ℕ)) (ds : List WrittenDecision) (shown : map decision_view ds ≡ m.decisions) (distinct : has_name_twice m ≡ false) (known : needs_by_place m ≡ Some needs) where
  many : length (value_names m) ≡ length m.inputs + length ds
  many = length-append m.inputs (decision_names m) ∙ ap (λ k. length m.inputs + k) (length-map m.decisions (λ d. d.name) ∙ sym (ap length shown) ∙ length-map ds decision_view)

  pub place_below : (i : ℕ) → i < length ds → length m.inputs + i < length needs
  place_below i l = omega (arith, many, as_many_places m needs (distinct_values m distinct) known)

  -- the decision at an index, by its place
  pub decision_by_place : (i : ℕ) (d : WrittenDecision) (b : Bool) → i < length ds → d ≡ get_or ds i d
      → ((steps : ℕ) → graph.count_needing needs ≤ steps → b ≡ graph.needs_itself steps needs (length m.inputs + i)) → b ≡ needs_itself m (decision_view d)
  decision_by_place i d b l e found =
      let steps = length m.decisions in
      let at : place_name m (length m.inputs + i) ≡ (decision_view d).name =
      get_or-append-add m.inputs (decision_names m) i [] ∙ ap (λ xs. get_or (map (λ y. y.name) xs) i []) (sym shown) ∙ name_at ds i d l e
      in
      let one : needs_of m.decisions (decision_view d).name ≡ (decision_view d).needs =
      needs_of_one m.decisions (decision_view d) (later_distinct m.inputs (decision_names m) (distinct_values m distinct)) (subst (λ xs. IsIn (decision_view d) xs) shown (at_in ds i d l e))
      in
      found steps (few_need m needs (distinct_values m distinct) known)
      ∙ sym (cycle_by_name m needs distinct known steps (length m.inputs + i) (omega (arith, many)))
      ∙ ap (λ n. is_among (reached steps (needs_of m.decisions) (needs_of m.decisions n)) n) at
      ∙ ap (λ ns. is_among (reached steps (needs_of m.decisions) ns) (decision_view d).name) one

pub any-cycle : (m : Draft) → have_any (cycles m) ≡ has_cycle m
any-cycle m =
    any-inside (step.Key key.Decisions) (each_of (cycle m) m.decisions) _
    (any-each_of (cycle m) (needs_itself m) (λ d. any-here mistake.Cycle (needs_itself m d)) m.decisions)

pub cycle_exactly : (m : Draft) → nat_lt 0 (capped (length (cycles m))) ≡ has_cycle m
cycle_exactly m = some_told (cycles m) ∙ any-cycle m
