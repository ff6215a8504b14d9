-- There is a bad service exactly where the model has the fault; and the fault of a service by places is that by names.
use Rattle.std.proofs.Common.{◌≡◌, inl, inr, ℕ, ◌<◌, List, [], ◌∷◌, ◌++◌, map, length, Option, None, Some, refl, sym, ap, ap₂, ◌∙◌, Bool, true, false, not, ◌||◌, if◌then◌else◌, nat_lt, is_some}
use Rattle.std.specs.Prelude.{bytes_eq, nat_eq}
use Rattle.std.specs.List.{list_any}
use Rattle.std.proofs.lemmas.Bool.Decides.{Decides-eqb}
use Rattle.std.proofs.lemmas.List.{length-map}
use Rattle.std.proofs.lemmas.Slice.Eq.{bytes_eq-Decides}
use Rattle.feel_value.specs.Distinct.{is_among, are_distinct}
use Rattle.dmn_form.specs.Model.{Service}
use Rattle.dmn_form.specs.Draft.{Draft}
use Rattle.dmn_graph.specs.Members.{IsIn}
use Rattle.dmn_graph.specs.Within.{reaches_only}
use Rattle.dmn_graph.proofs.Members.{in_left}
use Rattle.dmn_graph.proofs.Renaming.{among_named}
use Rattle.dmn_names.specs.Parts.{value_names}
use Rattle.dmn_names.specs.Places.{needs_by_place, PlacedService, placed_service, ArePlacesOf, has_stranger}
use Rattle.dmn_plan.specs.Faults.{reaches_unlisted, is_bad_service, has_bad_service}
use Rattle.dmn_plan.specs.Plans.{place_name}
use Rattle.dmn_plan.specs.ServicesByPlace.{inner_places, parameter_places, do_share}
use Rattle.dmn_plan.proofs.ServicesByName.{tells, AreNamesOf}
use Rattle.dmn_plan.proofs.ServicesFaults.{back, no_stranger, inner_below, parameter_below, inner_names, bad_by_name}
use Rattle.dmn_check.specs.declared.place.Step.TheVariants as step
use Rattle.dmn_check.specs.declared.place.Key.TheVariants as key
use Rattle.dmn_check.specs.declared.finding.ServiceFault.{ServiceFault}
use Rattle.dmn_check.specs.declared.finding.ServiceFault.TheVariants.{NoOutput, Stranger, Shared, Unlisted}
use Rattle.dmn_check.specs.Findings.{each_of}
use Rattle.dmn_check.specs.Services.{service_fault, service_mistake, bad_service, bad_services}
use Rattle.dmn_check.specs.ServicesByPlace.{fault_by_place}
use Rattle.dmn_check.specs.Told.{have_any, capped}
use Rattle.dmn_check.proofs.Presence.{any-inside, any-each_of}
use Rattle.dmn_check.proofs.ToldLaws.{some_told}

any-mistake : (o : Option ServiceFault) → have_any (service_mistake o) ≡ is_some o
any-mistake None = refl
any-mistake (Some f) = refl

some_of : (a b c d : Bool) → is_some (if a then Some NoOutput else (if b then Some Stranger else (if c then Some Shared else (if d then Some Unlisted else None)))) ≡ (a || (b || (c || d)))
some_of true b c d = refl
some_of false true c d = refl
some_of false false true d = refl
some_of false false false true = refl
some_of false false false false = refl

any-fault : (m : Draft) (s : Service) → have_any (bad_service m s) ≡ is_bad_service m s
any-fault m s =
    any-mistake (service_fault m s)
    ∙ some_of (not (nat_lt 0 (length s.outputs))) (has_stranger m s) (list_any (is_among (s.outputs ++ s.encapsulated)) s.input_decisions) (reaches_unlisted m s)

pub any-service : (m : Draft) → have_any (bad_services m) ≡ has_bad_service m
any-service m =
    any-inside (step.Key key.Services) (each_of (bad_service m) m.services) _
    (any-each_of (bad_service m) (is_bad_service m) (any-fault m) m.services)

pub service_exactly : (m : Draft) → nat_lt 0 (capped (length (bad_services m))) ≡ has_bad_service m
service_exactly m = some_told (bad_services m) ∙ any-service m

-- what is left of both tests, where the others agree
left_over : (a b c a' st b' c' : Bool) → a ≡ a' → b ≡ b' → st ≡ false → (not a || (b || c)) ≡ (not a' || (st || (b' || c'))) → not a' ≡ false
    → (if b then Some Shared else (if c then Some Unlisted else None)) ≡ (if not a' then Some NoOutput else (if st then Some Stranger else (if b' then Some Shared else (if c' then Some Unlisted else None))))
left_over a b c false st b' c' e f g h k = absurd (let no : true ≡ false = k in cc)
left_over a b c true true b' c' e f g h k = absurd (cc)
left_over a true c true false true c' e f g h k = refl
left_over a false c true false true c' e f g h k = absurd (cc)
left_over a true c true false false c' e f g h k = absurd (cc)
left_over false false c true false false c' e f g h k = absurd (cc)
left_over true false c true false false c' e f g h k = ap (λ d. if d then Some Unlisted else None) h

module _ (m : Draft) (s : Service) (needs : List (List ℕ)) (p : PlacedService) (distinct : are_distinct (value_names m) ≡ true) (known : needs_by_place m ≡ Some needs)
    (placed : placed_service m s ≡ Some p) (places : ArePlacesOf m p) where
  names : AreNamesOf m s p
  names = back m s needs p distinct known placed places

  shared_named : (xs others : List ℕ) → ((q : ℕ) → IsIn q xs → q < length (value_names m)) → ((q : ℕ) → IsIn q others → q < length (value_names m))
      → do_share xs others ≡ list_any (is_among (map (place_name m) others)) (map (place_name m) xs)
  shared_named [] others below bounds = refl
  shared_named (x ∷ xs) others below bounds =
      ap₂ (λ a b. a || b)
      (sym (among_named nat_eq Decides-eqb bytes_eq bytes_eq-Decides (place_name m) x others (λ y i e. tells m distinct x y (below x (inl refl)) (bounds y i) e)))
      (shared_named xs others (λ q i. below q (inr i)) bounds)

  shared : do_share p.input_decisions (inner_places p) ≡ list_any (is_among (s.outputs ++ s.encapsulated)) s.input_decisions
  shared =
      shared_named p.input_decisions (inner_places p) (λ q i. parameter_below m s needs p distinct known placed places q (in_left q p.input_decisions p.input_data i)) (inner_below m s needs p distinct known placed places)
      ∙ ap₂ (λ xs ys. list_any (is_among xs) ys) (inner_names m s needs p distinct known placed places) names.input_decisions

  some_output : nat_lt 0 (length p.outputs) ≡ nat_lt 0 (length s.outputs)
  some_output = ap (nat_lt 0) (sym (length-map p.outputs (place_name m))) ∙ ap (λ xs. nat_lt 0 (length xs)) names.outputs

  -- of a service with outputs
  pub fault_by_name : not (nat_lt 0 (length s.outputs)) ≡ false → fault_by_place (length m.decisions) needs p ≡ service_fault m s
  fault_by_name some =
      left_over (nat_lt 0 (length p.outputs)) (do_share p.input_decisions (inner_places p)) (not (reaches_only (length m.decisions) (inner_places p) (parameter_places p) needs p.outputs))
      (nat_lt 0 (length s.outputs)) (has_stranger m s) (list_any (is_among (s.outputs ++ s.encapsulated)) s.input_decisions) (reaches_unlisted m s)
      some_output shared (no_stranger m s needs p distinct known placed places) (bad_by_name m s needs p distinct known placed places) some
