-- There is a name with a fault exactly where the model has the fault.
use Rattle.std.proofs.Common.{◌≡◌, ℕ, ◌+◌, List, [], ◌∷◌, ◌++◌, length, take, drop, refl, sym, ap, ap₂, ◌∙◌, Bool, true, false, not, ◌&&◌, ◌||◌, nat_lt, take-append-drop}
use Rattle.std.specs.Prelude.{bytes_eq}
use Rattle.std.specs.List.{list_any, flat_map}
use Rattle.std.proofs.lemmas.List.Folds.{list_any-append}
use Rattle.std.proofs.lemmas.Slice.Eq.{bytes_eq-Decides}
use Rattle.feel_value.specs.Distinct.{is_among, are_distinct}
use Rattle.feel_text.specs.Lexical.{is_name}
use Rattle.dmn_form.specs.Model.{Name, expression, table, list, context, context_with, Members, no_members, member, Entries, no_entries, entry, Service}
use Rattle.dmn_form.specs.Draft.{WrittenTable, Logic, Written, Draft}
use Rattle.dmn_names.specs.Names.{have_bad, have_twice, has_bad_name, has_name_twice}
use Rattle.dmn_names.specs.Parts.{output_names, entry_names, lists_in, member_lists, entry_lists, decision_lists, service_lists, value_names, service_names, part_lists, name_lists}
use Rattle.dmn_check.specs.declared.place.Step.TheVariants as step
use Rattle.dmn_check.specs.declared.place.Key.{Key}
use Rattle.dmn_check.specs.declared.place.Key.TheVariants as key
use Rattle.dmn_check.specs.declared.marks.NameFault.{NameFault}
use Rattle.dmn_check.specs.declared.marks.NameFault.TheVariants.{Unlawful, Repeated}
use Rattle.dmn_check.specs.Findings.{Finding, behind, here, each_of}
use Rattle.dmn_check.specs.Look.{logic_findings, member_findings, entry_findings}
use Rattle.dmn_check.specs.NameFaults.{mistake_of, marked, marks, in_texts, in_named, under, names_look, within_decision, within_service, of_values, of_heads, of_parts, name_faults, unlawful_names, repeated_names}
use Rattle.dmn_check.specs.Told.{have_any, capped}
use Rattle.dmn_check.proofs.Presence.{any-here, any-both, any-inside, any-each_of}
use Rattle.dmn_check.proofs.ToldLaws.{some_told}

-- a list of names has the fault
abbrev faulty : NameFault → List Name → Bool
faulty Unlawful ns = have_bad ns
faulty Repeated ns = have_twice ns

unlawful_marked : (before ns : List Name) → list_any (λ b. b) (marked Unlawful before ns) ≡ have_bad ns
unlawful_marked before [] = refl
unlawful_marked before (n ∷ ns) = ap (λ b. not (is_name n) || b) (unlawful_marked (n ∷ before) ns)

either_among : (p a b : Name → Bool) → ((n : Name) → p n ≡ (a n || b n)) → (ns : List Name) → list_any p ns ≡ (list_any a ns || list_any b ns)
either_among p a b h [] = refl
either_among p a b h (n ∷ ns) = ap₂ (λ x y. x || y) (h n) (either_among p a b h ns) ∙ regrouped (a n) (b n) (list_any a ns) (list_any b ns)
  where
    regrouped : (u v x y : Bool) → ((u || v) || (x || y)) ≡ ((u || x) || (v || y))
    regrouped true v x y = refl
    regrouped false true true y = refl
    regrouped false true false y = refl
    regrouped false false x y = refl

turned : (a b c d : Bool) → (a || ((c || b) || not d)) ≡ ((a || b) || not (not c && d))
turned true b c d = refl
turned false true true d = refl
turned false false true d = refl
turned false b false d = refl

turned_as : (m n : Name) (s t : Bool) → bytes_eq m n ≡ s → bytes_eq n m ≡ t → s ≡ t
turned_as m n true true p q = refl
turned_as m n false false p q = refl
turned_as m n true false p q = sym (sym (ap (λ x. bytes_eq x m) ((bytes_eq-Decides m n).0 p)) ∙ (bytes_eq-Decides m m).1 refl) ∙ q
turned_as m n false true p q = sym (sym (sym (ap (λ x. bytes_eq x n) ((bytes_eq-Decides n m).0 q)) ∙ (bytes_eq-Decides n n).1 refl) ∙ p)

pub bytes_eq-sym : (m n : Name) → bytes_eq m n ≡ bytes_eq n m
bytes_eq-sym m n = turned_as m n (bytes_eq m n) (bytes_eq n m) refl refl

same_either_way : (n : Name) (ns : List Name) → list_any (λ x. bytes_eq x n) ns ≡ is_among ns n
same_either_way n [] = refl
same_either_way n (x ∷ xs) = ap₂ (λ a b. a || b) (bytes_eq-sym x n) (same_either_way n xs)

repeated_marked : (before ns : List Name) → list_any (λ b. b) (marked Repeated before ns) ≡ (list_any (is_among before) ns || have_twice ns)
repeated_marked before [] = refl
repeated_marked before (n ∷ ns) =
    ap (λ b. is_among before n || b)
    (repeated_marked (n ∷ before) ns
    ∙ ap (λ b. b || have_twice ns) (either_among (is_among (n ∷ before)) (λ x. bytes_eq x n) (is_among before) (λ x. refl) ns)
    ∙ ap (λ b. (b || list_any (is_among before) ns) || have_twice ns) (same_either_way n ns))
    ∙ turned (is_among before n) (list_any (is_among before) ns) (is_among ns n) (are_distinct ns)

nothing_before : (ns : List Name) → list_any (is_among []) ns ≡ false
nothing_before [] = refl
nothing_before (n ∷ ns) = nothing_before ns

any-marks : (f : NameFault) (ns : List Name) → list_any (λ b. b) (marks f ns) ≡ faulty f ns
any-marks Unlawful ns = unlawful_marked [] ns
any-marks Repeated ns = repeated_marked [] ns ∙ ap (λ b. b || have_twice ns) (nothing_before ns)

module _ (f : NameFault) where
  any-texts : (bs : List Bool) → have_any (in_texts f bs) ≡ list_any (λ b. b) bs
  any-texts bs = any-each_of (here (mistake_of f)) (λ b. b) (any-here (mistake_of f)) bs

  any-named : (bs : List Bool) → have_any (in_named f bs) ≡ list_any (λ b. b) bs
  any-named bs =
      any-each_of (λ b. behind (step.Key key.Name) (here (mistake_of f) b)) (λ b. b) (λ b. any-inside (step.Key key.Name) (here (mistake_of f) b) b (any-here (mistake_of f) b)) bs

  any-under : (k : Key) (ns : List Name) → have_any (under f k ns) ≡ faulty f ns
  any-under k ns = any-inside (step.Key k) (in_texts f (marks f ns)) _ (any-texts (marks f ns) ∙ any-marks f ns)

  any-list : (ns : List Name) → have_any (in_named f (marks f ns)) ≡ faulty f ns
  any-list ns = any-named (marks f ns) ∙ any-marks f ns

  alone : (b : Bool) → b ≡ (b || false)
  alone true = refl
  alone false = refl

  of_both : (fs gs : List Finding) (p q : List (List Name)) → have_any fs ≡ list_any (faulty f) p → have_any gs ≡ list_any (faulty f) q → have_any (fs ++ gs) ≡ list_any (faulty f) (p ++ q)
  of_both fs gs p q e g = any-both fs gs _ _ e g ∙ sym (list_any-append (faulty f) p q)

  of_entries : (ns : List Name) (gs : List Finding) (q : List (List Name)) → have_any gs ≡ list_any (faulty f) q
      → have_any (behind (step.Key key.Context) (in_named f (marks f ns) ++ gs)) ≡ list_any (faulty f) (ns ∷ q)
  of_entries ns gs q g = any-inside (step.Key key.Context) (in_named f (marks f ns) ++ gs) _ (any-both (in_named f (marks f ns)) gs _ _ (any-list ns) g)

  mutual
    any-logic : (b : Logic) → have_any (logic_findings (names_look f) b) ≡ list_any (faulty f) (lists_in b)
    any-logic (expression s) = refl
    any-logic (table t) =
        any-inside (step.Key key.Table) (behind (step.Key key.Outputs) (in_named f (marks f (output_names t)))) _
        (any-inside (step.Key key.Outputs) (in_named f (marks f (output_names t))) _ (any-list (output_names t)))
        ∙ alone (faulty f (output_names t))
    any-logic (list bs) = any-inside (step.Key key.List) (member_findings (names_look f) 0 bs) _ (any-members 0 bs)
    any-logic (context es) = of_entries (entry_names es) (entry_findings (names_look f) 0 es) (entry_lists es) (any-entries 0 es)
    any-logic (context_with es b) =
        of_both (behind (step.Key key.Context) (in_named f (marks f (entry_names es)) ++ entry_findings (names_look f) 0 es))
        (behind (step.Key key.Result) (logic_findings (names_look f) b)) (entry_names es ∷ entry_lists es) (lists_in b)
        (of_entries (entry_names es) (entry_findings (names_look f) 0 es) (entry_lists es) (any-entries 0 es))
        (any-inside (step.Key key.Result) (logic_findings (names_look f) b) _ (any-logic b))

    any-members : (i : ℕ) (bs : Members (List ℕ) WrittenTable) → have_any (member_findings (names_look f) i bs) ≡ list_any (faulty f) (member_lists bs)
    any-members i no_members = refl
    any-members i (member b bs) =
        of_both (behind (step.Index i) (logic_findings (names_look f) b)) (member_findings (names_look f) (i + 1) bs) (lists_in b) (member_lists bs)
        (any-inside (step.Index i) (logic_findings (names_look f) b) _ (any-logic b)) (any-members (i + 1) bs)

    any-entries : (i : ℕ) (es : Entries (List ℕ) WrittenTable) → have_any (entry_findings (names_look f) i es) ≡ list_any (faulty f) (entry_lists es)
    any-entries i no_entries = refl
    any-entries i (entry n b es) =
        of_both (behind (step.Index i) (behind (step.Key key.Expr) (logic_findings (names_look f) b))) (entry_findings (names_look f) (i + 1) es)
        (lists_in b) (entry_lists es)
        (any-inside (step.Index i) (behind (step.Key key.Expr) (logic_findings (names_look f) b)) _ (any-inside (step.Key key.Expr) (logic_findings (names_look f) b) _ (any-logic b)))
        (any-entries (i + 1) es)

  any-decision : (d : Written) → have_any (within_decision f d) ≡ list_any (faulty f) (decision_lists d)
  any-decision d =
      any-both (under f key.Needs d.needs) (behind (step.Key key.Expr) (logic_findings (names_look f) d.logic)) _ _
      (any-under key.Needs d.needs) (any-inside (step.Key key.Expr) (logic_findings (names_look f) d.logic) _ (any-logic d.logic))

  any-service : (s : Service) → have_any (within_service f s) ≡ list_any (faulty f) (service_lists s)
  any-service s =
      any-both (under f key.Outputs s.outputs) (under f key.Encapsulated s.encapsulated ++ (under f key.InputDecisions s.input_decisions ++ under f key.InputData s.input_data)) _ _
      (any-under key.Outputs s.outputs)
      (any-both (under f key.Encapsulated s.encapsulated) (under f key.InputDecisions s.input_decisions ++ under f key.InputData s.input_data) _ _
      (any-under key.Encapsulated s.encapsulated)
      (any-both (under f key.InputDecisions s.input_decisions) (under f key.InputData s.input_data) _ _
      (any-under key.InputDecisions s.input_decisions) (any-under key.InputData s.input_data ∙ alone (faulty f s.input_data))))

  any-values : (n : ℕ) (bs : List Bool) → have_any (of_values f n bs) ≡ list_any (λ b. b) bs
  any-values n bs =
      any-both (behind (step.Key key.Inputs) (in_texts f (take n bs))) (behind (step.Key key.Decisions) (in_named f (drop n bs))) _ _
      (any-inside (step.Key key.Inputs) (in_texts f (take n bs)) _ (any-texts (take n bs)))
      (any-inside (step.Key key.Decisions) (in_named f (drop n bs)) _ (any-named (drop n bs)))
      ∙ sym (list_any-append (λ b. b) (take n bs) (drop n bs)) ∙ ap (list_any (λ b. b)) (take-append-drop n bs)

  any-flat : {X : Type 0} (g : X → List (List Name)) (xs : List X) → list_any (λ x. list_any (faulty f) (g x)) xs ≡ list_any (faulty f) (flat_map g xs)
  any-flat g [] = refl
  any-flat g (x ∷ xs) = ap (λ b. list_any (faulty f) (g x) || b) (any-flat g xs) ∙ sym (list_any-append (faulty f) (g x) (flat_map g xs))

  any-parts : (m : Draft) → have_any (of_parts f m) ≡ list_any (faulty f) (part_lists m)
  any-parts m =
      of_both (behind (step.Key key.Decisions) (each_of (within_decision f) m.decisions)) (behind (step.Key key.Services) (each_of (within_service f) m.services))
      (flat_map decision_lists m.decisions) (flat_map service_lists m.services)
      (any-inside (step.Key key.Decisions) (each_of (within_decision f) m.decisions) _
      (any-each_of (within_decision f) (λ d. list_any (faulty f) (decision_lists d)) any-decision m.decisions ∙ any-flat decision_lists m.decisions))
      (any-inside (step.Key key.Services) (each_of (within_service f) m.services) _
      (any-each_of (within_service f) (λ s. list_any (faulty f) (service_lists s)) any-service m.services ∙ any-flat service_lists m.services))

  any-heads : (m : Draft) → have_any (of_heads f m) ≡ (faulty f (value_names m) || faulty f (service_names m))
  any-heads m =
      any-both (of_values f (length m.inputs) (marks f (value_names m))) (behind (step.Key key.Services) (in_named f (marks f (service_names m)))) _ _
      (any-values (length m.inputs) (marks f (value_names m)) ∙ any-marks f (value_names m))
      (any-inside (step.Key key.Services) (in_named f (marks f (service_names m))) _ (any-list (service_names m)))

  grouped : (a b c : Bool) → ((a || b) || c) ≡ (a || (b || c))
  grouped true b c = refl
  grouped false b c = refl

  any-names : (m : Draft) → have_any (name_faults f m) ≡ list_any (faulty f) (name_lists m)
  any-names m =
      any-both (of_heads f m) (of_parts f m) _ _ (any-heads m) (any-parts m)
      ∙ grouped (faulty f (value_names m)) (faulty f (service_names m)) (list_any (faulty f) (part_lists m))

pub any-unlawful : (m : Draft) → have_any (unlawful_names m) ≡ has_bad_name m
any-unlawful m = any-names Unlawful m

pub any-repeated : (m : Draft) → have_any (repeated_names m) ≡ has_name_twice m
any-repeated m = any-names Repeated m

pub unlawful_exactly : (m : Draft) → nat_lt 0 (capped (length (unlawful_names m))) ≡ has_bad_name m
unlawful_exactly m = some_told (unlawful_names m) ∙ any-names Unlawful m

pub repeated_exactly : (m : Draft) → nat_lt 0 (capped (length (repeated_names m))) ≡ has_name_twice m
repeated_exactly m = some_told (repeated_names m) ∙ any-names Repeated m
