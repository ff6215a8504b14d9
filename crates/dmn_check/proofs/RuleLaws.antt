-- A table with a rule that doesn't fit is refused.
use Rattle.std.proofs.Common.{◌≡◌, ℕ, List, [], ◌∷◌, map, length, refl, sym, ap, ◌∙◌, Bool, true, false, not, ◌&&◌, ◌||◌, if◌then◌else◌, nat_lt, Option, None, Some, is_some}
use Rattle.std.specs.List.{list_any, list_all}
use Rattle.std.proofs.lemmas.List.{length-map}
use Rattle.feel_value.specs.Distinct.{are_distinct}
use Rattle.dmn_table.specs.Faults.{policy_of, fits_columns, columns_fit, operator_fits, fault_under}
use Rattle.dmn_table.specs.declared.hit_policy.HitPolicy.{HitPolicy}
use Rattle.dmn_table.specs.declared.fault.TableFault.TheVariants.{Columns, Operator}
use Rattle.dmn_form.specs.Draft.{WrittenRule, WrittenTable, Draft}
use Rattle.dmn_logic.specs.Parts.{texts_in, tables_in}
use Rattle.dmn_logic.specs.Faults.{is_refused, has_refused_table}
use Rattle.dmn_check.specs.declared.place.Step.TheVariants as step
use Rattle.dmn_check.specs.declared.place.Key.TheVariants as key
use Rattle.dmn_check.specs.declared.finding.Mistake.TheVariants as mistake
use Rattle.dmn_check.specs.Findings.{each_of}
use Rattle.dmn_check.specs.Rules.{is_unfit, unfit_rule, unfit_in_table, rules_look, unfit_rules}
use Rattle.dmn_check.specs.Told.{have_any, capped}
use Rattle.dmn_check.proofs.Presence.{any-here, any-inside, any-each_of, any-decisions}
use Rattle.dmn_check.proofs.RefusedLaws.{no_text}
use Rattle.dmn_check.proofs.TableFaults.{pair}
use Rattle.dmn_check.proofs.ToldLaws.{some_told}

abbrev count : WrittenRule → ℕ × ℕ
count r = pair (length r.tests) (length r.gives)

has_unfit : WrittenTable → Bool
has_unfit t = list_any (is_unfit (length t.inputs) (length t.outputs)) t.rules

not_all : (f : ℕ × ℕ → Bool) (rs : List WrittenRule) → list_any (λ r. not (f (count r))) rs ≡ true → list_all f (map count rs) ≡ false
not_all f [] e = absurd (cc)
not_all f (r ∷ rs) e = go (f (count r)) e (not_all f rs)
  where
    go : (b : Bool) → (not b || list_any (λ x. not (f (count x))) rs) ≡ true → (list_any (λ x. not (f (count x))) rs ≡ true → list_all f (map count rs) ≡ false)
        → (b && list_all f (map count rs)) ≡ false
    go true h rest = rest h
    go false h rest = refl

last_false : (a b c : Bool) → c ≡ false → ((a && b) && c) ≡ false
last_false true true c e = e
last_false true false c e = refl
last_false false b c e = refl

some_fault : (o : Option HitPolicy) (n : ℕ) (ns : List (List ℕ)) (es : List (ℕ × ℕ)) → columns_fit n ns es ≡ false → is_some (fault_under o n ns es) ≡ true
some_fault None n ns es e = refl
some_fault (Some p) n ns es e = ap (λ c. is_some (if not c then Some Columns else (if not (operator_fits p ns) then Some Operator else None))) e

unfit_refused : (t : WrittenTable) → has_unfit t ≡ true → is_refused t ≡ true
unfolding has_unfit
unfit_refused t e =
    let names = map (λ c. c.name) t.outputs in
    some_fault (policy_of t.hit) (length t.inputs) names (map count t.rules)
    (last_false (nat_lt 0 (length names)) (are_distinct names) (list_all (fits_columns (length t.inputs) (length names)) (map count t.rules))
    (not_all (fits_columns (length t.inputs) (length names)) t.rules
    (ap (λ n. list_any (λ r. not (fits_columns (length t.inputs) n (count r))) t.rules) (length-map t.outputs (λ c. c.name)) ∙ e)))

any_more : {X : Type 0} (p q : X → Bool) → ((x : X) → p x ≡ true → q x ≡ true) → (xs : List X) → list_any p xs ≡ true → list_any q xs ≡ true
any_more p q h [] e = e
any_more p q h (x ∷ xs) e = go (p x) refl e (any_more p q h xs)
  where
    go : (b : Bool) → p x ≡ b → (b || list_any p xs) ≡ true → (list_any p xs ≡ true → list_any q xs ≡ true) → (q x || list_any q xs) ≡ true
    go true f g rest = ap (λ c. c || list_any q xs) (h x f)
    go false f g rest = or_true (q x) (list_any q xs) (rest g)
      where
        or_true : (a b : Bool) → b ≡ true → (a || b) ≡ true
        or_true true b k = refl
        or_true false b k = k

any-in_table : (t : WrittenTable) → have_any (unfit_in_table t) ≡ has_unfit t
unfolding has_unfit
any-in_table t =
    any-inside (step.Key key.Rules) (each_of (unfit_rule (length t.inputs) (length t.outputs)) t.rules) _
    (any-each_of (unfit_rule (length t.inputs) (length t.outputs)) (is_unfit (length t.inputs) (length t.outputs))
    (λ r. any-here mistake.Rule (is_unfit (length t.inputs) (length t.outputs) r)) t.rules)

any-unfit : (m : Draft) → have_any (unfit_rules m) ≡ list_any (λ d. list_any has_unfit (tables_in d.logic)) m.decisions
any-unfit m =
    any-decisions rules_look (λ s. false) has_unfit (λ s. refl) any-in_table (λ ns. refl)
    (λ d. list_any has_unfit (tables_in d.logic)) (λ d. ap (λ b. b || list_any has_unfit (tables_in d.logic)) (no_text (texts_in d.logic))) m.decisions

pub unfit_is_refused : (m : Draft) → nat_lt 0 (capped (length (unfit_rules m))) ≡ true → has_refused_table m.decisions ≡ true
unfit_is_refused m e =
    any_more (λ d. list_any has_unfit (tables_in d.logic)) (λ d. list_any is_refused (tables_in d.logic))
    (λ d h. any_more has_unfit is_refused unfit_refused (tables_in d.logic) h) m.decisions (sym (any-unfit m) ∙ sym (some_told (unfit_rules m)) ∙ e)
