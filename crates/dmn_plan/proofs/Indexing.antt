-- Plans that are put into a map under their names, one after another.
use Rattle.std.proofs.Common.{◌≡◌, ℕ, List, [], ◌∷◌, Option, Some, None, is_some, refl, sym, ap, subst, ◌∙◌, Bool, true, false, if◌then◌else◌, String, Global, string_bytes, cond, ◌≤◌, arith}
use Rattle.std.specs.Prelude.{bytes_eq, Result, Ok, Err, is_ok, IsUtf8, nat_le}
use Rattle.std.proofs.lemmas.Bool.Decides.{nat_tests}
use Rattle.std.specs.BTreeMap.{BTreeMap, get_by_text, Updates}
use Rattle.std.specs.String.{string_cmp}
use Rattle.std.proofs.lemmas.Map.Text.{btree_map_updates_text}
use Rattle.std.proofs.lemmas.Slice.Eq.{bytes_eq-Decides}
use Rattle.serde_json.specs.Data.{Data, depth}
use Rattle.serde_json.specs.Read.{read}
use Rattle.feel_text.specs.Expr.{Expr}
use Rattle.dmn_table.specs.Table.{Table}
use Rattle.dmn_form.specs.Draft.{Draft, draft_of, model_form, most_nesting}
use Rattle.dmn_form.specs.Model.{Name, Service, Model}
use Rattle.dmn_plan.specs.Due.{IsDue, IsReadDue}
use Rattle.dmn_plan.specs.Indexed.{plan_named, first_of, IsPlanAt, IsIndexed}
use Rattle.dmn_plan.specs.Plans.{IsPlanned, ArePlansFor}
use Rattle.dmn_plan.specs.ReadModel.{read_model, read_text, checked, of_data}
use Rattle.dmn_plan.specs.Request.{service_named}
use Rattle.dmn_plan.specs.declared.fault.ModelFault.{ModelFault}
use Rattle.dmn_plan.specs.declared.fault.ModelFault.TheVariants as fault
use Rattle.dmn_service.specs.declared.plan.Item.{Item}
use Rattle.dmn_service.specs.declared.plan.ServicePlan.{ServicePlan}

same_text : (a b : Name) → bytes_eq a b ≡ true → a ≡ b
same_text a b h = (bytes_eq-Decides a b).0 h

text_itself : (a : Name) → bytes_eq a a ≡ true
text_itself a = (bytes_eq-Decides a a).1 refl

turned : (a b : Name) (s t : Bool) → bytes_eq a b ≡ s → bytes_eq b a ≡ t → s ≡ t
turned a b true true p q = refl
turned a b false false p q = refl
turned a b true false p q = sym (ap (λ x. bytes_eq x a) (sym (same_text a b p)) ∙ text_itself a) ∙ q
turned a b false true p q = sym (sym (ap (λ x. bytes_eq x b) (sym (same_text b a q)) ∙ text_itself b) ∙ p)

by_test : (p : ServicePlan) (b : Bool) (o : Option ServicePlan) → (b ≡ true → is_some o ≡ false) → cond b (Some p) o ≡ first_of o (if b then Some p else None)
by_test p true None h = refl
by_test p true (Some q) h = let e : true ≡ false = h refl in cc
by_test p false None h = refl
by_test p false (Some q) h = refl

-- a name that was not in the map
pub put_new : (old new : BTreeMap (String Global) ServicePlan) (name : String Global) (p : ServicePlan)
    → Updates string_cmp old new name (Some p) → is_some (get_by_text old (string_bytes name)) ≡ false
    → (n : Name) → get_by_text new n ≡ first_of (get_by_text old n) (if bytes_eq n (string_bytes name) then Some p else None)
put_new old new name p put absent n =
    btree_map_updates_text (string_bytes name) old new (Some p) put n
    ∙ ap (λ b. cond b (Some p) (get_by_text old n)) (turned (string_bytes name) n (bytes_eq (string_bytes name) n) (bytes_eq n (string_bytes name)) refl refl)
    ∙ by_test p (bytes_eq n (string_bytes name)) (get_by_text old n) (λ e. ap (λ k. is_some (get_by_text old k)) ((bytes_eq-Decides n (string_bytes name)).0 e) ∙ absent)

-- one plan more
pub a_turn : (old : Option ServicePlan) (b : Bool) (p : ServicePlan) (o : Option ServicePlan)
    → first_of old (if b then Some p else o) ≡ first_of (first_of old (if b then Some p else None)) o
a_turn None true p o = refl
a_turn None false p o = refl
a_turn (Some q) b p o = refl

plan_at : (m : Model Expr Table) (items : List Item) (n : Name) (ss : List Service) (ps : List ServicePlan) → ArePlansFor m items ss ps → IsPlanAt m items (service_named ss n) (plan_named ps n)
plan_at m items n [] [] h = tt
plan_at m items n [] (p ∷ ps) h = absurd h
plan_at m items n (s ∷ ss) [] h = absurd h
plan_at m items n (s ∷ ss) (p ∷ ps) h =
    subst (λ k. IsPlanAt m items (if bytes_eq n s.name then Some s else service_named ss n) (if bytes_eq n k then Some p else plan_named ps n)) (sym h.0.0) (one_or_later (bytes_eq n s.name) (plan_at m items n ss ps h.1))
  where
    one_or_later : (b : Bool) → IsPlanAt m items (service_named ss n) (plan_named ps n) → IsPlanAt m items (if b then Some s else service_named ss n) (if b then Some p else plan_named ps n)
    one_or_later true later = h.0
    one_or_later false later = later

-- the plans of a model, each under its name
pub indexed : (r : Result (Model Expr Table) ModelFault) (items : List Item) (plans : List ServicePlan) (found : BTreeMap (String Global) ServicePlan)
    → IsPlanned r items plans → ((n : Name) → get_by_text found n ≡ plan_named plans n) → IsIndexed r items found
indexed (Ok m) items plans found h e = λ n. subst (λ o. IsPlanAt m items (service_named m.services n) o) (sym (e n)) (plan_at m items n m.services plans h)
indexed (Err f) items plans found h e = absurd h

-- what has plans is a model
pub planned_is_model : (r : Result (Model Expr Table) ModelFault) (items : List Item) (plans : List ServicePlan) → IsPlanned r items plans → is_ok r ≡ true
planned_is_model (Ok m) items plans h = refl
planned_is_model (Err f) items plans h = absurd h

-- ---- the model of a text

pub model_of_draft : (d : Data) (o : Option Draft) → o ≡ draft_of d → read_model d ≡ checked o
unfolding read_model
model_of_draft d o e = ap checked (sym e)

pub model_of_text : (s : List ℕ) (o : Option Data) → read s ≡ o → read_text s ≡ of_data o
unfolding read_text
model_of_text s o e = ap of_data e

by_bound : (b : Bool) (o : Option Draft) (m : Draft) → (if b then o else None) ≡ Some m → b ≡ true
by_bound true o m e = refl
by_bound false o m e = cc

-- a value that has the form nests within the limit
pub nests : (d : Data) (m : Draft) → draft_of d ≡ Some m → depth d ≤ most_nesting
nests d m e =
    let within : nat_le (depth d) most_nesting ≡ true = by_bound (nat_le (depth d) most_nesting) (model_form d) m e in
    grind (arith, nat_tests, within)

-- a fault of the value of a text is one of the text
pub due_of_text : (s : List ℕ) (d : Data) (f : ModelFault) → IsUtf8 s → read s ≡ Some d → IsDue (read_model d) f → IsReadDue s f
due_of_text s d fault.Memory u r h = tt
due_of_text s d fault.Syntax u r h = λ v. model_of_text s (Some d) r ∙ h
due_of_text s d fault.Shape u r h = (u, model_of_text s (Some d) r ∙ h)
due_of_text s d fault.Name u r h = (u, model_of_text s (Some d) r ∙ h)
due_of_text s d fault.Twice u r h = (u, model_of_text s (Some d) r ∙ h)
due_of_text s d fault.Expression u r h = (u, model_of_text s (Some d) r ∙ h)
due_of_text s d fault.Table u r h = (u, model_of_text s (Some d) r ∙ h)
due_of_text s d fault.Unknown u r h = (u, model_of_text s (Some d) r ∙ h)
due_of_text s d fault.Cycle u r h = (u, model_of_text s (Some d) r ∙ h)
due_of_text s d fault.Service u r h = (u, model_of_text s (Some d) r ∙ h)
due_of_text s d fault.Large u r h = (u, model_of_text s (Some d) r ∙ h)
