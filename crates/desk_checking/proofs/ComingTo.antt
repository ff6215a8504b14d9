-- What is asked about a table is all that comes to it.
use Rattle.std.proofs.Common.{◌≡◌, ◌∙◌, ◌<◌, ℕ, Bool, List, [], ◌∷◌, length, map, true, false, Option, None, Some, IfSome, option_map, Result, Ok, Vec, refl, sym, ap, subst}
use Rattle.std.specs.List.{filter_map, slice_get, zip}
use Rattle.std.specs.declared.alloc.Global.{Global}
use Rattle.std.proofs.lemmas.Option.{same_Some, slice_get-map}
use Rattle.feel_value.specs.Datum.{Datum}
use Rattle.feel_text.specs.Expr.{Expr}
use Rattle.feel_text.specs.Meaning.{Bindings}
use Rattle.dmn_table.specs.Table.{Table}
use Rattle.dmn_form.specs.Model.{Boxed, Decision, Model, Name, Service}
use Rattle.dmn_graph.specs.Reach.{Each}
use Rattle.dmn_service.specs.Decision.{decision_named, outcome_of, parameters_of}
use Rattle.dmn_service.specs.Places.{name_at}
use Rattle.dmn_service.specs.Plan.{HasPlacesWithin, IsPlanOf, decision_of}
use Rattle.dmn_service.specs.declared.plan.Item.{Item}
use Rattle.dmn_service.specs.declared.plan.ServicePlan.{ServicePlan}
use Rattle.dmn_plan.specs.ReadModel.{read_text}
use Rattle.dmn_plan.specs.Request.{service_named}
use Rattle.dmn_plan.specs.declared.fault.ModelFault.{ModelFault}
use Rattle.dmn_analysis.specs.Asked.{is_in_utf8}
use Rattle.dmn_analysis.specs.declared.asked.Asked.{Asked}
use Rattle.dmn_ranges.specs.Columns.{ComeIn, ComeTo, decision_tables}
use Rattle.dmn_ranges.specs.declared.outcomes.Outcomes.{Outcomes}
use Rattle.dmn_told.specs.Coming.{ByPlace, ComesAt, ComesFrom, ComesFromEach, ComesFromService}
use Rattle.dmn_told.specs.Told.{AreMet}
use Rattle.dmn_told.specs.declared.domains.Domain.{Domain}
use Rattle.desk_checking.proofs.Needing.{all_at, inside, needed_place, same_place, stands_at}
use Rattle.desk_checking.specs.Comes.{AreAskedUnder, AsksAll, AsksFrom, IsNeeded, are_looked_at}
use Rattle.desk_checking.specs.ComesView.{AskUtf8Columns, AsksTableIf, ArePlaces, IsComingBy, IsFrom, decision_names}
use Rattle.desk_checking.specs.Tables.{Placed, decision_place, tables_in}
use Rattle.desk_checking.specs.TablesTold.{IsWithin, Looked, TellsTables}
use Rattle.desk_checking.specs.declared.decision_inputs.DecisionInputs.{DecisionInputs}

same_ok : (x y : Model Expr Table) (r : Result (Model Expr Table) ModelFault) → r ≡ Ok x → r ≡ Ok y → x ≡ y
same_ok x y r a b = cc

abbrev Tables : Type 0
Tables = Vec (Vec Outcomes Global) Global

-- what comes in is asked about
asked_under : (os : List Outcomes) (asked : List Asked) (inputs : List Expr) (m : Option Bindings) → AskUtf8Columns os asked → ComeIn os inputs m → AreAskedUnder asked inputs m
asked_under os asked inputs None asks come = tt
asked_under os asked inputs (Some m) asks come = λ values are utf8 k a v there value. (
    let o = asks k a there in
    o.2 v (all_at (λ d. is_in_utf8 d ≡ true) values utf8 k v value) (come values are k o.0 v o.1 value))

-- ---- the place of a decision

name_of_place : (items : List Item) (places : List ℕ) (ds : List (Decision Expr Table)) (i q : ℕ) (d : Decision Expr Table) → map (name_at items) places ≡ decision_names items items → ds ≡ filter_map (decision_of items) items → slice_get places i ≡ Some q
    → slice_get ds i ≡ Some d → name_at items q ≡ d.name
name_of_place items places ds i q d named same at there =
    let name : Decision Expr Table → Name = λ x. x.name in
    same_Some (name_at items q) d.name
    (sym (slice_get-map (name_at items) places i ∙ ap (option_map (name_at items)) at) ∙ ap (λ ns. slice_get ns i) named ∙ ap (λ xs. slice_get (map name xs) i) (sym same) ∙ slice_get-map name ds i ∙ ap (option_map name) there)

-- ---- one service

module _ (m : Model Expr Table) (ds : List Domain) (items : List Item) (told : ByPlace) (places : List ℕ) (are : ArePlaces items places) (index place : ℕ) (d : Decision Expr Table) (at : slice_get places index ≡ Some place)
    (decided : slice_get m.decisions index ≡ Some d) (tables : Tables) (here : slice_get told place ≡ Some (Some tables)) (k : ℕ) (columns : Vec Outcomes Global) (column : slice_get tables.items k ≡ Some columns) (asked : List Asked)
    (asks : AskUtf8Columns columns.items asked) where
  from_plan : (s : Service) (plan : ServicePlan) → IsPlanOf m s items plan → HasPlacesWithin items plan → ComesFrom ds m s items plan told → (values : List Datum) → AreMet ds (parameters_of s) values → IsNeeded m s d.name
      → (t : Table × Option Bindings) → slice_get (decision_tables (outcome_of m (zip (parameters_of s) values)) (decision_named m.decisions d.name)) k ≡ Some t → AreAskedUnder asked t.0.inputs t.1
  from_plan s plan is within comes values met needed t there =
      let outcome = outcome_of m (zip (parameters_of s) values) in
      let w = needed_place m s items plan is within d.name needed in
      let j = stands_at plan.order.items w.0 w.1 in
      let named = name_of_place items places m.decisions index place d are.named is.decisions at decided in
      let same : w.0 ≡ place = same_place items is.names place w.0 (all_at (λ q. q < length items) places are.within index place at) (inside m s items plan is within w.0 w.1) (w.2 ∙ sym named) in
      let come : ComesAt m s values (name_at items place) (slice_get told place) = subst (λ q. ComesAt m s values (name_at items q) (slice_get told q)) same (comes values met j.0 w.0 j.1) in
      let to : ComeTo tables.items (decision_tables outcome (decision_named m.decisions (name_at items place))) = subst (λ o. ComesAt m s values (name_at items place) o) here come in
      let to_it : ComeTo tables.items (decision_tables outcome (decision_named m.decisions d.name)) = subst (λ (n : Name). ComeTo tables.items (decision_tables outcome (decision_named m.decisions n))) named to in
      asked_under columns.items asked t.0.inputs t.1 asks (to_it k columns t column there)

  from_service : (read : Result (Model Expr Table) ModelFault) (n : Name) (plan : ServicePlan) → read ≡ Ok m → ComesFromService read ds n items plan told → AsksFrom m ds d.name k asked n
  from_service read n plan reads from = λ s values named met needed t there. (
      let served = from.served in
      let whole : served.model ≡ m = same_ok served.model m read served.is reads in
      let found : service_named m.services n ≡ Some served.service = subst (λ (x : Model Expr Table). service_named x.services n ≡ Some served.service) whole served.named in
      let one : served.service ≡ s = same_Some served.service s (sym found ∙ named) in
      let is : IsPlanOf m s items plan = subst (λ (x : Model Expr Table). IsPlanOf x s items plan) whole (subst (λ (y : Service). IsPlanOf served.model y items plan) one served.plan) in
      let comes : ComesFrom ds m s items plan told = subst (λ (x : Model Expr Table). ComesFrom ds x s items plan told) whole (subst (λ (y : Service). ComesFrom ds served.model y items plan told) one from.comes) in
      from_plan s plan is served.within comes values met needed t there)

  from_each : (read : Result (Model Expr Table) ModelFault) (ns : List Name) (plans : List ServicePlan) → read ≡ Ok m → ComesFromEach read ds ns items plans told → AsksAll m ds ns d.name k asked
  from_each read [] [] reads from = tt
  from_each read [] (p ∷ ps) reads from = tt
  from_each read (n ∷ ns) [] reads from = absurd from
  from_each read (n ∷ ns) (p ∷ ps) reads from = (from_service read n p reads from.0, from_each read ns ps reads from.1)

-- ---- one table

asks_all : (text : List ℕ) (m : Model Expr Table) (ds : List Domain) (ns : List Name) (c : Option DecisionInputs) (i k : ℕ) (d : Decision Expr Table) (o : Option (List Asked)) → read_text text ≡ Ok m → IfSome c (IsComingBy text ds ns) → slice_get m.decisions i ≡ Some d
    → IfSome o (AsksTableIf c i k) → IfSome o (AsksAll m ds ns d.name k)
asks_all text m ds ns c i k d None reads is there comes = tt
asks_all text m ds ns None i k d (Some asked) reads is there comes = absurd comes
asks_all text m ds ns (Some c) i k d (Some asked) reads is there comes =
    from_each m ds c.coming.items.now c.coming.tables.items c.places.items is.places i comes.place d comes.at there comes.tables comes.told k comes.columns comes.there asked comes.asks (read_text text) ns is.coming.plans reads is.coming.comes

none_comes : (c : Option DecisionInputs) (i k : ℕ) (o : Option (List Asked)) → c ≡ None → IfSome o (AsksTableIf c i k) → o ≡ None
none_comes c i k None none comes = refl
none_comes c i k (Some asked) none comes = absurd (subst (λ x. AsksTableIf x i k asked) none comes)

-- the decision of a logic
its_decision : (o : Option (Decision Expr Table)) (b : Boxed Expr Table) → option_map (λ (d : Decision Expr Table). d.logic) o ≡ Some b → (d : Decision Expr Table) × (o ≡ Some d) × (d.logic ≡ b)
its_decision None b e = absurd (cc)
its_decision (Some d) b e = (d, refl, same_Some d.logic b e)

is_within : (text : List ℕ) (m : Model Expr Table) (ds : List Domain) (ns : List Name) (c : Option DecisionInputs) (l : Looked) → read_text text ≡ Ok m → IfSome c (IsComingBy text ds ns) → (are_looked_at ds ns ≡ false → c ≡ None)
    → IsFrom c (map (λ (d : Decision Expr Table). d.logic) m.decisions) l → IsWithin m ds ns l
is_within text m ds ns c l reads is unknown from =
    let d = its_decision (slice_get m.decisions l.decision) from.logic (sym (slice_get-map (λ (x : Decision Expr Table). x.logic) m.decisions l.decision) ∙ from.there) in
    record {
      decision = d.0;
      there = d.1;
      table = subst (λ b. slice_get (tables_in (decision_place l.decision) b) l.number ≡ Some l.placed) (sym d.2) from.table;
      comes = asks_all text m ds ns c l.decision l.number d.0 l.comes reads is d.1 from.comes;
      unknown = λ none. none_comes c l.decision l.number l.comes (unknown none) from.comes;
    }

each_within : (text : List ℕ) (m : Model Expr Table) (ds : List Domain) (ns : List Name) (c : Option DecisionInputs) (ls : List Looked) → read_text text ≡ Ok m → IfSome c (IsComingBy text ds ns) → (are_looked_at ds ns ≡ false → c ≡ None)
    → Each (IsFrom c (map (λ (d : Decision Expr Table). d.logic) m.decisions)) ls → Each (IsWithin m ds ns) ls
each_within text m ds ns c [] reads is unknown from = tt
each_within text m ds ns c (l ∷ ls) reads is unknown from = (is_within text m ds ns c l reads is unknown from.0, each_within text m ds ns c ls reads is unknown from.1)

-- all that is told of tables is told within what comes
pub tells_within : (text : List ℕ) (m : Model Expr Table) (ds : List Domain) (ns : List Name) (c : Option DecisionInputs) (tables : List Placed) (told : List ℕ) (are_refused : Bool) → read_text text ≡ Ok m → IfSome c (IsComingBy text ds ns)
    → (are_looked_at ds ns ≡ false → c ≡ None) → TellsTables (IsFrom c (map (λ (d : Decision Expr Table). d.logic) m.decisions)) tables told are_refused → TellsTables (IsWithin m ds ns) tables told are_refused
tells_within text m ds ns c tables told are_refused reads is unknown tells = record {
  looked = tells.looked;
  each = tells.each;
  are = each_within text m ds ns c tells.looked reads is unknown tells.are;
  told = tells.told;
  refused = tells.refused;
}
