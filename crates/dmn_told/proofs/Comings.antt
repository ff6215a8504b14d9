-- What comes to the tables of one decision after another, and of one service after another.
use Rattle.std.proofs.Common.{◌≡◌, ◌∙◌, refl, sym, ap, subst, ℕ, zero, suc, ◌+◌, ◌<◌, ◌≤◌, List, [], ◌∷◌, ◌++◌, length, get_or, map, drop, Option, None, Some, option_map, true, false, inl, inr, ◌⊎◌, arith, Vec, IfSome}
use Rattle.std.specs.Prelude.{nat_eq, slice_set, ◌≢◌, Result}
use Rattle.std.specs.List.{All, slice_get, zip}
use Rattle.std.specs.declared.alloc.Global.{Global}
use denote.Ref.{Bor}
use Rattle.std.proofs.lemmas.Bool.Decides.{eqb_tells}
use Rattle.std.proofs.lemmas.List.{at_drop_more, drop_all, get_or-map, length-map}
use Rattle.std.proofs.lemmas.Option.{same_Some}
use Rattle.feel_value.specs.Datum.{Datum}
use Rattle.feel_text.specs.Expr.{Expr}
use Rattle.feel_text.specs.Meaning.{Bindings}
use Rattle.dmn_table.specs.Table.{Table}
use Rattle.dmn_form.specs.Model.{Model, Name, Service}
use Rattle.dmn_plan.specs.ReadModel.{read_text}
use Rattle.dmn_plan.specs.Served.{ArePlansOf, IsServicePlan}
use Rattle.dmn_plan.specs.declared.fault.ModelFault.{ModelFault}
use Rattle.dmn_ranges.proofs.SoundColumns.{wider_to}
use Rattle.dmn_ranges.specs.Columns.{AreColumnsOf, AreWider, ComeTo, IsWider, StandAt, decision_tables}
use Rattle.dmn_ranges.specs.Ranges.{lies_in}
use Rattle.dmn_ranges.specs.declared.columns.ToldTables.{ToldTables}
use Rattle.dmn_ranges.specs.declared.outcomes.Outcomes.{Outcomes}
use Rattle.dmn_ranges.specs.declared.range.ParameterRange.{ParameterRange}
use Rattle.dmn_service.specs.Decision.{decision_named, outcome_of, parameters_of}
use Rattle.dmn_service.specs.Places.{name_at}
use Rattle.dmn_service.specs.declared.plan.Item.{Item}
use Rattle.dmn_service.specs.declared.plan.ServicePlan.{ServicePlan}
use Rattle.dmn_told.specs.Coming.{Adds, AreParametersOf, ByPlace, ComesAt, ComesFrom, ComesFromEach, ComesFromService, HasEach, HasTables, Keeps}
use Rattle.dmn_told.specs.Covered.{AreCovered}
use Rattle.dmn_told.specs.declared.domains.Domain.{Domain}
use Rattle.dmn_told.proofs.Covering.{covered_within}
use Rattle.dmn_told.proofs.Serving.{named_by}

abbrev Tables : Type 0
Tables = Vec (Vec Outcomes Global) Global

-- ---- wider and wider

wider_again : (a b c : List Outcomes) → IsWider a b → IsWider b c → IsWider a c
wider_again a b c first second k o there =
    let m = second k o there in
    let w = first k m.0 m.1 in
    (w.0, w.1, λ v h. m.2 v (w.2 v h))

are_wider_again : (a b c : List (Vec Outcomes Global)) → AreWider a b → AreWider b c → AreWider a c
are_wider_again a b c first second k o there =
    let m = second k o there in
    let w = first k m.0 m.1 in
    (w.0, w.1, wider_again w.0.items m.0.items o.items w.2 m.2)

as_wide : (a : List Outcomes) → IsWider a a
as_wide a k o there = (o, there, λ v h. h)

pub are_as_wide : (a : List (Vec Outcomes Global)) → AreWider a a
are_as_wide a k c there = (c, there, as_wide c.items)

-- ---- what is told at a place

narrower : (o : Option (Option Tables)) (t u : Tables) → AreWider t.items u.items → HasTables o u → HasTables o t
narrower None t u w has = has
narrower (Some None) t u w has = has
narrower (Some (Some wide)) t u w has = are_wider_again t.items u.items wide.items w has

has_kept : (old new : ByPlace) (q : ℕ) (o : Option (Option Tables)) (t : Tables) → slice_get old q ≡ o → HasTables o t → Keeps old new → HasTables (slice_get new q) t
has_kept old new q None t is has keeps = absurd has
has_kept old new q (Some None) t is has keeps = absurd has
has_kept old new q (Some (Some wide)) t is has keeps = narrower (slice_get new q) t wide has (keeps q wide is)

pub kept_again : (a b c : ByPlace) → Keeps a b → Keeps b c → Keeps a c
kept_again a b c first second q t is = has_kept b c q (slice_get b q) t refl (first q t is) second

has_itself : (o : Option (Option Tables)) (t : Tables) → o ≡ Some (Some t) → HasTables o t
has_itself o t is = subst (λ p. HasTables p t) (sym is) (are_as_wide t.items)

pub keeps_itself : (a : ByPlace) → Keeps a a
keeps_itself a q t is = has_itself (slice_get a q) t is

each_kept : (cs : List ToldTables) (old new : ByPlace) → HasEach cs old → Keeps old new → HasEach cs new
each_kept [] old new has keeps = tt
each_kept (c ∷ cs) old new has keeps = (has_kept old new c.place (slice_get old c.place) c.tables refl has.0 keeps, each_kept cs old new has.1 keeps)

-- ---- a place that is written

get-set_here : {A : Type 0} (xs : List A) (k : ℕ) (a : A) → k < length xs → slice_get (slice_set xs k a) k ≡ Some a
get-set_here [] k a inside = absurd (omega (arith, inside))
get-set_here (x ∷ xs) zero a inside = refl
get-set_here (x ∷ xs) (suc k) a inside = get-set_here xs k a (omega (arith, inside))

get-set_apart : {A : Type 0} (xs : List A) (k q : ℕ) (a : A) → k ≢ q → slice_get (slice_set xs k a) q ≡ slice_get xs q
get-set_apart [] k q a apart = refl
get-set_apart (x ∷ xs) zero zero a apart = absurd (apart refl)
get-set_apart (x ∷ xs) zero (suc q) a apart = refl
get-set_apart (x ∷ xs) (suc k) zero a apart = refl
get-set_apart (x ∷ xs) (suc k) (suc q) a apart = get-set_apart xs k q a (λ e. apart (ap suc e))

length_set : {A : Type 0} (xs : List A) (k : ℕ) (a : A) → length (slice_set xs k a) ≡ length xs
length_set [] k a = refl
length_set (x ∷ xs) zero a = refl
length_set (x ∷ xs) (suc k) a = ap suc (length_set xs k a)

pub tables_kept : (old new : ByPlace) (place : ℕ) (before : Option Tables) (wide : Tables) → new ≡ slice_set old place (Some wide) → place < length old → slice_get old place ≡ Some before
    → IfSome before (λ t. AreWider t.items wide.items) → Keeps old new
tables_kept old new place before wide is inside at wider q t there =
    subst (λ (xs : ByPlace). HasTables (slice_get xs q) t) (sym is) (go (eqb_tells place q))
  where
    from : (b : Option Tables) → b ≡ Some t → IfSome b (λ u. AreWider u.items wide.items) → AreWider t.items wide.items
    from None e h = cc
    from (Some u) e h = subst (λ (v : Tables). AreWider v.items wide.items) (same_Some u t e) h

    go : ((nat_eq place q ≡ true) × (place ≡ q)) ⊎ ((nat_eq place q ≡ false) × (place ≢ q)) → HasTables (slice_get (slice_set old place (Some wide)) q) t
    go (inl e) =
        let same : before ≡ Some t = same_Some before (Some t) (sym at ∙ ap (slice_get old) e.1 ∙ there) in
        subst (λ (o : Option (Option Tables)). HasTables o t) (sym (ap (slice_get (slice_set old place (Some wide))) (sym e.1) ∙ get-set_here old place (Some wide) inside)) (from before same wider)
    go (inr e) = has_itself (slice_get (slice_set old place (Some wide)) q) t (get-set_apart old place q (Some wide) e.1 ∙ there)

pub tables_there : (old new : ByPlace) (place : ℕ) (wide tables : Tables) → new ≡ slice_set old place (Some wide) → place < length old → AreWider tables.items wide.items → HasTables (slice_get new place) tables
tables_there old new place wide tables is inside wider =
    subst (λ (xs : ByPlace). HasTables (slice_get xs place) tables) (sym is) (subst (λ (o : Option (Option Tables)). HasTables o tables) (sym (get-set_here old place (Some wide) inside)) wider)

pub tables_count : (old new : ByPlace) (place : ℕ) (o : Option Tables) → new ≡ slice_set old place o → length new ≡ length old
tables_count old new place o is = ap length is ∙ length_set old place o

-- ---- one decision after another

-- all these decisions are added, wherever those that are left are
abbrev pub AddsRest : List ToldTables → ByPlace → List ToldTables → ByPlace → Type 0
AddsRest cs old rest cur = (new : ByPlace) → Adds rest cur new → Adds cs old new

pub adds_begin : (cs : List ToldTables) (old : ByPlace) → AddsRest cs old cs old
adds_begin cs old new rest = rest

pub adds_turn : (cs rest : List ToldTables) (old cur next : ByPlace) (c : ToldTables) → AddsRest cs old (c ∷ rest) cur → Keeps cur next → HasTables (slice_get next c.place) c.tables → length next ≡ length cur → AddsRest cs old rest next
adds_turn cs rest old cur next c before keeps has count new adds =
    before new (record {
      keeps = kept_again cur next new keeps adds.keeps;
      has = (has_kept next new c.place (slice_get next c.place) c.tables refl has adds.keeps, adds.has);
      count = adds.count ∙ count;
    })

pub adds_done : (cs : List ToldTables) (old cur : ByPlace) → AddsRest cs old [] cur → Adds cs old cur
adds_done cs old cur before = before cur (record { keeps = keeps_itself cur; has = tt; count = refl })

pub adds_ended : (cs rest : List ToldTables) (old cur : ByPlace) → AddsRest cs old rest cur → length rest ≡ 0 → Adds cs old cur
adds_ended cs [] old cur before none = adds_done cs old cur before
adds_ended cs (c ∷ rest) old cur before none = absurd (omega (arith, none))

pub first_placed : (n : ℕ) (c : ToldTables) (cs : List ToldTables) → All (λ d. d.place < n) (c ∷ cs) → c.place < n
first_placed n c cs all = all 0 c (omega arith)

pub others_placed : (n : ℕ) (c : ToldTables) (cs : List ToldTables) → All (λ d. d.place < n) (c ∷ cs) → All (λ d. d.place < n) cs
others_placed n c cs all = λ i d inside. all (suc i) d (omega (arith, inside))

-- ---- a service

comes_at : (m : Model Expr Table) (s : Service) (values : List Datum) (n : Name) (o : Option (Option Tables)) (t : Tables) → HasTables o t
    → ComeTo t.items (decision_tables (outcome_of m (zip (parameters_of s) values)) (decision_named m.decisions n)) → ComesAt m s values n o
comes_at m s values n None t has come = absurd has
comes_at m s values n (Some None) t has come = absurd has
comes_at m s values n (Some (Some wide)) t has come = wider_to t.items wide.items (decision_tables (outcome_of m (zip (parameters_of s) values)) (decision_named m.decisions n)) has come

each_has : (cs : List ToldTables) (told : ByPlace) (k : ℕ) (c : ToldTables) → HasEach cs told → slice_get cs k ≡ Some c → HasTables (slice_get told c.place) c.tables
each_has [] told k c has there = absurd (cc)
each_has (d ∷ cs) told zero c has there = subst (λ (e : ToldTables). HasTables (slice_get told e.place) e.tables) (same_Some d c there) has.0
each_has (d ∷ cs) told (suc k) c has there = each_has cs told k c has.1 there

at_order : (cs : List ToldTables) (order : List ℕ) (k q : ℕ) → StandAt order cs → slice_get order k ≡ Some q → (c : ToldTables) × (slice_get cs k ≡ Some c) × (c.place ≡ q)
at_order cs order k q stand there = go cs k (ap (λ qs. slice_get qs k) stand ∙ there)
  where
    go : (ds : List ToldTables) (i : ℕ) → slice_get (map (λ (c : ToldTables). c.place) ds) i ≡ Some q → (c : ToldTables) × (slice_get ds i ≡ Some c) × (c.place ≡ q)
    go [] i e = absurd (cc)
    go (d ∷ ds) zero e = (d, refl, same_Some d.place q e)
    go (d ∷ ds) (suc i) e = go ds i e

pub all_placed : (n : ℕ) (order : List ℕ) (cs : List ToldTables) → StandAt order cs → All (λ q. q < n) order → All (λ c. c.place < n) cs
all_placed n order cs stand all i d inside =
    let place : ToldTables → ℕ = λ c. c.place in
    let there : i < length order = omega (arith, inside, ap length stand, length-map cs place) in
    subst (λ p. p < n) (ap (λ qs. get_or qs i d.place) (sym stand) ∙ get_or-map place cs i d d.place inside) (all i d.place there)

pub of_service : (text : List ℕ) (n : Name) (ds : List Domain) (items : List Item) (plan : ServicePlan) (names : List (List ℕ)) (ranges : List ParameterRange) (cs : List ToldTables) (told : ByPlace)
    → IsServicePlan (read_text text) n items plan → AreParametersOf text n names → AreCovered ds names ranges → AreColumnsOf items plan ranges cs → StandAt plan.order.items cs → HasEach cs told
    → ComesFromService (read_text text) ds n items plan told
of_service text n ds items plan names ranges cs told served named covered columns stand has =
    let m = served.model in
    let s = served.service in
    let are : names ≡ parameters_of s = named_by text n names m s served.is served.named named in
    record {
      served = served;
      comes = λ values met k q there. (
          let at = at_order cs plan.order.items k q stand there in
          let within = covered_within ds (parameters_of s) ranges values (subst (λ (ns : List Name). AreCovered ds ns ranges) are covered) met in
          subst (λ (p : ℕ). ComesAt m s values (name_at items p) (slice_get told p)) at.2
          (comes_at m s values (name_at items at.0.place) (slice_get told at.0.place) at.0.tables (each_has cs told k at.0 has at.1) (columns m s values served.plan within k at.0 at.1)));
    }

-- ---- one service after another

comes_later : (m : Model Expr Table) (s : Service) (values : List Datum) (n : Name) (old new : ByPlace) (q : ℕ) (o : Option (Option Tables)) → slice_get old q ≡ o → ComesAt m s values n o → Keeps old new → ComesAt m s values n (slice_get new q)
comes_later m s values n old new q None is come keeps = absurd come
comes_later m s values n old new q (Some None) is come keeps = absurd come
comes_later m s values n old new q (Some (Some t)) is come keeps = comes_at m s values n (slice_get new q) t (keeps q t is) come

service_later : (read : Result (Model Expr Table) ModelFault) (ds : List Domain) (n : Name) (items : List Item) (plan : ServicePlan) (old new : ByPlace) → ComesFromService read ds n items plan old → Keeps old new → ComesFromService read ds n items plan new
service_later read ds n items plan old new from keeps = record {
  served = from.served;
  comes = λ values met k q there. comes_later from.served.model from.served.service values (name_at items q) old new q (slice_get old q) refl (from.comes values met k q there) keeps;
}

-- what comes from all services is told, wherever what comes from those from one on is
abbrev pub ComesFromFirst : Result (Model Expr Table) ModelFault → List Domain → List Name → List Item → List ServicePlan → ℕ → ByPlace → Type 0
ComesFromFirst read ds ns items ps i cur = (new : ByPlace) → Keeps cur new → ComesFromEach read ds (drop i ns) items (drop i ps) new → ComesFromEach read ds ns items ps new

pub first_begin : (read : Result (Model Expr Table) ModelFault) (ds : List Domain) (ns : List Name) (items : List Item) (ps : List ServicePlan) (cur : ByPlace) → ComesFromFirst read ds ns items ps 0 cur
first_begin read ds ns items ps cur new keeps rest = rest

pub first_turn : (read : Result (Model Expr Table) ModelFault) (ds : List Domain) (ns : List Name) (items : List Item) (ps : List ServicePlan) (i : ℕ) (n : Name) (p : ServicePlan) (cur next : ByPlace) → ComesFromFirst read ds ns items ps i cur
    → n ≡ get_or ns i n → i < length ns → p ≡ get_or ps i p → i < length ps → Keeps cur next → ComesFromService read ds n items p next → ComesFromFirst read ds ns items ps (i + 1) next
first_turn read ds ns items ps i n p cur next before is inside planned among keeps from new later rest =
    let names : drop i ns ≡ n ∷ drop (i + 1) ns = at_drop_more (λ xs. xs) ns i n inside ∙ ap (λ (m : Name). m ∷ drop (i + 1) ns) (sym is) in
    let plans : drop i ps ≡ p ∷ drop (i + 1) ps = at_drop_more (λ xs. xs) ps i p among ∙ ap (λ (q : ServicePlan). q ∷ drop (i + 1) ps) (sym planned) in
    before new (kept_again cur next new keeps later)
    (subst (λ (xs : List Name). ComesFromEach read ds xs items (drop i ps) new) (sym names)
    (subst (λ (qs : List ServicePlan). ComesFromEach read ds (n ∷ drop (i + 1) ns) items qs new) (sym plans) (service_later read ds n items p next new from later, rest)))

pub first_done : (read : Result (Model Expr Table) ModelFault) (ds : List Domain) (ns : List Name) (items : List Item) (ps : List ServicePlan) (i : ℕ) (cur : ByPlace) → ComesFromFirst read ds ns items ps i cur → length ns ≤ i → length ps ≤ i
    → ComesFromEach read ds ns items ps cur
first_done read ds ns items ps i cur before names plans =
    before cur (keeps_itself cur) (subst (λ (xs : List Name). ComesFromEach read ds xs items (drop i ps) cur) (sym (drop_all i ns names))
    (subst (λ (qs : List ServicePlan). ComesFromEach read ds [] items qs cur) (sym (drop_all i ps plans)) tt))

pub same_count : (read : Result (Model Expr Table) ModelFault) (items : List Item) (ns : List Name) (ps : List ServicePlan) → ArePlansOf read items ns ps → length ps ≡ length ns
same_count read items [] [] are = refl
same_count read items [] (p ∷ ps) are = absurd are
same_count read items (n ∷ ns) [] are = absurd are
same_count read items (n ∷ ns) (p ∷ ps) are = ap suc (same_count read items ns ps are.1)

pub plan_at : (read : Result (Model Expr Table) ModelFault) (items : List Item) (ns : List Name) (ps : List ServicePlan) (i : ℕ) (n : Name) (p : ServicePlan) → ArePlansOf read items ns ps → i < length ns → IsServicePlan read (get_or ns i n) items (get_or ps i p)
plan_at read items [] ps i n p are inside = absurd (omega (arith, inside))
plan_at read items (m ∷ ns) [] i n p are inside = absurd are
plan_at read items (m ∷ ns) (q ∷ ps) zero n p are inside = are.0
plan_at read items (m ∷ ns) (q ∷ ps) (suc i) n p are inside = plan_at read items ns ps i n p are.1 (omega (arith, inside))

pub names_count : (text : List ℕ) (n : Name) (items : List Item) (plan : ServicePlan) (names : List (List ℕ)) → IsServicePlan (read_text text) n items plan → AreParametersOf text n names → length names ≡ length plan.parameters.items
names_count text n items plan names served named =
    ap length (named_by text n names served.model served.service served.is served.named named ∙ served.plan.parameters) ∙ length-map plan.parameters.items (name_at items)

-- ---- the code's loop

pub name_here : (services : List (Bor (List ℕ))) (i : ℕ) (d : Bor (List ℕ)) → i < length services → (get_or services i d).now ≡ get_or (map (λ n. n.now) services) i (get_or services i d).now
name_here services i d inside = sym (get_or-map (λ n. n.now) services i d (get_or services i d).now inside)

pub plan_here : (plans : List (Bor ServicePlan)) (i : ℕ) (p : Bor ServicePlan) → i < length plans → p ≡ get_or plans i p → p.now ≡ get_or (map (λ q. q.now) plans) i p.now
plan_here plans i p inside is = ap (λ (q : Bor ServicePlan). q.now) is ∙ sym (get_or-map (λ (q : Bor ServicePlan). q.now) plans i p p.now inside)

pub as_many_plans : (read : Result (Model Expr Table) ModelFault) (items : List Item) (services : List (Bor (List ℕ))) (plans : List (Bor ServicePlan)) → ArePlansOf read items (map (λ n. n.now) services) (map (λ q. q.now) plans) → length plans ≡ length services
as_many_plans read items services plans are =
    sym (length-map plans (λ (q : Bor ServicePlan). q.now)) ∙ same_count read items (map (λ n. n.now) services) (map (λ q. q.now) plans) are ∙ length-map services (λ (n : Bor (List ℕ)). n.now)

pub planned_at : (read : Result (Model Expr Table) ModelFault) (items : List Item) (services : List (Bor (List ℕ))) (plans : List (Bor ServicePlan)) (i : ℕ) (d : Bor (List ℕ)) (p : Bor ServicePlan) → ArePlansOf read items (map (λ n. n.now) services) (map (λ q. q.now) plans)
    → i < length services → p ≡ get_or plans i p → IsServicePlan read (get_or services i d).now items p.now
planned_at read items services plans i d p are inside is =
    let ns : List Name = map (λ n. n.now) services in
    let ps : List ServicePlan = map (λ q. q.now) plans in
    let n : Name = (get_or services i d).now in
    let among : i < length ns = omega (arith, inside, length-map services (λ (m : Bor (List ℕ)). m.now)) in
    let within : i < length plans = omega (arith, inside, as_many_plans read items services plans are) in
    subst (λ (m : Name). IsServicePlan read m items p.now) (sym (name_here services i d inside))
    (subst (λ (q : ServicePlan). IsServicePlan read (get_or ns i n) items q) (sym (plan_here plans i p within is)) (plan_at read items ns ps i n p.now are among))
