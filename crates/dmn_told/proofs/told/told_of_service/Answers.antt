use Rattle.std.proofs.Common.{◌∙◌, ℕ, List, Vec, Global, Bor, map, option_map, rules, sym, ap, subst}
use Rattle.dmn_plan.specs.ReadModel.{read_text}
use Rattle.dmn_plan.specs.Served.{IsServicePlan}
use Rattle.dmn_ranges.specs.Decisions.{AreRangesOf}
use Rattle.dmn_ranges.specs.Ranges.{AreWithin}
use Rattle.dmn_ranges.specs.declared.range.ParameterRange.{ParameterRange}
use Rattle.dmn_told.specs.Covered.{AreCovered}
use Rattle.dmn_told.specs.declared.told.ServiceTold.{ServiceTold}
use Rattle.dmn_told.proofs.Serving.{told_of}
use Rattle.dmn_told.proofs.told.told_of_service.Goals as goal

pub returns-clause-told : goal.returns-clause-told
returns-clause-told c =
    let text = c.args.plan.now in
    let n = c.args.service.now in
    let ds = c.args.domains.now in
    let items = c.in-Some-service_plan.items in
    let planned = c.in-Some-service_plan.planned in
    let ranges = c.in_ok-ranges.ranges.items in
    let decisions = c.in_ok-told.told.decisions in
    let told : ServiceTold = record { items = items; plan = planned; decisions = decisions; result = c.in_ok-told.told.result } in
    let served : IsServicePlan (read_text text) n items.now planned.now = search rules in
    told_of text n ds told (map (λ (x : Bor (List ℕ)). x.now) c.in-Some.names.items) ranges served
    (sym (ap (option_map (λ (v : Vec (Bor (List ℕ)) Global). map (λ (x : Bor (List ℕ)). x.now) v.items)) c.in-Some.is) ∙ c.in_ok-names.ensures)
    (subst (λ (ns : List (Bor (List ℕ))). AreCovered ds (map (λ (x : Bor (List ℕ)). x.now) ns) ranges) c.deref.ensures.value c.in_ok-ranges.ensures.covered)
    (subst (λ (rs : List ParameterRange). AreRangesOf items.now planned.now rs decisions.items) c.deref-2.ensures.value c.in_ok-told.ensures.decisions)
    (λ m s values plan within. c.in_ok-told.ensures.result m s values plan (subst (λ (rs : List ParameterRange). AreWithin rs values) (sym c.deref-2.ensures.value) within))
