use Rattle.std.proofs.Common.{◌≡◌, ◌∙◌, ◌<◌, ℕ, ap, arith, sym, subst, get_or, length, map, option_map, refl, List, [], Some, IfSome}
use Rattle.std.proofs.lemmas.List.{length-map}
use denote.Ref.{Bor}
use Rattle.dmn_plan.specs.ReadModel.{read_text}
use Rattle.dmn_plan.specs.Served.{ArePlansOf}
use Rattle.dmn_told.specs.Coming.{AreParametersOf}
use Rattle.dmn_told.proofs.Comings.{as_many_plans, first_begin, first_done, first_turn, name_here, names_count, plan_here, planned_at}
use Rattle.dmn_told.proofs.coming.coming_to.Goals as goal

abbrev none : Bor (List ℕ)
none = record { ref_ptr = (0, 0); now = [] }

pub loop-place-init : goal.loop-place-init
loop-place-init c = record {
  comes = first_begin (read_text c.args.plan.now) c.args.domains.now (map (λ n. n.now) c.args.services.now) c.in-Some.planned.items.now (map (λ p. p.now) c.in-Some.planned.plans.items) c.in_ok-tables.tables.items;
  count = c.in_ok-tables.ensures;
}

pub index-requires : goal.index-requires
index-requires c =
    let read = read_text c.args.plan.now in
    let services = c.args.services.now in
    let plans = c.in-Some.planned.plans.items in
    let are = subst (λ o. IfSome o (λ s. ArePlansOf read s.items.now (map (λ n. n.now) services) (map (λ p. p.now) s.plans.items))) c.in-Some.is c.in_ok-planned.ensures in
    omega (arith, c.loop-place-test.true, as_many_plans read c.in-Some.planned.items.now services plans are)

pub add_service-requires-clause-places : goal.add_service-requires-clause-places
add_service-requires-clause-places c =
    let read = read_text c.args.plan.now in
    let services = c.args.services.now in
    let plans = c.in-Some.planned.plans.items in
    let are = subst (λ o. IfSome o (λ s. ArePlansOf read s.items.now (map (λ n. n.now) services) (map (λ p. p.now) s.plans.items))) c.in-Some.is c.in_ok-planned.ensures in
    let served = planned_at read c.in-Some.planned.items.now services plans c.loop-place.place none c.index.result.now are c.loop-place-test.true c.index.ensures in
    served.within

pub add_service-requires-clause-names : goal.add_service-requires-clause-names
add_service-requires-clause-names c =
    let text = c.args.plan.now in
    let read = read_text text in
    let services = c.args.services.now in
    let plans = c.in-Some.planned.plans.items in
    let items = c.in-Some.planned.items.now in
    let names = c.in-Some-2.names.items in
    let n = (get_or services c.loop-place.place none).now in
    let are = subst (λ o. IfSome o (λ s. ArePlansOf read s.items.now (map (λ n. n.now) services) (map (λ p. p.now) s.plans.items))) c.in-Some.is c.in_ok-planned.ensures in
    let served = planned_at read items services plans c.loop-place.place none c.index.result.now are c.loop-place-test.true c.index.ensures in
    let named : AreParametersOf text n (map (λ x. x.now) names) = sym (ap (option_map (λ v. map (λ x. x.now) v.items)) c.in-Some-2.is) ∙ c.in_ok-names.ensures in
    ap length c.deref.ensures.value ∙ sym (length-map names (λ x. x.now)) ∙ names_count text n items c.index.result.now.now (map (λ x. x.now) names) served named

pub loop-place-preserved : goal.loop-place-preserved
loop-place-preserved c =
    let text = c.args.plan.now in
    let read = read_text text in
    let services = c.args.services.now in
    let plans = c.in-Some.planned.plans.items in
    let items = c.in-Some.planned.items.now in
    let names = c.in-Some-2.names.items in
    let i = c.loop-place.place in
    let p = c.index.result.now in
    let n = (get_or services i none).now in
    let inside : i < length services = c.loop-place-test.true in
    let are = subst (λ o. IfSome o (λ s. ArePlansOf read s.items.now (map (λ n. n.now) services) (map (λ p. p.now) s.plans.items))) c.in-Some.is c.in_ok-planned.ensures in
    let served = planned_at read items services plans i none p are inside c.index.ensures in
    let named : AreParametersOf text n (map (λ x. x.now) names) = sym (ap (option_map (λ v. map (λ x. x.now) v.items)) c.in-Some-2.is) ∙ c.in_ok-names.ensures in
    let told : AreParametersOf text n (map (λ x. x.now) c.deref.result.now) = subst (λ xs. AreParametersOf text n (map (λ x. x.now) xs)) (sym c.deref.ensures.value) named in
    let within : i < length plans = omega (arith, inside, as_many_plans read items services plans are) in
    let ns = map (λ m. m.now) services in
    let ps = map (λ q. q.now) plans in
    let among : i < length ns = omega (arith, inside, length-map services (λ m. m.now)) in
    let planned : i < length ps = omega (arith, within, length-map plans (λ q. q.now)) in record {
      comes = first_turn read c.args.domains.now ns items ps i n p.now c.loop-place.tables.items c.add_service.new.told.items c.loop-place.invariant.comes (name_here services i none inside) among (plan_here plans i p within c.index.ensures) planned
          c.in_ok-add_service.ensures.keeps (c.in_ok-add_service.ensures.comes text n served told);
      count = c.in_ok-add_service.ensures.count ∙ c.loop-place.invariant.count;
    }

pub returns : goal.returns
returns c =
    let read = read_text c.args.plan.now in
    let services = c.args.services.now in
    let plans = c.in-Some.planned.plans.items in
    let items = c.in-Some.planned.items.now in
    let ns = map (λ n. n.now) services in
    let ps = map (λ p. p.now) plans in
    let are = subst (λ o. IfSome o (λ s. ArePlansOf read s.items.now ns (map (λ p. p.now) s.plans.items))) c.in-Some.is c.in_ok-planned.ensures in
    let i = c.loop-place.place in
    record {
      plans = ps;
      comes = first_done read c.args.domains.now ns items ps i c.loop-place.tables.items c.loop-place.invariant.comes
          (omega (arith, c.loop-place-test.false, length-map services (λ n. n.now)))
          (omega (arith, c.loop-place-test.false, as_many_plans read items services plans are, length-map plans (λ p. p.now)));
    }
