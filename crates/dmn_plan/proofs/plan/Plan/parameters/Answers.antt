use Rattle.std.proofs.Common.{◌∙◌, sym, ap, List, Some, map, option_map, string_bytes}
use Rattle.dmn_service.specs.Decision.{parameters_of}
use Rattle.dmn_plan.specs.ReadModel.{read_text}
use Rattle.dmn_plan.specs.Request.{service_in}
use Rattle.dmn_service.specs.Places.{name_at}
use Rattle.dmn_service.specs.declared.plan.Item.{Item}
use Rattle.dmn_plan.proofs.Requested.{lacks, serves}
use Rattle.dmn_plan.proofs.plan.Plan.parameters.Goals as goal

pub names_at-requires : goal.names_at-requires
names_at-requires c =
    let t = string_bytes c.self.inside.text in
    let s = serves (read_text t) c.self.inside.items.items c.self.inside.services c.args.service.now c.in-Some.plan.now c.self.invariant.0 c.in-Some.ensures.value in
    rw (c.deref.ensures.value, c.deref-2.ensures.value) s.within.parameters

pub returns : goal.returns
returns c =
    let t = string_bytes c.self.inside.text in
    let n = c.args.service.now in
    let items = c.self.inside.items.items in
    let places = c.in-Some.plan.now.parameters.items in
    let s = serves (read_text t) items c.self.inside.services n c.in-Some.plan.now c.self.invariant.0 c.in-Some.ensures.value in
    let named = c.in_ok-names.ensures ∙ ap (λ (is : List Item). map (name_at is) c.deref-2.result.now) c.deref.ensures.value ∙ ap (map (name_at items)) c.deref-2.ensures.value in
    ap Some (named ∙ sym s.parameters) ∙ sym (ap (option_map parameters_of) s.found) ∙ ap (λ text. option_map parameters_of (service_in (read_text text) n)) c.self.view_is

pub returns-in_default : goal.returns-in_default
returns-in_default c =
    let t = string_bytes c.self.inside.text in
    let n = c.args.service.now in
    sym (ap (option_map parameters_of) (lacks (read_text t) c.self.inside.items.items c.self.inside.services n c.self.invariant.0 c.in_default.ensures.value))
    ∙ ap (λ text. option_map parameters_of (service_in (read_text text) n)) c.self.view_is
