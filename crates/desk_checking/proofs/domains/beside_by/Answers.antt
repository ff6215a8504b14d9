use Rattle.std.proofs.Common.{◌≡◌, ◌∙◌, ◌++◌, append-nil, map, option_map, Option, Some, string_bytes, sym, ap}
use Rattle.serde_json.specs.View.{members_view, view}
use Rattle.dmn_form.specs.Model.{Name}
use Rattle.dmn_names.specs.PlacedModel.{placed_model}
use Rattle.desk_checking.specs.Domains.{Declared, declared_of, domain_view, domains_among, refused_among}
use Rattle.desk_checking.specs.DomainsView.{domain_views, name_views}
use Rattle.desk_checking.proofs.Beside.{domain_more, refused_more}
use Rattle.desk_checking.proofs.domains.beside_by.Goals as goal

pub loop-key-preserved : goal.loop-key-preserved
loop-key-preserved c =
    let m = placed_model c.args.places.now in
    let ds = domain_views c.loop-key.beside.domains.items in
    let ns = name_views c.loop-key.beside.refused.items in
    let n : Name = string_bytes c.in-Some.key.now in
    let left = members_view c.next.new.self in
    let o : Option Declared = declared_of m n (view c.in-Some.json.now) in
    let p : Option Declared = option_map domain_view c.in_ok-domain.domain in
    let same : p ≡ o = c.in_ok-domain.ensures ∙ ap (λ (k : Name). declared_of m k (view c.in-Some.json.now)) c.as_str-name.ensures.value in
    record {
      domains =
          c.loop-key.invariant.domains ∙ ap (λ es. ds ++ domains_among m (members_view es)) c.in-Some.ensures.steps
          ∙ domain_more ds (domain_views c.add.new.self.domains.items) (domains_among m left) o p same c.in_ok-add.ensures.domains;
      refused =
          c.loop-key.invariant.refused ∙ ap (λ es. ns ++ map Some (refused_among m (members_view es))) c.in-Some.ensures.steps
          ∙ refused_more ns (name_views c.add.new.self.refused.items) (refused_among m left) n c.as_str-name.result.now o p c.as_str-name.ensures.value same c.in_ok-add.ensures.refused;
    }

pub returns-clause-domains : goal.returns-clause-domains
returns-clause-domains c =
    let m = placed_model c.args.places.now in
    let ds = domain_views c.loop-key.beside.domains.items in
    sym (c.loop-key.invariant.domains ∙ ap (λ es. ds ++ domains_among m (members_view es)) c.in-None.ensures.steps.0 ∙ append-nil ds)

pub returns-clause-refused : goal.returns-clause-refused
returns-clause-refused c =
    let m = placed_model c.args.places.now in
    let ns = name_views c.loop-key.beside.refused.items in
    sym (c.loop-key.invariant.refused ∙ ap (λ es. ns ++ map Some (refused_among m (members_view es))) c.in-None.ensures.steps.0 ∙ append-nil ns)
