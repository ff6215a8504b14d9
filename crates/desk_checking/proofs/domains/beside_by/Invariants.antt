use Rattle.std.proofs.Common.{◌≡◌, ◌++◌, map, Some}
use Rattle.serde_json.specs.View.{members_view}
use Rattle.dmn_names.specs.PlacedModel.{placed_model}
use Rattle.desk_checking.specs.Domains.{domains_among, refused_among}
use Rattle.desk_checking.specs.DomainsView.{domain_views, name_views}
use Rattle.desk_checking.proofs.domains.beside_by.Given as goal

abbrev pub invariant-loop-key : goal.invariant-loop-key
invariant-loop-key l = record {
  domains : domains_among (placed_model l.places) (members_view l.members.entries) ≡ domain_views l.beside.domains.items ++ domains_among (placed_model l.places) (members_view l.key-iterator);
  refused : map Some (refused_among (placed_model l.places) (members_view l.members.entries)) ≡ name_views l.beside.refused.items ++ map Some (refused_among (placed_model l.places) (members_view l.key-iterator));
}
