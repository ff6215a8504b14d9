use Rattle.std.proofs.Common.{◌≡◌}
use Rattle.desk_serving.specs.LanesView.{NothingWaits, lanes_in, links_in, names_in}
use Rattle.desk_serving.specs.Owed.{Hands}
use Rattle.desk_serving.proofs.named_lanes.Lanes.go_on.Given as goal

abbrev pub invariant-loop-place : goal.invariant-loop-place
invariant-loop-place g l = record {
  links : links_in l.self ≡ links_in l.fn.self;
  names : names_in l.self ≡ names_in l.fn.self;
  clear : NothingWaits l.fn.self → NothingWaits l.self;
  hands : Hands (names_in l.fn.self) (lanes_in l.fn.self) (lanes_in l.self) l.fn.text.items l.text.items;
}
