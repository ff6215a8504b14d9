use Rattle.std.proofs.Common.{◌≡◌, map, drop}
use denote.Shadow.{shadow}
use denote.Text.{Utf8}
use Rattle.dmn_names.specs.Rising.{rise_from, are_rising}
use Rattle.dmn_names.proofs.distinct.are_rising.Given as goal

abbrev pub invariant-loop-item : goal.invariant-loop-item
invariant-loop-item g l = record {
  utf8 : shadow (Utf8 l.last);
  rest : are_rising (map g.T.Named.name_of l.items) ≡ rise_from l.last (map g.T.Named.name_of (drop l.item-index l.others));
}
