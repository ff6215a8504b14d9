use Rattle.std.proofs.Common.{◌≡◌, length, map, take}
use Rattle.dmn_told.specs.Covered.{AreCovered}
use Rattle.dmn_told.proofs.domains.domains_of.Given as goal

abbrev pub invariant-loop-name : goal.invariant-loop-name
invariant-loop-name l = record {
  covered : AreCovered l.domains (map (λ n. n.now) (take l.name-index l.names)) l.ranges.items;
  count : length l.ranges.items ≡ l.name-index;
}
