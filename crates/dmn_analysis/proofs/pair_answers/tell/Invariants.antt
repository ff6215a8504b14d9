use Rattle.std.proofs.Common.{◌≡◌, ◌<◌, [], map}
use Rattle.std.specs.List.{All}
use Rattle.dmn_table.specs.Parts.{rule_view}
use Rattle.dmn_analysis.specs.Claims.{AreOverlappingIn}
use Rattle.dmn_analysis.specs.Sharing.{IsPairOf, IsShared}
use Rattle.dmn_analysis.specs.declared.found.Overlap.{Overlap}
use Rattle.dmn_analysis.proofs.pair_answers.tell.Given as goal

abbrev pub invariant-loop-pair : goal.invariant-loop-pair
invariant-loop-pair l =
    All (λ (o : Overlap). AreOverlappingIn l.count (map rule_view l.rules) o.first o.second o.values.items) l.found.items
    × (0 < l.most → All (IsShared l.words (map rule_view l.rules) l.count) l.all → All (IsPairOf l.all) l.pairs → l.found.items ≡ [] → l.pair-index ≡ 0)
