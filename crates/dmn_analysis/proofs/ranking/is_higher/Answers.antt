use Rattle.std.proofs.Common.{◌≡◌, sym, ◌∙◌, rules}
use Rattle.std.specs.Ordering.{nat_cmp, is_lt}
use Rattle.std.specs.Cmp.Lexicographic.{slice_cmp}
use Rattle.dmn_analysis.proofs.Ranks.{higher_is_first}
use Rattle.dmn_analysis.proofs.ranking.is_higher.Goals as goal

pub returns : goal.returns
returns c =
    let ps = c.args.one.now.places.items in
    let qs = c.args.other.now.places.items in
    let first : c.is_lt.result ≡ is_lt (slice_cmp nat_cmp ps qs) = search rules in
    first ∙ sym (higher_is_first ps qs c.requires)
