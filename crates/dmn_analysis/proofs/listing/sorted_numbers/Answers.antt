use Rattle.std.proofs.Common.{sym}
use Rattle.std.proofs.lemmas.List.Sorted.{list_any-IsPermutation}
use Rattle.feel_value.specs.Comparison.{equal}
use Rattle.feel_value.specs.Datum.{number}
use Rattle.feel_value.specs.Logic.{is_yes}
use Rattle.dmn_analysis.proofs.listing.sorted_numbers.Goals as goal

pub returns : goal.returns
returns c = λ v. sym (list_any-IsPermutation (λ n. is_yes (equal v (number n))) _ _ c.sort_unstable.ensures.permutation)
