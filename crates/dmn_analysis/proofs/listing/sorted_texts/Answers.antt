use Rattle.std.proofs.Common.{sym}
use Rattle.std.specs.Arc.{arc_str_bytes}
use Rattle.std.proofs.lemmas.List.Sorted.{list_any-IsPermutation}
use Rattle.feel_value.specs.Comparison.{equal}
use Rattle.feel_value.specs.Datum.{text}
use Rattle.feel_value.specs.Logic.{is_yes}
use Rattle.dmn_analysis.proofs.listing.sorted_texts.Goals as goal

pub returns : goal.returns
returns c = λ v. sym (list_any-IsPermutation (λ t. is_yes (equal v (text (arc_str_bytes t)))) _ _ c.sort_unstable_by.ensures.permutation)
