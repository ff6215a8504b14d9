-- Rules on cells.
use Rattle.std.proofs.Common.{◌≡◌, ◌<◌, ℕ, List, length, Bool, true, false, Some, arith}
use Rattle.std.specs.List.{slice_get}
use Rattle.std.proofs.lemmas.Option.{slice_get_within}
use Rattle.feel_text.specs.Tests.{Tests}
use Rattle.dmn_table.specs.Table.{Rule}
use Rattle.dmn_analysis.specs.Searching.{CannotHit, MustHit, SettlesIn}
use Rattle.dmn_analysis.specs.declared.cell.Cell.{Cell}
use Rattle.dmn_analysis.specs.declared.cell.Words.{Words}
use Rattle.dmn_analysis.proofs.Halves.{in_order}
use Rattle.dmn_analysis.proofs.HitRules.{hits_met, met_hits}
use Rattle.dmn_analysis.proofs.Places.{element}

-- of the cell at a place it is known whether its values meet the tests
pub record IsSettled (met : Bool) (words : List Words) (cells : List Cell) (k : ℕ) (tests : Tests) : Type 0 where
  pub ws : Words
  pub cell : Cell
  pub words_there : slice_get words k ≡ Some ws
  pub cell_there : slice_get cells k ≡ Some cell
  pub settles : SettlesIn met ws cell tests

pub must : (words : List Words) (cells : List Cell) (rule : Rule) → ((k : ℕ) (t : Tests) → k < length cells → slice_get rule.tests k ≡ Some t → IsSettled true words cells k t) → MustHit words cells rule
must words cells rule each order m values long in_cells =
    met_hits m rule.tests values (λ k t v here has. let s = each k t (omega (arith, long, slice_get_within values k v has)) here in s.settles (in_order words order k s.ws s.words_there) v m (in_cells k s.ws s.cell v s.words_there s.cell_there has))

pub cannot : (words : List Words) (cells : List Cell) (rule : Rule) (k : ℕ) (t : Tests) → slice_get rule.tests k ≡ Some t → IsSettled false words cells k t → CannotHit words cells rule
cannot words cells rule k t here s order m values long in_cells hits =
    let v = element values k (omega (arith, long, slice_get_within cells k s.cell s.cell_there)) in
    s.settles (in_order words order k s.ws s.words_there) v.0 m (in_cells k s.ws s.cell v.0 s.words_there s.cell_there v.1) (hits_met m rule.tests values k t v.0 hits here v.1)
