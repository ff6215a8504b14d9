use Rattle.std.proofs.Common.{◌+◌, ◌≤◌, [], ◌∷◌, length}
use Rattle.serde_json.specs.Data.{Data}
use Rattle.desk_wire.specs.Reading.{Says}
use Rattle.desk_requests.specs.Gate.{IsOpenAfter}
use Rattle.desk_requests.specs.Line.{Model}
use Rattle.desk_checking.proofs.Requesting.{Passed}
use Rattle.desk_checking.proofs.requests.pass_lines.Given as goal

abbrev pub invariant-loop-index : goal.invariant-loop-index
invariant-loop-index l =
    (length l.rest + l.index ≤ length l.text) × (l.count ≤ l.index)
    × ((model : Data) → IsOpenAfter l.initial.gate (Says (Model model) ∷ []) → Passed model l.text l.index l.rest l.gate l.refused.items l.count)
