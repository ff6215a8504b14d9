use Rattle.std.proofs.Common.{rules, ℕ, ◌<◌, [], length, All, IsTrue, true, arith}
use Rattle.std.proofs.lemmas.List.{length-map}
use Rattle.std.proofs.lemmas.List.Elements.{All-from_get_or}
use Rattle.dmn_graph.specs.Needs.{needs_view}
use Rattle.dmn_graph.proofs.needs.are_needs_below.Goals as goal

pub returns : goal.returns
returns c =
    let holds : IsTrue true = search rules in (
      (λ t. All-from_get_or (All (λ (q : ℕ). q < length c.args.needs.now)) (needs_view c.args.needs.now) []
          (λ i l. let n = length-map c.args.needs.now (λ v. v.items) in c.loop-place.invariant i (omega arith))),
      (λ a. holds),
    )
