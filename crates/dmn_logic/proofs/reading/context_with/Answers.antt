use Rattle.dmn_logic.proofs.ReadingSteps.{context_with_found}
use Rattle.dmn_logic.proofs.reading.context_with.Goals as goal

pub returns-in_ok-last-in-Found-Found : goal.returns-in_ok-last-in-Found-Found
returns-in_ok-last-in-Found-Found c =
    let both = c.in-Found-Found in
    let boxed = c.in_ok-last-in-Found-Found in
    context_with_found c.args.entries c.args.last both.entries both.last boxed.last both.is-0 both.is-1 boxed.ensures.ok
