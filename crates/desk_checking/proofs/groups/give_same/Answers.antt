use Rattle.std.proofs.Common.{Some, subst}
use Rattle.desk_checking.specs.Outputs.{TellsEntries}
use Rattle.desk_checking.proofs.Grouping.{no_of}
use Rattle.desk_checking.proofs.groups.give_same.Goals as goal

pub returns : goal.returns
returns c = λ yes r s there here.
    subst (λ b. TellsEntries r.gives s.gives (Some b)) (no_of c.in-Some.differ yes) (subst (TellsEntries r.gives s.gives) c.in-Some.is (c.outputs_differ.ensures r s there here))
