use Rattle.std.proofs.Common.{◌≡◌, ◌++◌, drop, map}
use Rattle.std.specs.List.{filter}
use Rattle.dmn_analysis.specs.declared.found.Gap.{Gap}
use Rattle.desk_checking.specs.TableTold.{have_others, other_gaps}
use Rattle.desk_checking.proofs.table_lines.other_gaps.Given as goal

-- with those of the gaps that are left they are those of all
abbrev pub invariant-loop-gap : goal.invariant-loop-gap
invariant-loop-gap l =
    map (λ g. g.now) l.gaps.items ++ filter (λ (g : Gap). have_others g.cells.items l.answers.kinds.items) (drop l.gap-index l.answers.every.found.items) ≡ other_gaps l.answers
