use Rattle.std.proofs.Common.{◌≡◌, ◌++◌, drop, map}
use Rattle.std.specs.List.{flat_map}
use Rattle.desk_lines.specs.Lines.{ended}
use Rattle.desk_checking.specs.DomainsView.{name_views}
use Rattle.desk_checking.specs.Told.{domain_line}
use Rattle.desk_checking.proofs.domain_lines.add_lines.Given as goal

-- with the lines that are left those of all stand there
abbrev pub invariant-loop-name : goal.invariant-loop-name
invariant-loop-name l =
    l.text.items ++ flat_map ended (map domain_line (name_views (drop l.name-index l.names))) ≡ l.fn.text.items ++ flat_map ended (map domain_line (name_views l.names))
