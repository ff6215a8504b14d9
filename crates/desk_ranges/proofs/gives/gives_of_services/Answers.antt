use Rattle.std.proofs.Common.{◌∙◌, ◌++◌, ◌-◌, ◌||◌, map, nat_lt, sym, ap, subst}
use Rattle.std.specs.List.{flat_map}
use Rattle.std.proofs.lemmas.List.{length-map}
use Rattle.desk_lines.specs.Lines.{ended}
use Rattle.desk_ranges.specs.Gives.{TellsEach, most_services, written_name}
use Rattle.desk_ranges.specs.Lines.{more_services}
use Rattle.desk_ranges.proofs.Looking.{first_names}
use Rattle.desk_ranges.proofs.gives.gives_of_services.Goals as goal

pub returns : goal.returns
returns c =
    let services = c.args.services.now in
    let first = c.in_ok-gives.gives in
    let names = ap (map written_name) c.looked_at.ensures ∙ first_names most_services services in
    let count = c.saturating_sub.ensures ∙ ap (λ n. n - most_services) (sym (length-map services written_name)) in
    record {
      first = first;
      told = subst (λ ns. TellsEach c.args.plan.now c.args.domains.now ns first) names c.in_ok-gives.ensures;
      lines = c.in_ok-leave_out.ensures.text ∙ ap (λ n. first.text.items ++ flat_map ended (more_services n)) count;
      fails = c.in_ok-leave_out.ensures.fails ∙ ap (λ n. first.can_fail || nat_lt 0 n) count;
    }
