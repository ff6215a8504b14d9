-- Whether it is looked at what comes from services.
use Rattle.std.proofs.Common.{◌≡◌, ◌∙◌, ◌<◌, ◌≤◌, List, [], ◌∷◌, length, map, arith, Bool, true, false, refl, sym, ap}
use Rattle.std.specs.Prelude.{nat_le}
use Rattle.std.proofs.lemmas.List.{length-map}
use Rattle.dmn_form.specs.Model.{Name}
use Rattle.dmn_form.specs.declared.written.WrittenService.{WrittenService}
use Rattle.dmn_told.specs.declared.domains.Domain.{Domain}
use Rattle.desk_ranges.specs.Gives.{written_name}
use Rattle.desk_checking.specs.Comes.{are_looked_at, most_services}

pub no_domains : (ds : List Domain) (ns : List Name) → length ds ≤ 0 → false ≡ are_looked_at ds ns
no_domains [] ns none = refl
no_domains (d ∷ ds) ns none = absurd (omega (arith, none))

pub no_services : (ds : List Domain) (ss : List WrittenService) → length ss ≤ 0 → false ≡ are_looked_at ds (map written_name ss)
no_services [] [] none = refl
no_services (d ∷ ds) [] none = refl
no_services ds (s ∷ ss) none = absurd (omega (arith, none))

pub as_many_as : (ds : List Domain) (ss : List WrittenService) (b : Bool) → 0 < length ds → 0 < length ss → b ≡ nat_le (length ss) most_services → b ≡ are_looked_at ds (map written_name ss)
as_many_as [] ss b some others is = absurd (omega (arith, some))
as_many_as (d ∷ ds) [] b some others is = absurd (omega (arith, others))
as_many_as (d ∷ ds) (s ∷ ss) b some others is = is ∙ ap (λ n. nat_le n most_services) (sym (length-map (s ∷ ss) written_name))
