-- What is told of what the services of a model can give.
use Rattle.std.specs.Prelude.{◌≡◌, ◌&&◌, ◌||◌, ℕ, List, [], map, Bool, true, false}
use Rattle.dmn_form.specs.Draft.{Draft}
use Rattle.dmn_form.specs.Model.{Name, Service}
use Rattle.dmn_told.specs.declared.domains.Domain.{Domain}
use Rattle.desk_ranges.specs.Gives.{TellsServices}
use Rattle.desk_ranges.specs.declared.gives.Gives.{Gives}
use Rattle.desk_checking.specs.declared.options.CheckOptions.{CheckOptions}

-- whether the options ask for it
abbrev pub looks_at_services : CheckOptions → Bool
looks_at_services options = options.gives || options.strict_null

abbrev pub service_names : Draft → List Name
service_names m = map (λ (s : Service). s.name) m.services

-- What the services of these names in the model of a text can give within the domains, where that is asked for. It is a failure where null
-- can be given or a limit broken, and the options are strict about that.
abbrev pub GivesIf : Bool → Bool → List ℕ → List Domain → List Name → List ℕ → Bool → Type 0
GivesIf false strict model domains services text is_failure = (text ≡ []) × (is_failure ≡ false)
GivesIf true strict model domains services text is_failure =
    (gives : Gives) × TellsServices model domains services gives × (text ≡ gives.text.items) × (is_failure ≡ (strict && gives.can_fail))
