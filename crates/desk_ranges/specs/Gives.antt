-- What is told of the services of a model: for all requests within the domains.
use Rattle.std.specs.Prelude.{◌≡◌, ◌++◌, ◌-◌, ℕ, List, [], length, map, take, Bool, false, ◌||◌, nat_lt, Option, None, Some, string_bytes}
use Rattle.std.specs.List.{flat_map, list_any}
use Rattle.desk_lines.specs.Lines.{ended}
use Rattle.dmn_form.specs.Model.{Name}
use Rattle.dmn_form.specs.declared.written.WrittenService.{WrittenService}
use Rattle.dmn_plan.specs.ReadModel.{read_text}
use Rattle.dmn_plan.specs.Request.{service_in}
use Rattle.dmn_ranges.specs.declared.outcomes.Outcomes.{Outcomes}
use Rattle.dmn_told.specs.Told.{IsToldOf}
use Rattle.dmn_told.specs.declared.domains.Domain.{Domain}
use Rattle.dmn_told.specs.declared.told.ServiceTold.{ServiceTold}
use Rattle.desk_ranges.specs.Lines.{more_services, service_lines}
use Rattle.desk_ranges.specs.declared.gives.Gives.{Gives}

abbrev pub written_name : WrittenService → Name
written_name s = string_bytes s.name

-- null can be given, or a limit broken
abbrev pub fails_with : Outcomes → Bool
fails_with o = o.range.nulls || o.limit

-- what is told of the service of this name, if there is one, holds
abbrev pub IsToldIf : List ℕ → List Domain → Name → Option ServiceTold → Type 0
IsToldIf text ds n None = service_in (read_text text) n ≡ None
IsToldIf text ds n (Some t) = IsToldOf text n ds t

pub record Looked (text : List ℕ) (ds : List Domain) : Type 0 where
  pub name : Name
  pub told : Option ServiceTold
  pub is : IsToldIf text ds name told

abbrev pub lines_if : Name → Option ServiceTold → List (List ℕ)
lines_if n None = []
lines_if n (Some t) = service_lines n t

abbrev pub fails_if : Option ServiceTold → Bool
fails_if None = false
fails_if (Some t) = fails_with t.result

-- the lines of one service more
pub record IsMore (text : List ℕ) (ds : List Domain) (n : Name) (old new : Gives) : Type 0 where
  pub told : Option ServiceTold
  pub is : IsToldIf text ds n told
  pub lines : new.text.items ≡ old.text.items ++ flat_map ended (lines_if n told)
  pub fails : new.can_fail ≡ (old.can_fail || fails_if told)

-- Each of these services was looked at, in their order, and this is told of them. One of them can fail if and only if that is told.
pub record TellsEach (text : List ℕ) (ds : List Domain) (ns : List Name) (g : Gives) : Type 0 where
  pub looked : List (Looked text ds)
  pub each : map (λ (l : Looked text ds). l.name) looked ≡ ns
  pub lines : g.text.items ≡ flat_map (λ (l : Looked text ds). flat_map ended (lines_if l.name l.told)) looked
  pub fails : g.can_fail ≡ list_any (λ (l : Looked text ds). fails_if l.told) looked

-- how many services are looked at
abbrev pub most_services : ℕ
most_services = 100

abbrev pub left_out : List Name → ℕ
left_out ns = length ns - most_services

-- The first of these services were looked at. Where others are left out, that is told, and one of them might fail.
pub record TellsServices (text : List ℕ) (ds : List Domain) (ns : List Name) (g : Gives) : Type 0 where
  pub first : Gives
  pub told : TellsEach text ds (take most_services ns) first
  pub lines : g.text.items ≡ first.text.items ++ flat_map ended (more_services (left_out ns))
  pub fails : g.can_fail ≡ (first.can_fail || nat_lt 0 (left_out ns))
