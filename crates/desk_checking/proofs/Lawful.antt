-- A lawful model is read, and its tables are told where the options say so.
use Rattle.std.proofs.Common.{◌≡◌, ℕ, List, [], ◌∷◌, map, Bool, true, false, ◌&&◌, ◌||◌, Result, Ok, Err, is_ok, refl, sym, ap}
use Rattle.feel_text.specs.Expr.{Expr}
use Rattle.dmn_table.specs.Table.{Table}
use Rattle.dmn_form.specs.Model.{Model, Name, Service}
use Rattle.dmn_form.specs.ModelView.{service_view}
use Rattle.dmn_form.specs.declared.written.WrittenService.{WrittenService}
use Rattle.dmn_plan.specs.declared.fault.ModelFault.{ModelFault}
use Rattle.dmn_told.specs.declared.domains.Domain.{Domain}
use Rattle.desk_ranges.specs.Gives.{TellsServices, written_name}
use Rattle.desk_ranges.specs.declared.gives.Gives.{Gives}
use Rattle.desk_checking.specs.GivesTold.{GivesIf}
use Rattle.desk_checking.specs.Tables.{Placed}
use Rattle.desk_checking.specs.TablesTold.{Looked, TellsIf, TellsTables}

pub read_whole : (r : Result (Model Expr Table) ModelFault) → is_ok r ≡ true → (m : Model Expr Table) × (r ≡ Ok m)
read_whole (Ok m) h = (m, refl)
read_whole (Err f) h = let wrong : ⊥ = cc in absurd wrong

-- ---- what is told of tables where the options say so

pub untold : (tables strict : Bool) (IsSo : Looked → Type 0) (ts : List Placed) (text : List ℕ) (are_refused : Bool) → tables ≡ false → text ≡ [] → TellsIf tables strict IsSo ts text (tables && (strict && are_refused))
untold true strict IsSo ts text are_refused e none = let wrong : ⊥ = cc in absurd wrong
untold false strict IsSo ts text are_refused e none = (none, refl)

pub told : (tables strict : Bool) (IsSo : Looked → Type 0) (ts : List Placed) (text : List ℕ) (are_refused : Bool) → tables ≡ true → TellsTables IsSo ts text are_refused → TellsIf tables strict IsSo ts text (tables && (strict && are_refused))
told true strict IsSo ts text are_refused e tells = (are_refused, tells, refl)
told false strict IsSo ts text are_refused e tells = let wrong : ⊥ = cc in absurd wrong

-- ---- what is told of services where the options say so

none_asked : (gives strict can_fail : Bool) → (gives || strict) ≡ false → (strict && can_fail) ≡ false
none_asked true true can_fail e = let wrong : ⊥ = cc in absurd wrong
none_asked true false can_fail e = refl
none_asked false true can_fail e = let wrong : ⊥ = cc in absurd wrong
none_asked false false can_fail e = refl

pub unasked : (looks gives strict : Bool) (model : List ℕ) (domains : List Domain) (services : List Name) (text : List ℕ) (can_fail : Bool) → looks ≡ (gives || strict) → looks ≡ false → text ≡ [] → GivesIf looks strict model domains services text (strict && can_fail)
unasked true gives strict model domains services text can_fail same e none = let wrong : ⊥ = cc in absurd wrong
unasked false gives strict model domains services text can_fail same e none = (none, none_asked gives strict can_fail (sym same))

pub asked : (looks strict : Bool) (model : List ℕ) (domains : List Domain) (services : List Name) (gives : Gives) → looks ≡ true → TellsServices model domains services gives → GivesIf looks strict model domains services gives.text.items (strict && gives.can_fail)
asked true strict model domains services gives e tells = (gives, tells, refl, refl)
asked false strict model domains services gives e tells = let wrong : ⊥ = cc in absurd wrong

-- the names of the services, as they are written
pub services_named : (ss : List WrittenService) → map written_name ss ≡ map (λ (s : Service). s.name) (map service_view ss)
services_named [] = refl
services_named (s ∷ ss) = ap (λ (ns : List Name). written_name s ∷ ns) (services_named ss)
