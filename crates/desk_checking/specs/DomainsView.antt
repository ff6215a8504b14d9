-- Internal, cited by no public contract: what the code has of what is declared beside a model.
use Rattle.std.specs.Prelude.{◌≡◌, ℕ, List, map, Option, option_map}
use denote.Ref.{Bor}
use Rattle.serde_json.specs.Data.{Data}
use Rattle.dmn_form.specs.Draft.{Draft}
use Rattle.dmn_form.specs.Model.{Name}
use Rattle.dmn_told.specs.declared.domains.Domain.{Domain}
use Rattle.desk_checking.specs.Domains.{Declared, domain_view, domains_in, refused_in}
use Rattle.desk_checking.specs.declared.domains.Beside.{Beside}

abbrev pub domain_views : List Domain → List Declared
domain_views ds = map domain_view ds

abbrev pub name_view : Option (Bor (List ℕ)) → Option Name
name_view n = option_map (λ s. s.now) n

abbrev pub name_views : List (Option (Bor (List ℕ))) → List (Option Name)
name_views ns = map name_view ns

-- it is what is declared of this model
pub record IsBeside (m : Draft) (beside : Option Data) (b : Beside) : Type 0 where
  pub domains : domain_views b.domains.items ≡ domains_in m beside
  pub refused : name_views b.refused.items ≡ refused_in m beside
