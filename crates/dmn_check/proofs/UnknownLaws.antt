-- There is an unknown name exactly where the model has the fault.
use Rattle.std.proofs.Common.{◌≡◌, ℕ, suc, List, [], ◌∷◌, length, refl, ◌∙◌, Bool, true, false, not, ◌||◌, nat_lt, Option, None, Some, option_map, is_none, if◌then◌else◌}
use Rattle.std.specs.Prelude.{bytes_eq}
use Rattle.std.specs.List.{list_any}
use Rattle.feel_value.specs.Distinct.{is_among}
use Rattle.dmn_form.specs.Model.{Name}
use Rattle.dmn_form.specs.Draft.{Written, Draft}
use Rattle.dmn_names.specs.Names.{has_unknown_name}
use Rattle.dmn_names.specs.Parts.{value_names}
use Rattle.dmn_names.specs.Places.{place_among}
use Rattle.dmn_check.specs.declared.place.Step.TheVariants as step
use Rattle.dmn_check.specs.declared.place.Key.TheVariants as key
use Rattle.dmn_check.specs.declared.finding.Mistake.TheVariants as mistake
use Rattle.dmn_check.specs.Findings.{each_of}
use Rattle.dmn_check.specs.Told.{have_any, capped}
use Rattle.dmn_check.specs.Unknown.{unknown_name, unknown_needs, unknown_names}
use Rattle.dmn_check.proofs.Presence.{any-here, any-inside, any-each_of}
use Rattle.dmn_check.proofs.ToldLaws.{some_told}

none_mapped : (o : Option ℕ) → is_none (option_map suc o) ≡ is_none o
none_mapped None = refl
none_mapped (Some x) = refl

none_or : (b c : Bool) (o : Option ℕ) → is_none o ≡ not c → is_none (if b then Some 0 else option_map suc o) ≡ not (b || c)
none_or true c o e = refl
none_or false c o e = none_mapped o ∙ e

-- a name has no place where it is not among the names
pub no_place : (ns : List Name) (n : Name) → is_none (place_among ns n) ≡ not (is_among ns n)
no_place [] n = refl
no_place (m ∷ ms) n = none_or (bytes_eq n m) (is_among ms n) (place_among ms n) (no_place ms n)

any-needs : (m : Draft) (d : Written) → have_any (unknown_needs m d) ≡ list_any (λ n. not (is_among (value_names m) n)) d.needs
any-needs m d =
    any-inside (step.Key key.Needs) (each_of (unknown_name m) d.needs) _
    (any-each_of (unknown_name m) (λ n. not (is_among (value_names m) n)) (λ n. any-here mistake.Unknown (not (is_among (value_names m) n))) d.needs)

pub any-unknown : (m : Draft) → have_any (unknown_names m) ≡ has_unknown_name m
any-unknown m =
    any-inside (step.Key key.Decisions) (each_of (unknown_needs m) m.decisions) _
    (any-each_of (unknown_needs m) (λ d. list_any (λ n. not (is_among (value_names m) n)) d.needs) (any-needs m) m.decisions)

pub unknown_exactly : (m : Draft) → nat_lt 0 (capped (length (unknown_names m))) ≡ has_unknown_name m
unknown_exactly m = some_told (unknown_names m) ∙ any-unknown m
