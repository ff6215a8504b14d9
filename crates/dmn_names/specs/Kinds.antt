-- Internal, cited by no public contract: what a name is to name.
use Rattle.std.specs.Prelude.{ℕ, Option}
use Rattle.dmn_form.specs.Model.{Name}
use Rattle.dmn_form.specs.Draft.{Draft}
use Rattle.dmn_names.specs.Places.{value_place, input_place, decision_place}
use Rattle.dmn_names.specs.declared.places.Kind.{Kind}
use Rattle.dmn_names.specs.declared.places.Kind.TheVariants.{Value, Input, Decision}

-- the place of what has the name and is of this kind
abbrev pub place_as : Kind → Draft → Name → Option ℕ
place_as Value m n = value_place m n
place_as Input m n = input_place m n
place_as Decision m n = decision_place m n
