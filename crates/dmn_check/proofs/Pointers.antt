-- No key of a model has a `~` or a `/`.
use Rattle.std.specs.Prelude.{◌≡◌, refl}
use Rattle.dmn_check.specs.declared.place.Key.{Key}
use Rattle.dmn_check.specs.declared.place.Key.TheVariants as key
use Rattle.dmn_check.specs.Pointer.{key_text, escaped}

pub unescaped : (k : Key) → escaped (key_text k) ≡ key_text k
unescaped key.Inputs = refl
unescaped key.Decisions = refl
unescaped key.Services = refl
unescaped key.Name = refl
unescaped key.Needs = refl
unescaped key.Expr = refl
unescaped key.List = refl
unescaped key.Context = refl
unescaped key.Result = refl
unescaped key.Table = refl
unescaped key.Hit = refl
unescaped key.Outputs = refl
unescaped key.Values = refl
unescaped key.Default = refl
unescaped key.Rules = refl
unescaped key.When = refl
unescaped key.Then = refl
unescaped key.Encapsulated = refl
unescaped key.InputDecisions = refl
unescaped key.InputData = refl
