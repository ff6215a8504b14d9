-- Internal to this crate: a list and a context are deeper than those among their parts. No public contract cites these words.
use Rattle.std.specs.Prelude.{ℕ, ◌≤◌, List, [], ◌∷◌}
use Rattle.std.proofs.Common.{arith}
use denote.Param.Weighed.{most}
use Rattle.std.specs.declared.alloc.Global.{Global}
use Rattle.std.specs.declared.sync.ArcStr.{ArcStr}
use Rattle.feel_value.specs.Limits.{depth, items_depth, entries_depth}
use Rattle.feel_value.specs.View.{datum_of, items_view, entries_view}
use Rattle.feel_value.specs.declared.value.Value.{Value}
use Rattle.feel_value.specs.declared.value.Value.TheVariants as code
use Rattle.feel_value.specs.declared.value.ValueContext.TheDeep.{deep-Value}
use Rattle.feel_value.specs.declared.value.ValueContext.TheShapes.{weighed-ValueContext-entries-at-2}

value_falls : (v : Value) → deep-Value v ≤ depth (datum_of v)
value_falls code.Null = omega arith
value_falls (code.Bool b) = omega arith
value_falls (code.Number n) = omega arith
value_falls (code.Text s) = omega arith
value_falls (code.List v) = omega arith
value_falls (code.Context v) = omega arith

pub items_fall : (vs : List Value) → most deep-Value vs ≤ items_depth (items_view vs)
items_fall [] = omega arith
items_fall (v ∷ vs) = omega (arith, value_falls v, items_fall vs)

abbrev deep_entry : ArcStr Global × Value → ℕ
deep_entry e = weighed-ValueContext-entries-at-2.weight Value deep-Value e

pub entries_fall : (es : List (ArcStr Global × Value)) → most deep_entry es ≤ entries_depth (entries_view es)
entries_fall [] = omega arith
entries_fall (e ∷ es) = omega (arith, value_falls e.1, entries_fall es)
