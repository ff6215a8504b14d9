-- What is found, or not: the parts of a value that are worked out one after another, each of which may break a limit, and the
-- parts of a text or a model that may not be there.
use Rattle.std.specs.Prelude.{List, [], ◌∷◌, Option, None, Some}
use Rattle.feel_value.specs.Datum.{Datum}
use Rattle.feel_value.specs.declared.feel.Outcome.{Outcome}
use Rattle.feel_value.specs.declared.feel.Outcome.TheVariants.{Is, Limit}

-- the value of an outcome; None where a limit was broken
abbrev pub value_of : Outcome → Option Datum
value_of (Is d) = Some d
value_of Limit = None

-- goes on with what was found; None stays None
infixl 20 ◌>>=◌
abbrev pub ◌>>=◌ : {X Y : Type 0} → Option X → (X → Option Y) → Option Y
None >>= f = None
Some x >>= f = f x

-- what f finds for each; None where it finds nothing for one
abbrev pub each : {X Y : Type 0} → (X → Option Y) → List X → Option (List Y)
each f [] = Some []
each f (x ∷ xs) = f x >>= λ y. each f xs >>= λ ys. Some (y ∷ ys)

-- the outcome of going on with what was found; `Limit` where a limit was broken
abbrev pub outcome_from : {X : Type 0} → (X → Outcome) → Option X → Outcome
outcome_from f None = Limit
outcome_from f (Some x) = f x
