-- How large a model may be.
use Rattle.std.specs.Prelude.{ℕ, Bool, nat_lt, length}
use Rattle.dmn_form.specs.Draft.{Draft}

abbrev pub most_decisions : ℕ
most_decisions = 1000

abbrev pub is_large : Draft → Bool
is_large m = nat_lt most_decisions (length m.decisions)
