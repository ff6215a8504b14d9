use Rattle.std.proofs.Common.{◌≡◌, ◌∙◌, ap, refl, ℕ, List, Bor, Bool, true, false, not, map}
use Rattle.feel_value.specs.Distinct.{are_distinct}
use Rattle.dmn_ranges.proofs.table.names_are_distinct.Goals as goal

not_not : (b : Bool) → not (not b) ≡ b
not_not true = refl
not_not false = refl

pub returns : goal.returns
returns c = ap not c.in_ok-is_twice.ensures ∙ not_not _ ∙ ap (λ ns. are_distinct (map (λ (n : Bor (List ℕ)). n.now) ns)) c.deref.ensures.value ∙ ap are_distinct c.in_ok-names.ensures
