use Rattle.std.proofs.Common.{◌≡◌, ◌||◌, ℕ, List, drop, map}
use Rattle.std.specs.BTreeSet.{contains_text}
use Rattle.feel_value.specs.Distinct.{is_among}
use Rattle.desk_requests.proofs.services.set_of.Given as goal

abbrev pub invariant-loop-name : goal.invariant-loop-name
invariant-loop-name l = (n : List ℕ) → (contains_text l.set n || is_among (map (λ k. k.now) (drop l.name-index l.names)) n) ≡ is_among (map (λ k. k.now) l.names) n
