use Rattle.lanes.specs.Ports.{held_at}
use Rattle.std.specs.Option.{option_to_list}
use Rattle.std.specs.Prelude.{sum_by}
use Rattle.std.proofs.lemmas.List.Sums.{sum_by-append}
use Rattle.std.proofs.Common.{◌≡◌, ◌∷◌, [], ◌++◌, List, length, Option, Some, None, IfSome, IfNone, MatchOption, ap, refl, arith}
use Rattle.lanes.proofs.worker.Worker.remove.Goals as goal

no_length : {T : Type 0} (xs : List T) → length xs ≡ 0 → xs ≡ []
no_length [] h = refl
no_length (x ∷ xs) h = absurd (omega (arith, h))

last_of : {T : Type 0} (r : Option T) (old new : List T) → old ≡ new ++ option_to_list r → IfSome r (λ x. old ≡ new ++ x ∷ [])
last_of None old new items = tt
last_of (Some x) old new items = items

none_of : {T : Type 0} (r : Option T) (old new : List T) (A : T → Type 0) → MatchOption r ((length old ≡ 0) × (length new ≡ 0)) A → IfNone r ((old ≡ []) × (new ≡ []))
none_of None old new A cases = (no_length old cases.0, no_length new cases.1)
none_of (Some x) old new A cases = tt

pub invariant_of-self-inside : goal.invariant_of-self-inside
invariant_of-self-inside g c =
    let old = c.self.inside.ports.items in let new = c.pop.new.self.items in
    let parts = ap (λ ports. sum_by (λ p. length (held_at p)) ports) c.pop.ensures.items in
    let sum = sum_by-append (λ p. length (held_at p)) new (option_to_list c.pop.result) in
    (omega (arith, c.self.inside.few, c.pop.ensures.len), (omega (arith, c.self.inside.one, parts, sum), ((λ none. (let before = c.self.inside.free none in omega (arith, before, parts, sum))), tt)))

pub returns-clause-some : goal.returns-clause-some
returns-clause-some g c = rw (← c.self.view_is) (last_of c.pop.result c.self.inside.ports.items c.pop.new.self.items c.pop.ensures.items)
