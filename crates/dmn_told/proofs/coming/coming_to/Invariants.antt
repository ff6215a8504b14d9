use Rattle.std.proofs.Common.{◌≡◌, length, map}
use Rattle.dmn_plan.specs.ReadModel.{read_text}
use Rattle.dmn_told.proofs.Comings.{ComesFromFirst}
use Rattle.dmn_told.proofs.coming.coming_to.Given as goal

abbrev pub invariant-loop-place : goal.invariant-loop-place
invariant-loop-place l = record {
  comes : ComesFromFirst (read_text l.plan) l.domains (map (λ n. n.now) l.services) l.items (map (λ p. p.now) l.planned.plans.items) l.place l.tables.items;
  count : length l.tables.items ≡ length l.items;
}
