use Rattle.std.proofs.Common.{◌≡◌, ◌&&◌, Some}
use Rattle.std.specs.List.{zip, list_all}
use Rattle.std.specs.Slice.Iter.{iter_rest}
use Rattle.std.specs.Iterator.Adapters.{zip_first, zip_second}
use Rattle.feel_text.specs.Satisfied.{satisfied}
use Rattle.feel_value.specs.Found.{each, ◌>>=◌}
use Rattle.dmn_table.specs.Parts.{rule_view}
use Rattle.dmn_table.specs.Hits.{does_hit, is_satisfied}
use Rattle.dmn_table.proofs.hits.is_matched.Given as goal

abbrev pub invariant-loop-tests : goal.invariant-loop-tests
invariant-loop-tests l = does_hit l.env l.values (rule_view l.rule) ≡ (each (λ p. is_satisfied (satisfied p.0 p.1 l.env)) (zip (iter_rest (zip_first l.tests-iterator)) (iter_rest (zip_second l.tests-iterator))) >>= λ answers. Some (l.hit && list_all (λ yes. yes) answers))
