use Rattle.std.proofs.Common.{◌≡◌, ◌+◌, drop, map, length, true, option_map}
use Rattle.feel_value.specs.Found.{each}
use Rattle.dmn_table.specs.declared.hit_policy.HitPolicy.TheVariants.{Priority}
use Rattle.dmn_table.specs.Deciding.{deciding}
use Rattle.dmn_table.specs.Hits.{hit_of}
use Rattle.dmn_table.specs.Parts.{column_view, rules_view, have_entries}
use Rattle.dmn_table.specs.View.{ranked_hit}
use Rattle.dmn_table.proofs.FirstInPriority.{hits_from}
use Rattle.dmn_table.proofs.HighestHit.{from_number}
use Rattle.dmn_table.proofs.deciders.highest.Given as goal

-- what is found for all rules is found from the best hit so far and the rest
abbrev pub invariant-loop-i : goal.invariant-loop-i
invariant-loop-i l = record {
  found : option_map (deciding Priority l.numbers) (each (hit_of (map column_view l.outputs) l.env) (rules_view l.rules)) ≡ from_number (drop (l.i + 1) l.numbers) (l.number, ranked_hit (map column_view l.outputs) l.best) (hits_from (map column_view l.outputs) l.env l.rest l.i);
  placed : length l.best.places.items ≡ length (map column_view l.outputs);
  entries : have_entries (length (map column_view l.outputs)) (rules_view (drop l.i l.rest)) ≡ true;
}
