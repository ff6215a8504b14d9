use Rattle.std.proofs.Common.{◌≡◌, drop, map}
use Rattle.serde_json.specs.Data.{array}
use Rattle.serde_json.specs.Written.{compact_text, items_text}
use Rattle.json_writer.specs.Bounded.{longer}
use Rattle.dmn_explain.specs.How.{misses_told}
use Rattle.dmn_explain.specs.Numbered.{miss_view}
use Rattle.dmn_explain.proofs.misses.add_miss_list.Given as goal

abbrev pub invariant-loop-miss : goal.invariant-loop-miss
invariant-loop-miss l = longer l.text (items_text l.later (misses_told (map miss_view (drop l.miss-index l.misses)))) ≡ longer l.fn.text (compact_text (array (misses_told (map miss_view l.misses))))
