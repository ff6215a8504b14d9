use Rattle.std.proofs.Common.{◌≡◌, drop, map}
use Rattle.serde_json.specs.Data.{array}
use Rattle.serde_json.specs.Written.{compact_text, items_text}
use Rattle.json_writer.specs.Bounded.{longer}
use Rattle.dmn_explain.specs.How.{hits_told}
use Rattle.dmn_explain.specs.Numbered.{hit_view}
use Rattle.dmn_explain.proofs.table.add_hits.Given as goal

abbrev pub invariant-loop-hit : goal.invariant-loop-hit
invariant-loop-hit l = longer l.text (items_text l.later (hits_told l.table l.env (map hit_view (drop l.hit-index l.hits)))) ≡ longer l.fn.text (compact_text (array (hits_told l.table l.env (map hit_view l.hits))))
