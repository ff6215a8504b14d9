use Rattle.std.proofs.Common.{◌+◌, List, get_or, drop, map}
use Rattle.std.proofs.lemmas.List.{at_drop_more}
use Rattle.serde_json.specs.Data.{array}
use Rattle.serde_json.specs.Written.{compact_text}
use Rattle.json_writer.specs.Bounded.{longer}
use Rattle.dmn_explain.specs.How.{miss_told, misses_told}
use Rattle.dmn_explain.specs.Numbered.{miss_view}
use Rattle.dmn_explain.specs.declared.asking.Miss.{Miss}
use Rattle.dmn_explain.proofs.Pieces.{row_more}
use Rattle.dmn_explain.proofs.misses.add_miss_list.Goals as goal

pub loop-miss-preserved : goal.loop-miss-preserved
loop-miss-preserved c =
    let misses = c.args.misses.now in
    let i = c.loop-miss.miss-index in
    let none : Miss = record { number = 0; column = 0 } in
    row_more (longer c.args.text.now (compact_text (array (misses_told (map miss_view misses))))) c.loop-miss.text c.add_comma.new.text c.add_miss.new.text c.loop-miss.later _
    (miss_told (miss_view (get_or misses i none))) (misses_told (map miss_view (drop (i + 1) misses))) c.loop-miss.invariant
    (at_drop_more (λ (xs : List Miss). misses_told (map miss_view xs)) misses i none c.loop-miss-test.true) c.in_ok-add_comma.ensures c.in_ok-add_miss.ensures
