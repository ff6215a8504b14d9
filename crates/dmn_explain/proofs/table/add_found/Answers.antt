use Rattle.std.proofs.Common.{ap, ◌∙◌, map, true, Bool, List, ℕ, Option, Some}
use Rattle.std.specs.Prelude.{codes}
use Rattle.serde_json.specs.Data.{array, boolean, member, Members}
use Rattle.serde_json.specs.Written.{compact_text}
use Rattle.json_writer.specs.Bounded.{longer}
use Rattle.dmn_explain.specs.How.{decided_by, decided_then, hits_told, misses_if, takes_defaults}
use Rattle.dmn_explain.specs.Numbered.{hit_view, miss_view}
use Rattle.dmn_explain.specs.Text.{decided_text, misses_text}
use Rattle.dmn_explain.specs.declared.asking.Hit.{Hit}
use Rattle.dmn_explain.specs.declared.asking.Miss.{Miss}
use Rattle.dmn_explain.proofs.Pieces.{decided_added_by, member_added_by, misses_added_by}
use Rattle.dmn_explain.proofs.table.add_found.Goals as goal

pub returns : goal.returns
returns c =
    let t = c.args.table.now in
    let m = c.args.env.now in
    let w = c.args.with_misses in
    let hits = map hit_view c.args.asked.now.hits.items in
    let missed = map miss_view c.args.asked.now.misses.items in
    let rest : Members = misses_if w (Some missed) in
    let decided : Option (List ℕ) = decided_by t m hits in
    let are = takes_defaults t.outputs hits in
    let t1 = c.add_key.new.text in
    let t2 = c.add_hits.new.text in
    let t3 = c.add_key-2.new.text in
    let t4 = c.add_bool.new.text in
    let t5 = c.add_decided.new.text in
    let t6 = c.add_misses.new.text in
    let t7 = c.push.new.self in
    member_added_by c.args.text.now t1 t2 t7 true (codes "hits") (array (hits_told t m hits)) (member (codes "defaults") (boolean are) (decided_then decided rest)) c.in_ok-add_key.ensures
    (c.in_ok-add_hits.ensures ∙ ap (λ (hs : List Hit). longer t1 (compact_text (array (hits_told t m (map hit_view hs))))) c.deref.ensures.value)
    (member_added_by t2 t3 t4 t7 true (codes "defaults") (boolean are) (decided_then decided rest) c.in_ok-add_key-2.ensures
    (c.in_ok-add_bool.ensures
    ∙ ap (λ (b : Bool). longer t3 (compact_text (boolean b))) (c.are_default.ensures ∙ ap (λ (hs : List Hit). takes_defaults t.outputs (map hit_view hs)) c.deref-2.ensures.value))
    (decided_added_by t4 t5 t7 decided rest
    (c.in_ok-add_decided.ensures ∙ ap (λ (hs : List Hit). longer t4 (decided_text (decided_by t m (map hit_view hs)))) c.deref-3.ensures.value)
    (misses_added_by t5 t6 t7 w missed
    (c.in_ok-add_misses.ensures ∙ ap (λ (xs : List Miss). longer t5 (misses_text w (map miss_view xs))) c.deref-4.ensures.value) c.in_ok-push.ensures)))
