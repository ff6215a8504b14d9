use Rattle.std.proofs.Common.{◌≡◌, ◌∙◌, ap, subst, arith, length, List, All, IfSome, true}
use Rattle.std.specs.Prelude.{codes}
use Rattle.std.proofs.lemmas.List.{length-map}
use Rattle.std.proofs.lemmas.Result.{on_ok_weaker}
use Rattle.serde_json.specs.Data.{object}
use Rattle.serde_json.specs.View.{members_view}
use Rattle.serde_json.specs.Written.{compact_text}
use Rattle.feel_value.specs.Datum.{Datum}
use Rattle.feel_value.specs.Found.{value_of}
use Rattle.dmn_table.specs.Hits.{output_of}
use Rattle.dmn_table.specs.Parts.{column_view}
use Rattle.dmn_table.specs.RuleOutputs.{IsScalar}
use Rattle.json_writer.specs.Bounded.{longer}
use Rattle.dmn_explain.specs.ByName.{each_member, json_among}
use Rattle.dmn_explain.specs.NamedOutputs.{TellsOutputs}
use Rattle.dmn_explain.proofs.Pieces.{valued_as}
use Rattle.dmn_explain.proofs.hit.add_output.Goals as goal

pub returns : goal.returns
returns c =
    let t1 = c.add_key.new.text in
    let os = c.args.table.now.outputs in
    let ds : List Datum = c.args.values.items in
    let ps = c.in-Some.places.entries in
    let same : length ds ≡ length os = omega (arith, c.len.ensures, c.if-len-outputs.false, ap length c.outputs.ensures, length-map c.outputs.result.now column_view) in
    let scalars : All IsScalar ds = subst (All IsScalar) c.deref.ensures.value (c.are_scalars.ensures c.if-not-are_scalars.false) in
    let tells : TellsOutputs os ps = subst (λ o. IfSome o (λ places. TellsOutputs os places.entries)) c.in-Some.is c.requires in
    on_ok_weaker c.add_named.result
    (λ is. valued_as c.args.text.now t1 c.add_named.new.text true (codes "value") (value_of (output_of os ds)) (object (each_member (json_among ds) (members_view ps))) (tells ds same scalars) c.in_ok-add_key.ensures
    (is ∙ ap (λ (xs : List Datum). longer t1 (compact_text (object (each_member (json_among xs) (members_view ps))))) c.deref-2.ensures.value))
    c.add_named.ensures
