use Rattle.std.proofs.Common.{◌∙◌, codes}
use Rattle.serde_json.specs.Data.{boolean}
use Rattle.serde_json.specs.Written.{compact_text}
use Rattle.desk_ranges.specs.Lines.{interval_told, texts_told}
use Rattle.desk_ranges.proofs.Pieces.{eight_pieces, onto}
use Rattle.desk_ranges.proofs.lines.add_parts.Goals as goal

pub returns : goal.returns
returns c =
    let r = c.args.range in
    let numbers = onto _ c.in_ok-add_interval.ensures c.in_ok-extend_from_slice.ensures.items in
    let texts = onto _ c.in_ok-add_texts.ensures (onto _ c.in_ok-extend_from_slice-2.ensures.items numbers) in
    let lists = onto _ c.in_ok-add_bool.ensures (onto _ c.in_ok-extend_from_slice-3.ensures.items texts) in
    let contexts = onto _ c.in_ok-add_bool-2.ensures (onto _ c.in_ok-extend_from_slice-4.ensures.items lists) in
    contexts
    ∙ eight_pieces c.args.text.now.items (codes ",\"numbers\":") (compact_text (interval_told r.numbers)) (codes ",\"texts\":") (compact_text (texts_told r.texts)) (codes ",\"lists\":")
    (compact_text (boolean r.lists)) (codes ",\"contexts\":") (compact_text (boolean r.contexts))
