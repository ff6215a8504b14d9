use Rattle.std.proofs.Common.{◌++◌, ap, ap₂, codes, map, string_bytes}
use Rattle.json.specs.Print.{quoted}
use Rattle.serde_json.specs.Data.{array}
use Rattle.serde_json.specs.Written.{compact_text}
use Rattle.dmn_form.specs.ModelView.{service_view}
use Rattle.desk_checking.specs.Told.{texts_told}
use Rattle.desk_checking.proofs.Lines.{five, service_pieces}
use Rattle.desk_checking.proofs.model_line.add_service.Goals as goal

pub returns : goal.returns
returns c =
    five c.args.text.now.items _ _ _ _ _ (codes "{\"name\":") _ (codes ",\"parameters\":") _ (codes "}") _ _ _ c.in_ok-extend_from_slice.ensures.items c.in_ok-add_quoted.ensures
    c.in_ok-extend_from_slice-2.ensures.items c.in_ok-add_texts.ensures c.in_ok-extend_from_slice-3.ensures.items (ap quoted c.as_str.ensures.value)
    (ap₂ (λ xs ys. compact_text (array (texts_told (map string_bytes xs ++ map string_bytes ys)))) c.deref.ensures.value c.deref-2.ensures.value)
    (service_pieces c.args.text.now.items (service_view c.args.service.now))
