use Rattle.std.proofs.Common.{◌∙◌, ap, append-nil, codes, map, string_bytes}
use Rattle.serde_json.specs.Data.{array}
use Rattle.serde_json.specs.Written.{compact_text}
use Rattle.dmn_form.specs.ModelView.{decision_view, model_view, service_view}
use Rattle.desk_checking.specs.Told.{decisions_told, services_told, texts_told}
use Rattle.desk_checking.proofs.Lines.{model_pieces, seven}
use Rattle.desk_checking.proofs.model_line.add_model.Goals as goal

pub returns : goal.returns
returns c =
    seven c.args.text.now.items _ _ _ _ _ _ _ (codes "{\"lawful\":true,\"inputs\":") _ (codes ",\"decisions\":") _ (codes ",\"services\":") _ (codes "}\n") _ _ _ _
    c.in_ok-extend_from_slice.ensures.items c.in_ok-add_texts.ensures c.in_ok-extend_from_slice-2.ensures.items c.in_ok-add_decisions.ensures c.in_ok-extend_from_slice-3.ensures.items
    c.in_ok-add_services.ensures c.in_ok-extend_from_slice-4.ensures.items
    (ap (λ xs. compact_text (array (texts_told xs))) (append-nil (map string_bytes c.deref.result.now) ∙ ap (map string_bytes) c.deref.ensures.value))
    (ap (λ xs. compact_text (array (decisions_told (map decision_view xs)))) c.deref-2.ensures.value)
    (ap (λ xs. compact_text (array (services_told (map service_view xs)))) c.deref-3.ensures.value)
    (model_pieces c.args.text.now.items (model_view c.args.model.now))
