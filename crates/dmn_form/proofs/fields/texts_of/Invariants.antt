use Rattle.std.proofs.Common.{◌≡◌, drop}
use Rattle.serde_json.specs.View.{items_view}
use Rattle.dmn_form.specs.Draft.{each_in, text_of}
use Rattle.dmn_form.specs.FormView.{texts_view}
use Rattle.dmn_form.proofs.Readings.{read_after}
use Rattle.dmn_form.proofs.fields.texts_of.Given as goal

abbrev pub invariant-loop-item : goal.invariant-loop-item
invariant-loop-item l = each_in text_of (items_view l.item-items) ≡ read_after (texts_view l.texts) (each_in text_of (items_view (drop l.item-index l.item-items)))
