use Rattle.std.proofs.Common.{ap, codes}
use Rattle.json.specs.Print.{quoted}
use Rattle.dmn_form.specs.ModelView.{decision_view}
use Rattle.desk_checking.proofs.Lines.{decision_pieces, five}
use Rattle.desk_checking.proofs.model_line.add_decision.Goals as goal

pub returns : goal.returns
returns c =
    five c.args.text.now.items _ _ _ _ _ (codes "{\"name\":") _ (codes ",\"kind\":") _ (codes "}") _ _ _ c.in_ok-extend_from_slice.ensures.items c.in_ok-add_quoted.ensures
    c.in_ok-extend_from_slice-2.ensures.items c.in_ok-add_quoted-2.ensures c.in_ok-extend_from_slice-3.ensures.items (ap quoted c.as_str.ensures.value) (ap quoted c.kind_of.ensures)
    (decision_pieces c.args.text.now.items (decision_view c.args.decision.now))
