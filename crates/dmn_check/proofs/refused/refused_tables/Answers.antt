use Rattle.std.proofs.Common.{map, nat_lt, ap, ◌∙◌}
use Rattle.dmn_form.specs.ModelView.{decision_view, model_view}
use Rattle.dmn_check.specs.Look.{decisions_findings}
use Rattle.dmn_check.specs.NotesView.{notes_view}
use Rattle.dmn_check.specs.Told.{Told}
use Rattle.dmn_check.specs.Refused.{refused_look, refused_tables}
use Rattle.dmn_check.proofs.Walking.{from_start}
use Rattle.dmn_check.proofs.RefusedLaws.{refused_exactly}
use Rattle.dmn_check.proofs.refused.refused_tables.Goals as goal

pub returns-clause-fault : goal.returns-clause-fault
returns-clause-fault c =
    let m = model_view c.args.model.now in
    ap (λ (t : Told). nat_lt 0 t.count)
    (c.of.ensures (refused_tables m)
    (from_start (λ xs. decisions_findings refused_look (map decision_view xs)) c.args.model.now.decisions.items c.deref.result.now
    (notes_view c.new-notes.result) (notes_view c.walk_decisions.new.notes) c.new-notes.ensures c.deref.ensures.value c.in_ok-walk_decisions.ensures))
    ∙ refused_exactly m
