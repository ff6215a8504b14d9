use Rattle.std.proofs.Common.{map, string_bytes, ◌++◌}
use Rattle.dmn_check.specs.declared.place.Key.TheVariants as key
use Rattle.dmn_check.specs.NameFaults.{under}
use Rattle.dmn_check.specs.NotesView.{notes_view}
use Rattle.dmn_check.proofs.Walking.{then, along}
use Rattle.dmn_check.proofs.names.note_service.Goals as goal

pub returns : goal.returns
returns c =
    let f = c.args.fault in
    let s = c.args.service.now in
    let outputs = under f key.Outputs (map string_bytes s.outputs.items) in
    let encapsulated = under f key.Encapsulated (map string_bytes s.encapsulated.items) in
    let decisions = under f key.InputDecisions (map string_bytes s.input_decisions.items) in
    let inputs = under f key.InputData (map string_bytes s.input_data.items) in
    let c0 = notes_view c.args.notes.now in
    let c1 = notes_view c.note_under.new.notes in
    let c2 = notes_view c.note_under-2.new.notes in
    let c3 = notes_view c.note_under-3.new.notes in
    let c4 = notes_view c.note_under-4.new.notes in
    then outputs (encapsulated ++ (decisions ++ inputs)) c0 c1 c4
    (along (λ xs. under f key.Outputs (map string_bytes xs)) s.outputs.items c.deref.result.now c0 c1 c.deref.ensures.value c.in_ok-note_under.ensures)
    (then encapsulated (decisions ++ inputs) c1 c2 c4
    (along (λ xs. under f key.Encapsulated (map string_bytes xs)) s.encapsulated.items c.deref-2.result.now c1 c2 c.deref-2.ensures.value c.in_ok-note_under-2.ensures)
    (then decisions inputs c2 c3 c4
    (along (λ xs. under f key.InputDecisions (map string_bytes xs)) s.input_decisions.items c.deref-3.result.now c2 c3 c.deref-3.ensures.value c.in_ok-note_under-3.ensures)
    (along (λ xs. under f key.InputData (map string_bytes xs)) s.input_data.items c.deref-4.result.now c3 c4 c.deref-4.ensures.value c.in_ok-note_under-4.ensures)))
