-- Every line that can come has a turn that is due, so a script goes on whatever lines come: an output for the first lines of
-- an input is the beginning of one for all of them.
use Rattle.std.proofs.Common.{◌≡◌, inl, ℕ, ◌+◌, List, [], ◌∷◌, ◌++◌, length, map, refl, sym, ap, ap₂, ◌∙◌, subst, append_assoc, append-nil}
use Rattle.std.specs.List.{flat_map}
use Rattle.std.proofs.lemmas.Grind.{flat_map-append}
use Rattle.std.proofs.lemmas.List.{map-append}
use Rattle.box_core.specs.History as broker
use Rattle.box_core.proofs.Due.{report_for}
use Rattle.dmn_plan.specs.Request.{Request, request_result}
use Rattle.dmn_plan.proofs.Decided.{one_request}
use Rattle.feel_value.specs.declared.feel.Outcome.{Outcome}
use Rattle.desk_replaying.specs.Line.{Line}
use Rattle.desk_wire.specs.Reading.{Reading, Blank, Long, Syntax, Shape, Says}
use Rattle.desk_replaying.specs.State.{Deed, Skipped, Loaded, Faulty, Refused, Asked, Turn, history, opened, in_force}
use Rattle.desk_replaying.specs.Due.{Due, Loads, Faults, Refuses, Asks, due_to, IsDone, IsDueAs, Follows}
use Rattle.desk_replaying.specs.Reports.{said_of}
use Rattle.desk_replaying.specs.Script.{AreInOrder, Script}
use Rattle.desk_wire.specs.declared.word.Word.TheVariants as word
use Rattle.desk_replaying.proofs.Decisions.{a_reading}

deed_for : (past : broker.History Request Outcome) (due : Due) → (deed : Deed) × IsDone past due deed
deed_for past (Loads text) = (Loaded text, refl)
deed_for past (Faults fault) = (Faulty fault, refl)
deed_for past (Refuses why) = (Refused why, refl)
deed_for past (Asks event) =
    let r = report_for (λ (q : Request). q) request_result one_request past event in (Asked event r.0, (r.0, r.1, refl))

deed_as : (before : List Turn) (reading : Reading Line) → (deed : Deed) × IsDueAs before reading deed
deed_as before Blank = (Skipped, refl)
deed_as before Long = (Refused word.Long, refl)
deed_as before Syntax = (Refused word.Syntax, refl)
deed_as before Shape = (Refused word.Shape, refl)
deed_as before (Says says) =
    let d = deed_for (history before) (due_to (opened before) (in_force before) (history before) says) in (d.0, inl d.1)

-- a turn of this line, which is due after those before it
pub turn_for : (before : List Turn) (text : List ℕ) → (turn : Turn) × Follows before turn × (turn.line ≡ text)
turn_for before text =
    let r = a_reading text in
    let d = deed_as before r.0 in
    (record { number = length before + 1; line = text; reading = r.0; deed = d.0 }, record { number = refl; reads = r.1; due = d.1 }, refl)

turns_for : (before : List Turn) (lines : List (List ℕ)) → (turns : List Turn) × AreInOrder before turns × (map (λ turn. turn.line) turns ≡ lines)
turns_for before [] = ([], tt, refl)
turns_for before (text ∷ lines) =
    let t = turn_for before text in
    let ts = turns_for (before ++ t.0 ∷ []) lines in
    (t.0 ∷ ts.0, (t.1, ts.1), ap₂ (λ (l : List ℕ) ls. l ∷ ls) t.2 ts.2)

in_order-append : (before xs ys : List Turn) → AreInOrder before xs → AreInOrder (before ++ xs) ys → AreInOrder before (xs ++ ys)
in_order-append before [] ys first later = subst (λ ts. AreInOrder ts ys) (append-nil before) later
in_order-append before (x ∷ xs) ys first later =
    (first.0, in_order-append (before ++ x ∷ []) xs ys first.1 (subst (λ ts. AreInOrder ts ys) (sym (append_assoc before (x ∷ []) xs)) later))

pub goes_on : (lines more output : List (List ℕ)) → Script lines output → (rest : List (List ℕ)) × Script (lines ++ more) (output ++ rest)
goes_on lines more output script =
    let ts = turns_for script.turns more in (
      flat_map said_of ts.0,
      record {
        turns = script.turns ++ ts.0;
        each = map-append (λ (turn : Turn). turn.line) script.turns ts.0 ∙ ap₂ (λ (a b : List (List ℕ)). a ++ b) script.each ts.2;
        due = in_order-append [] script.turns ts.0 script.due ts.1;
        said = ap (λ o. o ++ flat_map said_of ts.0) script.said ∙ sym (flat_map-append said_of script.turns ts.0);
      },
    )
