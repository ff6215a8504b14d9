-- What is handed out between lines.
use Rattle.std.proofs.Common.{◌≡◌, ℕ, List, [], Option, Result, Ok, Err, OnOk, length, refl}
use Rattle.desk_lines.specs.Answering.{Answers, SaysMore}
use Rattle.desk_lines.specs.Lines.{kept_line}
use Rattle.desk_lines.specs.declared.fault.FrontFault.{FrontFault}
use Rattle.desk_serving.specs.LanesView.{lanes_in, names_in}
use Rattle.desk_serving.specs.Owed.{AreFirst, AreHanded, Hands, due_to}
use Rattle.desk_serving.specs.Script.{ServedInPart, texts_of}
use Rattle.desk_serving.specs.StateView.{After, HearsText}
use Rattle.desk_serving.specs.Telling.{Tells}
use Rattle.desk_serving.specs.declared.named_lanes.Lanes.{Lanes}
use Rattle.desk_serving.specs.declared.state.State.{State}
use Rattle.desk_serving.proofs.Hearing.{after_line}
use Rattle.desk_serving.proofs.Fronting.{after_more, in_part_more}
use Rattle.desk_serving.proofs.Owing.{handed_first}
use Rattle.desk_serving.proofs.Saying.{tells_none, tells_weaker}
use Rattle.model_marks.specs.declared.mark.Catalog.{Ghosts}

module _ {C R : Type 0} {G : Ghosts C} (old new : State C R G) {a b : Option (List ℕ)} {waits waits' : List ℕ} where
  pub caught_up : names_in new.lanes ≡ names_in old.lanes → new.plan ≡ old.plan → Tells (AreHanded (names_in old.lanes) (lanes_in old.lanes) (lanes_in new.lanes)) a b waits waits'
      → SaysMore (After old) (After new) a b waits waits'
  caught_up names plan t = λ lines said s. (texts_of t.more, after_more old new lines said t.more s names plan t.are, t.gathers)

module _ {C R : Type 0} {G : Ghosts C} (old : State C R G) {a b : Option (List ℕ)} {waits waits' : List ℕ} where
  pub caught_in_part : Tells (AreFirst (names_in old.lanes) (lanes_in old.lanes)) a b waits waits' → SaysMore (After old) (ServedInPart (length (lanes_in old.lanes))) a b waits waits'
  caught_in_part t = λ lines said s. (texts_of t.more, in_part_more old lines said t.more s t.are, t.gathers)

pub ok_caught : {C R : Type 0} {G : Ghosts C} (old new : State C R G) (a b : Option (List ℕ)) (waits waits' : List ℕ) {X : Type 0} (r : Result X FrontFault) → names_in new.lanes ≡ names_in old.lanes → new.plan ≡ old.plan
    → OnOk r (Tells (AreHanded (names_in old.lanes) (lanes_in old.lanes) (lanes_in new.lanes)) a b waits waits') → OnOk r (SaysMore (After old) (After new) a b waits waits')
ok_caught old new a b waits waits' (Ok x) names plan t = caught_up old new names plan t
ok_caught old new a b waits waits' (Err e) names plan t = tt

module _ {C R : Type 0} {G : Ghosts C} (old : State C R G) where
  -- nothing is said
  pub caught_nothing : (a : Option (List ℕ)) (waits : List ℕ) → SaysMore (After old) (ServedInPart (length (lanes_in old.lanes))) a a waits waits
  caught_nothing a waits =
      let names = names_in old.lanes in let lanes = lanes_in old.lanes in
      caught_in_part old (tells_none (AreFirst names lanes) a waits (λ who. (due_to who names lanes, refl)))

  -- the line is not answered, once some was handed out
  pub caught_handed : (mid : Lanes C G) {a b : Option (List ℕ)} {waits waits' : List ℕ} → Tells (AreHanded (names_in old.lanes) (lanes_in old.lanes) (lanes_in mid)) a b waits waits'
      → SaysMore (After old) (ServedInPart (length (lanes_in old.lanes))) a b waits waits'
  caught_handed mid {a} {b} {waits} {waits'} t =
      let names = names_in old.lanes in let lanes = lanes_in old.lanes in
      caught_in_part old (tells_weaker (AreHanded names lanes (lanes_in mid)) (AreFirst names lanes) a b waits waits' (λ m h. handed_first names lanes (lanes_in mid) m h) t)

-- some is handed out on its way to a writer, some more into a text, and then a line is answered
pub line_answered : {C R : Type 0} {G : Ghosts C} (old mid last new : State C R G) (kept : Option (List ℕ)) (k : ℕ) {a b : Option (List ℕ)} {waits waits' : List ℕ} (text text' : List ℕ)
    → names_in mid.lanes ≡ names_in old.lanes → mid.plan ≡ old.plan → names_in last.lanes ≡ names_in mid.lanes → last.plan ≡ mid.plan
    → Tells (AreHanded (names_in old.lanes) (lanes_in old.lanes) (lanes_in mid.lanes)) a b waits waits' → Hands (names_in mid.lanes) (lanes_in mid.lanes) (lanes_in last.lanes) [] text
    → ((it : List ℕ) → kept ≡ kept_line it → HearsText last k it text text' new)
    → Answers (After old) (ServedInPart (length (lanes_in old.lanes))) (After new) kept k a b waits waits' text'
line_answered old mid last new kept k text text' names plan names' plan' t h f = λ lines said it after keeps num.
    let stands = after_more old mid lines said t.more after names plan t.are in
    let first = handed_first (names_in old.lanes) (lanes_in old.lanes) (lanes_in mid.lanes) t.more t.are in
    let x = after_line mid last new k it text text' lines _ stands num names' plan' h (f it keeps) in
    (texts_of t.more, x.0, in_part_more old lines said t.more after first, t.gathers, x.1, x.2)
