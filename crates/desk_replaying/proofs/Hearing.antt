-- What is said to a line, and the turn that it has.
use Rattle.std.proofs.Common.{◌≡◌, ◌≢◌, ℕ, ◌+◌, List, [], ◌∷◌, ◌++◌, length, refl, ap, sym, ◌∙◌, append-nil, Some, Result, Ok, Err, IfOk, Bor, Vec, Global}
use Rattle.std.specs.List.{flat_map}
use Rattle.serde_json.specs.Data.{object}
use Rattle.serde_json.specs.declared.value.Value.{Value}
use Rattle.json_reader.specs.Members.{members_of}
use Rattle.box_core.specs.History as broker
use Rattle.dmn_plan.specs.Request.{Request}
use Rattle.desk_lines.specs.Lines.{ended}
use Rattle.desk_wire.specs.Reading.{Reading, Blank, Long, Syntax, Shape, Says}
use Rattle.desk_wire.specs.Reports as wire
use Rattle.desk_wire.specs.Reports.{Report, report_text, texts_of}
use Rattle.desk_wire.specs.Heard.{IsHeardAs}
use Rattle.desk_wire.specs.Listening.{refusal_text}
use Rattle.desk_wire.specs.declared.heard.Heard.{Heard}
use Rattle.desk_wire.specs.declared.heard.Heard.TheVariants as heard
use Rattle.desk_wire.specs.declared.word.Word.TheVariants as word
use Rattle.desk_replaying.specs.Line.{Line, IsLine, Reads}
use Rattle.desk_replaying.specs.Reports.{reports_on}
use Rattle.desk_replaying.specs.State.{Skipped, Refused}
use Rattle.desk_replaying.specs.StateView.{After, HasEffect, HearsText, told_of, deed_of}
use Rattle.desk_replaying.specs.declared.state.State.{State}
use Rattle.desk_replaying.specs.declared.state.Effect.{Effect}
use Rattle.desk_replaying.specs.declared.state.Effect.TheVariants as effect
use Rattle.desk_replaying.proofs.Fewness.{no_line}
use Rattle.desk_replaying.proofs.Turning.{quiet, taken_in}
use Rattle.model_marks.specs.declared.mark.Catalog.{Ghosts}

-- a report at the end of a text
one_said : (text : List ℕ) (report : Report) → text ++ ended (report_text report) ≡ text ++ flat_map ended (texts_of (report ∷ []))
one_said text report = ap (λ l. text ++ l) (sym (append-nil (ended (report_text report))))

told_same : {C : Type 0} (k : ℕ) (says : Line) (event : broker.Event Request) (text : List ℕ) (eff : Effect C) → told_of k says eff ∷ [] ≡ reports_on k (Says says) (deed_of event text eff)
told_same k says event text effect.Loaded = refl
told_same k says event text (effect.Faulty fault) = refl
told_same k says event text (effect.Reported told) = refl
told_same k says event text (effect.Refused why) = refl

-- ---- a line as it is read

module _ {C : Type 0} {G : Ghosts C} (state : State C G) (k : ℕ) (bytes text text' : List ℕ) where
  pub heard_blank : Reads bytes Blank → text' ≡ text → HearsText state k bytes text text' state
  heard_blank reads e = (
    [],
    λ turns stands. (Blank, Skipped, reads, refl, refl, quiet state state turns (record { number = k; line = bytes; reading = Blank; deed = Skipped }) stands refl refl refl refl refl),
    e ∙ sym (append-nil text),
  )

  pub heard_long : Reads bytes Long → text' ≡ text ++ ended (report_text (wire.Refused k word.Long)) → HearsText state k bytes text text' state
  heard_long reads e = (
    wire.Refused k word.Long ∷ [],
    λ turns stands. (Long, Refused word.Long, reads, refl, refl, quiet state state turns (record { number = k; line = bytes; reading = Long; deed = Refused word.Long }) stands refl refl refl refl refl),
    e ∙ one_said text (wire.Refused k word.Long),
  )

  pub heard_syntax : Reads bytes Syntax → text' ≡ text ++ ended (report_text (wire.Refused k word.Syntax)) → HearsText state k bytes text text' state
  heard_syntax reads e = (
    wire.Refused k word.Syntax ∷ [],
    λ turns stands. (Syntax, Refused word.Syntax, reads, refl, refl, quiet state state turns (record { number = k; line = bytes; reading = Syntax; deed = Refused word.Syntax }) stands refl refl refl refl refl),
    e ∙ one_said text (wire.Refused k word.Syntax),
  )

  pub heard_shape : Reads bytes Shape → text' ≡ text ++ ended (report_text (wire.Refused k word.Shape)) → HearsText state k bytes text text' state
  heard_shape reads e = (
    wire.Refused k word.Shape ∷ [],
    λ turns stands. (Shape, Refused word.Shape, reads, refl, refl, quiet state state turns (record { number = k; line = bytes; reading = Shape; deed = Refused word.Shape }) stands refl refl refl refl refl),
    e ∙ one_said text (wire.Refused k word.Shape),
  )

-- what is no object
pub heard_no_object : {C : Type 0} {G : Ghosts C} (state : State C G) (k : ℕ) (how : Heard) (it text text' : List ℕ) → ((members : Vec (Bor (List ℕ) × Value) Global) → how ≢ heard.Object members) → IsHeardAs it how
    → text' ≡ text ++ refusal_text k how → HearsText state k it text text' state
heard_no_object state k heard.Long it text text' none h is = heard_long state k it text text' h is
heard_no_object state k heard.Blank it text text' none h is = heard_blank state k it text text' h (is ∙ append-nil text)
heard_no_object state k heard.Syntax it text text' none h is = heard_syntax state k it text text' h is
heard_no_object state k heard.Other it text text' none h is = heard_shape state k it text text' (h.0, h.1, h.2, (h.3.0, h.3.1, no_line h.3.0 h.3.2)) is
heard_no_object state k (heard.Object members) it text text' none h is = absurd (none members refl)

-- the object of these members is none of the lines
pub heard_strange : {C : Type 0} {G : Ghosts C} (state : State C G) (k : ℕ) (how : Heard) (members : Vec (Bor (List ℕ) × Value) Global) (it text text' : List ℕ) → how ≡ heard.Object members
    → ((line : Line) → ¬ IsLine line (object (members_of members.items))) → IsHeardAs it how → text' ≡ text ++ refusal_text k how → HearsText state k it text text' state
heard_strange state k how members it text text' same none h is =
    let hears = rw same at h in
    heard_shape state k it text text' (hears.0, hears.1, hears.2, (_, hears.3, λ line lawful e. none line (e, lawful))) (rw same at is)

-- a line that says something
pub heard_line : {C : Type 0} {G : Ghosts C} (old new : State C G) (k : ℕ) (bytes text text' : List ℕ) (says : Line) (eff : Effect C) → HasEffect old says eff new → Reads bytes (Says says)
    → text' ≡ text ++ ended (report_text (told_of k says eff)) → HearsText old k bytes text text' new
heard_line old new k bytes text text' says eff heard reads e = (
  told_of k says eff ∷ [],
  λ turns stands. let h = heard turns stands in (Says says, deed_of h.0 h.1 eff, reads, h.2, told_same k says h.0 h.1 eff, h.3 k bytes),
  e ∙ one_said text (told_of k says eff),
)

-- ---- a line after those before it

pub after_line : {C : Type 0} {G : Ghosts C} (old new : State C G) (k : ℕ) (it text text' : List ℕ) (lines said : List (List ℕ)) → After old lines said → k ≡ length lines + 1 → HearsText old k it text text' new
    → (more : List (List ℕ)) × After new (lines ++ it ∷ []) (said ++ more) × (text' ≡ text ++ flat_map ended more)
after_line old new k it text text' lines said after number heard = (texts_of heard.0, taken_in old new k it heard.0 lines said heard.1 after number, heard.2)

pub ok_map : {T E : Type 0} (r : Result T E) (P Q : T → Type 0) → IfOk r P → ((x : T) → P x → Q x) → IfOk r Q
ok_map (Ok x) P Q h f = f x h
ok_map (Err e) P Q h f = tt
