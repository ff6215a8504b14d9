-- From what the calls promise to what a line that is heard comes to.
use Rattle.std.proofs.Common.{◌≡◌, ◌+◌, ◌<◌, ◌≤◌, ◌^◌, ℕ, zero, suc, List, [], ◌∷◌, ◌++◌, Some, None, Result, Ok, Err, OnOk, length, reverse, slice_get, refl, sym, ap, ◌∙◌, arith, append_assoc, append-nil, subst}
use Rattle.std.specs.List.{flat_map}
use Rattle.std.proofs.lemmas.List.{map-append, reverse-append, length-map, length-reverse}
use Rattle.desk_requests.specs.Line.{Line, Reads, line_view}
use Rattle.desk_serving.specs.LanesView.{lane_held, lanes_in, links_held, links_in, names_in}
use Rattle.desk_lines.specs.Lines.{ended}
use Rattle.desk_serving.specs.Owed.{Queue, AreBooked, Hands, unhanded}
use Rattle.desk_wire.specs.Reading.{Reading, Blank, Long, Syntax, Shape, Says}
use Rattle.desk_wire.specs.Reports.{Report, Refused, report_text}
use Rattle.desk_wire.specs.declared.word.Word.TheVariants as word
use Rattle.desk_serving.specs.Script.{texts_of, ServedInPart}
use Rattle.desk_requests.specs.LineHeard.{IsLineOf}
use Rattle.desk_wire.specs.Heard.{IsHeardAs}
use Rattle.desk_wire.specs.Listening.{refusal_text}
use Rattle.desk_requests.proofs.Fewness.{no_line}
use Rattle.desk_serving.specs.StateView.{After, HasRoom, Hears, HearsText, StandsAs, model_of}
use Rattle.desk_wire.specs.declared.heard.Heard.{Heard}
use Rattle.desk_wire.specs.declared.heard.Heard.TheVariants as heard
use Rattle.desk_requests.specs.declared.line.Line as held
use Rattle.desk_serving.specs.declared.state.State.{State}
use Rattle.desk_serving.proofs.Owing.{lines-append, unhanded_at}
use Rattle.desk_serving.proofs.Standing.{stands_handed}
use Rattle.desk_requests.proofs.Callers.{requests-few}
use Rattle.desk_serving.proofs.Replying.{heard_blank, heard_none}
use Rattle.desk_requests.proofs.Readings.{read-length}
use Rattle.model_marks.specs.declared.mark.Catalog.{Ghosts}

-- two facts of a call that went well
pub on_ok_both : {T E : Type 0} (r : Result T E) {A B C : Type 0} → (A → B → C) → OnOk r A → OnOk r B → OnOk r C
on_ok_both (Ok x) f a b = f a b
on_ok_both (Err e) f a b = tt

-- ## Lanes

-- each name has its lane
pub booked_lane : (names : List (List ℕ)) (lanes : List Queue) (earlier : List (Reading Line)) (c : ℕ) (n : List ℕ) → AreBooked names (unhanded lanes) earlier → slice_get names c ≡ Some n
    → (lane : Queue) × (slice_get lanes c ≡ Some lane)
booked_lane [] lanes earlier c n b at = cc
booked_lane (m ∷ names) [] earlier c n b at = absurd b
booked_lane (m ∷ names) (l ∷ lanes) earlier zero n b at = (l, refl)
booked_lane (m ∷ names) (l ∷ lanes) earlier (suc c) n b at = booked_lane names lanes earlier c n b.2 at

-- a lane has no more requests than there are lines
put-few : (names : List (List ℕ)) (lanes : List Queue) (earlier : List (Reading Line)) (c : ℕ) (lane : Queue) → AreBooked names (unhanded lanes) earlier → slice_get lanes c ≡ Some lane
    → length lane.put ≤ length earlier
put-few names [] earlier c lane b la = cc
put-few [] (l ∷ lanes) earlier zero lane b la =
    let is : l ≡ lane = cc in subst (λ (x : Queue). length x.put ≤ length earlier) is (rw b.0 (omega arith))
put-few [] (l ∷ lanes) earlier (suc c) lane b la = put-few [] lanes earlier c lane b.2 la
put-few (n ∷ names) (l ∷ lanes) earlier zero lane b la =
    let is : l ≡ lane = cc in subst (λ (x : Queue). length x.put ≤ length earlier) is (rw b.0 (requests-few n earlier))
put-few (n ∷ names) (l ∷ lanes) earlier (suc c) lane b la = put-few names lanes earlier c lane b.2 la

module _ {C R : Type 0} {G : Ghosts C} where
  counted : (state : State C R G) (lines output : List (List ℕ)) (a : After state lines output) → length a.readings ≡ length lines
  counted state lines output a = read-length (reverse lines) a.readings a.read ∙ length-reverse lines

  -- after so few lines each lane has tickets left
  pub has_room : (old new : State C R G) (lines output : List (List ℕ)) → After old lines output → unhanded (lanes_in new.lanes) ≡ unhanded (lanes_in old.lanes) → length lines < 2 ^ 60 → HasRoom new
  has_room old new lines output a same few = λ c lane la.
      let was = unhanded_at (lanes_in old.lanes) (lanes_in new.lanes) c lane (sym same) la in
      let size : length was.0.put ≡ length lane.put = ap length was.2 in
      let most : length was.0.put ≤ length a.readings = put-few (names_in old.lanes) (lanes_in old.lanes) a.readings c was.0 a.stands.booked was.1 in
      let all : length a.readings ≡ length lines = counted old lines output a in
      omega (arith, size, most, all, few)

  -- ## Lines by their bytes

  pub heard_long : (old : State C R G) (k : ℕ) (it text text' : List ℕ) → Reads it Long → text' ≡ text ++ ended (report_text (Refused k word.Long)) → HearsText old k it text text' old
  heard_long old k it text text' reads is = (Long, reads, λ earlier said st num. heard_none Long word.Long k earlier _ _ _ said text text' refl st num is)

  pub heard_skip : (old : State C R G) (k : ℕ) (it text : List ℕ) → Reads it Blank → HearsText old k it text text old
  heard_skip old k it text reads = (Blank, reads, λ earlier said st num. heard_blank earlier _ _ _ said text st)

  pub heard_syntax : (old : State C R G) (k : ℕ) (it text text' : List ℕ) → Reads it Syntax → text' ≡ text ++ ended (report_text (Refused k word.Syntax)) → HearsText old k it text text' old
  heard_syntax old k it text text' reads is = (Syntax, reads, λ earlier said st num. heard_none Syntax word.Syntax k earlier _ _ _ said text text' refl st num is)

  pub heard_shape : (old : State C R G) (k : ℕ) (it text text' : List ℕ) → Reads it Shape → text' ≡ text ++ ended (report_text (Refused k word.Shape)) → HearsText old k it text text' old
  heard_shape old k it text text' reads is = (Shape, reads, λ earlier said st num. heard_none Shape word.Shape k earlier _ _ _ said text text' refl st num is)

  -- a lawful line
  pub heard_said : (old new : State C R G) (k : ℕ) (heard : Heard) (line : held.Line) (it text text' : List ℕ) → IsHeardAs it heard → IsLineOf heard (Some line)
      → Hears old k (Says (line_view line)) text text' new → HearsText old k it text text' new
  heard_said old new k (heard.Object members) line it text text' h is f =
      (Says (line_view line), (h.0, h.1, h.2, h.3 ∙ ap Some (sym is.0), is.1), f)
  heard_said old new k heard.Long line it text text' h is f = absurd is
  heard_said old new k heard.Blank line it text text' h is f = absurd is
  heard_said old new k heard.Syntax line it text text' h is f = absurd is
  heard_said old new k heard.Other line it text text' h is f = absurd is

  -- what is none of the lines
  pub heard_other : (old : State C R G) (k : ℕ) (heard : Heard) (it text text' : List ℕ) → IsHeardAs it heard → IsLineOf heard None → text' ≡ text ++ refusal_text k heard
      → HearsText old k it text text' old
  heard_other old k heard.Long it text text' h none is = heard_long old k it text text' h is
  heard_other old k heard.Blank it text text' h none is = subst (λ t. HearsText old k it text t old) (sym (is ∙ append-nil text)) (heard_skip old k it text h)
  heard_other old k heard.Syntax it text text' h none is = heard_syntax old k it text text' h is
  heard_other old k heard.Other it text text' h none is = heard_shape old k it text text' (h.0, h.1, h.2, (h.3.0, h.3.1, no_line h.3.0 h.3.2)) is
  heard_other old k (heard.Object members) it text text' h none is = heard_shape old k it text text' (h.0, h.1, h.2, (_, h.3, λ line lawful same. none line (same, lawful))) is

  -- ## After the lines

  -- as many lanes are so many lanes still
  pub kept_script : (old new : State C R G) (lines said : List (List ℕ)) → links_in new.lanes ≡ links_in old.lanes → ServedInPart (length (lanes_in new.lanes)) lines said → ServedInPart (length (lanes_in old.lanes)) lines said
  kept_script old new lines said same h =
      let count : length (lanes_in new.lanes) ≡ length (lanes_in old.lanes) =
      length-map new.lanes.clients.items lane_held ∙ sym (length-map new.lanes.clients.items links_held) ∙ ap length same
      ∙ length-map old.lanes.clients.items links_held ∙ sym (length-map old.lanes.clients.items lane_held) in
      subst (λ k. ServedInPart k lines said) count h

  -- some of what was owed is handed out, and then a line is answered
  pub after_line : (old mid new : State C R G) (k : ℕ) (it text text' : List ℕ) (lines said : List (List ℕ)) → After old lines said → k ≡ length lines + 1
      → names_in mid.lanes ≡ names_in old.lanes → model_of mid ≡ model_of old → Hands (names_in old.lanes) (lanes_in old.lanes) (lanes_in mid.lanes) [] text
      → HearsText mid k it text text' new → (more : List (List ℕ)) × After new (lines ++ it ∷ []) (said ++ more) × (text' ≡ flat_map ended more)
  after_line old mid new k it text text' lines said a num names model h heard =
      let all : length a.readings ≡ length lines = counted old lines said a in
      let s = stands_handed a.readings a.readings (names_in old.lanes) (model_of old) (lanes_in old.lanes) (lanes_in mid.lanes) a.said h.more a.stands h.handed in
      let st : StandsAs mid a.readings (a.said ++ h.more) = rw (names, model) s in
      let then = heard.2 a.readings (a.said ++ h.more) st (omega (arith, num, all)) in (
        texts_of (h.more ++ then.0),
        record {
          readings = heard.0 ∷ a.readings;
          read = rw (reverse-append lines (it ∷ [])) (heard.1, a.read);
          said = (a.said ++ h.more) ++ then.0;
          output = ap (λ t. t ++ texts_of (h.more ++ then.0)) a.output ∙ sym (map-append (λ (e : Report). report_text e) a.said (h.more ++ then.0))
              ∙ ap texts_of (sym (append_assoc a.said h.more then.0));
          stands = then.2;
        },
        then.1 ∙ ap (λ t. t ++ flat_map ended (texts_of then.0)) h.is ∙ sym (lines-append h.more then.0),
      )
