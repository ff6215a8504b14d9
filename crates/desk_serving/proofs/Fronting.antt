-- What the front of `serve` comes to.
use Rattle.std.proofs.Common.{◌≡◌, ℕ, ◌<◌, zero, suc, List, [], ◌∷◌, ◌++◌, length, map, slice_get, slice_index_or, refl, ap, sym, ◌∙◌, append_assoc, append-nil, arith, Option, Some, None, All, subst, Bool, true, false, if◌then◌else◌}
use Rattle.std.specs.Prelude.{bytes_eq}
use Rattle.std.proofs.lemmas.List.{length-map, map-append}
use Rattle.dmn_plan.specs.Request.{Request}
use Rattle.feel_value.specs.declared.feel.Outcome.{Outcome}
use Rattle.desk_requests.specs.Line.{Line}
use Rattle.desk_serving.specs.Ending.{IsWhole, ServedBy, ends_lanes}
use Rattle.desk_serving.specs.LanesView.{lanes_in, names_in}
use Rattle.desk_serving.specs.Owed.{AreBooked, AreFirst, AreHanded, Queue, Stands, due_to, due_to_name, lane_in, queue_in, unhanded}
use Rattle.desk_wire.specs.Reading.{Reading}
use Rattle.desk_wire.specs.Reports.{Report, report_text}
use Rattle.desk_serving.specs.Script.{of_client, texts_of, Served, ServedInPart}
use Rattle.desk_requests.specs.Due.{answers}
use Rattle.desk_requests.specs.State.{names_with_lanes}
use Rattle.desk_serving.specs.StateView.{After}
use Rattle.desk_serving.specs.declared.state.State.{State}
use Rattle.desk_serving.proofs.Owing.{of_client-append, due-whole, length-unhanded}
use Rattle.desk_serving.proofs.EndingLanes.{whole_owes}
use Rattle.desk_serving.proofs.Standing.{stands_handed}
use Rattle.lanes.specs.Ends.{SettledEnd}
use Rattle.model_marks.specs.declared.mark.Catalog.{Ghosts}

-- of each client a beginning is said, and some more of what is owed
in_part_of : (readings : List (Reading Line)) (names : List (List ℕ)) (model : Option (List ℕ)) (lanes : List Queue) (said more : List Report) → Stands readings readings names model lanes said
    → AreFirst names lanes more → (who : Option (List ℕ)) → (rest : List Report) × (of_client who (said ++ more) ++ rest ≡ of_client who (answers (length lanes) readings))
in_part_of readings names model lanes said more s f who =
    let r = f who in (
      r.0,
      ap (λ t. t ++ r.0) (of_client-append who said more) ∙ append_assoc (of_client who said) (of_client who more) r.0 ∙ ap (λ t. of_client who said ++ t) r.1 ∙ s.owed who,
    )

module _ {C R : Type 0} {G : Ghosts C} where
  pub in_part : (state : State C R G) (lines output : List (List ℕ)) → After state lines output → ServedInPart (length (lanes_in state.lanes)) lines output
  in_part state lines output a = record {
    readings = a.readings;
    read = a.read;
    said = a.said;
    output = a.output;
    each = λ who. (due_to who (names_in state.lanes) (lanes_in state.lanes), a.stands.owed who);
  }

  pub in_part_more : (state : State C R G) (lines output : List (List ℕ)) (more : List Report) → After state lines output → AreFirst (names_in state.lanes) (lanes_in state.lanes) more
      → ServedInPart (length (lanes_in state.lanes)) lines (output ++ texts_of more)
  in_part_more state lines output more a f = record {
    readings = a.readings;
    read = a.read;
    said = a.said ++ more;
    output = ap (λ t. t ++ texts_of more) a.output ∙ sym (map-append (λ e. report_text e) a.said more);
    each = in_part_of a.readings (names_in state.lanes) _ (lanes_in state.lanes) a.said more a.stands f;
  }

  -- the same with other lanes, once some of what was owed is handed out
  pub after_more : (old new : State C R G) (lines output : List (List ℕ)) (more : List Report) → After old lines output → names_in new.lanes ≡ names_in old.lanes → new.plan ≡ old.plan
      → AreHanded (names_in old.lanes) (lanes_in old.lanes) (lanes_in new.lanes) more → After new lines (output ++ texts_of more)
  after_more old new lines output more a names plan h =
      let s = stands_handed a.readings a.readings (names_in old.lanes) _ (lanes_in old.lanes) (lanes_in new.lanes) a.said more a.stands h in
      record {
        readings = a.readings;
        read = a.read;
        said = a.said ++ more;
        output = ap (λ t. t ++ texts_of more) a.output ∙ sym (map-append (λ e. report_text e) a.said more);
        stands = rw (names, plan) s;
      }

  -- nothing is read or said yet
  pub after_none : (state : State C R G) → names_in state.lanes ≡ [] → state.plan ≡ None → AreBooked [] (unhanded (lanes_in state.lanes)) [] → After state [] []
  after_none state names plan booked = record {
    readings = [];
    read = tt;
    said = [];
    output = refl;
    stands = rw (names, plan) (record { names = none (length (lanes_in state.lanes)); distinct = tt; model = refl; booked = booked; owed = λ who. nothing who });
  }
    where
      none : (k : ℕ) → [] ≡ names_with_lanes k []
      none zero = refl
      none (suc k) = refl

      nothing : (who : Option (List ℕ)) → due_to who [] (lanes_in state.lanes) ≡ []
      nothing None = refl
      nothing (Some m) = refl

-- where each end is whole, nothing is owed any more

at_place : {A : Type 0} (P : A → Type 0) (xs : List A) (k : ℕ) (x : A) → (k < length xs → P (slice_index_or xs k x)) → slice_get xs k ≡ Some x → P x
at_place P [] k x f h = cc
at_place P (y ∷ xs) zero x f h = let is : y ≡ x = cc in subst P is (f (omega arith))
at_place P (y ∷ xs) (suc k) x f h = at_place P xs k x (λ lt. f (omega (arith, lt))) h

none_either : (b : Bool) → ◌≡◌ {A = List Report} (if b then [] else []) []
none_either true = refl
none_either false = refl

whole_at : (ends : List (SettledEnd Request Outcome)) → All IsWhole ends → (k : ℕ) (end : SettledEnd Request Outcome) → slice_get ends k ≡ Some end → IsWhole end
whole_at ends w k end at = at_place IsWhole ends k end (w k end) at

due_to_whole_name : (m : List ℕ) (names : List (List ℕ)) (ends : List (SettledEnd Request Outcome)) → ((k : ℕ) (end : SettledEnd Request Outcome) → slice_get ends k ≡ Some end → IsWhole end)
    → due_to_name m names (ends_lanes ends) ≡ []
due_to_whole_name m [] ends w = refl
due_to_whole_name m (n ∷ names) [] w = refl
due_to_whole_name m (n ∷ names) (end ∷ ends) w =
    rw (due-whole n (queue_in end) (whole_owes end (w 0 end refl)), due_to_whole_name m names ends (λ k e h. w (suc k) e h)) (none_either (bytes_eq n m))

pub due_to_whole : (names : List (List ℕ)) (ends : List (SettledEnd Request Outcome)) → All IsWhole ends → (who : Option (List ℕ)) → due_to who names (ends_lanes ends) ≡ []
due_to_whole names ends w None = refl
due_to_whole names ends w (Some m) = due_to_whole_name m names ends (whole_at ends w)

-- everything that was owed is handed out
pub served_more : {C R : Type 0} {G : Ghosts C} (state : State C R G) (new : List Queue) → ((who : Option (List ℕ)) → due_to who (names_in state.lanes) new ≡ []) → (lines output : List (List ℕ)) (more : List Report)
    → After state lines output → AreHanded (names_in state.lanes) (lanes_in state.lanes) new more → Served (length (lanes_in state.lanes)) lines (output ++ texts_of more)
served_more state new none lines output more a h =
    let s = stands_handed a.readings a.readings (names_in state.lanes) _ (lanes_in state.lanes) new a.said more a.stands h in
    let len : length new ≡ length (lanes_in state.lanes) = length-unhanded new (lanes_in state.lanes) h.lanes in
    record {
      readings = a.readings;
      read = a.read;
      said = a.said ++ more;
      output = ap (λ t. t ++ texts_of more) a.output ∙ sym (map-append (λ e. report_text e) a.said more);
      each = λ who. sym (append-nil (of_client who (a.said ++ more))) ∙ ap (λ t. of_client who (a.said ++ more) ++ t) (sym (none who))
          ∙ s.owed who ∙ ap (λ k. of_client who (answers k a.readings)) len;
    }

-- what is booked of the ends is so whatever was handed out
ends_booked : (names : List (List ℕ)) (ends : List (SettledEnd Request Outcome)) (read : List (Reading Line)) → AreBooked names (unhanded (ends_lanes ends)) read → AreBooked names (map (λ end. lane_in end) ends) read
ends_booked [] [] read b = tt
ends_booked [] (end ∷ ends) read b = (b.0, b.1, ends_booked [] ends read b.2)
ends_booked (n ∷ names) [] read b = absurd b
ends_booked (n ∷ names) (end ∷ ends) read b = (b.0, b.1, ends_booked names ends read b.2)

-- and each end is whole
pub served_by : {C R : Type 0} {G : Ghosts C} (state : State C R G) (ends : List (SettledEnd Request Outcome)) (lines output : List (List ℕ)) (more : List Report) → After state lines output
    → AreHanded (names_in state.lanes) (lanes_in state.lanes) (ends_lanes ends) more → All IsWhole ends
    → ServedBy (length (lanes_in state.lanes)) ends lines (output ++ texts_of more)
unfolding served_more
served_by state ends lines output more a h w =
    let s = stands_handed a.readings a.readings (names_in state.lanes) _ (lanes_in state.lanes) (ends_lanes ends) a.said more a.stands h in
    record {
      served = served_more state (ends_lanes ends) (due_to_whole (names_in state.lanes) ends w) lines output more a h;
      each = sym (length-map ends (λ end. queue_in end)) ∙ length-unhanded (ends_lanes ends) (lanes_in state.lanes) h.lanes;
      booked = ends_booked (names_with_lanes (length (lanes_in state.lanes)) a.readings) ends a.readings (subst (λ names. AreBooked names (unhanded (ends_lanes ends)) a.readings) a.stands.names s.booked);
      whole = w;
    }
