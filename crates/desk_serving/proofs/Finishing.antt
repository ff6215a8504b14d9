-- How `serve` ends, by how the lines and the rest were answered.
use Rattle.std.proofs.Common.{◌≡◌, ◌≢◌, ◌+◌, ◌<◌, ◌≤◌, ℕ, List, ◌++◌, length, map, Option, Result, Ok, Err, OnOk, IfOk, IfErr, ap, refl, sym, ◌∙◌, subst, inl, inr}
use Rattle.std.proofs.lemmas.List.{length-map}
use Rattle.lanes.specs.Ends.{ClientEnd, SettledEnd}
use Rattle.dmn_plan.specs.Request.{Request}
use Rattle.feel_value.specs.declared.feel.Outcome.{Outcome}
use Rattle.desk_serving.specs.Ending.{ServedBy, ends_lanes}
use Rattle.desk_serving.specs.Running.{FinishesBy, GoesOn, IsHandedOut}
use Rattle.desk_serving.specs.LanesView.{lane_held, lanes_in, links_held, links_in, names_in}
use Rattle.desk_serving.specs.Owed.{AreFirst, AreHanded, Queue, queue_of}
use Rattle.desk_serving.specs.Script.{Served, ServedInPart, texts_of}
use Rattle.desk_serving.specs.StateView.{After}
use Rattle.desk_serving.specs.Telling.{TellsAll, TellsInPart}
use Rattle.desk_lines.specs.Device.{Reader, Writer}
use Rattle.desk_lines.specs.Lines.{max_input}
use Rattle.desk_lines.specs.Ran.{Ran}
use Rattle.desk_lines.specs.Talk.{EndsAs, Ends, Replays}
use Rattle.desk_lines.specs.declared.fault.FrontFault.{FrontFault}
use Rattle.desk_lines.specs.declared.fault.FrontFault.TheVariants.{Read, Write, Long, Memory}
use Rattle.desk_serving.specs.declared.named_lanes.Lanes.{Lanes}
use Rattle.desk_serving.specs.declared.state.State.{State}
use Rattle.desk_serving.proofs.Fronting.{in_part_more, served_by, served_more}
use Rattle.desk_lines.proofs.Talking.{replays_weaker}
use Rattle.desk_serving.proofs.Running.{ends_of, err_is, failed, goes_without}
use Rattle.desk_serving.proofs.Saying.{ends_cut_off, ends_more, ends_stop, replays_more}
use Rattle.desk_requests.proofs.Callers.{quiet}
use Rattle.model_marks.specs.declared.mark.Catalog.{Ghosts}

-- where not all lines heard were answered, nothing is said of those that were
stopped : (Whole Whole' Part : List (List ℕ) → List (List ℕ) → Type 0) (left left' wrote wrote' : Option (List ℕ)) (fault : FrontFault) → ¬ GoesOn {X = Unit {0}} (Err fault)
    → EndsAs Whole Part left left' wrote wrote' fault → EndsAs Whole' Part left left' wrote wrote' fault
stopped Whole Whole' Part left left' wrote wrote' Read n e = absurd (n tt)
stopped Whole Whole' Part left left' wrote wrote' Long n e = absurd (n tt)
stopped Whole Whole' Part left left' wrote wrote' Write n e = e
stopped Whole Whole' Part left left' wrote wrote' Memory n e = e

-- the same ends are so many lanes
lanes_kept : {C : Type 0} {G : Ghosts C} → (old new : Lanes C G) → links_in new ≡ links_in old → length (lanes_in new) ≡ length (lanes_in old)
lanes_kept old new same =
    length-map new.clients.items lane_held ∙ sym (length-map new.clients.items links_held) ∙ ap length same
    ∙ length-map old.clients.items links_held ∙ sym (length-map old.clients.items lane_held)

pub lanes_begun : {C : Type 0} {G : Ghosts C} → (lanes : Lanes C G) (ends : List (ClientEnd Request Outcome)) (clients : ℕ) → lanes_in lanes ≡ map queue_of ends → length ends ≡ clients → length (lanes_in lanes) ≡ clients
lanes_begun lanes ends clients is count = ap length is ∙ length-map ends queue_of ∙ count

-- the writer failed at the rest, or memory was refused for it
pub finishes_by : (names : List (List ℕ)) (lanes : List Queue) (wrote wrote' : Option (List ℕ)) (ended : Result (Unit {0}) FrontFault) (fault : FrontFault) → GoesOn ended → (fault ≢ Read) × (fault ≢ Long)
    → (fault ≡ Write → TellsInPart (AreFirst names lanes) wrote wrote') → (fault ≡ Memory → TellsAll (AreFirst names lanes) wrote wrote') → FinishesBy names lanes wrote wrote' ended fault
finishes_by names lanes wrote wrote' ended Read goes only part all = absurd (only.0 refl)
finishes_by names lanes wrote wrote' ended Long goes only part all = absurd (only.1 refl)
finishes_by names lanes wrote wrote' ended Write goes only part all = inl (goes, refl, part refl)
finishes_by names lanes wrote wrote' ended Memory goes only part all = inr (inl (goes, refl, all refl))

-- where neither the writer failed nor memory was refused at the end, it was so before
ended_before : (names : List (List ℕ)) (lanes : List Queue) (wrote wrote' : Option (List ℕ)) (ended : Result (Unit {0}) FrontFault) (fault : FrontFault) → FinishesBy names lanes wrote wrote' ended fault
    → fault ≢ Write → fault ≢ Memory → ended ≡ Err fault
ended_before names lanes wrote wrote' ended fault (inl h) write memory = absurd (write h.1)
ended_before names lanes wrote wrote' ended fault (inr (inl h)) write memory = absurd (memory h.1)
ended_before names lanes wrote wrote' ended fault (inr (inr h)) write memory = h.0

module _ {C R : Type 0} {G : Ghosts C} (old : Lanes C G) (state : State C R G) (clients : ℕ) (begun : length (lanes_in old) ≡ clients) (kept : links_in state.lanes ≡ links_in old)
    (reader reader' : Reader) (writer mid writer' : Writer) (ended : Result (Unit {0}) FrontFault)
    (ran : Ran (After state) (ServedInPart (length (lanes_in old))) reader reader' writer mid ended) where
  few : length (lanes_in state.lanes) ≡ clients
  few = lanes_kept old state.lanes kept ∙ begun

  answers : Ends (After state) (ServedInPart clients) reader.remaining reader'.remaining writer.contents mid.contents ended
  answers =
      subst (λ k. Ends (After state) (ServedInPart k) reader.remaining reader'.remaining writer.contents mid.contents ended) begun
      (ends_of (After state) (ServedInPart (length (lanes_in old))) reader.remaining reader'.remaining writer.contents mid.contents ended ran.ok ran.fault)

  pub ends_whole : (ends : List (SettledEnd Request Outcome)) → ended ≡ Ok tt → IsHandedOut (names_in state.lanes) (lanes_in state.lanes) mid.contents writer'.contents ends
      → Replays (ServedBy clients ends) reader.remaining reader'.remaining writer.contents writer'.contents
  ends_whole ends is out =
      let all : Replays (After state) reader.remaining reader'.remaining writer.contents mid.contents =
      subst (λ r. Ends (After state) (ServedInPart clients) reader.remaining reader'.remaining writer.contents mid.contents r) is answers in
      subst (λ k. Replays (ServedBy k ends) reader.remaining reader'.remaining writer.contents writer'.contents) few
      (replays_more (After state) (ServedInPart clients) reader.remaining reader'.remaining writer.contents mid.contents writer'.contents (AreHanded (names_in state.lanes) (lanes_in state.lanes) (ends_lanes ends))
      (ServedBy (length (lanes_in state.lanes)) ends) (λ lines said more s h. served_by state ends lines said more s h out.whole) all out.told)

  ends_by : (fault : FrontFault) → FinishesBy (names_in state.lanes) (lanes_in state.lanes) mid.contents writer'.contents ended fault
      → EndsAs (Served clients) (ServedInPart clients) reader.remaining reader'.remaining writer.contents writer'.contents fault
  ends_by fault (inl h) =
      subst (λ f. EndsAs (Served clients) (ServedInPart clients) reader.remaining reader'.remaining writer.contents writer'.contents f) (sym h.1)
      (ends_cut_off (After state) (ServedInPart clients) reader.remaining reader'.remaining writer.contents mid.contents writer'.contents (AreFirst (names_in state.lanes) (lanes_in state.lanes))
      (λ lines said more s f. subst (λ k. ServedInPart k lines (said ++ texts_of more)) few (in_part_more state lines said more s f)) ended h.0 answers h.2)
  ends_by fault (inr (inl h)) =
      subst (λ f. EndsAs (Served clients) (ServedInPart clients) reader.remaining reader'.remaining writer.contents writer'.contents f) (sym h.1)
      (ends_stop (After state) (ServedInPart clients) reader.remaining reader'.remaining writer.contents mid.contents writer'.contents (AreFirst (names_in state.lanes) (lanes_in state.lanes))
      (λ lines said more s f. subst (λ k. ServedInPart k lines (said ++ texts_of more)) few (in_part_more state lines said more s f)) ended h.0 answers h.2)
  ends_by fault (inr (inr (is, inl h))) =
      subst (λ r. Ends (Served clients) (ServedInPart clients) reader.remaining reader'.remaining writer.contents writer'.contents r) is
      (ends_more (After state) (ServedInPart clients) reader.remaining reader'.remaining writer.contents mid.contents writer'.contents (AreHanded (names_in state.lanes) (lanes_in state.lanes) h.1.0) (Served clients)
      (λ lines said more s t. subst (λ k. Served k lines (said ++ texts_of more)) few (served_more state h.1.0 h.1.2 lines said more s t)) ended h.0 answers h.1.1)
  ends_by fault (inr (inr (is, inr h))) =
      subst (λ w. EndsAs (Served clients) (ServedInPart clients) reader.remaining reader'.remaining writer.contents w fault) (sym h.1)
      (stopped (After state) (Served clients) (ServedInPart clients) reader.remaining reader'.remaining writer.contents mid.contents fault (subst (λ r. ¬ GoesOn r) is h.0)
      (subst (λ r. Ends (After state) (ServedInPart clients) reader.remaining reader'.remaining writer.contents mid.contents r) is answers))

  -- no fault of the writer is made up
  fails_by : (fault : FrontFault) → FinishesBy (names_in state.lanes) (lanes_in state.lanes) mid.contents writer'.contents ended fault → fault ≡ Write
      → ((ended ≢ Err Write) → mid.faults ≡ writer.faults) → (GoesOn ended → mid.faults < writer'.faults) → (¬ GoesOn ended → writer' ≡ mid) → writer.faults < writer'.faults
  fails_by fault (inl h) is quiet fails same = subst (λ k. k < writer'.faults) (quiet (goes_without ended h.0).0) (fails h.0)
  fails_by fault (inr (inl h)) is quiet fails same = let both = sym h.1 ∙ is in let wrong : ⊥ = cc in absurd wrong
  fails_by fault (inr (inr (was, inl h))) is quiet fails same = absurd ((goes_without ended h.0).0 (was ∙ ap (failed (Unit {0})) is))
  fails_by fault (inr (inr (was, inr h))) is quiet fails same =
      subst (λ (w : Writer). writer.faults < w.faults) (sym (same h.0)) (ran.write_only_at_fault (was ∙ ap (failed (Unit {0})) is))

  -- where the writer doesn't fail at the end, it didn't before
  not_before : (fault : FrontFault) → FinishesBy (names_in state.lanes) (lanes_in state.lanes) mid.contents writer'.contents ended fault → fault ≢ Write → ended ≢ Err Write
  not_before fault (inl h) n = absurd (n h.1)
  not_before fault (inr (inl h)) n = (goes_without ended h.0).0
  not_before fault (inr (inr h)) n = λ w. n (err_is fault Write (sym h.0 ∙ w))

  -- what a whole run comes to
  pub served_ran : {X : Type 0} (ends_in : X → List (SettledEnd Request Outcome)) (result : Result X FrontFault) → ((ended ≢ Err Write) → mid.faults ≡ writer.faults)
      → IfOk result (λ ends. (ended ≡ Ok tt) × IsHandedOut (names_in state.lanes) (lanes_in state.lanes) mid.contents writer'.contents (ends_in ends))
      → IfErr result (FinishesBy (names_in state.lanes) (lanes_in state.lanes) mid.contents writer'.contents ended)
      → (result ≢ Err Write → writer'.faults ≡ mid.faults) → (GoesOn ended → result ≡ Err Write → mid.faults < writer'.faults) → (¬ GoesOn ended → writer' ≡ mid)
      → Ran (Served clients) (ServedInPart clients) reader reader' writer writer' result
  served_ran ends_in (Ok ends) quiet ok err counts fails same =
      let was : ended ≡ Ok tt = ok.0 in
      let faults : (reader'.faults ≡ reader.faults) × (mid.faults ≡ writer.faults) = subst (λ r. OnOk r ((reader'.faults ≡ reader.faults) × (mid.faults ≡ writer.faults))) was ran.ok_without_fault in
      record {
        ok = replays_weaker reader.remaining reader'.remaining writer.contents writer'.contents (λ lines said s. s.served) (ends_whole (ends_in ends) was ok.1);
        fault = tt;
        read_only_at_fault = λ e. let wrong : ⊥ = cc in absurd wrong;
        write_only_at_fault = λ e. let wrong : ⊥ = cc in absurd wrong;
        ok_without_fault = (faults.0, counts (λ e. cc) ∙ faults.1);
        write_told = λ n. counts n ∙ faults.1;
        read_told = λ e. let wrong : ⊥ = cc in absurd wrong;
        long_only_past_limit = λ e. let wrong : ⊥ = cc in absurd wrong;
        ok_within_limit = subst (λ r. OnOk r (reader'.came ≤ reader.came + max_input)) was ran.ok_within_limit;
        read_within_limit = λ e. let wrong : ⊥ = cc in absurd wrong;
      }
  served_ran {X = X} ends_in (Err fault) quiet ok err counts fails same =
      let before = ended_before (names_in state.lanes) (lanes_in state.lanes) mid.contents writer'.contents ended fault err in
      let of_reader : (f : FrontFault) → f ≢ Write → f ≢ Memory → failed X fault ≡ failed X f → ended ≡ Err f =
      λ f write memory e. let is = err_is fault f e in before (λ w. write (sym is ∙ w)) (λ m. memory (sym is ∙ m)) ∙ ap (failed (Unit {0})) is in
      record {
        ok = tt;
        fault = ends_by fault err;
        read_only_at_fault = λ e. ran.read_only_at_fault (of_reader Read (λ w. cc) (λ m. cc) e);
        write_only_at_fault = λ e. fails_by fault err (err_is fault Write e) quiet (λ goes. fails goes e) same;
        ok_without_fault = tt;
        write_told = λ n. counts n ∙ quiet (not_before fault err (λ w. n (ap (failed X) w)));
        read_told = λ e. ran.read_told (of_reader Long (λ w. cc) (λ m. cc) e);
        long_only_past_limit = λ e. ran.long_only_past_limit (of_reader Long (λ w. cc) (λ m. cc) e);
        ok_within_limit = tt;
        read_within_limit = λ e. ran.read_within_limit (of_reader Read (λ w. cc) (λ m. cc) e);
      }
