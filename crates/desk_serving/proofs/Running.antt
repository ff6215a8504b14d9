-- How a run of the front ends.
use Rattle.std.proofs.Common.{◌≡◌, ◌≢◌, ℕ, List, [], Option, Result, Ok, Err, OnOk, IfErr, ap, refl, subst, inl, take, ◌∷◌, suc, map, arith}
use Rattle.dmn_plan.specs.Request.{Request}
use Rattle.feel_value.specs.declared.feel.Outcome.{Outcome}
use Rattle.lanes.specs.Ends.{ClientEnd}
use Rattle.lanes.specs.Books.{work_of}
use Rattle.lanes.specs.Made.{AreNew}
use Rattle.desk_serving.specs.Owed.{AreBooked, queue_of, unhanded}
use Rattle.desk_serving.specs.Running.{GoesOn}
use Rattle.desk_lines.specs.Device.{Reader, Writer}
use Rattle.desk_lines.specs.Ran.{Ran}
use Rattle.desk_lines.specs.Lines.{lines_of, whole_lines_of, max_input}
use Rattle.desk_serving.specs.Script.{ServedInPart}
use Rattle.desk_lines.specs.Talk.{EndsAs, Ends, IsCut, Replays, Stops}
use Rattle.desk_lines.specs.declared.fault.FrontFault.{FrontFault}
use Rattle.desk_lines.specs.declared.fault.FrontFault.TheVariants.{Read, Write, Long, Memory}
use Rattle.desk_lines.proofs.Coming.{Consumes-none, Appends-none}
use Rattle.desk_requests.proofs.Callers.{quiet}

module _ (Whole Part : List (List ℕ) → List (List ℕ) → Type 0) (left left' wrote wrote' : Option (List ℕ)) where
  pub ends_of : {X : Type 0} (r : Result X FrontFault) → OnOk r (Replays Whole left left' wrote wrote') → IfErr r (λ e. EndsAs Whole Part left left' wrote wrote' e)
      → Ends Whole Part left left' wrote wrote' r
  ends_of (Ok x) ok fault = ok
  ends_of (Err e) ok fault = fault

  pub ok_of : {X : Type 0} (r : Result X FrontFault) → Ends Whole Part left left' wrote wrote' r → OnOk r (Replays Whole left left' wrote wrote')
  ok_of (Ok x) ends = ends
  ok_of (Err e) ends = tt

  pub fault_of : {X : Type 0} (r : Result X FrontFault) → Ends Whole Part left left' wrote wrote' r → IfErr r (λ e. EndsAs Whole Part left left' wrote wrote' e)
  fault_of (Ok x) ends = tt
  fault_of (Err e) ends = ends

  -- the writer failed, or memory was refused
  pub ends_in_part : (e : FrontFault) → (e ≢ Read) × (e ≢ Long) → (e ≡ Write → IsCut Part left left' wrote wrote') → (e ≡ Memory → Stops Part left left' wrote wrote')
      → EndsAs Whole Part left left' wrote wrote' e
  ends_in_part Read only cut stops = absurd (only.0 refl)
  ends_in_part Long only cut stops = absurd (only.1 refl)
  ends_in_part Write only cut stops = cut refl
  ends_in_part Memory only cut stops = stops refl

-- where all lines heard were answered, neither the writer failed nor memory was refused
pub goes_without : {X : Type 0} (r : Result X FrontFault) → GoesOn r → (r ≢ Err Write) × (r ≢ Err Memory)
goes_without (Ok x) g = (λ e. cc, λ e. cc)
goes_without (Err Read) g = (λ e. cc, λ e. cc)
goes_without (Err Long) g = (λ e. cc, λ e. cc)
goes_without (Err Write) g = absurd g
goes_without (Err Memory) g = absurd g

-- where the writer failed or memory was refused, not all lines heard were answered
pub goes_not : (X : Type 0) (e : FrontFault) → (e ≢ Read) × (e ≢ Long) → ¬ GoesOn {X = X} (Err e)
goes_not X Read only g = only.0 refl
goes_not X Long only g = only.1 refl
goes_not X Write only g = g
goes_not X Memory only g = g

-- nothing is read or written
pub stops_unread : (Part : List (List ℕ) → List (List ℕ) → Type 0) (left wrote : Option (List ℕ)) → Part [] [] → Stops Part left left wrote wrote
stops_unread Part left wrote h = record {
  input = [];
  lines = whole_lines_of (take max_input []);
  answered = [];
  unanswered = whole_lines_of (take max_input []);
  output = [];
  read = Consumes-none left;
  heard = inl refl;
  splits = refl;
  written = Appends-none wrote;
  said = h;
}

pub stops_same : (Part : List (List ℕ) → List (List ℕ) → Type 0) (left left' wrote wrote' : Option (List ℕ)) → left' ≡ left → wrote' ≡ wrote → Part [] [] → Stops Part left left' wrote wrote'
stops_same Part left left' wrote wrote' same quiet h = rw (same, quiet) (stops_unread Part left wrote h)

pub nothing_served : (lanes : ℕ) → ServedInPart lanes [] []
nothing_served lanes = record { readings = []; read = tt; said = []; output = refl; each = λ who. ([], refl) }

abbrev pub failed : (X : Type 0) → FrontFault → Result X FrontFault
failed X e = Err e

pub err_is : {X : Type 0} (x y : FrontFault) → failed X x ≡ failed X y → x ≡ y
err_is x y h = cc

-- memory was refused
pub ran_stopped : (Whole Part : List (List ℕ) → List (List ℕ) → Type 0) (reader reader' : Reader) (writer writer' : Writer) {X : Type 0}
    → Stops Part reader.remaining reader'.remaining writer.contents writer'.contents → writer'.faults ≡ writer.faults → Ran Whole Part reader reader' writer writer' (failed X Memory)
ran_stopped Whole Part reader reader' writer writer' stops quiet = record {
  ok = tt;
  fault = stops;
  read_only_at_fault = λ e. let wrong : ⊥ = cc in absurd wrong;
  write_only_at_fault = λ e. let wrong : ⊥ = cc in absurd wrong;
  ok_without_fault = tt;
  write_told = λ _. quiet;
  read_told = λ e. let wrong : ⊥ = cc in absurd wrong;
  long_only_past_limit = λ e. let wrong : ⊥ = cc in absurd wrong;
  ok_within_limit = tt;
  read_within_limit = λ e. let wrong : ⊥ = cc in absurd wrong;
}

-- the same of a reader that was seen as this one before
pub ran_from : (Whole Part : List (List ℕ) → List (List ℕ) → Type 0) (before reader reader' : Reader) (writer writer' : Writer) {X : Type 0} (end : Result X FrontFault)
    → reader ≡ before → Ran Whole Part reader reader' writer writer' end → Ran Whole Part before reader' writer writer' end
ran_from Whole Part before reader reader' writer writer' end same h = subst (λ seen. Ran Whole Part seen reader' writer writer' end) same h

-- new lanes are booked where nothing was read
pub new_booked : (capacity : ℕ) (clients : List (ClientEnd Request Outcome)) → AreNew capacity clients → AreBooked [] (unhanded (map (λ client. queue_of client) clients)) []
new_booked capacity [] h = tt
new_booked capacity (x ∷ clients) h =
    let first = h 0 x (omega arith) in
    (ap (map work_of) first.0, ap (λ m. m.closed) first.2, new_booked capacity clients (λ k d lt. h (suc k) d (omega (arith, lt))))

-- where all lines heard were answered, there are such lines
pub some_answered : {X : Type 0} (Whole Part : List (List ℕ) → List (List ℕ) → Type 0) (left left' wrote wrote' : Option (List ℕ)) (r : Result X FrontFault) → GoesOn r
    → Ends Whole Part left left' wrote wrote' r → (lines : List (List ℕ)) × (said : List (List ℕ)) × Whole lines said
some_answered Whole Part left left' wrote wrote' (Ok x) g e = (lines_of e.input, e.output, e.said)
some_answered Whole Part left left' wrote wrote' (Err Read) g e = (whole_lines_of e.input, e.output, e.said)
some_answered Whole Part left left' wrote wrote' (Err Long) g e = (whole_lines_of (take max_input e.input), e.output, e.said)
some_answered Whole Part left left' wrote wrote' (Err Write) g e = absurd g
some_answered Whole Part left left' wrote wrote' (Err Memory) g e = absurd g
