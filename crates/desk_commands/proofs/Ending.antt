-- How a command ended, whatever it comes to at its end.
use Rattle.std.proofs.Common.{◌≡◌, ℕ, List, Result, Ok, Err, ap}
use Rattle.desk_lines.specs.Device.{Reader, Writer}
use Rattle.desk_lines.specs.Ran.{Ran}
use Rattle.desk_lines.specs.Told.{IsTold}
use Rattle.desk_lines.specs.declared.fault.FrontFault.{FrontFault}
use Rattle.desk_lines.specs.declared.fault.FrontFault.TheVariants.{Long, Read, Write}
use Rattle.desk_commands.specs.Status.{EndsBy, end_text, status_of}

module _ (Whole Part : List (List ℕ) → List (List ℕ) → Type 0) (reader reader' : Reader) (writer writer' : Writer) {X : Type 0} where
  ran_whole : (x : X) → Ran Whole Part reader reader' writer writer' {X = X} (Ok x) → Ran Whole Part reader reader' writer writer' {X = Unit {0}} (Ok tt)
  ran_whole x ran = record {
    ok = ran.ok;
    fault = tt;
    read_only_at_fault = λ e. let wrong : ⊥ = cc in absurd wrong;
    write_only_at_fault = λ e. let wrong : ⊥ = cc in absurd wrong;
    ok_without_fault = ran.ok_without_fault;
    write_told = λ n. ran.write_told (λ e. let wrong : ⊥ = cc in wrong);
    read_told = λ e. let wrong : ⊥ = cc in absurd wrong;
    long_only_past_limit = λ e. let wrong : ⊥ = cc in absurd wrong;
    ok_within_limit = ran.ok_within_limit;
    read_within_limit = λ e. let wrong : ⊥ = cc in absurd wrong;
  }

  ran_in_part : (why : FrontFault) → Ran Whole Part reader reader' writer writer' {X = X} (Err why) → Ran Whole Part reader reader' writer writer' {X = Unit {0}} (Err why)
  ran_in_part why ran = record {
    ok = tt;
    fault = ran.fault;
    read_only_at_fault = λ e. let is : why ≡ Read = cc in ran.read_only_at_fault (ap Err is);
    write_only_at_fault = λ e. let is : why ≡ Write = cc in ran.write_only_at_fault (ap Err is);
    ok_without_fault = tt;
    write_told = λ n. ran.write_told (λ e. let is : why ≡ Write = cc in n (ap Err is));
    read_told = λ e. let is : why ≡ Long = cc in ran.read_told (ap Err is);
    long_only_past_limit = λ e. let is : why ≡ Long = cc in ran.long_only_past_limit (ap Err is);
    ok_within_limit = tt;
    read_within_limit = λ e. let is : why ≡ Read = cc in ran.read_within_limit (ap Err is);
  }

  pub ends_ran : (faults faults' : Writer) (status : ℕ) (end : Result X FrontFault) → Ran Whole Part reader reader' writer writer' end → status ≡ status_of end
      → IsTold faults faults' (end_text end) → EndsBy {X = Unit {0}} (λ e. Ran Whole Part reader reader' writer writer' e) status_of faults faults' status
  ends_ran faults faults' status (Ok x) ran is told = record { end = Ok tt; did = ran_whole x ran; is = is; told = told }
  ends_ran faults faults' status (Err why) ran is told = record { end = Err why; did = ran_in_part why ran; is = is; told = told }
