-- How a run ended.
use Rattle.std.proofs.Common.{◌≡◌, ℕ, ◌<◌, List, Result, Ok, Err, OnOk, IfErr, refl}
use Rattle.desk_lines.specs.Device.{Reader, Writer}
use Rattle.desk_lines.specs.Ran.{Ran}
use Rattle.desk_lines.specs.Talk.{EndsAs, IsCut, IsWithin, Replays}
use Rattle.desk_lines.specs.declared.fault.FrontFault.{FrontFault}
use Rattle.desk_lines.specs.declared.fault.FrontFault.TheVariants.{Write}
use Rattle.desk_lines.proofs.Talking.{replays_weaker, ends_weaker}

module _ (Whole Part : List (List ℕ) → List (List ℕ) → Type 0) (reader reader' : Reader) (writer writer' : Writer) {X : Type 0} where
  -- the writer failed
  pub ran_cut : (end : Result X FrontFault) → end ≡ Err Write → IsCut Part reader.remaining reader'.remaining writer.contents writer'.contents
      → writer.faults < writer'.faults → Ran Whole Part reader reader' writer writer' end
  ran_cut end is cut failed = rw is (record {
    ok = tt;
    fault = cut;
    read_only_at_fault = λ e. let wrong : ⊥ = cc in absurd wrong;
    write_only_at_fault = λ e. failed;
    ok_without_fault = tt;
    write_told = λ n. absurd (n refl);
    read_told = λ e. let wrong : ⊥ = cc in absurd wrong;
    long_only_past_limit = λ e. let wrong : ⊥ = cc in absurd wrong;
    ok_within_limit = tt;
    read_within_limit = λ e. let wrong : ⊥ = cc in absurd wrong;
  })

-- what a relation says, a weaker one says too

weaker_ok : {Whole Whole' : List (List ℕ) → List (List ℕ) → Type 0} (reader reader' : Reader) (writer writer' : Writer) {X : Type 0} (end : Result X FrontFault) → IsWithin Whole Whole'
    → OnOk end (Replays Whole reader.remaining reader'.remaining writer.contents writer'.contents)
    → OnOk end (Replays Whole' reader.remaining reader'.remaining writer.contents writer'.contents)
weaker_ok reader reader' writer writer' (Ok x) f r = replays_weaker _ _ _ _ f r
weaker_ok reader reader' writer writer' (Err e) f r = tt

module _ {Whole Whole' Part Part' : List (List ℕ) → List (List ℕ) → Type 0} (reader reader' : Reader) (writer writer' : Writer) {X : Type 0} where
  weaker_fault : (end : Result X FrontFault) → IsWithin Whole Whole' → IsWithin Part Part'
      → IfErr end (λ e. EndsAs Whole Part reader.remaining reader'.remaining writer.contents writer'.contents e)
      → IfErr end (λ e. EndsAs Whole' Part' reader.remaining reader'.remaining writer.contents writer'.contents e)
  weaker_fault (Ok x) f h r = tt
  weaker_fault (Err e) f h r = ends_weaker _ _ _ _ f h e r

  pub ran_weaker : (end : Result X FrontFault) → IsWithin Whole Whole' → IsWithin Part Part'
      → Ran Whole Part reader reader' writer writer' end → Ran Whole' Part' reader reader' writer writer' end
  ran_weaker end f h r = record {
    ok = weaker_ok reader reader' writer writer' end f r.ok;
    fault = weaker_fault end f h r.fault;
    read_only_at_fault = r.read_only_at_fault;
    write_only_at_fault = r.write_only_at_fault;
    ok_without_fault = r.ok_without_fault;
    write_told = r.write_told;
    read_told = r.read_told;
    long_only_past_limit = r.long_only_past_limit;
    ok_within_limit = r.ok_within_limit;
    read_within_limit = r.read_within_limit;
  }
