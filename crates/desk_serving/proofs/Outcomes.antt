-- How handing out ends.
use Rattle.std.proofs.Common.{◌≡◌, ◌≢◌, ◌<◌, ℕ, List, [], ◌++◌, refl, ap, ◌∙◌, subst, Option, Result, Ok, Err}
use Rattle.std.specs.List.{flat_map}
use Rattle.desk_lines.specs.Device.{Writer}
use Rattle.desk_lines.specs.Gathers.{Gathers}
use Rattle.desk_lines.specs.Lines.{ended}
use Rattle.desk_lines.specs.declared.fault.FrontFault.{FrontFault}
use Rattle.desk_lines.specs.declared.fault.FrontFault.TheVariants.{Read, Write, Long, Memory}
use Rattle.desk_lines.proofs.Coming.{Appends-none}
use Rattle.desk_lines.proofs.Gathering.{all_written, gathers_quiet}
use Rattle.desk_wire.specs.Reports.{Report}
use Rattle.desk_serving.specs.Owed.{AreFirst, AreHanded, Hands, Queue}
use Rattle.desk_serving.specs.Script.{texts_of}
use Rattle.desk_serving.specs.Telling.{HandsOut, Tells, TellsAll, TellsInPart, WritesOut}
use Rattle.desk_serving.proofs.Owing.{handed_first}
use Rattle.desk_serving.proofs.Running.{err_is, failed}
use Rattle.desk_serving.proofs.Saying.{hands_text, tells_cut, tells_more, tells_quiet, tells_then, tells_weaker}
use Rattle.desk_requests.proofs.Callers.{quiet}

abbrev pub went : (X : Type 0) → X → Result X FrontFault
went X x = Ok x

module _ (Whole Part : List Report → Type 0) (old new : Writer) (r t : List ℕ) where
  -- all is said
  pub out_said : {X : Type 0} (x : X) → Tells Whole old.contents new.contents r t → new.faults ≡ old.faults → HandsOut Whole Part old new r t (went X x)
  out_said x told same = record {
    ok = told;
    write = λ e. let wrong : ⊥ = cc in absurd wrong;
    memory = λ e. let wrong : ⊥ = cc in absurd wrong;
    only = tt;
    counts = λ n. same;
    fault = λ e. let wrong : ⊥ = cc in absurd wrong;
  }

  -- memory is refused
  pub out_refused : {X : Type 0} → Tells Part old.contents new.contents r t → new.faults ≡ old.faults → HandsOut Whole Part old new r t (failed X Memory)
  out_refused told same = record {
    ok = tt;
    write = λ e. let wrong : ⊥ = cc in absurd wrong;
    memory = λ e. told;
    only = (λ e. cc, λ e. cc);
    counts = λ n. same;
    fault = λ e. let wrong : ⊥ = cc in absurd wrong;
  }

-- A fault is told in the same way whatever would have been answered without it.
module _ (Whole Part : List Report → Type 0) (old new : Writer) (r t : List ℕ) {X Y : Type 0} where
  pub out_failed : (fault : FrontFault) → HandsOut Whole Part old new r t (failed X fault) → HandsOut Whole Part old new r t (failed Y fault)
  out_failed Read h = absurd (h.only.0 refl)
  out_failed Long h = absurd (h.only.1 refl)
  out_failed Write h = record {
    ok = tt;
    write = λ e. h.write refl;
    memory = λ e. let wrong : ⊥ = cc in absurd wrong;
    only = h.only;
    counts = λ n. absurd (n refl);
    fault = λ e. h.fault refl;
  }
  out_failed Memory h = record {
    ok = tt;
    write = λ e. let wrong : ⊥ = cc in absurd wrong;
    memory = λ e. h.memory refl;
    only = h.only;
    counts = λ n. h.counts (λ e. cc);
    fault = λ e. let wrong : ⊥ = cc in absurd wrong;
  }

-- ## One after the other

module _ (A B C Whole Part : List Report → Type 0) (old mid new : Writer) (r s t : List ℕ) {X : Type 0} where
  -- some reports are said, and then handing out ends with a fault
  pub out_broken : (fault : FrontFault) → ((m k : List Report) → A m → C k → Part (m ++ k)) → Tells A old.contents mid.contents r s → mid.faults ≡ old.faults
      → HandsOut B C mid new s t (failed X fault) → HandsOut Whole Part old new r t (failed X fault)
  out_broken fault f told same h = record {
    ok = tt;
    write = λ e. let w = h.write e in (w.0, tells_then A C Part _ _ _ _ _ _ f told w.1);
    memory = λ e. tells_then A C Part _ _ _ _ _ _ f told (h.memory e);
    only = h.only;
    counts = λ n. h.counts n ∙ same;
    fault = λ e. subst (λ k. k < new.faults) same (h.fault e);
  }

module _ (A Whole Part : List Report → Type 0) (old mid new : Writer) (r s t text : List ℕ) (k : List Report) {X : Type 0} where
  -- some reports are said, and others stand in a text, at which a fault comes
  pub out_lost : (fault : FrontFault) → ((m : List Report) → A m → Part m) → ((m : List Report) → A m → Part (m ++ k)) → Tells A old.contents mid.contents r s → mid.faults ≡ old.faults
      → text ≡ flat_map ended (texts_of k)
      → (failed X fault ≡ failed X Write → (rest : List ℕ) × Gathers mid.contents new.contents s text rest)
      → (failed X fault ≡ failed X Memory → Gathers mid.contents new.contents s [] t)
      → (fault ≢ Read) × (fault ≢ Long)
      → (failed X fault ≢ failed X Write → new.faults ≡ mid.faults)
      → (failed X fault ≡ failed X Write → mid.faults < new.faults)
      → HandsOut Whole Part old new r t (failed X fault)
  out_lost Read f g told same is part memory only counts fails = absurd (only.0 refl)
  out_lost Long f g told same is part memory only counts fails = absurd (only.1 refl)
  out_lost Write f g told same is part memory only counts fails = record {
    ok = tt;
    write = λ e. let w = part refl in (w.0, tells_more A Part _ _ _ _ _ _ text k g told is w.1);
    memory = λ e. let wrong : ⊥ = cc in absurd wrong;
    only = only;
    counts = λ n. absurd (n refl);
    fault = λ e. subst (λ n. n < new.faults) same (fails refl);
  }
  out_lost Memory f g told same is part memory only counts fails = record {
    ok = tt;
    write = λ e. let wrong : ⊥ = cc in absurd wrong;
    memory = λ e. tells_quiet Part _ _ _ _ _ _ (tells_weaker A Part _ _ _ _ f told) (memory refl);
    only = only;
    counts = λ n. counts n ∙ same;
    fault = λ e. let wrong : ⊥ = cc in absurd wrong;
  }

-- the same, of what lanes handed out
module _ (names ns : List (List ℕ)) (x y z : List Queue) (Whole : List Report → Type 0) (old mid new : Writer) (r s t empty text piece : List ℕ) {X : Type 0} where
  pub lanes_lost : (fault : FrontFault) → ns ≡ names → empty ≡ [] → piece ≡ text → Tells (AreHanded names x y) old.contents mid.contents r s → mid.faults ≡ old.faults → Hands ns y z empty text
      → (failed X fault ≡ failed X Write → (rest : List ℕ) × Gathers mid.contents new.contents s piece rest)
      → (failed X fault ≡ failed X Memory → Gathers mid.contents new.contents s [] t)
      → (fault ≢ Read) × (fault ≢ Long)
      → (failed X fault ≢ failed X Write → new.faults ≡ mid.faults)
      → (failed X fault ≡ failed X Write → mid.faults < new.faults)
      → HandsOut Whole (AreFirst names x) old new r t (failed X fault)
  lanes_lost fault same none whole told quiet h part memory only counts fails =
      let out = hands_text names ns x y z empty text piece same none whole h in
      out_lost (AreHanded names x y) Whole (AreFirst names x) old mid new r s t piece out.0 fault (λ m p. handed_first names x y m p)
      (λ m p. handed_first names x z (m ++ out.0) (out.2 m p)) told quiet out.1 part memory only counts fails

-- ## All is written

-- the writer failed before
pub out_cut_off : (Whole Part : List Report → Type 0) (old new : Writer) (t : List ℕ) {X : Type 0} (end : Result X FrontFault) → end ≡ Err Write → HandsOut Whole Part old new [] t end → WritesOut (λ _. Whole) Part old new end
out_cut_off Whole Part old new t (Ok x) is h = let wrong : ⊥ = cc in absurd wrong
out_cut_off Whole Part old new t (Err fault) is h = record {
  ok = tt;
  write = λ e. let w = h.write is in record { more = w.1.more; are = w.1.are; text = w.1.gathers.out; unsaid = w.0; written = w.1.gathers.written; begins = w.1.gathers.is };
  memory = λ e. let wrong : ⊥ = cc in absurd wrong;
  only = h.only;
  counts = h.counts;
  fault = h.fault;
}

all_told : (A : List Report → Type 0) (a b c : Option (List ℕ)) (s t : List ℕ) → Tells A a b [] s → Gathers b c s [] t → t ≡ [] → TellsAll A a c
all_told A a b c s t told g none = record { more = told.more; are = told.are; written = all_written (gathers_quiet told.gathers g) none }

module _ (Whole Part : List Report → Type 0) (old mid new : Writer) (s t : List ℕ) {X : Type 0} where
  -- what waits is written
  pub out_written : (end : Result X FrontFault) → end ≢ Err Write → HandsOut Whole Part old mid [] s end → Gathers mid.contents new.contents s [] t → t ≡ [] → new.faults ≡ mid.faults
      → WritesOut (λ _. Whole) Part old new end
  out_written (Ok x) n h g none same = record {
    ok = all_told Whole _ _ _ _ _ h.ok g none;
    write = λ e. let wrong : ⊥ = cc in absurd wrong;
    memory = λ e. let wrong : ⊥ = cc in absurd wrong;
    only = tt;
    counts = λ k. same ∙ h.counts n;
    fault = λ e. let wrong : ⊥ = cc in absurd wrong;
  }
  out_written (Err Read) n h g none same = absurd (h.only.0 refl)
  out_written (Err Long) n h g none same = absurd (h.only.1 refl)
  out_written (Err Write) n h g none same = absurd (n refl)
  out_written (Err Memory) n h g none same = record {
    ok = tt;
    write = λ e. let wrong : ⊥ = cc in absurd wrong;
    memory = λ e. all_told Part _ _ _ _ _ (h.memory refl) g none;
    only = h.only;
    counts = λ k. same ∙ h.counts n;
    fault = λ e. let wrong : ⊥ = cc in absurd wrong;
  }

  cut_at_end : (end : Result X FrontFault) → ((m : List Report) → Whole m → Part m) → end ≢ Err Write → HandsOut Whole Part old mid [] s end → Gathers mid.contents new.contents s [] t
      → TellsInPart Part old.contents new.contents
  cut_at_end (Ok x) f n h g = tells_cut Part _ _ _ _ _ (tells_weaker Whole Part _ _ _ _ f h.ok) g
  cut_at_end (Err Read) f n h g = absurd (h.only.0 refl)
  cut_at_end (Err Long) f n h g = absurd (h.only.1 refl)
  cut_at_end (Err Write) f n h g = absurd (n refl)
  cut_at_end (Err Memory) f n h g = tells_cut Part _ _ _ _ _ (h.memory refl) g

  -- the writer fails at what waits
  pub out_cut : (end : Result X FrontFault) → ((m : List Report) → Whole m → Part m) → end ≢ Err Write → HandsOut Whole Part old mid [] s end → Gathers mid.contents new.contents s [] t
      → mid.faults < new.faults → WritesOut (λ _. Whole) Part old new (failed X Write)
  out_cut end f n h g fails = record {
    ok = tt;
    write = λ e. cut_at_end end f n h g;
    memory = λ e. let wrong : ⊥ = cc in absurd wrong;
    only = (λ e. cc, λ e. cc);
    counts = λ k. absurd (k refl);
    fault = λ e. subst (λ k. k < new.faults) (h.counts n) fails;
  }

-- ## An end that is passed on

module _ {X Y : Type 0} (Whole : X → List Report → Type 0) (Whole' : Y → List Report → Type 0) (Part : List Report → Type 0) (old new : Writer) where
  pub written_err : (fault : FrontFault) → WritesOut Whole Part old new (failed X fault) → WritesOut Whole' Part old new (failed Y fault)
  written_err fault h = record {
    ok = tt;
    write = λ e. h.write (ap (failed X) (err_is fault Write e));
    memory = λ e. h.memory (ap (failed X) (err_is fault Memory e));
    only = h.only;
    counts = λ n. h.counts (λ e. n (ap (failed Y) (err_is fault Write e)));
    fault = λ e. h.fault (ap (failed X) (err_is fault Write e));
  }

  pub written_ok : (x : X) (y : Y) → ((m : List Report) → Whole x m → Whole' y m) → WritesOut Whole Part old new (went X x) → WritesOut Whole' Part old new (went Y y)
  written_ok x y f h = record {
    ok = record { more = h.ok.more; are = f h.ok.more h.ok.are; written = h.ok.written };
    write = λ e. let wrong : ⊥ = cc in absurd wrong;
    memory = λ e. let wrong : ⊥ = cc in absurd wrong;
    only = tt;
    counts = λ n. h.counts (λ e. cc);
    fault = λ e. let wrong : ⊥ = cc in absurd wrong;
  }

-- memory is refused before anything is said
pub written_none : {X : Type 0} (Whole : X → List Report → Type 0) (Part : List Report → Type 0) (writer : Writer) → Part [] → WritesOut Whole Part writer writer (failed X Memory)
written_none {X} Whole Part writer none = record {
  ok = tt;
  write = λ e. let wrong : ⊥ = cc in absurd wrong;
  memory = λ e. record { more = []; are = none; written = Appends-none writer.contents };
  only = (λ e. cc, λ e. cc);
  counts = λ n. refl;
  fault = λ e. let wrong : ⊥ = cc in absurd wrong;
}
