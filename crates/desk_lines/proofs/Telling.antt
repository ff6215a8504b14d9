-- A text on its way to a writer.
use Rattle.std.proofs.Common.{◌≡◌, ℕ, ◌-◌, ◌^◌, ◌<◌, ◌==◌, ◌&&◌, nat_lt, List, [], ◌++◌, take, drop, refl, ap, sym, ◌∙◌, arith, append_assoc, append-nil, Result, Ok, Err, is_ok, true, false}
use Rattle.std.proofs.lemmas.Bool.Decides.{nat_tests}
use Rattle.std.proofs.lemmas.List.{take-append-drop}
use Rattle.std.specs.Io.KnownBytes.{Appends}
use Rattle.desk_lines.specs.Device.{Writer, counted, grown}
use Rattle.desk_lines.specs.Told.{IsTold, WritesAll, WritesPart}
use Rattle.desk_lines.specs.declared.fault.FrontFault.{FrontFault}
use Rattle.desk_lines.proofs.Coming.{Appends-then, Appends-none}

-- a write that takes nothing of some bytes counts
pub counted-none : (m m' m'' n k : ℕ) → m'' ≡ counted m' ((n == 0) && nat_lt 0 k) → m' ≡ m → n ≡ 0 → 0 < k → m < 2 ^ 64 - 1 → m < m''
counted-none m m' m'' n k count same none some room = grind (arith, nat_tests)

-- and so does one that fails
pub counted-failed : (m m' m'' : ℕ) → m'' ≡ grown m' 1 → m' ≡ m → m < 2 ^ 64 - 1 → m < m''
counted-failed m m' m'' count same room = omega arith

-- nothing more was taken of the text
pub cut_at : (old mid new : Writer) (text : List ℕ) (at : ℕ) → Appends old.contents mid.contents (take at text) → Appends mid.contents new.contents [] → WritesPart old new text
cut_at old mid new text at first none =
    let both : Appends old.contents new.contents (take at text ++ []) = Appends-then old.contents mid.contents new.contents (take at text) [] first none in
    record { told = take at text; untold = drop at text; begins = sym (take-append-drop at text); written = rw append-nil at both }

-- nothing is told
pub told_nothing : (writer : Writer) → IsTold writer writer []
told_nothing writer = record { end = Ok tt; is = (Appends-none writer.contents, refl) }

module _ (old mid new : Writer) (first text : List ℕ) {X Y : Type 0} where
  both_written : (x : X) (end : Result Y FrontFault) → WritesAll old mid first (Ok x) → WritesAll mid new text end → WritesAll old new (first ++ text) end
  both_written x (Ok y) h k = (Appends-then old.contents mid.contents new.contents first text h.0 k.0, k.1 ∙ h.1)
  both_written x (Err e) h k =
      let failed : mid.faults < new.faults = k.1 in
      let part : WritesPart mid new text = k.2 in
      let both : WritesPart old new (first ++ text) = record {
        told = first ++ part.told;
        untold = part.untold;
        begins = ap (λ t. first ++ t) part.begins ∙ sym (append_assoc first part.told part.untold);
        written = Appends-then old.contents mid.contents new.contents first part.told h.0 part.written;
      } in
      (k.0, rw h.1 at failed, both)

module _ (old mid new : Writer) (first text : List ℕ) {X : Type 0} where
  -- a text was written whole, and then another is told
  pub told_after : (end : Result X FrontFault) → is_ok end ≡ true → WritesAll old mid first end → IsTold mid new text → IsTold old new (first ++ text)
  told_after (Ok x) ok h k = record { end = k.end; is = both_written old mid new first text x k.end h k.is }
  told_after (Err e) ok h k = let wrong : ⊥ = cc in absurd wrong

module _ (old new : Writer) (first text : List ℕ) {X : Type 0} where
  -- the writer failed at a text, and another was not tried
  pub told_broken : (end : Result X FrontFault) → is_ok end ≡ false → WritesAll old new first end → IsTold old new (first ++ text)
  told_broken (Ok x) err h = let wrong : ⊥ = cc in absurd wrong
  told_broken (Err e) err h =
      let part : WritesPart old new first = h.2 in
      let less : WritesPart old new (first ++ text) = record {
        told = part.told;
        untold = part.untold ++ text;
        begins = ap (λ t. t ++ text) part.begins ∙ append_assoc part.told part.untold text;
        written = part.written;
      } in
      record { end = Err e; is = (h.0, h.1, less) }
