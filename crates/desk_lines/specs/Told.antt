-- What a write of a whole text comes to.
use Rattle.std.specs.Prelude.{◌≡◌, ◌<◌, ◌++◌, ℕ, List, Result, Ok, Err}
use Rattle.std.specs.Io.KnownBytes.{Appends}
use Rattle.desk_lines.specs.Device.{Writer}
use Rattle.desk_lines.specs.declared.fault.FrontFault.{FrontFault}
use Rattle.desk_lines.specs.declared.fault.FrontFault.TheVariants.{Write}

-- a beginning of the text was written, up to any byte
pub record WritesPart (old new : Writer) (text : List ℕ) : Type 0 where
  pub told : List ℕ
  pub untold : List ℕ
  pub begins : text ≡ told ++ untold
  pub written : Appends old.contents new.contents told

-- all of the text was written, and with no fault; or the writer failed, and a beginning of the text was written
abbrev pub WritesAll : (old new : Writer) → (text : List ℕ) → {X : Type 0} → Result X FrontFault → Type 0
WritesAll old new text (Ok x) = Appends old.contents new.contents text × (new.faults ≡ old.faults)
WritesAll old new text (Err e) = (e ≡ Write) × (old.faults < new.faults) × WritesPart old new text

-- one of the two, and nothing is said of which
pub record IsTold (old new : Writer) (text : List ℕ) : Type 0 where
  pub end : Result (Unit {0}) FrontFault
  pub is : WritesAll old new text end
