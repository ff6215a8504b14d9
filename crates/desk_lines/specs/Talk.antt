-- An output in lines for an input in lines. `Script` says which lines may be said to which.
use Rattle.std.specs.Prelude.{◌≡◌, ℕ, ◌<◌, ◌≤◌, ◌⊎◌, List, ◌++◌, length, take, Option, Result, Ok, Err}
use Rattle.std.specs.List.{flat_map}
use Rattle.std.specs.Io.KnownBytes.{Consumes, IsAtEnd, Appends}
use Rattle.desk_lines.specs.declared.fault.FrontFault.{FrontFault}
use Rattle.desk_lines.specs.declared.fault.FrontFault.TheVariants.{Read, Write, Long, Memory}
use Rattle.desk_lines.specs.Lines.{lines_of, whole_lines_of, ended, max_input}

-- wherever the first relation holds of some lines and of what was said to them, the second does
abbrev pub IsWithin : (Less More : List (List ℕ) → List (List ℕ) → Type 0) → Type 0
IsWithin Less More = (lines said : List (List ℕ)) → Less lines said → More lines said

-- the lines that an input has so far: the whole ones within the limit, and at its end the last one too
abbrev pub IsHeard : List ℕ → Option (List ℕ) → List (List ℕ) → Type 0
IsHeard input left lines = (lines ≡ whole_lines_of (take max_input input)) ⊎ ((lines ≡ lines_of input) × IsAtEnd left × (length input ≤ max_input))

module _ (Script : List (List ℕ) → List (List ℕ) → Type 0) (left left' wrote wrote' : Option (List ℕ)) where
  -- the input is read to its end and its lines are answered
  pub record Replays : Type 0 where
    pub input : List ℕ
    pub output : List (List ℕ)
    pub read : Consumes left left' input
    pub at_end : IsAtEnd left'
    pub within : length input ≤ max_input
    pub written : Appends wrote wrote' (flat_map ended output)
    pub said : Script (lines_of input) output

  -- the reader failed, and the whole lines before that are answered
  pub record Breaks : Type 0 where
    pub input : List ℕ
    pub output : List (List ℕ)
    pub read : Consumes left left' input
    pub within : length input ≤ max_input
    pub written : Appends wrote wrote' (flat_map ended output)
    pub said : Script (whole_lines_of input) output

  -- more came than an input may have, and the whole lines within that are answered
  pub record Overflows : Type 0 where
    pub input : List ℕ
    pub output : List (List ℕ)
    pub read : Consumes left left' input
    pub too_long : max_input < length input
    pub written : Appends wrote wrote' (flat_map ended output)
    pub said : Script (whole_lines_of (take max_input input)) output

  -- the writer failed: some first lines of those that were heard are answered, and what is written is a beginning of
  -- their answers, up to any byte
  pub record IsCut : Type 0 where
    pub input : List ℕ
    pub lines : List (List ℕ)
    pub answered : List (List ℕ)
    pub unanswered : List (List ℕ)
    pub output : List (List ℕ)
    pub text : List ℕ
    pub unsaid : List ℕ
    pub read : Consumes left left' input
    pub heard : IsHeard input left' lines
    pub splits : lines ≡ answered ++ unanswered
    pub written : Appends wrote wrote' text
    pub begins : flat_map ended output ≡ text ++ unsaid
    pub said : Script answered output

  -- memory was refused: some first lines of those that were heard are answered, and no more is written
  pub record Stops : Type 0 where
    pub input : List ℕ
    pub lines : List (List ℕ)
    pub answered : List (List ℕ)
    pub unanswered : List (List ℕ)
    pub output : List (List ℕ)
    pub read : Consumes left left' input
    pub heard : IsHeard input left' lines
    pub splits : lines ≡ answered ++ unanswered
    pub written : Appends wrote wrote' (flat_map ended output)
    pub said : Script answered output

-- What stands where the front stops before the end of its input: where the reader ended it all lines heard are answered, and
-- otherwise some first ones.
abbrev pub EndsAs : (Whole Part : List (List ℕ) → List (List ℕ) → Type 0) → (left left' wrote wrote' : Option (List ℕ)) → FrontFault → Type 0
EndsAs Whole Part left left' wrote wrote' Read = Breaks Whole left left' wrote wrote'
EndsAs Whole Part left left' wrote wrote' Long = Overflows Whole left left' wrote wrote'
EndsAs Whole Part left left' wrote wrote' Write = IsCut Part left left' wrote wrote'
EndsAs Whole Part left left' wrote wrote' Memory = Stops Part left left' wrote wrote'

-- the same, whether it stops before or at the end
abbrev pub Ends : (Whole Part : List (List ℕ) → List (List ℕ) → Type 0) → (left left' wrote wrote' : Option (List ℕ)) → {X : Type 0} → Result X FrontFault → Type 0
Ends Whole Part left left' wrote wrote' (Ok x) = Replays Whole left left' wrote wrote'
Ends Whole Part left left' wrote wrote' (Err fault) = EndsAs Whole Part left left' wrote wrote' fault
