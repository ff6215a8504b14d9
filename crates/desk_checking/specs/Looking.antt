-- Internal, cited by no public contract: tables that are looked at one after another.
use Rattle.std.specs.Prelude.{◌≡◌, ℕ, ◌+◌, zero, suc, List, [], ◌∷◌, ◌++◌, length, map, ◌||◌, nat_lt, Option, if◌then◌else◌}
use Rattle.std.specs.List.{list_any}
use Rattle.dmn_graph.specs.Reach.{Each}
use Rattle.desk_checking.specs.ComesView.{IsAsked, number_of}
use Rattle.desk_checking.specs.Tables.{Placed}
use Rattle.desk_checking.specs.TablesTold.{Looked, most_told, refuses, text_of, untold_line}
use Rattle.desk_checking.specs.declared.decision_inputs.DecisionInputs.{DecisionInputs}
use Rattle.desk_checking.specs.declared.tables.Telling.{Telling}

-- what was told, and how many tables weren't, with this text of one more
abbrev pub step : List ℕ × ℕ → List ℕ → List ℕ × ℕ
step s t = if nat_lt most_told (length s.0) then (s.0, s.1 + 1) else (s.0 ++ t, s.1)

abbrev pub told_from : List ℕ × ℕ → List (List ℕ) → List ℕ × ℕ
told_from s [] = s
told_from s (t ∷ ts) = told_from (step s t) ts

abbrev pub told_so_far : Telling → List ℕ × ℕ
told_so_far t = (t.text.items, t.untold)

-- a table was looked at, to which this comes
pub record IsTurn (c : Option DecisionInputs) (p : Placed) (number : ℕ × ℕ) (old new : Telling) : Type 0 where
  pub looked : Looked
  pub is : looked.placed ≡ p
  pub numbered : number_of looked ≡ number
  pub asked : IsAsked c looked
  pub refused : new.is_refused ≡ (old.is_refused || refuses looked)
  pub told : told_so_far new ≡ step (told_so_far old) (text_of looked)

-- these tables were
pub record IsTold (c : Option DecisionInputs) (tables : List Placed) (numbers : List (ℕ × ℕ)) (t : Telling) : Type 0 where
  pub looked : List Looked
  pub each : map (λ (l : Looked). l.placed) looked ≡ tables
  pub numbered : map number_of looked ≡ numbers
  pub asked : Each (IsAsked c) looked
  pub refused : t.is_refused ≡ list_any refuses looked
  pub told : told_so_far t ≡ told_from ([], 0) (map text_of looked)

abbrev pub untold_lines : ℕ → List (List ℕ)
untold_lines zero = []
untold_lines (suc n) = untold_line (suc n) ∷ []
