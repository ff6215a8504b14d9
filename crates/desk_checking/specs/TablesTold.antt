-- What is told of the tables of a model, and whether `--strict` refuses one.
use Rattle.std.specs.Prelude.{◌≡◌, ℕ, ◌+◌, suc, List, [], ◌∷◌, ◌++◌, length, map, Bool, true, false, ◌&&◌, nat_lt, Option, None, Some, IfSome, if◌then◌else◌, codes}
use Rattle.std.specs.List.{flat_map, list_any, slice_get}
use Rattle.serde_json.specs.Data.{null, member, no_members}
use Rattle.desk_lines.specs.Lines.{ended}
use Rattle.feel_text.specs.Expr.{Expr}
use Rattle.dmn_analysis.specs.declared.asked.Asked.{Asked}
use Rattle.dmn_check.specs.Pointer.{pointer_of}
use Rattle.dmn_form.specs.Model.{Decision, Model, Name}
use Rattle.dmn_graph.specs.Reach.{Each}
use Rattle.dmn_table.specs.Table.{Table}
use Rattle.dmn_told.specs.declared.domains.Domain.{Domain}
use Rattle.desk_checking.specs.Answering.{IsFound, is_refused}
use Rattle.desk_checking.specs.Comes.{AsksAll, are_looked_at}
use Rattle.desk_checking.specs.TableTold.{table_lines}
use Rattle.desk_checking.specs.Tables.{Placed, decision_place, tables_in}
use Rattle.desk_checking.specs.Told.{line_of, number_told}
use Rattle.desk_checking.specs.declared.answers.Answers.{Answers}
use Rattle.desk_checking.specs.declared.undecided.Undecided.{Undecided}

-- A table with what is found of it. It is the table of this number in the decision of this index, both counted from 0, and these values come
-- to it, where that is known. The steps and what isn't decided are told as they are.
pub record Looked : Type 0 where
  pub placed : Placed
  pub decision : ℕ
  pub number : ℕ
  pub comes : Option (List Asked)
  pub answers : Answers
  pub are : IsFound placed.table comes answers
  pub steps : ℕ
  pub undecided : Undecided

-- It is the table of its number in the decision of its index. What comes to it, where that is known, is all that comes in requests to the
-- services of these names within the domains; it isn't known where nothing is declared, or there are too many services.
pub record IsWithin (m : Model Expr Table) (ds : List Domain) (services : List Name) (l : Looked) : Type 0 where
  pub decision : Decision Expr Table
  pub there : slice_get m.decisions l.decision ≡ Some decision
  pub table : slice_get (tables_in (decision_place l.decision) decision.logic) l.number ≡ Some l.placed
  pub comes : IfSome l.comes (AsksAll m ds services decision.name l.number)
  pub unknown : are_looked_at ds services ≡ false → l.comes ≡ None

abbrev pub text_of : Looked → List ℕ
text_of l = flat_map ended (table_lines (pointer_of l.placed.place) l.answers l.steps l.undecided)

abbrev pub refuses : Looked → Bool
refuses l = is_refused l.placed.table l.answers

-- 16 MiB
abbrev pub most_told : ℕ
most_told = 16777216

-- `{"table":null,"more":n}`: how many tables aren't told
abbrev pub untold_line : ℕ → List ℕ
untold_line n = line_of (member (codes "table") null (member (codes "more") (number_told n) no_members))

-- These texts, one of each table, behind so many bytes: once more than 16 MiB stand before one, the others are told by their number.
abbrev pub told_behind : ℕ → List (List ℕ) → List ℕ
told_behind n [] = []
told_behind n (t ∷ ts) = if nat_lt most_told n then ended (untold_line (suc (length ts))) else t ++ told_behind (n + length t) ts

-- each of these tables was looked at, in their order, which is so of each, and this is told of them
pub record TellsTables (IsSo : Looked → Type 0) (tables : List Placed) (text : List ℕ) (are_refused : Bool) : Type 0 where
  pub looked : List Looked
  pub each : map (λ (l : Looked). l.placed) looked ≡ tables
  pub are : Each IsSo looked
  pub told : text ≡ told_behind 0 (map text_of looked)
  pub refused : are_refused ≡ list_any refuses looked

-- that, where the options say so, and whether it is a failure, where they say that too
abbrev pub TellsIf : Bool → Bool → (Looked → Type 0) → List Placed → List ℕ → Bool → Type 0
TellsIf false strict IsSo tables text is_failure = (text ≡ []) × (is_failure ≡ false)
TellsIf true strict IsSo tables text is_failure = (are_refused : Bool) × TellsTables IsSo tables text are_refused × (is_failure ≡ (strict && are_refused))
