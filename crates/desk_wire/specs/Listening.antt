-- What is said to a line that is heard.
use Rattle.std.specs.Prelude.{◌≡◌, ◌+◌, ℕ, List, [], ◌∷◌, ◌++◌, length}
use Rattle.std.specs.List.{flat_map}
use Rattle.desk_lines.specs.Lines.{ended}
use Rattle.desk_wire.specs.Heard.{IsHeardAs}
use Rattle.desk_wire.specs.Reports.{Refused, report_text}
use Rattle.desk_wire.specs.declared.heard.Heard.{Heard}
use Rattle.desk_wire.specs.declared.heard.Heard.TheVariants.{Long, Blank, Syntax, Other, Object}
use Rattle.desk_wire.specs.declared.word.Word.TheVariants as word

-- to a line with none of the forms that its command has: its refusal, and nothing where it is blank
abbrev pub refusal_text : ℕ → Heard → List ℕ
refusal_text k Long = ended (report_text (Refused k word.Long))
refusal_text k Blank = []
refusal_text k Syntax = ended (report_text (Refused k word.Syntax))
refusal_text k Other = ended (report_text (Refused k word.Shape))
refusal_text k (Object members) = ended (report_text (Refused k word.Shape))

-- After whichever lines and sayings it stood before the line with this number, which is heard so, more is said at the end of
-- the text, and then it stands after that line.
abbrev pub AnswersHeard : (After After' : List (List ℕ) → List (List ℕ) → Type 0) → (number : ℕ) → Heard → (text text' : List ℕ) → Type 0
AnswersHeard After After' number heard text text' = (lines said : List (List ℕ)) (it : List ℕ) → After lines said → IsHeardAs it heard → number ≡ length lines + 1 →
    (more : List (List ℕ)) × After' (lines ++ it ∷ []) (said ++ more) × (text' ≡ text ++ flat_map ended more)
