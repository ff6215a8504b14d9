-- The texts that have no reading of their kind.
use Rattle.std.specs.Prelude.{ℕ, List, [], ◌++◌, Bool, Option, None, Some}
use Rattle.std.specs.Option.{is_none}
use Rattle.feel_text.specs.Readings.{expr_of, tests_of, literal_of}
use Rattle.dmn_form.specs.Draft.{WrittenColumn, WrittenRule, WrittenTable, Draft}
use Rattle.dmn_check.specs.declared.place.Step.TheVariants as step
use Rattle.dmn_check.specs.declared.place.Key.TheVariants as key
use Rattle.dmn_check.specs.declared.finding.TextKind.{TextKind}
use Rattle.dmn_check.specs.declared.finding.TextKind.TheVariants.{Expression, UnaryTests, Literal}
use Rattle.dmn_check.specs.declared.finding.Mistake.TheVariants as mistake
use Rattle.dmn_check.specs.Findings.{Finding, behind, here, each_of}
use Rattle.dmn_check.specs.Look.{Look, decisions_findings}

-- the text has no reading of this kind
abbrev pub is_unread : TextKind → List ℕ → Bool
is_unread Expression s = is_none (expr_of s)
is_unread UnaryTests s = is_none (tests_of s)
is_unread Literal s = is_none (literal_of s)

-- a text that is to be of this kind
abbrev pub unread : TextKind → List ℕ → List Finding
unread kind s = here (mistake.Expression kind) (is_unread kind s)

-- a default may be left out
abbrev pub default_texts : Option (List ℕ) → List Finding
default_texts None = []
default_texts (Some s) = behind (step.Key key.Default) (unread Expression s)

-- a listed output value is a literal, a default an expression
abbrev pub column_texts : WrittenColumn → List Finding
column_texts c = behind (step.Key key.Values) (each_of (unread Literal) c.values) ++ default_texts c.fallback

-- an input entry is unary tests, an output entry an expression
abbrev pub rule_texts : WrittenRule → List Finding
rule_texts r = behind (step.Key key.When) (each_of (unread UnaryTests) r.tests) ++ behind (step.Key key.Then) (each_of (unread Expression) r.gives)

abbrev pub table_texts : WrittenTable → List Finding
table_texts t =
    behind (step.Key key.Inputs) (each_of (unread Expression) t.inputs)
    ++ (behind (step.Key key.Outputs) (each_of column_texts t.outputs) ++ behind (step.Key key.Rules) (each_of rule_texts t.rules))

abbrev pub unread_look : Look
unread_look = record { text = unread Expression; table = table_texts; entries = λ names. [] }

-- each text of a decision that has no reading of its kind
abbrev pub unread_texts : Draft → List Finding
unread_texts m = decisions_findings unread_look m.decisions
