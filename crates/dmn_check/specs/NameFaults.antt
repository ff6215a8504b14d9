-- The texts in the place of a name that are no names, and the names that stand twice in a list.
use Rattle.std.specs.Prelude.{ℕ, List, [], ◌∷◌, ◌++◌, length, take, drop, Bool, not}
use Rattle.feel_value.specs.Distinct.{is_among}
use Rattle.feel_text.specs.Lexical.{is_name}
use Rattle.dmn_form.specs.Model.{Name, Service}
use Rattle.dmn_form.specs.Draft.{Written, Draft}
use Rattle.dmn_names.specs.Parts.{output_names, value_names, service_names}
use Rattle.dmn_check.specs.declared.place.Step.TheVariants as step
use Rattle.dmn_check.specs.declared.place.Key.{Key}
use Rattle.dmn_check.specs.declared.place.Key.TheVariants as key
use Rattle.dmn_check.specs.declared.finding.Mistake.{Mistake}
use Rattle.dmn_check.specs.declared.finding.Mistake.TheVariants as mistake
use Rattle.dmn_check.specs.declared.marks.NameFault.{NameFault}
use Rattle.dmn_check.specs.declared.marks.NameFault.TheVariants.{Unlawful, Repeated}
use Rattle.dmn_check.specs.Findings.{Finding, behind, here, each_of}
use Rattle.dmn_check.specs.Look.{Look, logic_findings}

abbrev pub mistake_of : NameFault → Mistake
mistake_of Unlawful = mistake.Name
mistake_of Repeated = mistake.Twice

-- a text has the fault, behind these in its list
abbrev pub is_wrong : NameFault → List Name → Name → Bool
is_wrong Unlawful before n = not (is_name n)
is_wrong Repeated before n = is_among before n

-- for each text of a list, behind these, whether it has the fault
abbrev pub marked : NameFault → List Name → List Name → List Bool
marked f before [] = []
marked f before (n ∷ ns) = is_wrong f before n ∷ marked f (n ∷ before) ns

-- for each text of a list whether it has the fault
abbrev pub marks : NameFault → List Name → List Bool
marks f ns = marked f [] ns

-- the findings where names stand in an array, or each under the key `name` of an object in an array
abbrev pub in_texts : NameFault → List Bool → List Finding
in_texts f bs = each_of (here (mistake_of f)) bs

abbrev pub in_named : NameFault → List Bool → List Finding
in_named f bs = each_of (λ b. behind (step.Key key.Name) (here (mistake_of f) b)) bs

-- a list of names under a key
abbrev pub under : NameFault → Key → List Name → List Finding
under f k ns = behind (step.Key k) (in_texts f (marks f ns))

-- the outputs of a table, and the entries of a context
abbrev pub names_look : NameFault → Look
names_look f = record {
  text = λ s. [];
  table = λ t. behind (step.Key key.Outputs) (in_named f (marks f (output_names t)));
  entries = λ ns. in_named f (marks f ns);
}

-- the needs of a decision, and what is within its logic
abbrev pub within_decision : NameFault → Written → List Finding
within_decision f d = under f key.Needs d.needs ++ behind (step.Key key.Expr) (logic_findings (names_look f) d.logic)

abbrev pub within_service : NameFault → Service → List Finding
within_service f s =
    under f key.Outputs s.outputs ++ (under f key.Encapsulated s.encapsulated
    ++ (under f key.InputDecisions s.input_decisions ++ under f key.InputData s.input_data))

-- the inputs and the decisions are one list
abbrev pub of_values : NameFault → ℕ → List Bool → List Finding
of_values f inputs bs = behind (step.Key key.Inputs) (in_texts f (take inputs bs)) ++ behind (step.Key key.Decisions) (in_named f (drop inputs bs))

-- the inputs and decisions together, and the services
abbrev pub of_heads : NameFault → Draft → List Finding
of_heads f m =
    of_values f (length m.inputs) (marks f (value_names m)) ++ behind (step.Key key.Services) (in_named f (marks f (service_names m)))

-- the lists within each decision and within each service
abbrev pub of_parts : NameFault → Draft → List Finding
of_parts f m =
    behind (step.Key key.Decisions) (each_of (within_decision f) m.decisions) ++ behind (step.Key key.Services) (each_of (within_service f) m.services)

abbrev pub name_faults : NameFault → Draft → List Finding
name_faults f m = of_heads f m ++ of_parts f m

-- each text in the place of a name that is no name
abbrev pub unlawful_names : Draft → List Finding
unlawful_names = name_faults Unlawful

-- each name that stands before in its list
abbrev pub repeated_names : Draft → List Finding
repeated_names = name_faults Repeated
