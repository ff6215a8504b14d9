-- The lines that `check` writes of a model.
use Rattle.std.specs.Prelude.{◌-◌, ℕ, zero, suc, List, [], ◌∷◌, ◌++◌, length, map, take, Bool, true, false, Option, Some, None, codes}
use Rattle.serde_json.specs.Data.{Data, boolean, number, unsigned, string, array, object, Items, no_items, item, Members, no_members, member}
use Rattle.serde_json.specs.Written.{compact_text}
use Rattle.feel_value.specs.Found.{◌>>=◌}
use Rattle.desk_wire.specs.Words.{fault_word, word_text}
use Rattle.desk_wire.specs.declared.word.Word.{Word}
use Rattle.desk_wire.specs.declared.word.Word.TheVariants as word
use Rattle.dmn_form.specs.Model.{expression, table, list, context, context_with, Name, Service}
use Rattle.dmn_form.specs.Draft.{Draft, Logic, Written, draft_of}
use Rattle.dmn_plan.specs.declared.fault.ModelFault.{ModelFault}
use Rattle.dmn_plan.specs.declared.fault.ModelFault.TheVariants as fault
use Rattle.dmn_check.specs.Cycles.{cycles}
use Rattle.dmn_check.specs.Findings.{Finding}
use Rattle.dmn_check.specs.Graphs.{has_no_graph}
use Rattle.dmn_check.specs.Large.{too_large}
use Rattle.dmn_check.specs.Notes.{most_findings}
use Rattle.dmn_check.specs.NameFaults.{unlawful_names, repeated_names}
use Rattle.dmn_check.specs.Pointer.{pointer_of}
use Rattle.dmn_check.specs.Refused.{refused_tables}
use Rattle.dmn_check.specs.Rules.{unfit_rules}
use Rattle.dmn_check.specs.Services.{bad_services}
use Rattle.dmn_check.specs.Told.{Told, first_of}
use Rattle.dmn_check.specs.Unknown.{unknown_names}
use Rattle.dmn_check.specs.Unread.{unread_texts}
use Rattle.desk_requests.specs.declared.refused.RefusedLine.{RefusedLine}
use Rattle.desk_checking.specs.Domains.{domain_pointer, refused_by}
use Rattle.desk_checking.specs.FirstFault.{model_line}
use Rattle.desk_checking.specs.declared.findings.CheckFault.{CheckFault}
use Rattle.desk_checking.specs.declared.findings.CheckFault.TheVariants as found

-- a line is an object of JSON with no space
abbrev pub line_of : Members → List ℕ
line_of ms = compact_text (object ms)

abbrev pub number_told : ℕ → Data
number_told n = number (unsigned n)

-- ---- a model with a fault

-- the word of a fault
abbrev pub found_word : CheckFault → List ℕ
found_word (found.Model fault) = word_text (fault_word fault)
found_word found.Long = word_text word.Long
found_word found.Domain = codes "domain"

abbrev pub with_word : Word → Members → Members
with_word w = member (codes "fault") (string (word_text w))

-- `{"fault":F}`: the first line
abbrev pub fault_line : CheckFault → List ℕ
fault_line f = line_of (member (codes "fault") (string (found_word f)) no_members)

-- `{"fault":F,"pointer":P}`: a place of a fault
abbrev pub place_line : ModelFault → Finding → List ℕ
place_line f finding = line_of (with_word (fault_word f) (member (codes "pointer") (string (pointer_of finding.place)) no_members))

-- `{"fault":F,"more":n}`: how many places are not told, where some are not
abbrev pub more_line : ModelFault → ℕ → List ℕ
more_line f n = line_of (with_word (fault_word f) (member (codes "more") (number_told n) no_members))

abbrev pub more_lines : ModelFault → ℕ → List (List ℕ)
more_lines f zero = []
more_lines f (suc n) = more_line f (suc n) ∷ []

-- a line for each place that is told, in their order, and one for how many more there are
abbrev pub lines_of_fault : ModelFault → Told → List (List ℕ)
lines_of_fault f told = map (place_line f) told.findings ++ more_lines f (told.count - length told.findings)

-- of what needs what, unless that is not known
abbrev pub unless_unknown : Bool → List (List ℕ) → List (List ℕ)
unless_unknown true lines = []
unless_unknown false lines = lines

-- of names and texts
abbrev pub part_lines : Draft → List (List ℕ)
part_lines m =
    (((lines_of_fault fault.Name (first_of (unlawful_names m)) ++ lines_of_fault fault.Twice (first_of (repeated_names m)))
    ++ lines_of_fault fault.Expression (first_of (unread_texts m))) ++ lines_of_fault fault.Table (first_of (refused_tables m)))
    ++ lines_of_fault fault.Table (first_of (unfit_rules m))

-- of what needs what
abbrev pub need_lines : Draft → List (List ℕ)
need_lines m =
    ((lines_of_fault fault.Unknown (first_of (unknown_names m)) ++ unless_unknown (has_no_graph m) (lines_of_fault fault.Cycle (first_of (cycles m))))
    ++ unless_unknown (has_no_graph m) (lines_of_fault fault.Service (first_of (bad_services m)))) ++ lines_of_fault fault.Large (first_of (too_large m))

-- the lines of all places of a model, where it has the form of one
abbrev pub place_lines : Option Draft → List (List ℕ)
place_lines None = []
place_lines (Some m) = part_lines m ++ need_lines m

-- `{"fault":"long","length":n}`: how many bytes the line of a model has
abbrev pub long_line : ℕ → List ℕ
long_line n = line_of (with_word word.Long (member (codes "length") (number_told n) no_members))

abbrev pub length_lines : Option Data → List (List ℕ)
length_lines None = []
length_lines (Some d) = long_line (length (model_line d)) ∷ []

-- `{"fault":"domain","pointer":P}`: a place of what is declared and can't be read
abbrev pub domain_line : Option Name → List ℕ
domain_line n = line_of (member (codes "fault") (string (codes "domain")) (member (codes "pointer") (string (domain_pointer n)) no_members))

-- `{"fault":"domain","more":n}`: how many places are not told, where some are not
abbrev pub more_domains : ℕ → List (List ℕ)
more_domains zero = []
more_domains (suc n) = line_of (member (codes "fault") (string (codes "domain")) (member (codes "more") (number_told (suc n)) no_members)) ∷ []

-- a line for each of the first places, and one for how many more there are
abbrev pub domain_lines : List (Option Name) → List (List ℕ)
domain_lines ns = map domain_line (take most_findings ns) ++ more_domains (length ns - most_findings)

-- Behind the first line of a value with this fault, with what stands beside it. Of a text that is no JSON nothing.
abbrev pub lines_behind : Option Data → Option Data → CheckFault → List (List ℕ)
lines_behind d beside found.Long = length_lines d
lines_behind d beside found.Domain = domain_lines (refused_by (d >>= draft_of) beside)
lines_behind d beside (found.Model fault.Syntax) = []
lines_behind d beside (found.Model f) = place_lines (d >>= draft_of)

-- all lines of a value whose model has this fault first
abbrev pub faulty_lines : Option Data → Option Data → CheckFault → List (List ℕ)
faulty_lines d beside f = fault_line f ∷ lines_behind d beside f

-- ---- a model without a fault

abbrev pub texts_told : List (List ℕ) → Items
texts_told [] = no_items
texts_told (t ∷ ts) = item (string t) (texts_told ts)

-- the kind of a decision's logic
abbrev pub kind_of : Logic → List ℕ
kind_of (expression s) = codes "expression"
kind_of (table t) = codes "table"
kind_of (list bs) = codes "list"
kind_of (context es) = codes "context"
kind_of (context_with es b) = codes "context with a result"

abbrev pub decision_told : Written → Data
decision_told d = object (member (codes "name") (string d.name) (member (codes "kind") (string (kind_of d.logic)) no_members))

abbrev pub decisions_told : List Written → Items
decisions_told [] = no_items
decisions_told (d ∷ ds) = item (decision_told d) (decisions_told ds)

-- a service with its parameters: its input decisions, and then its input data
abbrev pub service_told : Service → Data
service_told s =
    object (member (codes "name") (string s.name) (member (codes "parameters") (array (texts_told (s.input_decisions ++ s.input_data))) no_members))

abbrev pub services_told : List Service → Items
services_told [] = no_items
services_told (s ∷ ss) = item (service_told s) (services_told ss)

-- `{"lawful":true,"inputs":[..],"decisions":[..],"services":[..]}`: the first line
abbrev pub lawful_line : Draft → List ℕ
lawful_line m =
    line_of (member (codes "lawful") (boolean true) (member (codes "inputs") (array (texts_told m.inputs))
    (member (codes "decisions") (array (decisions_told m.decisions)) (member (codes "services") (array (services_told m.services)) no_members))))

-- ---- lines of requests

abbrev pub fault_of : Option Word → Members
fault_of None = no_members
fault_of (Some w) = with_word w no_members

-- `{"line":k,"note":W}`: a line that `serve` refuses, with the word by which it does; of a model, with that of its fault
abbrev pub refused_line : RefusedLine → List ℕ
refused_line r = line_of (member (codes "line") (number_told r.number) (member (codes "note") (string (word_text r.why)) (fault_of r.fault)))

-- `{"more":n}`: how many refused lines are not told, where some are not
abbrev pub more_refused : ℕ → List (List ℕ)
more_refused zero = []
more_refused (suc n) = line_of (member (codes "more") (number_told (suc n)) no_members) ∷ []

-- the lines about these, of so many that are refused
abbrev pub refusal_lines : List RefusedLine → ℕ → List (List ℕ)
refusal_lines first count = map refused_line first ++ more_refused (count - 1000)

-- ---- rules of tables

-- the first rule is number 0
abbrev pub numbers_told : List ℕ → Items
numbers_told [] = no_items
numbers_told (n ∷ ns) = item (number_told n) (numbers_told ns)
