-- The faults of a model's requirements and of its services.
use Rattle.std.specs.Prelude.{List, [], ◌∷◌, ◌++◌, length, Bool, not, ◌&&◌, ◌||◌, if◌then◌else◌, nat_lt, bytes_eq}
use Rattle.std.specs.List.{list_any}
use Rattle.dmn_form.specs.Model.{Name, Decision, Service}
use Rattle.dmn_form.specs.Draft.{Draft, Written}
use Rattle.dmn_graph.specs.Reach.{reached}
use Rattle.feel_value.specs.Distinct.{is_among}
use Rattle.dmn_names.specs.Parts.{decision_names}
use Rattle.dmn_names.specs.Places.{has_stranger}

-- what the decision of this name needs; nothing where there is none
abbrev pub needs_of : {E T : Type 0} → List (Decision E T) → Name → List Name
needs_of [] n = []
needs_of (d ∷ ds) n = if bytes_eq n d.name then d.needs else needs_of ds n

-- a decision needs itself, directly or through others: no chain is longer than there are decisions
abbrev pub needs_itself : Draft → Written → Bool
needs_itself m d = is_among (reached (length m.decisions) (needs_of m.decisions) d.needs) d.name

abbrev pub has_cycle : Draft → Bool
has_cycle m = list_any (needs_itself m) m.decisions

-- what a name leads to within a service: what its decision needs, unless it is an input decision
abbrev pub needed_within : Draft → Service → Name → List Name
needed_within m s n = if is_among s.input_decisions n then [] else needs_of m.decisions n

-- the outputs, and what is needed from there on by decisions that are no input decisions
abbrev pub reachable : Draft → Service → List Name
reachable m s = reached (length m.decisions) (needed_within m s) s.outputs

-- the decisions that a service lists
abbrev pub listed_decisions : Service → List Name
listed_decisions s = s.outputs ++ s.encapsulated ++ s.input_decisions

-- a reachable decision is in none of the lists, or a reachable input is no input data
abbrev pub reaches_unlisted : Draft → Service → Bool
reaches_unlisted m s =
    list_any (λ n. is_among (decision_names m) n && not (is_among (listed_decisions s) n)) (reachable m s)
    || list_any (λ n. is_among m.inputs n && not (is_among s.input_data n)) (reachable m s)

-- no output; a name in the wrong list; an input decision that is also an output or encapsulated; something reachable that isn't listed
abbrev pub is_bad_service : Draft → Service → Bool
is_bad_service m s =
    not (nat_lt 0 (length s.outputs))
    || (has_stranger m s
    || (list_any (is_among (s.outputs ++ s.encapsulated)) s.input_decisions
    || reaches_unlisted m s))

abbrev pub has_bad_service : Draft → Bool
has_bad_service m = list_any (is_bad_service m) m.services
