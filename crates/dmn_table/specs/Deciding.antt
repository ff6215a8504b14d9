-- Which of the hits make the result.
use Rattle.std.specs.Prelude.{◌≡◌, ℤ, ℕ, List, [], ◌∷◌, map, take, length, nat_eq, Bool, not, Option, None, Some, option_map, if◌then◌else◌}
use Rattle.std.specs.List.{zip, list_all, filter, find, cons_option}
use Rattle.std.specs.Option.{is_some}
use Rattle.feel_value.specs.Datum.{Datum, number}
use Rattle.feel_value.specs.Logic.{is_yes}
use Rattle.feel_value.specs.Comparison.{equal}
use Rattle.dmn_table.specs.declared.hit_policy.HitPolicy.{HitPolicy}
use Rattle.dmn_table.specs.declared.hit_policy.HitPolicy.TheVariants.{Unique, Any, Priority, First, OutputOrder, RuleOrder, Collect, Sum, Least, Greatest, Count}
use Rattle.dmn_table.specs.Priority.{Hit, is_higher}
use Rattle.dmn_table.specs.Result.{first_of, numbers_of, least_of, greatest_of, policy_result}

-- hits, each with the number of its rule
abbrev pub Numbered : Type 0
Numbered = List (ℕ × Hit)

abbrev pub outputs_in : Numbered → List Datum
outputs_in hs = map (λ h. h.1.output) hs

-- whether each equals the first
abbrev pub are_equal : List Datum → Bool
are_equal ds = list_all (λ d. is_yes (equal (first_of ds) d)) ds

-- no hit has a higher priority than this one
abbrev pub is_highest : Numbered → ℕ × Hit → Bool
is_highest hs h = list_all (λ k. not (is_higher k.1.places h.1.places)) hs

-- those whose output is this number; none where there is none
abbrev pub with_output : Option ℤ → Numbered → Numbered
with_output None hs = []
with_output (Some z) hs = filter (λ h. is_yes (equal (number z) h.1.output)) hs

-- The hits that make the result. `U`: the only one, so none of two or more. `A`: all where their outputs are equal, otherwise
-- none. `P`: the first than which none has a higher priority. `F`: the first. `C+`: all, `C<` and `C>`: those whose output is the
-- least or the greatest number, and none where one output is no number. Under the other policies all do.
abbrev pub deciders : HitPolicy → Numbered → Numbered
deciders Unique hs = if nat_eq (length hs) 1 then hs else []
deciders Any hs = if are_equal (outputs_in hs) then hs else []
deciders Priority hs = cons_option (find (is_highest hs) hs) []
deciders First hs = take 1 hs
deciders OutputOrder hs = hs
deciders RuleOrder hs = hs
deciders Collect hs = hs
deciders Sum hs = if is_some (numbers_of (outputs_in hs)) then hs else []
deciders Least hs = with_output (option_map least_of (numbers_of (outputs_in hs))) hs
deciders Greatest hs = with_output (option_map greatest_of (numbers_of (outputs_in hs))) hs
deciders Count hs = hs

-- the numbers of the rules whose hits make the result
abbrev pub deciding : HitPolicy → List ℕ → List Hit → List ℕ
deciding p numbers hs = map (λ h. h.0) (deciders p (zip numbers hs))

-- where some hits make the result, it is the same without the others
abbrev pub IsMadeByDeciders : HitPolicy → Numbered → Type 0
IsMadeByDeciders p hs = (deciders p hs ≡ [] → ⊥) → policy_result p (map (λ h. h.1) (deciders p hs)) ≡ policy_result p (map (λ h. h.1) hs)
