-- Services that are told one after another.
use Rattle.std.proofs.Common.{◌≡◌, ◌∙◌, ◌+◌, ◌<◌, ℕ, zero, suc, take, List, [], ◌∷◌, ◌++◌, append-nil, append_assoc, Bool, true, false, ◌||◌, map, drop, get_or, length, refl, sym, ap}
use Rattle.std.specs.List.{flat_map, list_any}
use Rattle.std.proofs.lemmas.List.{at_drop_more, map-append}
use Rattle.std.proofs.lemmas.Grind.{flat_map-append}
use Rattle.std.proofs.lemmas.List.Folds.{list_any-append}
use Rattle.desk_lines.specs.Lines.{ended}
use Rattle.dmn_form.specs.Model.{Name}
use Rattle.dmn_form.specs.declared.written.WrittenService.{WrittenService}
use Rattle.dmn_service.specs.Places.{name_at}
use Rattle.dmn_ranges.specs.Services.{told_at}
use Rattle.dmn_ranges.specs.declared.outcomes.Outcomes.{Outcomes}
use Rattle.dmn_told.specs.declared.domains.Domain.{Domain}
use Rattle.dmn_told.specs.declared.told.ServiceTold.{ServiceTold}
use Rattle.desk_ranges.specs.Gives.{IsMore, Looked, TellsEach, fails_if, lines_if, written_name}
use Rattle.desk_ranges.specs.Lines.{decision_line, decision_lines, line_at, service_line, service_lines}
use Rattle.desk_ranges.specs.declared.gives.Gives.{Gives}

or_none : (b : Bool) → (b || false) ≡ b
or_none true = refl
or_none false = refl

pub none_told : (text : List ℕ) (ds : List Domain) (g : Gives) → g.text.items ≡ [] → g.can_fail ≡ false → TellsEach text ds [] g
none_told text ds g lines fails = record { looked = []; each = refl; lines = lines; fails = fails }

pub one_more : (text : List ℕ) (ds : List Domain) (ns : List Name) (n : Name) (old new : Gives) → TellsEach text ds ns old → IsMore text ds n old new → TellsEach text ds (ns ++ n ∷ []) new
one_more text ds ns n old new so more =
    let l : Looked text ds = record { name = n; told = more.told; is = more.is } in
    let lines_of : Looked text ds → List ℕ = λ x. flat_map ended (lines_if x.name x.told) in
    let fails_of : Looked text ds → Bool = λ x. fails_if x.told in
    record {
      looked = so.looked ++ l ∷ [];
      each = map-append (λ (x : Looked text ds). x.name) so.looked (l ∷ []) ∙ ap (λ xs. xs ++ n ∷ []) so.each;
      lines = more.lines ∙ ap (λ t. t ++ lines_of l) so.lines ∙ ap (λ t. flat_map lines_of so.looked ++ t) (sym (append-nil (lines_of l))) ∙ sym (flat_map-append lines_of so.looked (l ∷ []));
      fails = more.fails ∙ ap (λ b. b || fails_of l) so.fails ∙ ap (λ b. list_any fails_of so.looked || b) (sym (or_none (fails_of l))) ∙ sym (list_any-append fails_of so.looked (l ∷ []));
    }

-- the line of one place more
pub lines_turn : (line : ℕ → List ℕ) (whole old new : List ℕ) (qs : List ℕ) (i : ℕ) → whole ≡ old ++ flat_map ended (map line (drop i qs)) → i < length qs
    → new ≡ old ++ ended (line (get_or qs i 0)) → whole ≡ new ++ flat_map ended (map line (drop (i + 1) qs))
lines_turn line whole old new qs i so_far more pushed =
    so_far ∙ at_drop_more (λ ps. old ++ flat_map ended (map line ps)) qs i 0 more
    ∙ sym (append_assoc old (ended (line (get_or qs i 0))) (flat_map ended (map line (drop (i + 1) qs))))
    ∙ ap (λ zs. zs ++ flat_map ended (map line (drop (i + 1) qs))) (sym pushed)

-- the line of one decision more
pub decision_turn : (service : Name) (t : ServiceTold) (whole old new : List ℕ) (qs : List ℕ) (i : ℕ) (decision : Name) (o : Outcomes) → whole ≡ old ++ flat_map ended (decision_lines service t (drop i qs)) → i < length qs
    → decision ≡ name_at t.items.now (get_or qs i 0) → o ≡ told_at t.decisions.items (get_or qs i 0) → new ≡ old ++ ended (decision_line service (decision, o))
    → whole ≡ new ++ flat_map ended (decision_lines service t (drop (i + 1) qs))
decision_turn service t whole old new qs i decision o so_far more named told pushed =
    let q = get_or qs i 0 in
    lines_turn (line_at service t) whole old new qs i so_far more
    (pushed ∙ ap (λ (n : Name). old ++ ended (decision_line service (n, o))) named ∙ ap (λ (p : Outcomes). old ++ ended (decision_line service (name_at t.items.now q, p))) told)

-- the lines of a service: its own, and then those of its decisions
pub service_turn : (service : Name) (t : ServiceTold) (old first new : List ℕ) → first ≡ old ++ ended (service_line service t.result)
    → new ≡ first ++ flat_map ended (decision_lines service t t.plan.now.order.items) → new ≡ old ++ flat_map ended (service_lines service t)
service_turn service t old first new result decisions =
    let lines = flat_map ended (decision_lines service t t.plan.now.order.items) in
    decisions ∙ ap (λ (xs : List ℕ). xs ++ lines) result ∙ append_assoc old (ended (service_line service t.result)) lines

pub first_names : (k : ℕ) (services : List WrittenService) → map written_name (take k services) ≡ take k (map written_name services)
first_names zero services = refl
first_names (suc k) [] = refl
first_names (suc k) (s ∷ services) = ap (λ (ns : List Name). written_name s ∷ ns) (first_names k services)
