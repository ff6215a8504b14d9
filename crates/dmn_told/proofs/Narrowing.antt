-- What is told of a parameter with one domain more.
use Rattle.std.proofs.Common.{◌≡◌, ◌∙◌, refl, sym, ap, subst, ℕ, List, [], ◌∷◌, ◌++◌, map, reverse, true, ◌<◌, length, get_or}
use Rattle.std.specs.Prelude.{bytes_eq, string_bytes}
use Rattle.feel_value.proofs.Booleans.{both_true}
use Rattle.feel_value.specs.Datum.{Datum}
use Rattle.feel_value.specs.Limits.{is_value}
use Rattle.dmn_form.specs.Model.{Name}
use Rattle.dmn_ranges.proofs.Joins.{and_both}
use Rattle.dmn_ranges.proofs.SoundDomains.{any_in}
use Rattle.dmn_ranges.proofs.SoundMembers.{members_within, plain_within, range_within, reached_kept}
use Rattle.dmn_ranges.specs.Domains.{meets}
use Rattle.dmn_ranges.specs.Ranges.{Members, extent_of, lie_in, lies_in, lies_within, members_of, plain, reached}
use Rattle.dmn_ranges.specs.Steps.{anything}
use Rattle.dmn_ranges.specs.declared.range.MemberRange.{MemberRange}
use Rattle.dmn_ranges.specs.declared.range.ParameterRange.{ParameterRange}
use Rattle.dmn_ranges.specs.declared.range.Range.{Range}
use Rattle.dmn_told.specs.Covered.{IsCovered, Narrows}
use Rattle.dmn_told.specs.Parts.{parts}
use Rattle.dmn_told.specs.Told.{IsMet, IsMetAlong}
use Rattle.dmn_told.specs.declared.domains.Domain.{Domain}

-- nothing is known of it
pub any_covered : (ds : List Domain) (n : Name) (p : ParameterRange) → p.range ≡ anything → p.members.items ≡ [] → IsCovered ds n p
any_covered ds n p range members v is met =
    let P : Range → Type 0 = λ r. lies_within (r, members_of p.members.items) v ≡ true in
    let Q : List MemberRange → Type 0 = λ ms. lies_within (anything, members_of ms) v ≡ true in
    subst P (sym range) (subst Q (sym members) (plain_within anything v (any_in v is)))

-- its own domain
pub own_narrows : (d : Domain) (n : Name) (old new : ParameterRange) → parts (string_bytes d.name) ≡ string_bytes d.name ∷ []
    → ((v : Datum) → is_value v ≡ true → (bytes_eq (string_bytes d.name) n ≡ true → meets d.tests v ≡ true) → lies_in old.range v ≡ true → lies_in new.range v ≡ true) → new.members ≡ old.members → Narrows d n old new
own_narrows d n old new whole tells same v is met h =
    let m : IsMetAlong (string_bytes d.name ∷ []) n d.tests v = subst (λ (ps : List Name). IsMetAlong ps n d.tests v) whole met in
    and_both (lies_in new.range v) (lie_in (members_of new.members.items) v) (tells v is m (range_within (extent_of old) v h))
    (subst (λ ms. lie_in (members_of ms.items) v ≡ true) (sym same) (members_within (extent_of old) v h))

-- nothing more
pub same_narrows : (d : Domain) (n : Name) (p : ParameterRange) → Narrows d n p p
same_narrows d n p v is met h = h

lie_more : (ms : List MemberRange) (m : MemberRange) (v : Datum) → lie_in (members_of ms) v ≡ true → lies_in m.range (reached (map string_bytes m.path.items) v) ≡ true → lie_in (members_of (ms ++ m ∷ [])) v ≡ true
lie_more [] m v h k = and_both (lies_in m.range (reached (map string_bytes m.path.items) v)) true k refl
lie_more (x ∷ ms) m v h k =
    let q = both_true (lies_in x.range (reached (map string_bytes x.path.items) v)) (lie_in (members_of ms) v) h in
    and_both (lies_in x.range (reached (map string_bytes x.path.items) v)) (lie_in (members_of (ms ++ m ∷ [])) v) q.0 (lie_more ms m v q.1 k)

-- the domain of a member
pub member_narrows : (d : Domain) (n : Name) (old new : ParameterRange) (m : MemberRange) (first rest : List ℕ) → parts (string_bytes d.name) ≡ first ∷ parts rest → bytes_eq first n ≡ true → map string_bytes m.path.items ≡ reverse (parts rest)
    → ((v : Datum) → is_value v ≡ true → meets d.tests v ≡ true → lies_in m.range v ≡ true) → new.range ≡ old.range → new.members.items ≡ old.members.items ++ m ∷ [] → Narrows d n old new
member_narrows d n old new m first rest split same path tells range members v is met h =
    let along : IsMetAlong (first ∷ parts rest) n d.tests v = subst (λ (ps : List Name). IsMetAlong ps n d.tests v) split met in
    let there : List Name = reverse (parts rest) in
    let P : List Name → Type 0 = λ ns. lies_in m.range (reached ns v) ≡ true in
    let one : P (map string_bytes m.path.items) = subst P (sym path) (tells (reached there v) (reached_kept there v is) (along same)) in
    let all : lie_in (members_of new.members.items) v ≡ true = subst (λ (ms : List MemberRange). lie_in (members_of ms) v ≡ true) (sym members) (lie_more old.members.items m v (members_within (extent_of old) v h) one) in
    and_both (lies_in new.range v) (lie_in (members_of new.members.items) v) (subst (λ (r : Range). lies_in r v ≡ true) (sym range) (range_within (extent_of old) v h)) all

-- what is met of all is met of the one at a place
pub met_at : (ds : List Domain) (n : Name) (i : ℕ) (d : Domain) → i < length ds → d ≡ get_or ds i d → (v : Datum) → IsMet ds n v → IsMetAlong (parts (string_bytes d.name)) n d.tests v
met_at ds n i d inside is v met = subst (λ (x : Domain). IsMetAlong (parts (string_bytes x.name)) n x.tests v) (sym is) (met i d inside)

-- one domain more of all
pub covered_by_one : (ds : List Domain) (n : Name) (d : Domain) (old new : ParameterRange) → ((v : Datum) → IsMet ds n v → IsMetAlong (parts (string_bytes d.name)) n d.tests v) → Narrows d n old new → IsCovered ds n old → IsCovered ds n new
covered_by_one ds n d old new among narrows covered v is met = narrows v is (among v met) (covered v is met)
