-- What the hits of a table's rules say of its result.
use Rattle.std.proofs.Common.{◌≡◌, ◌∙◌, sym, ap, refl, ℕ, zero, suc, ◌<◌, ◌≤◌, List, [], ◌∷◌, length, Bool, true, false, Option, None, Some, arith}
use Rattle.std.specs.List.{slice_get, All}
use Rattle.std.proofs.lemmas.Option.{same_Some}
use Rattle.feel_value.specs.Datum.{Datum}
use Rattle.feel_value.specs.Found.{each, ◌>>=◌, outcome_from}
use Rattle.feel_value.specs.Limits.{is_value}
use Rattle.feel_text.specs.Meaning.{Bindings}
use Rattle.dmn_table.specs.Hits.{does_hit, hit_of, kept, values_of}
use Rattle.dmn_table.specs.Priority.{Hit}
use Rattle.dmn_table.specs.Result.{found_hits, policy_result, result_from, table_result}
use Rattle.dmn_table.specs.Table.{Table}
use Rattle.dmn_analysis.specs.Claims.{AreAsked, AreInputs, IsComplete, IsUniqueAmong}
use Rattle.dmn_analysis.specs.declared.asked.Asked.{Asked}

-- ---- each

cons_each : {X : Type 0} (o : Option X) (p : Option (List X)) (ys : List X) → (o >>= λ y. p >>= λ ys. Some (y ∷ ys)) ≡ Some ys → (y : X) × (zs : List X) × (o ≡ Some y) × (p ≡ Some zs) × (ys ≡ y ∷ zs)
cons_each None p ys e = cc
cons_each (Some y) None ys e = cc
cons_each (Some y) (Some zs) ys e = (y, zs, refl, refl, sym (same_Some (y ∷ zs) ys e))

each_length : {X Y : Type 0} (f : X → Option Y) (xs : List X) (ys : List Y) → each f xs ≡ Some ys → length ys ≡ length xs
each_length f [] ys e = ap length (sym (same_Some [] ys e))
each_length f (x ∷ xs) ys e =
    let parts = cons_each (f x) (each f xs) ys e in
    ap length parts.4 ∙ ap suc (each_length f xs parts.1 parts.3)

-- ---- one is kept

abbrev Begins : {X : Type 0} → List X → Type 0
Begins {X} xs = (y : X) × (ys : List X) × (xs ≡ y ∷ ys)

is_kept : {X : Type 0} (f : X → Option Bool) (xs : List X) (k : ℕ) (x : X) (answers : List Bool) → slice_get xs k ≡ Some x → f x ≡ Some true → each f xs ≡ Some answers → Begins (kept xs answers)
is_kept f [] k x answers here met e = cc
is_kept f (z ∷ zs) k x answers here met e =
    let parts = cons_each (f z) (each f zs) answers e in
    go k parts.0 parts.1 parts.2 parts.4 here (λ j at. is_kept f zs j x parts.1 at met parts.3)
  where
    go : (k : ℕ) (b : Bool) (bs : List Bool) → f z ≡ Some b → answers ≡ b ∷ bs → slice_get (z ∷ zs) k ≡ Some x → ((j : ℕ) → slice_get zs j ≡ Some x → Begins (kept zs bs)) → Begins (kept (z ∷ zs) answers)
    go k true bs one is at later = (z, kept zs bs, ap (kept (z ∷ zs)) is)
    go zero false bs one is at later = let wrong : Some false ≡ Some true = sym one ∙ ap f (same_Some z x at) ∙ met in cc
    go (suc k) false bs one is at later = let found = later k at in (found.0, found.1, ap (kept (z ∷ zs)) is ∙ found.2)

-- ---- none is kept, and at most one

none_kept : {X : Type 0} (f : X → Option Bool) (xs : List X) (answers : List Bool) → ((k : ℕ) (x : X) → slice_get xs k ≡ Some x → f x ≡ Some true → ⊥) → each f xs ≡ Some answers → length (kept xs answers) ≤ 0
none_kept f [] answers none e = omega arith
none_kept f (z ∷ zs) answers none e =
    let parts = cons_each (f z) (each f zs) answers e in
    go parts.0 parts.1 parts.2 parts.4 (none_kept f zs parts.1 (λ k x at met. none (suc k) x at met) parts.3)
  where
    go : (b : Bool) (bs : List Bool) → f z ≡ Some b → answers ≡ b ∷ bs → length (kept zs bs) ≤ 0 → length (kept (z ∷ zs) answers) ≤ 0
    go true bs one is later = absurd (none 0 z refl one)
    go false bs one is later = rw is later

one_kept : {X : Type 0} (f : X → Option Bool) (xs : List X) (answers : List Bool) → ((i j : ℕ) (x y : X) → i < j → slice_get xs i ≡ Some x → slice_get xs j ≡ Some y → f x ≡ Some true → f y ≡ Some true → ⊥)
    → each f xs ≡ Some answers → length (kept xs answers) ≤ 1
one_kept f [] answers none e = omega arith
one_kept f (z ∷ zs) answers none e =
    let parts = cons_each (f z) (each f zs) answers e in
    go parts.0 parts.1 parts.2 parts.3 parts.4
    (one_kept f zs parts.1 (λ i j x y less here there first second. let more : suc i < suc j = omega (arith, less) in none (suc i) (suc j) x y more here there first second) parts.3)
  where
    go : (b : Bool) (bs : List Bool) → f z ≡ Some b → each f zs ≡ Some bs → answers ≡ b ∷ bs → length (kept zs bs) ≤ 1 → length (kept (z ∷ zs) answers) ≤ 1
    go true bs one rest is later =
        let few : length (kept zs bs) ≤ 0 = none_kept f zs bs (λ k x at met. let less : 0 < suc k = omega arith in none 0 (suc k) z x less refl at one met) rest in
        rw is (omega (arith, few))
    go false bs one rest is later = rw is later

-- ---- the laws

inputs_of : (t : Table) (m : Bindings) (values : List Datum) → values_of m t.inputs ≡ Some values → All (λ v. is_value v ≡ true) values → AreInputs (length t.inputs) values
inputs_of t m values e lawful = record { one_each = each_length _ t.inputs values e; lawful = lawful }

from_hits : (t : Table) (m : Bindings) (o : Option (List Hit)) → ((hs : List Hit) → o ≡ Some hs → Begins hs) → outcome_from (result_from t m) o ≡ outcome_from (policy_result t.policy) o
from_hits t m None begins = refl
from_hits t m (Some []) begins = let b = begins [] refl in let e = b.2 in cc
from_hits t m (Some (h ∷ hs)) begins = refl

same_length : {X Y : Type 0} (f : X → Option Y) (xs : List X) (ys : List Y) → each f xs ≡ Some ys → Begins xs → Begins ys
same_length f xs [] e begins = let n : length xs ≡ 0 = sym (each_length f xs [] e) in let m = ap length begins.2 in absurd (omega (arith, n, m))
same_length f xs (y ∷ ys) e begins = (y, ys, refl)

-- the rules that hit, with their answers
hits_parts : (t : Table) (m : Bindings) (values : List Datum) (hs : List Hit) → values_of m t.inputs ≡ Some values → found_hits t m ≡ Some hs
    → (answers : List Bool) × (each (does_hit m values) t.rules ≡ Some answers) × (each (hit_of t.outputs m) (kept t.rules answers) ≡ Some hs)
hits_parts t m values hs e found = go (each (does_hit m values) t.rules) refl (sym (ap (λ o. (o >>= λ values. each (does_hit m values) t.rules >>= λ answers. Some (kept t.rules answers)) >>= λ rules. each (hit_of t.outputs m) rules) e) ∙ found)
  where
    go : (o : Option (List Bool)) → each (does_hit m values) t.rules ≡ o → ((o >>= λ answers. Some (kept t.rules answers)) >>= λ rules. each (hit_of t.outputs m) rules) ≡ Some hs
        → (answers : List Bool) × (each (does_hit m values) t.rules ≡ Some answers) × (each (hit_of t.outputs m) (kept t.rules answers) ≡ Some hs)
    go None is h = cc
    go (Some answers) is h = (answers, is, h)

pub no_default : (t : Table) (asked : List Asked) (m : Bindings) (values : List Datum) → IsComplete t asked → values_of m t.inputs ≡ Some values → All (λ v. is_value v ≡ true) values → AreAsked asked values
    → table_result t m ≡ outcome_from (policy_result t.policy) (found_hits t m)
no_default t asked m values complete e lawful all =
    from_hits t m (found_hits t m) (λ hs found.
    let parts = hits_parts t m values hs e found in
    let hit = complete.hit m values (inputs_of t m values e lawful) all in
    same_length (hit_of t.outputs m) (kept t.rules parts.0) hs parts.2
    (is_kept (does_hit m values) t.rules hit.place hit.rule parts.0 hit.there hit.hits parts.1))

pub one_hit : (t : Table) (asked : List Asked) (m : Bindings) (values : List Datum) (hs : List Hit) → IsUniqueAmong t asked → values_of m t.inputs ≡ Some values → All (λ v. is_value v ≡ true) values → AreAsked asked values
    → found_hits t m ≡ Some hs → length hs ≤ 1
one_hit t asked m values hs unique e lawful all found =
    let parts = hits_parts t m values hs e found in
    let few = one_kept (does_hit m values) t.rules parts.0 (unique m values (inputs_of t m values e lawful) all) parts.1 in
    omega (arith, few, each_length (hit_of t.outputs m) (kept t.rules parts.0) hs parts.2)
