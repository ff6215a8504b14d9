-- A rule whose entries break no limit misses where one of them is not met.
use Rattle.std.proofs.Common.{◌≡◌, ◌≢◌, ◌∙◌, sym, ap, ap₂, refl, ℕ, zero, suc, List, [], ◌∷◌, Bool, true, false, ◌&&◌, Option, None, Some, is_some}
use Rattle.std.proofs.lemmas.List.Elements.{All-head, All-tail}
use Rattle.std.specs.List.{zip, list_all, slice_get}
use Rattle.std.proofs.lemmas.Option.{same_Some}
use Rattle.feel_value.specs.Datum.{Datum}
use Rattle.feel_text.specs.Meaning.{Bindings}
use Rattle.feel_text.specs.Satisfied.{satisfied, Answer, Told, Broken, held_of}
use Rattle.feel_text.specs.Tests.{Tests}
use Rattle.feel_text.specs.declared.held.Held.TheVariants as held
use Rattle.feel_value.specs.declared.logic.Truth.TheVariants.{Yes, No, Unknown}
use Rattle.feel_value.specs.Found.{each, ◌>>=◌}
use Rattle.dmn_table.specs.Hits.{does_hit, is_satisfied}
use Rattle.dmn_table.specs.Table.{Rule}
use Rattle.table_classes.specs.Unbroken.{KeepLimits}

-- whether each of these tests is met by its value
abbrev pub answers_of : Bindings → List (Tests × Datum) → Option (List Bool)
answers_of m = each (λ p. is_satisfied (satisfied p.0 p.1 m))

abbrev Keeps : Tests → Type 0
Keeps t = (value : Datum) (m : Bindings) → satisfied t value m ≢ Broken

told : (a : Answer) → a ≢ Broken → is_some (is_satisfied a) ≡ true
told (Told t) h = refl
told Broken h = absurd (h refl)

both_some : {X : Type 0} (o : Option X) (p : Option (List X)) → is_some o ≡ true → is_some p ≡ true → is_some (o >>= λ y. p >>= λ ys. Some (y ∷ ys)) ≡ true
both_some (Some x) (Some xs) e f = refl
both_some (Some x) None e f = f
both_some None p e f = e

pub all_told : (m : Bindings) (tests : List Tests) (values : List Datum) → KeepLimits tests → is_some (answers_of m (zip tests values)) ≡ true
all_told m [] values h = refl
all_told m (t ∷ ts) [] h = refl
all_told m (t ∷ ts) (v ∷ vs) h =
    both_some (is_satisfied (satisfied t v m)) (answers_of m (zip ts vs))
    (told (satisfied t v m) (All-head Keeps t ts h v m))
    (all_told m ts vs (All-tail Keeps t ts h))

-- a test that is not met, and breaks no limit
missed : (a : Answer) → held.No ≡ held_of a → is_satisfied a ≡ Some false
missed (Told Yes) h = cc
missed (Told No) h = refl
missed (Told Unknown) h = refl
missed Broken h = cc

some_bool : (o : Option (List Bool)) (f : List Bool → Bool) → is_some o ≡ true → is_some (o >>= λ answers. Some (f answers)) ≡ true
some_bool (Some ys) f e = refl
some_bool None f e = e

goes_on : (o : Option (List Bool)) (hit : Bool) (whole : Option Bool) → is_some whole ≡ true → whole ≡ ((o >>= λ ys. Some (false ∷ ys)) >>= λ answers. Some (hit && list_all (λ yes. yes) answers)) → Some false ≡ whole
goes_on None hit whole e f = let none : is_some whole ≡ false = ap is_some f in let bad : true ≡ false = sym e ∙ none in cc
goes_on (Some ys) true whole e f = sym f
goes_on (Some ys) false whole e f = sym f

-- Where the rest of the entries begins with one that is not met, the rule misses.
pub at_miss : (m : Bindings) (values : List Datum) (rule : Rule) (hit : Bool) (t : Tests) (v : Datum) (ts rests : List Tests) (vs others : List Datum) → KeepLimits rule.tests
    → does_hit m values rule ≡ (answers_of m (zip rests others) >>= λ answers. Some (hit && list_all (λ yes. yes) answers))
    → rests ≡ t ∷ ts → others ≡ v ∷ vs → held.No ≡ held_of (satisfied t v m) → Some false ≡ does_hit m values rule
at_miss m values rule hit t v ts rests vs others keep answer first second unmet =
    let whole = some_bool (answers_of m (zip rule.tests values)) (λ answers. list_all (λ yes. yes) answers) (all_told m rule.tests values keep) in
    goes_on (answers_of m (zip ts vs)) hit (does_hit m values rule) whole
    (answer
    ∙ ap (λ xs. answers_of m (zip xs others) >>= λ answers. Some (hit && list_all (λ yes. yes) answers)) first
    ∙ ap (λ xs. answers_of m (zip (t ∷ ts) xs) >>= λ answers. Some (hit && list_all (λ yes. yes) answers)) second
    ∙ ap (λ o. (o >>= λ y. answers_of m (zip ts vs) >>= λ ys. Some (y ∷ ys)) >>= λ answers. Some (hit && list_all (λ yes. yes) answers)) (missed (satisfied t v m) unmet))

-- a rule whose entries break no limit hits or misses
pub hits_or_misses : (m : Bindings) (values : List Datum) (rule : Rule) → KeepLimits rule.tests → None ≡ does_hit m values rule → ⊥
hits_or_misses m values rule keep none =
    let whole = some_bool (answers_of m (zip rule.tests values)) (λ answers. list_all (λ yes. yes) answers) (all_told m rule.tests values keep) in
    let bad : false ≡ true = ap is_some none ∙ whole in cc

-- ---- one entry that is not met

no_and : (b : Bool) → (b && false) ≡ false
no_and true = refl
no_and false = refl

first_missed : (o : Option Bool) (p : Option (List Bool)) → o ≡ Some false → is_some p ≡ true → ((o >>= λ y. p >>= λ ys. Some (y ∷ ys)) >>= λ answers. Some (list_all (λ yes. yes) answers)) ≡ Some false
first_missed None p e f = cc
first_missed (Some false) None e f = cc
first_missed (Some false) (Some ys) e f = refl
first_missed (Some true) p e f = cc

later_missed : (o : Option Bool) (p : Option (List Bool)) → is_some o ≡ true → (p >>= λ answers. Some (list_all (λ yes. yes) answers)) ≡ Some false
    → ((o >>= λ y. p >>= λ ys. Some (y ∷ ys)) >>= λ answers. Some (list_all (λ yes. yes) answers)) ≡ Some false
later_missed None p e f = cc
later_missed (Some b) None e f = cc
later_missed (Some b) (Some ys) e f = ap (λ o. o >>= λ a. Some (b && a)) f ∙ ap Some (no_and b)

missed_in : (m : Bindings) (tests : List Tests) (values : List Datum) (k : ℕ) (t : Tests) (v : Datum) → KeepLimits tests → slice_get tests k ≡ Some t → slice_get values k ≡ Some v
    → held.No ≡ held_of (satisfied t v m) → (answers_of m (zip tests values) >>= λ answers. Some (list_all (λ yes. yes) answers)) ≡ Some false
missed_in m [] values k t v h there value unmet = cc
missed_in m (s ∷ ss) [] k t v h there value unmet = cc
missed_in m (s ∷ ss) (w ∷ ws) zero t v h there value unmet =
    first_missed (is_satisfied (satisfied s w m)) (answers_of m (zip ss ws))
    (ap₂ (λ s w. is_satisfied (satisfied s w m)) (same_Some s t there) (same_Some w v value) ∙ missed (satisfied t v m) unmet)
    (all_told m ss ws (All-tail Keeps s ss h))
missed_in m (s ∷ ss) (w ∷ ws) (suc k) t v h there value unmet =
    later_missed (is_satisfied (satisfied s w m)) (answers_of m (zip ss ws)) (told (satisfied s w m) (All-head Keeps s ss h w m))
    (missed_in m ss ws k t v (All-tail Keeps s ss h) there value unmet)

-- a rule misses where one of its entries isn't met
pub missed_at : (m : Bindings) (values : List Datum) (rule : Rule) (k : ℕ) (t : Tests) (v : Datum) → KeepLimits rule.tests → slice_get rule.tests k ≡ Some t → slice_get values k ≡ Some v
    → held_of (satisfied t v m) ≡ held.No → does_hit m values rule ≡ Some false
missed_at m values rule k t v keep there value unmet = missed_in m rule.tests values k t v keep there value (sym unmet)
