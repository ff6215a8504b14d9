-- Rules that are asked one column after another hit just where they do when all their entries are asked.
use Rattle.std.proofs.Common.{◌≡◌, ◌≢◌, ◌∙◌, sym, ap, refl, ℕ, ◌+◌, ◌<◌, ◌≤◌, List, [], ◌∷◌, ◌++◌, drop, get_or, length, map, Bool, true, false, ◌&&◌, Option, None, Some, is_some, if◌then◌else◌, append_assoc, subst}
use Rattle.std.proofs.lemmas.List.{append-nil, at_drop_more, drop_all, get_or-map, length-map, map_push}
use Rattle.std.proofs.lemmas.List.Elements.{All-drop, All-map, All-push}
use Rattle.std.specs.List.{zip, list_all}
use Rattle.feel_value.specs.Datum.{Datum}
use Rattle.feel_value.specs.Found.{each, ◌>>=◌}
use Rattle.feel_text.specs.Expr.{Expr}
use Rattle.feel_text.specs.Meaning.{Bindings}
use Rattle.feel_text.specs.Satisfied.{satisfied, Broken}
use Rattle.feel_text.specs.Tests.{Tests}
use Rattle.dmn_table.specs.Columns.{asked_view, unasked, hits_by, hits_from, left_hits, hitting, KeepTheirLimits}
use Rattle.dmn_table.specs.Hits.{does_hit, kept, values_of}
use Rattle.dmn_table.specs.Parts.{rule_view}
use Rattle.dmn_table.specs.RuleOutputs.{hits_among}
use Rattle.dmn_table.specs.Table.{Rule}
use Rattle.dmn_table.specs.Unbroken.{AllKeepLimits}
use Rattle.table_classes.specs.Unbroken.{KeepLimits}
use Rattle.dmn_table.specs.declared.columns.Asked.{Asked}
use Rattle.dmn_table.specs.declared.table.Rule as rule
use Rattle.dmn_table.proofs.Unbroken.{answers_of, all_told}

abbrev pub Pair : Type 0
Pair = rule.Rule × Bool

and_true : (b : Bool) → (b && true) ≡ b
and_true true = refl
and_true false = refl

zip_none : {A B : Type 0} (xs : List A) → zip {X = B} xs [] ≡ []
zip_none [] = refl
zip_none (x ∷ xs) = refl

abbrev Keeps : Tests → Type 0
Keeps t = (value : Datum) (m : Bindings) → satisfied t value m ≢ Broken

-- ---- many rules

-- what was found, and then this
abbrev pub onto : Option (List Rule) → Option (List Rule) → Option (List Rule)
onto o p = o >>= λ xs. p >>= λ ys. Some (xs ++ ys)

pub onto_none : (o : Option (List Rule)) → onto o None ≡ None
onto_none None = refl
onto_none (Some xs) = refl

pub onto_nothing : (o : Option (List Rule)) → onto o (Some []) ≡ o
onto_nothing None = refl
onto_nothing (Some xs) = ap Some (append-nil xs)

pub nothing_onto : (o : Option (List Rule)) → onto (Some []) o ≡ o
nothing_onto None = refl
nothing_onto (Some xs) = refl

onto_assoc : (o p q : Option (List Rule)) → onto (onto o p) q ≡ onto o (onto p q)
onto_assoc None p q = refl
onto_assoc (Some xs) None q = refl
onto_assoc (Some xs) (Some ys) None = refl
onto_assoc (Some xs) (Some ys) (Some zs) = ap Some (append_assoc xs ys zs)

-- a rule, where it hits
abbrev one : Option Bool → Rule → Option (List Rule)
one o r = o >>= λ hit. Some (if hit then r ∷ [] else [])

first_onto : (o : Option Bool) (r : Rule) (p : Option (List Rule)) → (o >>= λ hit. p >>= λ rules. Some (if hit then r ∷ rules else rules)) ≡ onto (one o r) p
first_onto None r p = refl
first_onto (Some true) r None = refl
first_onto (Some true) r (Some rules) = refl
first_onto (Some false) r None = refl
first_onto (Some false) r (Some rules) = refl

left_append : (m : Bindings) (values : List Datum) (k : ℕ) (xs ys : List Pair) → left_hits m values k (xs ++ ys) ≡ onto (left_hits m values k xs) (left_hits m values k ys)
left_append m values k [] ys = sym (nothing_onto (left_hits m values k ys))
left_append m values k (x ∷ xs) ys =
    first_onto (hits_from m values k x) (rule_view x.0) (left_hits m values k (xs ++ ys))
    ∙ ap (onto (one (hits_from m values k x) (rule_view x.0))) (left_append m values k xs ys)
    ∙ sym (onto_assoc (one (hits_from m values k x) (rule_view x.0)) (left_hits m values k xs) (left_hits m values k ys))
    ∙ ap (λ o. onto o (left_hits m values k ys)) (sym (first_onto (hits_from m values k x) (rule_view x.0) (left_hits m values k xs)))

-- what the rules so far give, by the values of the later columns, and those to come, by the value of this one too
abbrev pub GoesOn : Bindings → Datum → ℕ → List Pair → List Pair → List Pair → Type 0
GoesOn m v k all found rest = (values : List Datum) → left_hits m (v ∷ values) k all ≡ onto (left_hits m values (k + 1) found) (left_hits m (v ∷ values) k rest)

module _ (m : Bindings) (v : Datum) (k : ℕ) (all found rest : List Pair) (a : Pair) (so_far : GoesOn m v k all found (a ∷ rest)) where
  next : (b : Bool) → ((values : List Datum) → hits_from m (v ∷ values) k a ≡ hits_from m values (k + 1) (a.0, b)) → (values : List Datum)
      → left_hits m (v ∷ values) k all ≡ onto (onto (left_hits m values (k + 1) found) (one (hits_from m values (k + 1) (a.0, b)) (rule_view a.0))) (left_hits m (v ∷ values) k rest)
  next b asks values =
      let first = one (hits_from m values (k + 1) (a.0, b)) (rule_view a.0) in
      let others = left_hits m (v ∷ values) k rest in
      so_far values
      ∙ ap (onto (left_hits m values (k + 1) found)) (first_onto (hits_from m (v ∷ values) k a) (rule_view a.0) others ∙ ap (λ o. onto (one o (rule_view a.0)) others) (asks values))
      ∙ sym (onto_assoc (left_hits m values (k + 1) found) first others)

  -- the rule is asked further
  pub asked_more : (b : Bool) (more : List Pair) → more ≡ found ++ (a.0, b) ∷ [] → ((values : List Datum) → hits_from m (v ∷ values) k a ≡ hits_from m values (k + 1) (a.0, b)) → GoesOn m v k all more rest
  asked_more b more pushed asks values =
      let last : Pair = (a.0, b) in
      let others = left_hits m (v ∷ values) k rest in
      let single : left_hits m values (k + 1) (last ∷ []) ≡ one (hits_from m values (k + 1) last) (rule_view a.0) =
      first_onto (hits_from m values (k + 1) last) (rule_view a.0) (Some []) ∙ onto_nothing (one (hits_from m values (k + 1) last) (rule_view a.0)) in
      next b asks values
      ∙ ap (λ o. onto o others)
      (sym (ap (left_hits m values (k + 1)) pushed ∙ left_append m values (k + 1) found (last ∷ []) ∙ ap (onto (left_hits m values (k + 1) found)) single))

  -- the rule misses, and is left out
  pub left_out : KeepLimits a.0.tests.items → ((values : List Datum) → hits_from m (v ∷ values) k a ≡ hits_from m values (k + 1) (a.0, false)) → GoesOn m v k all found rest
  left_out keeps asks values =
      let others = left_hits m (v ∷ values) k rest in
      next false asks values
      ∙ ap (λ o. onto (onto (left_hits m values (k + 1) found) (one o (rule_view a.0))) others) (misses (answers_of m (zip (drop (k + 1) a.0.tests.items) values)) (all_told m (drop (k + 1) a.0.tests.items) values (All-drop Keeps (k + 1) a.0.tests.items keeps)))
      ∙ ap (λ o. onto o others) (onto_nothing (left_hits m values (k + 1) found))
    where
      misses : (o : Option (List Bool)) → is_some o ≡ true → (o >>= λ answers. Some (false && list_all (λ yes. yes) answers)) ≡ Some false
      misses None e = cc
      misses (Some answers) e = refl

  -- an entry of the rule breaks a limit
  pub none_left : ((values : List Datum) → hits_from m (v ∷ values) k a ≡ None) → (values : List Datum) → left_hits m (v ∷ values) k all ≡ None
  none_left breaks values =
      let others = left_hits m (v ∷ values) k rest in
      so_far values
      ∙ ap (onto (left_hits m values (k + 1) found)) (first_onto (hits_from m (v ∷ values) k a) (rule_view a.0) others ∙ ap (λ o. onto (one o (rule_view a.0)) others) (breaks values))
      ∙ onto_none (left_hits m values (k + 1) found)

-- ---- at the first column, and behind the last

kept_first : (o : Option Bool) (p : Option (List Bool)) (r : Rule) (rules : List Rule)
    → (o >>= λ hit. (p >>= λ answers. Some (kept rules answers)) >>= λ more. Some (if hit then r ∷ more else more)) ≡ ((o >>= λ y. p >>= λ ys. Some (y ∷ ys)) >>= λ answers. Some (kept (r ∷ rules) answers))
kept_first None p r rules = refl
kept_first (Some hit) None r rules = refl
kept_first (Some true) (Some answers) r rules = refl
kept_first (Some false) (Some answers) r rules = refl

begun : (m : Bindings) (values : List Datum) (rules : List rule.Rule) → left_hits m values 0 (unasked rules) ≡ hits_among m values (map rule_view rules)
begun m values [] = refl
begun m values (r ∷ rules) =
    ap (λ o. does_hit m values (rule_view r) >>= λ hit. o >>= λ more. Some (if hit then rule_view r ∷ more else more)) (begun m values rules)
    ∙ kept_first (does_hit m values (rule_view r)) (each (does_hit m values) (map rule_view rules)) (rule_view r) (map rule_view rules)

ended : (m : Bindings) (k : ℕ) (asked : List Pair) → left_hits m [] k asked ≡ Some (hitting asked)
ended m k [] = refl
ended m k (a ∷ others) =
    ap (λ o. hits_from m [] k a >>= λ hit. o >>= λ rules. Some (if hit then rule_view a.0 ∷ rules else rules)) (ended m k others)
    ∙ ap (λ o. o >>= λ hit. Some (if hit then rule_view a.0 ∷ hitting others else hitting others))
    (ap (λ ps. answers_of m ps >>= λ answers. Some (a.1 && list_all (λ yes. yes) answers)) (zip_none (drop k a.0.tests.items)) ∙ ap Some (and_true a.1))

-- ---- what is found goes on

on_each : {X Y : Type 0} (o : Option X) (f g : X → Option Y) → ((x : X) → f x ≡ g x) → (o >>= f) ≡ (o >>= g)
on_each None f g h = refl
on_each (Some x) f g h = h x

-- no column was looked at
pub at_first : (m : Bindings) (inputs : List Expr) (rules : List rule.Rule) (asked : List Pair) → asked ≡ unasked rules
    → hits_by m inputs (map rule_view rules) ≡ (values_of m (drop 0 inputs) >>= λ values. left_hits m values 0 asked)
at_first m inputs rules asked e =
    on_each (values_of m inputs) (λ values. hits_among m values (map rule_view rules)) (λ values. left_hits m values 0 asked)
    (λ values. sym (ap (left_hits m values 0) e ∙ begun m values rules))

pub unasked_keep : (rules : List rule.Rule) (asked : List Pair) → asked ≡ unasked rules → AllKeepLimits rules → KeepTheirLimits asked
unasked_keep rules asked e keep = subst KeepTheirLimits (sym e) (All-map (λ (a : Pair). KeepLimits a.0.tests.items) (λ r. (r, true)) rules keep)

-- all columns were looked at
pub at_last : (m : Bindings) (inputs : List Expr) (rules : List Rule) (k : ℕ) (asked : List Pair) → hits_by m inputs rules ≡ (values_of m (drop k inputs) >>= λ values. left_hits m values k asked) → length inputs ≤ k
    → Some (hitting asked) ≡ hits_by m inputs rules
at_last m inputs rules k asked before past =
    sym (before ∙ ap (λ es. values_of m es >>= λ values. left_hits m values k asked) (drop_all k inputs past) ∙ ended m k asked)

-- ---- rules of the code

abbrev shown : Asked → Pair
shown a = (a.rule.now, a.is_hit)

module _ (asked : List Asked) (i : ℕ) (x : Asked) (here : x ≡ get_or asked i x) (more : i < length asked) where
  asked_here : asked_view (drop i asked) ≡ shown x ∷ asked_view (drop (i + 1) asked)
  asked_here = at_drop_more asked_view asked i x more ∙ ap (λ y. shown y ∷ asked_view (drop (i + 1) asked)) (sym here)

  kept_here : KeepTheirLimits (asked_view asked) → KeepLimits x.rule.now.tests.items
  kept_here keep =
      subst (λ (a : Pair). KeepLimits a.0.tests.items) (get_or-map shown asked i x (shown x) more ∙ ap shown (sym here))
      (keep i (shown x) (rw (length-map asked shown) more))

  module _ (m : Bindings) (v : Datum) (k : ℕ) (left : List Asked) (so_far : GoesOn m v k (asked_view asked) (asked_view left) (asked_view (drop i asked))) where
    now_at : GoesOn m v k (asked_view asked) (asked_view left) (shown x ∷ asked_view (drop (i + 1) asked))
    now_at = subst (GoesOn m v k (asked_view asked) (asked_view left)) asked_here so_far

    -- the rule at hand is asked further
    pub one_asked : (a : Asked) (new : List Asked) → new ≡ left ++ a ∷ [] → shown a ≡ (x.rule.now, a.is_hit)
        → ((values : List Datum) → hits_from m (v ∷ values) k (shown x) ≡ hits_from m values (k + 1) (x.rule.now, a.is_hit)) → GoesOn m v k (asked_view asked) (asked_view new) (asked_view (drop (i + 1) asked))
    one_asked a new pushed same asks =
        asked_more m v k (asked_view asked) (asked_view left) (asked_view (drop (i + 1) asked)) (shown x) now_at a.is_hit (asked_view new)
        (ap asked_view pushed ∙ map_push shown left a ∙ ap (λ p. asked_view left ++ p ∷ []) same) asks

    -- the rule at hand misses
    pub one_left_out : KeepTheirLimits (asked_view asked) → ((values : List Datum) → hits_from m (v ∷ values) k (shown x) ≡ hits_from m values (k + 1) (x.rule.now, false))
        → GoesOn m v k (asked_view asked) (asked_view left) (asked_view (drop (i + 1) asked))
    one_left_out keep asks =
        left_out m v k (asked_view asked) (asked_view left) (asked_view (drop (i + 1) asked)) (shown x) now_at (kept_here keep) asks

  pub one_kept : (left : List Asked) (a : Asked) (new : List Asked) → new ≡ left ++ a ∷ [] → x.rule.now ≡ a.rule.now → KeepTheirLimits (asked_view left) → KeepTheirLimits (asked_view asked) → KeepTheirLimits (asked_view new)
  one_kept left a new pushed same before keep =
      subst KeepTheirLimits (sym (ap asked_view pushed ∙ map_push shown left a))
      (All-push (λ (p : Pair). KeepLimits p.0.tests.items) (asked_view left) (shown a) before (subst (λ (r : rule.Rule). KeepLimits r.tests.items) same (kept_here keep)))

-- all rules were asked
pub all_asked : (asked : List Asked) (i : ℕ) (m : Bindings) (v : Datum) (k : ℕ) (found : List Pair) → GoesOn m v k (asked_view asked) found (asked_view (drop i asked)) → length asked ≤ i
    → (values : List Datum) → left_hits m (v ∷ values) k (asked_view asked) ≡ left_hits m values (k + 1) found
all_asked asked i m v k found before past values =
    before values ∙ ap (λ xs. onto (left_hits m values (k + 1) found) (left_hits m (v ∷ values) k (asked_view xs))) (drop_all i asked past)
    ∙ onto_nothing (left_hits m values (k + 1) found)
