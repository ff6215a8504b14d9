-- When a list of findings is empty.
use Rattle.std.proofs.Common.{◌≡◌, ℕ, ◌+◌, List, [], ◌∷◌, ◌++◌, refl, sym, ap₂, ◌∙◌, Bool, true, false, ◌||◌}
use Rattle.std.specs.List.{list_any}
use Rattle.std.proofs.lemmas.List.Folds.{list_any-append}
use Rattle.dmn_form.specs.Model.{Name, expression, table, list, context, context_with, Members, no_members, member, Entries, no_entries, entry}
use Rattle.dmn_form.specs.Draft.{WrittenTable, Logic, Written}
use Rattle.dmn_logic.specs.Parts.{texts_in, member_texts, entry_texts, tables_in, member_tables, entry_tables}
use Rattle.dmn_names.specs.Parts.{entry_names}
use Rattle.dmn_check.specs.declared.place.Step.{Step}
use Rattle.dmn_check.specs.declared.place.Step.TheVariants as step
use Rattle.dmn_check.specs.declared.place.Key.TheVariants as key
use Rattle.dmn_check.specs.declared.finding.Mistake.{Mistake}
use Rattle.dmn_check.specs.Findings.{Finding, behind, here, each_from, each_of}
use Rattle.dmn_check.specs.Look.{Look, logic_findings, member_findings, entry_findings, decision_findings, decisions_findings}
use Rattle.dmn_check.specs.Told.{have_any}

pub any-append : (fs gs : List Finding) → have_any (fs ++ gs) ≡ (have_any fs || have_any gs)
any-append [] gs = refl
any-append (f ∷ fs) gs = refl

pub any-behind : (s : Step) (fs : List Finding) → have_any (behind s fs) ≡ have_any fs
any-behind s [] = refl
any-behind s (f ∷ fs) = refl

pub any-here : (w : Mistake) (b : Bool) → have_any (here w b) ≡ b
any-here w true = refl
any-here w false = refl

any-each_from : {X : Type 0} (f : X → List Finding) (p : X → Bool) → ((x : X) → have_any (f x) ≡ p x) → (i : ℕ) (xs : List X) → have_any (each_from f i xs) ≡ list_any p xs
any-each_from f p h i [] = refl
any-each_from f p h i (x ∷ xs) =
    any-append (behind (step.Index i) (f x)) (each_from f (i + 1) xs)
    ∙ ap₂ (λ a b. a || b) (any-behind (step.Index i) (f x) ∙ h x) (any-each_from f p h (i + 1) xs)

pub any-each_of : {X : Type 0} (f : X → List Finding) (p : X → Bool) → ((x : X) → have_any (f x) ≡ p x) → (xs : List X) → have_any (each_of f xs) ≡ list_any p xs
any-each_of f p h xs = any-each_from f p h 0 xs

pub any-both : (fs gs : List Finding) (a b : Bool) → have_any fs ≡ a → have_any gs ≡ b → have_any (fs ++ gs) ≡ (a || b)
any-both fs gs a b e g = any-append fs gs ∙ ap₂ (λ x y. x || y) e g

pub any-inside : (s : Step) (fs : List Finding) (b : Bool) → have_any fs ≡ b → have_any (behind s fs) ≡ b
any-inside s fs b e = any-behind s fs ∙ e

regrouped : (u v x y : Bool) → ((u || v) || (x || y)) ≡ ((u || x) || (v || y))
regrouped true v x y = refl
regrouped false true true y = refl
regrouped false true false y = refl
regrouped false false x y = refl

only_text : (b : Bool) → b ≡ ((b || false) || false)
only_text true = refl
only_text false = refl

only_table : (b : Bool) → b ≡ (false || (b || false))
only_table true = refl
only_table false = refl

-- a look at texts and tables
module _ (k : Look) (T : List ℕ → Bool) (U : WrittenTable → Bool) (texts : (s : List ℕ) → have_any (k.text s) ≡ T s) (tables : (t : WrittenTable) → have_any (k.table t) ≡ U t)
    (entries : (ns : List Name) → have_any (k.entries ns) ≡ false) where
  regroup : (p q : List (List ℕ)) (r s : List WrittenTable)
      → ((list_any T p || list_any U r) || (list_any T q || list_any U s)) ≡ (list_any T (p ++ q) || list_any U (r ++ s))
  regroup p q r s = regrouped (list_any T p) (list_any U r) (list_any T q) (list_any U s)
      ∙ ap₂ (λ a b. a || b) (sym (list_any-append T p q)) (sym (list_any-append U r s))

  both_regrouped : (fs gs : List Finding) (p q : List (List ℕ)) (r s : List WrittenTable)
      → have_any fs ≡ (list_any T p || list_any U r) → have_any gs ≡ (list_any T q || list_any U s)
      → have_any (fs ++ gs) ≡ (list_any T (p ++ q) || list_any U (r ++ s))
  both_regrouped fs gs p q r s e g = any-both fs gs _ _ e g ∙ regroup p q r s

  mutual
    pub any-logic : (b : Logic) → have_any (logic_findings k b) ≡ (list_any T (texts_in b) || list_any U (tables_in b))
    any-logic (expression s) = texts s ∙ only_text (T s)
    any-logic (table t) = any-inside (step.Key key.Table) (k.table t) _ (tables t) ∙ only_table (U t)
    any-logic (list bs) = any-inside (step.Key key.List) (member_findings k 0 bs) _ (any-members 0 bs)
    any-logic (context es) =
        any-inside (step.Key key.Context) (k.entries (entry_names es) ++ entry_findings k 0 es) _
        (any-both (k.entries (entry_names es)) (entry_findings k 0 es) false _ (entries (entry_names es)) (any-entries 0 es))
    any-logic (context_with es b) =
        both_regrouped (behind (step.Key key.Context) (k.entries (entry_names es) ++ entry_findings k 0 es)) (behind (step.Key key.Result) (logic_findings k b))
        (entry_texts es) (texts_in b) (entry_tables es) (tables_in b)
        (any-inside (step.Key key.Context) (k.entries (entry_names es) ++ entry_findings k 0 es) _
        (any-both (k.entries (entry_names es)) (entry_findings k 0 es) false _ (entries (entry_names es)) (any-entries 0 es)))
        (any-inside (step.Key key.Result) (logic_findings k b) _ (any-logic b))

    any-members : (i : ℕ) (bs : Members (List ℕ) WrittenTable) → have_any (member_findings k i bs) ≡ (list_any T (member_texts bs) || list_any U (member_tables bs))
    any-members i no_members = refl
    any-members i (member b bs) =
        both_regrouped (behind (step.Index i) (logic_findings k b)) (member_findings k (i + 1) bs) (texts_in b) (member_texts bs) (tables_in b) (member_tables bs)
        (any-inside (step.Index i) (logic_findings k b) _ (any-logic b)) (any-members (i + 1) bs)

    any-entries : (i : ℕ) (es : Entries (List ℕ) WrittenTable) → have_any (entry_findings k i es) ≡ (list_any T (entry_texts es) || list_any U (entry_tables es))
    any-entries i no_entries = refl
    any-entries i (entry n b es) =
        both_regrouped (behind (step.Index i) (behind (step.Key key.Expr) (logic_findings k b))) (entry_findings k (i + 1) es)
        (texts_in b) (entry_texts es) (tables_in b) (entry_tables es)
        (any-inside (step.Index i) (behind (step.Key key.Expr) (logic_findings k b)) _ (any-inside (step.Key key.Expr) (logic_findings k b) _ (any-logic b)))
        (any-entries (i + 1) es)

  -- in the logic of some decision
  pub any-decisions : (p : Written → Bool) → ((d : Written) → (list_any T (texts_in d.logic) || list_any U (tables_in d.logic)) ≡ p d)
      → (ds : List Written) → have_any (decisions_findings k ds) ≡ list_any p ds
  any-decisions p h ds =
      any-inside (step.Key key.Decisions) (each_of (decision_findings k) ds) _
      (any-each_of (decision_findings k) p (λ d. any-inside (step.Key key.Expr) (logic_findings k d.logic) _ (any-logic d.logic) ∙ h d) ds)
