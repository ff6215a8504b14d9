-- The lists of names within a boxed expression, by the parts that the code has.
use Rattle.std.proofs.Common.{◌≡◌, List, [], ◌∷◌, ◌++◌, map, refl, sym, ap, ◌∙◌, Bool, true, false, ◌||◌, String, Vec, Box, Global, string_bytes, rules}
use Rattle.std.specs.List.{list_any}
use Rattle.std.proofs.lemmas.List.Folds.{list_any-append}
use Rattle.dmn_form.specs.Model.{Name, entries_of}
use Rattle.dmn_form.specs.FormView.{column_view, table_view}
use Rattle.dmn_form.specs.LogicView.{logic_view, entry_view}
use Rattle.dmn_form.specs.ModelView.{decision_view, service_view}
use Rattle.dmn_form.specs.declared.written.WrittenTable.{WrittenTable}
use Rattle.dmn_form.specs.declared.written.WrittenDecision.{WrittenDecision}
use Rattle.dmn_form.specs.declared.written.WrittenService.{WrittenService}
use Rattle.dmn_form.specs.declared.written.WrittenLogic.{WrittenLogic, Table, Context, ContextWith, the_lemmas}
use Rattle.dmn_form.proofs.LogicSteps.{logic_view-Context, logic_view-ContextWith}
use Rattle.dmn_names.specs.Parts.{entry_names, output_names, lists_in}
use Rattle.dmn_names.specs.Views.{entry_lists_view, context_lists_view}

-- a map after a map
pub map_twice : {X Y Z : Type 0} (f : Y → Z) (g : X → Y) (xs : List X) → map f (map g xs) ≡ map (λ x. f (g x)) xs
map_twice f g [] = refl
map_twice f g (x ∷ xs) = ap (λ r. f (g x) ∷ r) (map_twice f g xs)

pub entry_names_view : (es : List (String Global × WrittenLogic)) → entry_names (entries_of (map entry_view es)) ≡ map (λ e. string_bytes e.0) es
entry_names_view [] = refl
entry_names_view (e ∷ es) = ap (λ r. string_bytes e.0 ∷ r) (entry_names_view es)

or_false : (b : Bool) → b ≡ (b || false)
or_false true = refl
or_false false = refl

either_first : (a b r : Bool) → r ≡ a → r ≡ true → r ≡ (a || b)
either_first true b r e t = e
either_first false b r e t = cc

either_other : (a b r s : Bool) → r ≡ a → r ≡ false → s ≡ b → s ≡ (a || b)
either_other true b r s e f g = cc
either_other false b r s e f g = g

lists_in_table : (t : WrittenTable) → lists_in (logic_view (Table t)) ≡ output_names (table_view t) ∷ []
lists_in_table t = search (rules, the_lemmas)

-- a test of each list of names within a boxed expression
module _ (F : List Name → Bool) where
  pub in_table : (t : WrittenTable) (r : Bool) → r ≡ F (map (λ c. string_bytes c.name) t.outputs.items) → r ≡ list_any F (lists_in (logic_view (Table t)))
  in_table t r e =
      e ∙ ap F (sym (map_twice (λ c. c.name) column_view t.outputs.items)) ∙ or_false (F (output_names (table_view t)))
      ∙ ap (list_any F) (sym (lists_in_table t))

  pub in_context : (v : Vec (String Global × WrittenLogic) Global) (r : Bool) → r ≡ list_any F (context_lists_view v.items) → r ≡ list_any F (lists_in (logic_view (Context v)))
  in_context v r e = e ∙ ap (λ l. list_any F (lists_in l)) (sym (logic_view-Context v))

  with_result : (v : Vec (String Global × WrittenLogic) Global) (b : Box WrittenLogic Global)
      → list_any F (lists_in (logic_view (ContextWith v b))) ≡ (list_any F (context_lists_view v.items) || list_any F (lists_in (logic_view b.value)))
  with_result v b = ap (λ l. list_any F (lists_in l)) (logic_view-ContextWith v b) ∙ list_any-append F (context_lists_view v.items) (lists_in (logic_view b.value))

  pub in_its_entries : (v : Vec (String Global × WrittenLogic) Global) (b : Box WrittenLogic Global) (r : Bool)
      → r ≡ list_any F (context_lists_view v.items) → r ≡ true → r ≡ list_any F (lists_in (logic_view (ContextWith v b)))
  in_its_entries v b r e t = either_first _ (list_any F (lists_in (logic_view b.value))) r e t ∙ sym (with_result v b)

  pub in_its_result : (v : Vec (String Global × WrittenLogic) Global) (b : Box WrittenLogic Global) (r s : Bool)
      → r ≡ list_any F (context_lists_view v.items) → r ≡ false → s ≡ list_any F (lists_in (logic_view b.value)) → s ≡ list_any F (lists_in (logic_view (ContextWith v b)))
  in_its_result v b r s e f g = either_other _ _ r s e f g ∙ sym (with_result v b)

  names_of : (es : List (String Global × WrittenLogic)) (r : Bool) → r ≡ F (map (λ e. string_bytes e.0) es) → r ≡ F (entry_names (entries_of (map entry_view es)))
  names_of es r e = e ∙ ap F (sym (entry_names_view es))

  pub among_names : (es : List (String Global × WrittenLogic)) (r : Bool) → r ≡ F (map (λ e. string_bytes e.0) es) → r ≡ true → r ≡ list_any F (context_lists_view es)
  among_names es r e t = either_first _ (list_any F (entry_lists_view es)) r (names_of es r e) t

  pub among_entries : (es : List (String Global × WrittenLogic)) (r s : Bool) → r ≡ F (map (λ e. string_bytes e.0) es) → r ≡ false → s ≡ list_any F (entry_lists_view es) → s ≡ list_any F (context_lists_view es)
  among_entries es r s e f g = either_other _ _ r s (names_of es r e) f g

pub decision_names_view : (ds : List WrittenDecision) → map (λ d. d.name) (map decision_view ds) ≡ map (λ d. string_bytes d.name) ds
decision_names_view ds = map_twice (λ d. d.name) decision_view ds

pub service_names_view : (ss : List WrittenService) → map (λ s. s.name) (map service_view ss) ≡ map (λ s. string_bytes s.name) ss
service_names_view ss = map_twice (λ s. s.name) service_view ss

pub any_of_both : {X : Type 0} (p : X → Bool) (xs ys : List X) → list_any p (xs ++ ys) ≡ (list_any p xs || list_any p ys)
any_of_both p xs ys = list_any-append p xs ys

pub any_of_decisions : (p : Name → Bool) (ns : List Name) (ds : List WrittenDecision) → list_any p (ns ++ map (λ d. d.name) (map decision_view ds)) ≡ (list_any p ns || list_any p (map (λ d. string_bytes d.name) ds))
any_of_decisions p ns ds = list_any-append p ns _ ∙ ap (λ ms. list_any p ns || list_any p ms) (decision_names_view ds)
