-- The logic of the items of a model.
use Rattle.std.proofs.Common.{◌≡◌, ◌∙◌, refl, ap, List, [], ◌∷◌, ◌++◌, map, Option, Some, None, Ok, option_map}
use Rattle.std.specs.List.{cons_option, filter_map}
use Rattle.std.proofs.lemmas.List.Elements.{filter_map-append}
use Rattle.feel_text.specs.Expr.{Expr}
use Rattle.dmn_table.specs.Table.{Table}
use Rattle.dmn_form.specs.Model.{Boxed, Model, Name}
use Rattle.dmn_logic.specs.LogicView.{logic_view}
use Rattle.dmn_service.specs.declared.plan.Item.{Item}
use Rattle.dmn_plan.specs.Plans.{HaveLogicOf}

kept_map : {X Y : Type 0} (h : X → Option Y) (xs : List X) → filter_map h xs ≡ filter_map (λ o. o) (map h xs)
kept_map h [] = refl
kept_map h (x ∷ xs) = ap (cons_option (h x)) (kept_map h xs)

none_kept : {Y : Type 0} (names : List Name) → filter_map (λ (o : Option Y). o) (map (λ n. None) names) ≡ []
none_kept [] = refl
none_kept (n ∷ names) = none_kept names

all_kept : {Y : Type 0} (ys : List Y) → filter_map (λ o. o) (map Some ys) ≡ ys
all_kept [] = refl
all_kept (y ∷ ys) = ap (λ zs. y ∷ zs) (all_kept ys)

pub logics_of_items : (m : Model Expr Table) (items : List Item) → HaveLogicOf (Ok m) items → filter_map (λ (x : Item). option_map logic_view x.logic) items ≡ map (λ d. d.logic) m.decisions
logics_of_items m items has =
    let logics : List (Boxed Expr Table) = map (λ d. d.logic) m.decisions in
    let nothing : List (Option (Boxed Expr Table)) = map (λ n. None) m.inputs in
    kept_map (λ (x : Item). option_map logic_view x.logic) items
    ∙ ap (filter_map (λ o. o)) has
    ∙ filter_map-append (λ o. o) nothing (map Some logics)
    ∙ ap (λ xs. xs ++ filter_map (λ o. o) (map Some logics)) (none_kept m.inputs)
    ∙ all_kept logics
