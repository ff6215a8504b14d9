-- The places of decisions among items, one after another.
use Rattle.std.proofs.Common.{◌≡◌, ◌∙◌, ◌+◌, ◌<◌, ◌≤◌, ℕ, List, [], ◌∷◌, ◌++◌, append_assoc, append-nil, drop, get_or, length, map, Option, None, Some, option_map, refl, sym, ap, subst, arith}
use Rattle.std.specs.Arc.{arc_str_bytes}
use Rattle.std.specs.List.{All, cons_option, filter_map}
use Rattle.std.proofs.lemmas.List.{at_drop_more, drop_all, map-append}
use Rattle.std.proofs.lemmas.List.Elements.{All-push}
use Rattle.feel_text.specs.Expr.{Expr}
use Rattle.dmn_table.specs.Table.{Table}
use Rattle.dmn_form.specs.Model.{Decision, Name}
use Rattle.dmn_logic.specs.LogicView.{logic_view}
use Rattle.dmn_logic.specs.declared.logic.Logic.{Logic}
use Rattle.dmn_service.proofs.Kept.{name_here}
use Rattle.dmn_service.specs.Places.{name_at}
use Rattle.dmn_service.specs.Plan.{decision_of}
use Rattle.dmn_service.specs.declared.plan.Item.{Item}
use Rattle.desk_checking.specs.ComesView.{decision_names, place_if}

pub within_begin : (items : List Item) (places : List ℕ) → places ≡ [] → All (λ q. q < length items) places
within_begin items places none = subst (All (λ q. q < length items)) (sym none) (λ i d inside. absurd (omega (arith, inside)))

pub within_turn : (items : List Item) (i : ℕ) (o : Option Logic) (old new : List ℕ) → All (λ q. q < length items) old → i < length items → new ≡ old ++ place_if o i → All (λ q. q < length items) new
within_turn items i None old new before more is = subst (All (λ q. q < length items)) (sym (is ∙ append-nil old)) before
within_turn items i (Some l) old new before more is = subst (All (λ q. q < length items)) (sym is) (All-push (λ q. q < length items) old i before more)

pub places_begin : (items : List Item) (places : List ℕ) → places ≡ [] → map (name_at items) places ++ decision_names items items ≡ decision_names items items
places_begin items places none = ap (λ qs. map (name_at items) qs ++ decision_names items items) none

abbrev name_of : Decision Expr Table → Name
name_of d = d.name

-- the name of an item that is a decision, before those of others
names_if : (items : List Item) (name : Name) (needs : List Name) (o : Option Logic) (ds : List (Decision Expr Table)) (i : ℕ) → name_at items i ≡ name
    → map (name_at items) (place_if o i) ++ map name_of ds ≡ map name_of (cons_option (option_map (λ l. record { name = name; needs = needs; logic = logic_view l }) o) ds)
names_if items name needs None ds i same = refl
names_if items name needs (Some l) ds i same = ap (λ n. n ∷ map name_of ds) same

pub places_turn : (items : List Item) (i : ℕ) (x : Item) (old new : List ℕ) → map (name_at items) old ++ decision_names items (drop i items) ≡ decision_names items items → i < length items → x ≡ get_or items i x → new ≡ old ++ place_if x.logic i
    → map (name_at items) new ++ decision_names items (drop (i + 1) items) ≡ decision_names items items
places_turn items i x old new before more here is =
    let f = name_at items in
    let rest = filter_map (decision_of items) (drop (i + 1) items) in
    let name : f i ≡ arc_str_bytes x.name = name_here items i x more ∙ ap (λ (y : Item). arc_str_bytes y.name) (sym here) in
    ap (λ qs. map f qs ++ map name_of rest) is ∙ ap (λ ns. ns ++ map name_of rest) (map-append f old (place_if x.logic i)) ∙ append_assoc (map f old) (map f (place_if x.logic i)) (map name_of rest)
    ∙ ap (λ ns. map f old ++ ns)
    (names_if items (arc_str_bytes x.name) (map f x.needs.items) x.logic rest i name ∙ ap (λ (y : Item). decision_names items (y ∷ drop (i + 1) items)) here ∙ sym (at_drop_more (λ ys. decision_names items ys) items i x more)) ∙ before

pub places_end : (items : List Item) (i : ℕ) (places : List ℕ) → map (name_at items) places ++ decision_names items (drop i items) ≡ decision_names items items → length items ≤ i → map (name_at items) places ≡ decision_names items items
places_end items i places before done =
    sym (append-nil (map (name_at items) places)) ∙ ap (λ xs. map (name_at items) places ++ decision_names items xs) (sym (drop_all i items done)) ∙ before
