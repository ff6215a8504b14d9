-- The decisions of a model, assembled from the names, the needs and the logic at its places.
use Rattle.std.proofs.Common.{◌≡◌, ℕ, List, [], ◌∷◌, ◌++◌, map, Option, Some, None, option_map, refl, sym, ap, ap₂, ◌∙◌}
use Rattle.std.specs.Arc.{arc_str_bytes}
use Rattle.std.specs.Prelude.{slice_index_or}
use Rattle.std.specs.List.{filter_map, cons_option}
use Rattle.feel_text.specs.Expr.{Expr}
use Rattle.dmn_table.specs.Table.{Table}
use Rattle.dmn_form.specs.Draft.{Draft, Written}
use Rattle.feel_value.specs.Found.{◌>>=◌, each}
use Rattle.dmn_form.specs.Model.{Name, Decision}
use Rattle.dmn_logic.specs.LogicView.{Read, logic_view}
use Rattle.dmn_logic.specs.ReadLogic.{read_decisions}
use Rattle.dmn_logic.proofs.Kept.{head_of, heads_kept}
use Rattle.dmn_names.specs.Parts.{value_names}
use Rattle.dmn_names.specs.Places.{value_place, needed_places, needs_by_place}
use Rattle.dmn_names.proofs.NamesBack.{each_back, name_at_place}
use Rattle.dmn_plan.specs.Items.{have_names, have_needs, have_logic}
use Rattle.dmn_plan.specs.Plans.{AreItemsOf, place_name}
use Rattle.dmn_service.specs.Places.{name_at}
use Rattle.dmn_service.specs.Plan.{decision_of}
use Rattle.dmn_service.specs.declared.plan.Item.{Item}

abbrev made : Name → List Name → Option Read → Option (Decision Expr Table)
made name needs None = None
made name needs (Some l) = Some (record { name = name; needs = needs; logic = l })

-- the decisions of these names, needs by names, and logic
abbrev assembled : (ℕ → Name) → List Name → List (List ℕ) → List (Option Read) → List (Decision Expr Table)
assembled name [] qs ls = []
assembled name (n ∷ ns) [] ls = []
assembled name (n ∷ ns) (q ∷ qs) [] = []
assembled name (n ∷ ns) (q ∷ qs) (l ∷ ls) = cons_option (made n (map name q) l) (assembled name ns qs ls)

made_of : (items : List Item) (x : Item) → decision_of items x ≡ made (arc_str_bytes x.name) (map (name_at items) x.needs.items) (option_map logic_view x.logic)
made_of items x = go x.logic
  where
    go : (o : Option _) → option_map (λ l. record { name = arc_str_bytes x.name; needs = map (name_at items) x.needs.items; logic = logic_view l }) o
        ≡ made (arc_str_bytes x.name) (map (name_at items) x.needs.items) (option_map logic_view o)
    go None = refl
    go (Some l) = refl

of_items : (items xs : List Item) → filter_map (decision_of items) xs ≡ assembled (name_at items) (have_names xs) (have_needs xs) (have_logic xs)
of_items items [] = refl
of_items items (x ∷ xs) = ap₂ (λ a b. cons_option a b) (made_of items x) (of_items items xs)

past_inputs : (name : ℕ → Name) (inputs ns : List Name) (qs : List (List ℕ)) (ls : List (Option Read))
    → assembled name (inputs ++ ns) (map (λ n. []) inputs ++ qs) (map (λ n. None) inputs ++ ls) ≡ assembled name ns qs ls
past_inputs name [] ns qs ls = refl
past_inputs name (i ∷ is) ns qs ls = past_inputs name is ns qs ls

decision_is : (name : ℕ → Name) (d : Written) (e : Decision Expr Table) (q : List ℕ) → head_of e ≡ head_of d → map name q ≡ d.needs
    → record { name = d.name; needs = map name q; logic = e.logic } ≡ e
decision_is name d e q h g =
    ap₂ (λ (a : Name) (b : List Name). record { name = a; needs = b; logic = e.logic }) (sym (ap (λ p. p.0) h)) (g ∙ sym (ap (λ p. p.1) h))

-- each decision, with its needs led back to names
of_decisions : (name : ℕ → Name) (ds : List Written) (es : List (Decision Expr Table)) (qs : List (List ℕ)) → map head_of es ≡ map head_of ds → map (map name) qs ≡ map (λ d. d.needs) ds
    → assembled name (map (λ d. d.name) ds) qs (map Some (map (λ e. e.logic) es)) ≡ es
of_decisions name [] [] qs h g = refl
of_decisions name [] (e ∷ es) qs h g = cc
of_decisions name (d ∷ ds) [] qs h g = cc
of_decisions name (d ∷ ds) (e ∷ es) [] h g = cc
of_decisions name (d ∷ ds) (e ∷ es) (q ∷ qs) h g =
    let head : head_of e ≡ head_of d = cc in
    let heads : map head_of es ≡ map head_of ds = cc in
    let back : map name q ≡ d.needs = cc in
    let backs : map (map name) qs ≡ map (λ d. d.needs) ds = cc in
    ap₂ (λ a b. a ∷ b) (decision_is name d e q head back) (of_decisions name ds es qs heads backs)

-- what places need, behind the empty lists of the inputs
pub found_needs : (inputs : List Name) (o : Option (List (List ℕ))) (needs : List (List ℕ)) → (o >>= λ qs. Some (map (λ n. []) inputs ++ qs)) ≡ Some needs
    → (qs : List (List ℕ)) × (o ≡ Some qs) × (needs ≡ map (λ n. []) inputs ++ qs)
found_needs inputs None needs e = cc
found_needs inputs (Some qs) needs e = (qs, refl, cc)

-- needs by places lead back to needs by names
names_back : (m : Draft) (qs : List (List ℕ)) → needed_places m ≡ Some qs → map (map (place_name m)) qs ≡ map (λ d. d.needs) m.decisions
names_back m qs e = each_of m.decisions qs e
  where
    one : (d : Written) (q : List ℕ) → each (value_place m) d.needs ≡ Some q → map (place_name m) q ≡ d.needs
    one d q e = each_back (value_place m) (place_name m) (λ n p f. name_at_place (value_names m) n p [] f) d.needs q e

    more : (d : Written) (ds : List Written) (o : Option (List ℕ)) (p : Option (List (List ℕ))) (qs : List (List ℕ))
        → ((q : List ℕ) → o ≡ Some q → map (place_name m) q ≡ d.needs) → ((rs : List (List ℕ)) → p ≡ Some rs → map (map (place_name m)) rs ≡ map (λ d. d.needs) ds)
        → (o >>= λ q. p >>= λ rs. Some (q ∷ rs)) ≡ Some qs → map (map (place_name m)) qs ≡ d.needs ∷ map (λ d. d.needs) ds
    more d ds None p qs f g e = cc
    more d ds (Some q) None qs f g e = cc
    more d ds (Some q) (Some rs) qs f g e = let same : qs ≡ q ∷ rs = cc in ap (map (map (place_name m))) same ∙ ap₂ (λ a b. a ∷ b) (f q refl) (g rs refl)

    each_of : (ds : List Written) (qs : List (List ℕ)) → each (λ d. each (value_place m) d.needs) ds ≡ Some qs → map (map (place_name m)) qs ≡ map (λ d. d.needs) ds
    each_of [] qs e = let same : qs ≡ [] = cc in ap (map (map (place_name m))) same
    each_of (d ∷ ds) qs e = more d ds (each (value_place m) d.needs) (each (λ d. each (value_place m) d.needs) ds) qs (one d) (each_of ds) e

-- the decisions of the model as it was read are those of its items
pub decisions_of_items : (m : Draft) (needs : List (List ℕ)) (es : List (Decision Expr Table)) (items : List Item)
    → needs_by_place m ≡ Some needs → read_decisions m.decisions ≡ Some es → AreItemsOf m needs (map (λ e. e.logic) es) items
    → es ≡ filter_map (decision_of items) items
decisions_of_items m needs es items known read are =
    let found = found_needs m.inputs (needed_places m) needs known in
    let name : (q : ℕ) → name_at items q ≡ place_name m q = λ q. ap (λ ns. slice_index_or ns q []) are.names in
    let names : name_at items ≡ place_name m = λ i q. name q i in
    sym (of_items items items
    ∙ ap (λ f. assembled f (have_names items) (have_needs items) (have_logic items)) names
    ∙ ap (λ ns. assembled (place_name m) ns (have_needs items) (have_logic items)) are.names
    ∙ ap₂ (λ qs ls. assembled (place_name m) (value_names m) qs ls) (are.needed ∙ found.2) are.logic
    ∙ past_inputs (place_name m) m.inputs (map (λ d. d.name) m.decisions) found.0 (map Some (map (λ e. e.logic) es))
    ∙ of_decisions (place_name m) m.decisions es found.0 (heads_kept m.decisions es read) (names_back m found.0 found.1))
