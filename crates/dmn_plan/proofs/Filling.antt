-- Items that are filled in one after another, from names, needs and logic.
use Rattle.std.proofs.Common.{◌≡◌, ℕ, ◌+◌, ◌-◌, ◌<◌, ◌≤◌, get_or, string_bytes, List, [], ◌∷◌, ◌++◌, map, drop, length, Some, None, refl, sym, ap, ap₂, subst, ◌∙◌, append-nil, Vec, Global, arith, inl, inr, ◌⊎◌}
use Rattle.std.proofs.lemmas.List.{length-append, length-map, map-append, drop-map, drop_at, get_or-map, get_or-append_right}
use Rattle.dmn_form.specs.Draft.{Draft, Written}
use Rattle.dmn_form.specs.Model.{Name}
use Rattle.dmn_form.specs.ModelView.{model_view, decision_view}
use Rattle.dmn_form.specs.declared.written.WrittenDecision.{WrittenDecision}
use Rattle.dmn_form.specs.declared.written.WrittenModel.{WrittenModel}
use Rattle.dmn_graph.specs.Needs.{needs_view}
use Rattle.dmn_logic.specs.LogicView.{Read}
use Rattle.dmn_names.specs.Parts.{decision_names, value_names}
use Rattle.dmn_names.specs.Places.{needs_by_place}
use Rattle.dmn_plan.specs.Items.{IsAfterInputs, have_names, have_needs, have_logic}
use Rattle.dmn_plan.specs.Plans.{AreItemsOf, AreNamed, AreNeedsOf, needed_by_name, place_logic, place_name}
use Rattle.dmn_service.specs.Places.{named_places}
use Rattle.dmn_service.specs.declared.plan.Item.{Item}

pub empty : {A : Type 0} (xs : List A) → length xs ≡ 0 → xs ≡ []
empty [] e = refl
empty (x ∷ xs) e = cc

abbrev no_places : Name → List ℕ
no_places n = []

-- behind the lists of the inputs stand those of the decisions
pub behind_inputs : (m : Draft) (needs : List (Vec ℕ Global)) (n : ℕ) → IsAfterInputs m (needs_view needs) → n ≡ length m.inputs
    → needs_view needs ≡ map (λ n. []) m.inputs ++ needs_view (drop n needs)
behind_inputs m needs n after e =
    let rest = after.0 in
    let is : needs_view needs ≡ map no_places m.inputs ++ rest = after.1 in
    let left : needs_view (drop n needs) ≡ rest =
    sym (drop-map (λ (v : Vec ℕ Global). v.items) n needs) ∙ ap (drop n) is ∙ drop_at (map no_places m.inputs) rest n (length-map m.inputs no_places ∙ sym e) in
    is ∙ ap (λ r. map no_places m.inputs ++ r) (sym left)

-- the same of needs under their names
pub named_behind : (m : Draft) (named : List (List (Name × ℕ))) (needs rest : List (Vec ℕ Global)) (n : ℕ)
    → named ≡ needed_by_name m (drop (length m.inputs) (needs_view needs)) → n ≡ length m.inputs → rest ≡ drop n needs → named ≡ needed_by_name m (needs_view rest)
named_behind m named needs rest n is e left =
    is ∙ ap (λ k. needed_by_name m (drop k (needs_view needs))) (sym e) ∙ ap (needed_by_name m) (drop-map (λ (v : Vec ℕ Global). v.items) n needs ∙ ap needs_view (sym left))

-- those behind the inputs are the needs of the decisions
pub needs_told : (m : Draft) (all rest : List (Vec ℕ Global)) (named : List (List (Name × ℕ))) (n : ℕ)
    → needs_by_place m ≡ Some (needs_view all) → n ≡ length m.inputs → rest ≡ drop n all → named ≡ needed_by_name m (needs_view rest) → AreNeedsOf m named
needs_told m all rest named n known e left is needs found =
    let same : needs_view all ≡ needs = cc in
    is ∙ ap (needed_by_name m) (ap needs_view left ∙ sym (drop-map (λ (v : Vec ℕ Global). v.items) n all) ∙ ap₂ drop e same)

-- none are told where a needed name is unknown
pub none_told : (m : Draft) (named : List (List (Name × ℕ))) → needs_by_place m ≡ None → AreNeedsOf m named
none_told m named unknown needs found = absurd (none_some (sym unknown ∙ found))
  where
    none_some : None ≡ Some needs → ⊥
    none_some e = cc

-- where nothing is named nothing is needed
pub none_named : (m : Draft) (needs : List (List ℕ)) → length (needed_by_name m needs) ≡ 0 → length needs ≡ 0
none_named m needs e = sym (length-map needs (named_places (place_name m))) ∙ e

count_names : (m : Draft) → length (value_names m) ≡ length m.inputs + length m.decisions
count_names m = length-append m.inputs (decision_names m) ∙ ap (λ k. length m.inputs + k) (length-map m.decisions (λ d. d.name))

count_needs : (m : Draft) (needs : List (List ℕ)) → IsAfterInputs m needs → length needs ≡ length m.inputs + length m.decisions
count_needs m needs after =
    ap length after.1 ∙ length-append (map no_places m.inputs) after.0 ∙ ap₂ (λ a b. a + b) (length-map m.inputs no_places) after.2

count_logic : (inputs : List Name) (logics : List Read) → length (place_logic inputs logics) ≡ length inputs + length logics
count_logic inputs logics =
    length-append (map (λ n. None) inputs) (map Some logics) ∙ ap₂ (λ a b. a + b) (length-map inputs (λ n. None)) (length-map logics Some)

-- where names, needs or logic end, all of them do
pub all_filled : (m : Draft) (needs : List (List ℕ)) (logics : List Read) (items : List Item) (a : List Name) (b : List (List ℕ)) (c : List Read)
    → IsAfterInputs m needs → length logics ≡ length m.decisions
    → value_names m ≡ have_names items ++ a → needs ≡ have_needs items ++ b → place_logic m.inputs logics ≡ have_logic items ++ map Some c
    → (length a ≡ 0) ⊎ ((length b ≡ 0) ⊎ (length c ≡ 0)) → AreNamed m items → AreItemsOf m needs logics items
all_filled m needs logics items a b c after same f g h ends under =
    let names : length (value_names m) ≡ length items + length a = ap length f ∙ length-append (have_names items) a ∙ ap (λ k. k + length a) (length-map items _) in
    let needed : length needs ≡ length items + length b = ap length g ∙ length-append (have_needs items) b ∙ ap (λ k. k + length b) (length-map items _) in
    let logic : length (place_logic m.inputs logics) ≡ length items + length c =
    ap length h ∙ length-append (have_logic items) (map Some c) ∙ ap₂ (λ k l. k + l) (length-map items _) (length-map c Some) in
    let p = count_names m in
    let q = count_needs m needs after in
    let r = count_logic m.inputs logics in
    let none : (length a ≡ 0) × (length b ≡ 0) × (length c ≡ 0) = together ends (omega arith) (omega arith) in
    record {
      names = sym (f ∙ ap (λ x. have_names items ++ x) (empty a none.0) ∙ append-nil (have_names items));
      needed = sym (g ∙ ap (λ x. have_needs items ++ x) (empty b none.1) ∙ append-nil (have_needs items));
      logic = sym (h ∙ ap (λ x. have_logic items ++ map Some x) (empty c none.2) ∙ append-nil (have_logic items));
      named = under;
    }
  where
    together : {i j k : ℕ} → (i ≡ 0) ⊎ ((j ≡ 0) ⊎ (k ≡ 0)) → i ≡ j → i ≡ k → (i ≡ 0) × (j ≡ 0) × (k ≡ 0)
    together (inl e) p q = (e, sym p ∙ e, sym q ∙ e)
    together (inr (inl e)) p q = (p ∙ e, e, sym q ∙ p ∙ e)
    together (inr (inr e)) p q = (q ∙ e, sym p ∙ q ∙ e, e)

-- one item more, whose needs stand under their names
pub named_more : (m : Draft) (items : List Item) (x : Item) → AreNamed m items → x.named ≡ named_places (place_name m) x.needs.items → AreNamed m (items ++ x ∷ [])
named_more m items x h e =
    map-append (λ (y : Item). y.named) items (x ∷ [])
    ∙ ap₂ (λ a (b : List (Name × ℕ)). a ++ b ∷ []) h e
    ∙ sym (ap (map (named_places (place_name m))) (map-append (λ (y : Item). y.needs.items) items (x ∷ [])) ∙ map-append (named_places (place_name m)) (have_needs items) (x.needs.items ∷ []))

-- the same where the items are told
pub named_then : (m : Draft) (old new : List Item) (x : Item) → AreNamed m old → new ≡ old ++ x ∷ [] → x.named ≡ named_places (place_name m) x.needs.items → AreNamed m new
named_then m old new x h pushed e = subst (AreNamed m) (sym pushed) (named_more m old x h e)

-- the name at the place of a decision
pub decision_there : (m : WrittenModel) (q : ℕ) (d : WrittenDecision) → length m.inputs.items ≤ q → d ≡ get_or m.decisions.items (q - length m.inputs.items) d → q - length m.inputs.items < length m.decisions.items
    → string_bytes d.name ≡ place_name (model_view m) q
decision_there m q d behind here within =
    let n = length m.inputs.items in
    let names : length (model_view m).inputs ≡ n = length-map m.inputs.items string_bytes in
    let written : length (map decision_view m.decisions.items) ≡ length m.decisions.items = length-map m.decisions.items decision_view in
    sym (get_or-append_right (model_view m).inputs (decision_names (model_view m)) n q [] names behind
    ∙ get_or-map (λ (x : Written). x.name) (map decision_view m.decisions.items) (q - n) (decision_view d) [] (omega (arith, written, within))
    ∙ ap (λ (x : Written). x.name) (get_or-map decision_view m.decisions.items (q - n) d (decision_view d) within)
    ∙ ap (λ (x : WrittenDecision). string_bytes x.name) (sym here))
