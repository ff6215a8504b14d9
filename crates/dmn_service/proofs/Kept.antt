-- What a run keeps at the places, one place after the other.
use Rattle.std.proofs.Common.{◌≡◌, ◌∙◌, sym, ap, refl, ℕ, ◌+◌, ◌<◌, Bool, true, false, cond, List, [], ◌∷◌, ◌++◌, map, zero, suc, length, drop, get_or, Option, None, Some, option_map, inl, inr, ◌⊎◌, arith}
use Rattle.std.specs.Arc.{arc_str_bytes}
use Rattle.std.specs.Prelude.{nat_eq, slice_set, ◌≢◌}
use Rattle.std.specs.List.{slice_get}
use Rattle.std.proofs.lemmas.Bool.Decides.{eqb_tells}
use Rattle.std.proofs.lemmas.List.{at_drop_more, get_or-map}
use Rattle.feel_value.specs.Datum.{Datum}
use Rattle.feel_value.specs.declared.feel.Outcome.{Outcome}
use Rattle.feel_value.specs.declared.feel.Outcome.TheVariants.{Is, Limit}
use Rattle.feel_value.specs.Found.{value_of, ◌>>=◌, each, outcome_from}
use Rattle.feel_text.specs.Expr.{Expr}
use Rattle.feel_text.specs.Needed.{bindings_from, found_at}
use Rattle.dmn_table.specs.Table.{Table}
use Rattle.dmn_form.specs.Model.{Name, Boxed}
use Rattle.dmn_logic.specs.Boxed.{boxed}
use Rattle.dmn_logic.specs.LogicView.{logic_view}
use Rattle.dmn_service.specs.Places.{name_at, needs_at, named_places}
use Rattle.dmn_service.specs.Run.{logic_at, Found, values_in, nothing_found, kept_at, needed_at, outcome_at, outcome_under, filled_by, given_at}
use Rattle.dmn_service.specs.declared.plan.Item.{Item}

get-set_here : (found : List Outcome) (k : ℕ) (o : Outcome) → k < length found → slice_get (slice_set found k o) k ≡ Some o
get-set_here [] k o inside = absurd (omega (arith, inside))
get-set_here (x ∷ found) zero o inside = refl
get-set_here (x ∷ found) (suc k) o inside = get-set_here found k o (omega (arith, inside))

get-set_apart : (found : List Outcome) (k q : ℕ) (o : Outcome) → k ≢ q → slice_get (slice_set found k o) q ≡ slice_get found q
get-set_apart [] k q o apart = refl
get-set_apart (x ∷ found) zero zero o apart = absurd (apart refl)
get-set_apart (x ∷ found) zero (suc q) o apart = refl
get-set_apart (x ∷ found) (suc k) zero o apart = refl
get-set_apart (x ∷ found) (suc k) (suc q) o apart = get-set_apart found k q o (λ e. apart (ap suc e))

get-set : (found : List Outcome) (k q : ℕ) (o : Outcome) → k < length found → slice_get (slice_set found k o) q ≡ cond (nat_eq k q) (Some o) (slice_get found q)
get-set found k q o inside = go (eqb_tells k q)
  where
    go : ((nat_eq k q ≡ true) × (k ≡ q)) ⊎ ((nat_eq k q ≡ false) × (k ≢ q)) → slice_get (slice_set found k o) q ≡ cond (nat_eq k q) (Some o) (slice_get found q)
    go (inl e) = ap (slice_get (slice_set found k o)) (sym e.1) ∙ get-set_here found k o inside ∙ sym (ap (λ b. cond b (Some o) (slice_get found q)) e.0)
    go (inr e) = get-set_apart found k q o e.1 ∙ sym (ap (λ b. cond b (Some o) (slice_get found q)) e.0)

read_kept : (b : Bool) (o : Outcome) (w : Option Outcome) → (cond b (Some o) w >>= value_of) ≡ cond b (value_of o) (w >>= value_of)
read_kept true o w = refl
read_kept false o w = refl

-- after a place was written
pub values_in-set : (found : List Outcome) (k : ℕ) (o : Outcome) → k < length found → values_in (slice_set found k o) ≡ kept_at (values_in found) k o
values_in-set found k o inside =
    let at : (q : ℕ) → values_in (slice_set found k o) q ≡ kept_at (values_in found) k o q =
    λ q. ap (λ (w : Option Outcome). w >>= value_of) (get-set found k q o inside)
    ∙ read_kept (nat_eq k q) o (slice_get found q) in
    λ i q. at q i

none_more : (found : List Outcome) → ((q : ℕ) → values_in found q ≡ None) → (q : ℕ) → values_in (found ++ Limit ∷ []) q ≡ None
none_more [] none zero = refl
none_more [] none (suc q) = refl
none_more (o ∷ found) none zero = none 0
none_more (o ∷ found) none (suc q) = none_more found (λ p. none (suc p)) q

-- one place more where nothing was found
pub nothing_more : (found : List Outcome) → values_in found ≡ nothing_found → values_in (found ++ Limit ∷ []) ≡ nothing_found
nothing_more found none =
    let at = none_more found (λ q. ap (λ (f : Found). f q) none) in
    λ i q. at q i

-- the name at a place
pub name_here : (items : List Item) (q : ℕ) (x : Item) → q < length items → name_at items q ≡ arc_str_bytes (get_or items q x).name
name_here items q x inside = get_or-map (λ (y : Item). arc_str_bytes y.name) items q x _ inside

outcome_here : (items : List Item) (q : ℕ) (x : Item) (found : Found) → q < length items → x ≡ get_or items q x
    → outcome_at (name_at items) found (needs_at items q) (logic_at items q) ≡ outcome_at (name_at items) found x.needs.items (option_map logic_view x.logic)
outcome_here items q x found inside here =
    let needs : needs_at items q ≡ x.needs.items = get_or-map (λ (y : Item). y.needs.items) items q x _ inside ∙ ap (λ (y : Item). y.needs.items) (sym here) in
    let logic : logic_at items q ≡ option_map logic_view x.logic = get_or-map (λ (y : Item). option_map logic_view y.logic) items q x None inside ∙ ap (λ (y : Item). option_map logic_view y.logic) (sym here) in
    ap (λ qs. outcome_at (name_at items) found qs (logic_at items q)) needs ∙ ap (outcome_at (name_at items) found x.needs.items) logic

each_shown : {A X Y : Type 0} (f : X → Option Y) (shown : A → X) (xs : List A) → each f (map shown xs) ≡ each (λ x. f (shown x)) xs
each_shown f shown [] = refl
each_shown f shown (x ∷ xs) = ap (λ o. f (shown x) >>= λ y. o >>= λ ys. Some (y ∷ ys)) (each_shown f shown xs)

-- what is found under names by places is what is found at these places
found_named : (name : ℕ → Name) (found : List Outcome) (qs : List ℕ) → bindings_from found (named_places name qs) ≡ needed_at name (values_in found) qs
found_named name found qs = each_shown (λ n. found_at found n.1 >>= λ v. Some (n.0, v)) (λ q. (name q, q)) qs

outcome_of_named : (name : ℕ → Name) (found : List Outcome) (qs : List ℕ) (l : Option (Boxed Expr Table)) → outcome_under found (named_places name qs) l ≡ outcome_at name (values_in found) qs l
outcome_of_named name found qs None = refl
outcome_of_named name found qs (Some b) = ap (outcome_from (boxed b)) (found_named name found qs)

-- the outcome of an item whose needs stand under their names
pub outcome_named : (items : List Item) (found : List Outcome) (x : Item) → x.named ≡ named_places (name_at items) x.needs.items
    → outcome_under found x.named (option_map logic_view x.logic) ≡ outcome_at (name_at items) (values_in found) x.needs.items (option_map logic_view x.logic)
outcome_named items found x named =
    ap (λ ns. outcome_under found ns (option_map logic_view x.logic)) named ∙ outcome_of_named (name_at items) found x.needs.items (option_map logic_view x.logic)

-- one place more
pub filled_more : (whole : Found) (items : List Item) (order : List ℕ) (old new : Found) (i : ℕ) (x : Item) (o : Outcome)
    → whole ≡ filled_by items (drop i order) old → i < length order → get_or order i 0 < length items → x ≡ get_or items (get_or order i 0) x
    → o ≡ outcome_at (name_at items) old x.needs.items (option_map logic_view x.logic) → new ≡ kept_at old (get_or order i 0) o
    → whole ≡ filled_by items (drop (i + 1) order) new
filled_more whole items order old new i x o before more inside here e kept =
    before ∙ at_drop_more (λ qs. filled_by items qs old) order i 0 more
    ∙ ap (λ z. filled_by items (drop (i + 1) order) (kept_at old (get_or order i 0) z)) (outcome_here items (get_or order i 0) x old inside here ∙ sym e)
    ∙ ap (filled_by items (drop (i + 1) order)) (sym kept)

-- one parameter more
pub given_more : (whole : Found) (ps : List ℕ) (vs : List Datum) (old new : Found) (i : ℕ) (x v : Datum)
    → whole ≡ given_at (drop i ps) (drop i vs) old → i < length ps → length vs ≡ length ps → x ≡ get_or vs i x → v ≡ x
    → new ≡ kept_at old (get_or ps i 0) (Is v) → whole ≡ given_at (drop (i + 1) ps) (drop (i + 1) vs) new
given_more whole ps vs old new i x v before more len here copied kept =
    let fine : i < length vs = omega (arith, more, len) in
    before ∙ at_drop_more (λ qs. given_at qs (drop i vs) old) ps i 0 more
    ∙ at_drop_more (λ ws. given_at (get_or ps i 0 ∷ drop (i + 1) ps) ws old) vs i x fine
    ∙ ap (λ d. given_at (drop (i + 1) ps) (drop (i + 1) vs) (kept_at old (get_or ps i 0) (Is d))) (sym here ∙ sym copied)
    ∙ ap (given_at (drop (i + 1) ps) (drop (i + 1) vs)) (sym kept)
