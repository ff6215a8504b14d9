-- Reading the form member by member.
use Rattle.std.proofs.Common.{◌≡◌, ℕ, ◌+◌, ◌<◌, ◌≤◌, List, [], ◌∷◌, ◌++◌, map, length, get_or, drop, Option, None, Some, refl, sym, ap, ◌∙◌, append_assoc, append-nil, Vec, Global}
use Rattle.std.proofs.lemmas.List.{at_drop_more, drop_all, map-append}
use Rattle.serde_json.specs.Data.{Data, Items, no_items, item, array}
use Rattle.serde_json.specs.View.{view, items_view}
use Rattle.serde_json.specs.declared.value.Value.{Value, Array}
use Rattle.serde_json.proofs.Views.{view-Array}
use Rattle.dmn_form.specs.Draft.{each_in, list_of}
use Rattle.feel_value.specs.Found.{◌>>=◌}

-- what was read, and then the rest
abbrev pub read_after : {X : Type 0} → List X → Option (List X) → Option (List X)
read_after xs o = o >>= λ ys. Some (xs ++ ys)

pub read_after-none : {X : Type 0} (o : Option (List X)) → o ≡ read_after [] o
read_after-none None = refl
read_after-none (Some ys) = refl

pub read_after-more : {X : Type 0} (xs : List X) (x : X) (o : Option (List X)) → read_after xs (o >>= λ ys. Some (x ∷ ys)) ≡ read_after (xs ++ x ∷ []) o
read_after-more xs x None = refl
read_after-more xs x (Some ys) = ap Some (sym (append_assoc xs (x ∷ []) ys))

pub read_after-all : {X : Type 0} (xs : List X) → read_after xs (Some []) ≡ Some xs
read_after-all xs = ap Some (append-nil xs)

items_from : (xs : List Value) (i : ℕ) (x : Value) → x ≡ get_or xs i x → i < length xs → items_view (drop i xs) ≡ item (view x) (items_view (drop (i + 1) xs))
items_from xs i x e h = at_drop_more items_view xs i x h ∙ ap (λ (y : Value). item (view y) (items_view (drop (i + 1) xs))) (sym e)

-- nothing is read yet
pub items_begun : {X W : Type 0} (each : Items → Option (List X)) (shown : W → X) (ws : List W) (xs : List Value) → ws ≡ [] → each (items_view xs) ≡ read_after (map shown ws) (each (items_view (drop 0 xs)))
items_begun each shown ws xs e = read_after-none (each (items_view xs)) ∙ ap (λ vs. read_after (map shown vs) (each (items_view xs))) (sym e)

-- all is read
pub items_read : {X W : Type 0} (each : Items → Option (List X)) (shown : W → X) → each no_items ≡ Some [] → (whole : Option (List X)) (ws : List W) (xs : List Value) (i : ℕ)
    → whole ≡ read_after (map shown ws) (each (items_view (drop i xs))) → length xs ≤ i → Some (map shown ws) ≡ whole
items_read each shown ended whole ws xs i before h =
    sym (before ∙ ap (λ ys. read_after (map shown ws) (each (items_view ys))) (drop_all i xs h) ∙ ap (read_after (map shown ws)) ended ∙ read_after-all (map shown ws))

-- the next item is none that f reads
pub item_refused : {X W : Type 0} (f : Data → Option X) (each : Items → Option (List X)) (shown : W → X) → ((d : Data) (ds : Items) → each (item d ds) ≡ (f d >>= λ y. each ds >>= λ ys. Some (y ∷ ys)))
    → (whole : Option (List X)) (ws : List W) (xs : List Value) (i : ℕ) (x : Value)
    → whole ≡ read_after (map shown ws) (each (items_view (drop i xs))) → x ≡ get_or xs i x → i < length xs → None ≡ f (view x) → None ≡ whole
item_refused f each shown step whole ws xs i x before e h none =
    sym (before ∙ ap (λ ds. read_after (map shown ws) (each ds)) (items_from xs i x e h)
    ∙ ap (read_after (map shown ws)) (step (view x) (items_view (drop (i + 1) xs)))
    ∙ ap (λ o. read_after (map shown ws) (o >>= λ y. each (items_view (drop (i + 1) xs)) >>= λ ys. Some (y ∷ ys))) (sym none))

-- one item more, where each item is read by f
pub item_turn : {X W : Type 0} (f : Data → Option X) (each : Items → Option (List X)) (shown : W → X) → ((d : Data) (ds : Items) → each (item d ds) ≡ (f d >>= λ y. each ds >>= λ ys. Some (y ∷ ys)))
    → (whole : Option (List X)) (ws vs : List W) (w : W) (xs : List Value) (i : ℕ) (x : Value)
    → whole ≡ read_after (map shown ws) (each (items_view (drop i xs))) → x ≡ get_or xs i x → i < length xs → Some (shown w) ≡ f (view x) → vs ≡ ws ++ w ∷ []
    → whole ≡ read_after (map shown vs) (each (items_view (drop (i + 1) xs)))
item_turn f each shown step whole ws vs w xs i x before e h read pushed =
    before ∙ ap (λ ds. read_after (map shown ws) (each ds)) (items_from xs i x e h)
    ∙ ap (read_after (map shown ws)) (step (view x) (items_view (drop (i + 1) xs)))
    ∙ ap (λ o. read_after (map shown ws) (o >>= λ y. each (items_view (drop (i + 1) xs)) >>= λ ys. Some (y ∷ ys))) (sym read)
    ∙ read_after-more (map shown ws) (shown w) (each (items_view (drop (i + 1) xs)))
    ∙ ap (λ ys. read_after ys (each (items_view (drop (i + 1) xs)))) (sym (ap (map shown) pushed ∙ map-append shown ws (w ∷ [])))

-- what g makes of an array
pub array_of : {Y : Type 0} (g : Data → Y) (json : Value) (v : Vec Value Global) (xs : List Value) → json ≡ Array v → xs ≡ v.items → g (array (items_view xs)) ≡ g (view json)
array_of g json v xs j x = ap (λ ys. g (array (items_view ys))) x ∙ ap g (sym (ap view j ∙ view-Array v))

-- what f reads of the array that was found
pub array_found : {Y : Type 0} (f : Data → Option Y) (found : Option Data) (json : Value) (v : Vec Value Global) (xs : List Value) → Some (view json) ≡ found → json ≡ Array v → xs ≡ v.items
    → each_in f (items_view xs) ≡ (found >>= list_of f)
array_found f found json v xs e j x = array_of (list_of f) json v xs j x ∙ ap (λ o. o >>= list_of f) e
