-- Lists of texts, columns and rules, of which one has no reading.
use Rattle.std.proofs.Common.{◌≡◌, ℕ, List, [], ◌∷◌, map, length, refl, sym, ap, ap₂, ◌∙◌, Bool, false, ◌||◌, Option, None, Some, option_map, option_to_list}
use Rattle.std.specs.List.{list_any}
use Rattle.std.proofs.lemmas.List.{length-map}
use Rattle.std.specs.Option.{is_none}
use Rattle.feel_text.specs.Readings.{expr_of, tests_of, literal_of}
use Rattle.feel_value.specs.Found.{◌>>=◌, each}
use Rattle.dmn_form.specs.Draft.{WrittenColumn, WrittenRule}
use Rattle.dmn_logic.specs.Faults.{has_no_expression, is_unread_column, is_unread_rule}
use Rattle.dmn_logic.specs.ReadLogic.{read_if, read_column, read_rule}

none_of_two : {X Y Z : Type 0} (f : X → Y → Z) (o : Option X) (p : Option Y) → is_none (o >>= λ x. p >>= λ y. Some (f x y)) ≡ (is_none o || is_none p)
none_of_two f None p = refl
none_of_two f (Some x) None = refl
none_of_two f (Some x) (Some y) = refl

none_mapped : {X Y : Type 0} (f : X → Y) (o : Option X) → is_none (option_map f o) ≡ (is_none o || false)
none_mapped f None = refl
none_mapped f (Some x) = refl

pub none_of_each : {X Y : Type 0} (f : X → Option Y) (xs : List X) → is_none (each f xs) ≡ list_any (λ x. is_none (f x)) xs
none_of_each f [] = refl
none_of_each f (x ∷ xs) = none_of_two (λ y ys. y ∷ ys) (f x) (each f xs) ∙ ap (λ b. is_none (f x) || b) (none_of_each f xs)

any_same : {X : Type 0} (p q : X → Bool) → ((x : X) → p x ≡ q x) → (xs : List X) → list_any p xs ≡ list_any q xs
any_same p q h [] = refl
any_same p q h (x ∷ xs) = ap₂ (λ a b. a || b) (h x) (any_same p q h xs)

no_default : (o : Option (List ℕ)) → is_none (read_if o) ≡ has_no_expression (option_to_list o)
no_default None = refl
no_default (Some s) = none_mapped Some (expr_of s)

no_column : (c : WrittenColumn) → is_none (read_column c) ≡ is_unread_column c
no_column c =
    none_of_two (λ values fallback. record { name = c.name; values = values; fallback = fallback }) (each literal_of c.values) (read_if c.fallback)
    ∙ ap₂ (λ a b. a || b) (none_of_each literal_of c.values) (no_default c.fallback)

no_rule : (r : WrittenRule) → is_none (read_rule r) ≡ is_unread_rule r
no_rule r =
    none_of_two (λ tests gives. record { tests = tests; gives = gives }) (each tests_of r.tests) (each expr_of r.gives)
    ∙ ap₂ (λ a b. a || b) (none_of_each tests_of r.tests) (none_of_each expr_of r.gives)

pub none_of_columns : (cs : List WrittenColumn) → is_none (each read_column cs) ≡ list_any is_unread_column cs
none_of_columns cs = none_of_each read_column cs ∙ any_same (λ c. is_none (read_column c)) is_unread_column no_column cs

pub none_of_rules : (rs : List WrittenRule) → is_none (each read_rule rs) ≡ list_any is_unread_rule rs
none_of_rules rs = none_of_each read_rule rs ∙ any_same (λ r. is_none (read_rule r)) is_unread_rule no_rule rs

-- ---- what reading leaves as it was written

each_more : {X Y A : Type 0} (f : X → Option Y) (g : Y → A) (h : X → A) (x : X) (o : Option Y) (p : Option (List Y)) (bs : List A) (ys : List Y)
    → ((y : Y) → o ≡ Some y → g y ≡ h x) → ((zs : List Y) → p ≡ Some zs → map g zs ≡ bs) → (o >>= λ y. p >>= λ zs. Some (y ∷ zs)) ≡ Some ys → map g ys ≡ h x ∷ bs
each_more f g h x None p bs ys first rest e = cc
each_more f g h x (Some y) None bs ys first rest e = cc
each_more f g h x (Some y) (Some zs) bs ys first rest e =
    let same : ys ≡ y ∷ zs = cc in
    ap (map g) same ∙ ap₂ (λ a cs. a ∷ cs) (first y refl) (rest zs refl)

-- where what f reads has a part g that was h before, the lists have too
pub each_same : {X Y A : Type 0} (f : X → Option Y) (g : Y → A) (h : X → A) → ((x : X) (y : Y) → f x ≡ Some y → g y ≡ h x)
    → (xs : List X) (ys : List Y) → each f xs ≡ Some ys → map g ys ≡ map h xs
each_same f g h same [] ys e =
    let none : ys ≡ [] = cc in ap (map g) none
each_same f g h same (x ∷ xs) ys e = each_more f g h x (f x) (each f xs) (map h xs) ys (same x) (each_same f g h same xs) e

pub each_length : {X Y : Type 0} (f : X → Option Y) (xs : List X) (ys : List Y) → each f xs ≡ Some ys → length ys ≡ length xs
each_length {X} {Y} f xs ys e =
    let none_of : Y → ℕ = λ _. 0 in
    let none_in : X → ℕ = λ _. 0 in
    sym (length-map ys none_of) ∙ ap length (each_same f none_of none_in (λ x y h. refl) xs ys e) ∙ length-map xs none_in
