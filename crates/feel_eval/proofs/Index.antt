-- Bindings of any form, by their names, values and what they hide, found by what has the place of each name.
use Rattle.std.proofs.Common.{◌≡◌, ◌∙◌, sym, ap, refl, subst, ℕ, ◌<◌, ◌≤◌, Bool, true, false, List, [], ◌∷◌, ◌++◌, take, length, get_or, Option, Some, None, Result, Ok, Err, Global, bytes_eq, if◌then◌else◌, arith, inl, inr, Ordering}
use Rattle.feel_value.specs.Datum.{Datum}
use Rattle.std.specs.Prelude.{IsSome, OnOk, OnErr}
use Rattle.std.specs.BTreeMap.{BTreeMap, get, is_at, Updates, UpdatesBy}
use Rattle.std.specs.Map.{lookup, IsKeyTest, AreApart, KeepsOthers}
use Rattle.std.specs.Ordering.{nat_cmp, is_eq}
use Rattle.std.specs.Cmp.{eq_by_cmp_equiv}
use Rattle.std.specs.Cmp.Lexicographic.{slice_cmp, nat_list_cmp_total}
use Rattle.std.specs.Cow.{cow_str_bytes}
use Rattle.std.specs.declared.borrow.CowStr.{CowStr}
use Rattle.std.proofs.lemmas.Map.Text.{is_eq-slice_cmp}
use Rattle.std.proofs.lemmas.Bool.{cases_Bool, cases_lt}
use Rattle.std.proofs.lemmas.List.{map-append, length-map, get_or_append_left, get_or_push, take-append-le, take_all, length_push}
use Rattle.feel_text.specs.Meaning.{Bindings, bound, first_some}
use Rattle.feel_text.specs.Places.{place_after, last_place}
use Rattle.feel_eval.specs.Index.{named_by, place_in, IsIndexed}
use Rattle.feel_text.proofs.Bindings.{same_text, text_itself, bytes_eq-turned, last_place-push}

other_text : (bs cs ks : List ℕ) → bytes_eq bs cs ≡ false → bytes_eq bs ks ≡ true → bytes_eq cs ks ≡ false
other_text bs cs ks n y = ap (bytes_eq cs) (sym (same_text bs ks y)) ∙ bytes_eq-turned cs bs ∙ n

-- the order of names is that of their bytes
abbrev name_cmp : CowStr Global → CowStr Global → Ordering
name_cmp x y = slice_cmp nat_cmp (cow_str_bytes x) (cow_str_bytes y)

-- a query for other bytes than a change finds what it found before
others_kept : {X : Type 0} (eq : CowStr Global → CowStr Global → Bool) (test : CowStr Global → Bool) (old new : List (CowStr Global × X)) → KeepsOthers eq test old new
    → (other : CowStr Global → Bool) → IsKeyTest eq other → AreApart test other → lookup other new ≡ lookup other old
unfolding KeepsOthers
others_kept eq test old new h = h

-- no key is at two names
apart : (bs cs ks : List ℕ) → bytes_eq bs cs ≡ false → is_eq (slice_cmp nat_cmp bs ks) ≡ true → is_eq (slice_cmp nat_cmp cs ks) ≡ false
apart bs cs ks n y = is_eq-slice_cmp cs ks ∙ other_text bs cs ks n (sym (is_eq-slice_cmp bs ks) ∙ y)

-- what a change at one name leaves at any name
updated : (bs : List ℕ) (old new : BTreeMap (CowStr Global) ℕ) (w : Option ℕ) → UpdatesBy name_cmp (λ k. slice_cmp nat_cmp bs (cow_str_bytes k)) old new w
    → (q : List ℕ) → place_in new q ≡ (if bytes_eq bs q then w else place_in old q)
updated bs old new w h q =
    elim (cases_Bool (bytes_eq bs q)) [
      | inl e ↦ ap (place_in new) (sym (same_text bs q e)) ∙ h.1 ∙ sym (ap (λ t. if t then w else place_in old q) e)
      | inr e ↦ others_kept _ _ _ _ h.3 _ (λ x y. (eq_by_cmp_equiv nat_list_cmp_total).congr q (cow_str_bytes x) (cow_str_bytes y)) (λ k. apart bs q (cow_str_bytes k) e)
          ∙ sym (ap (λ t. if t then w else place_in old q) e)
    ]

some_is_not_none : (o : Option ℕ) → o ≡ None → IsSome o → ⊥
some_is_not_none None e h = cc
some_is_not_none (Some i) e h = cc

-- a key takes its new place
pub takes_place : (old new : BTreeMap (CowStr Global) ℕ) (key : CowStr Global) (name : List ℕ) (place at : ℕ) → Updates name_cmp old new key (Some place) → cow_str_bytes key ≡ name → place ≡ at
    → (q : List ℕ) → place_in new q ≡ (if bytes_eq name q then Some at else place_in old q)
takes_place old new key name place at updates named is q =
    updated (cow_str_bytes key) old new (Some place) updates q
    ∙ ap (λ n. if bytes_eq (cow_str_bytes key) q then Some n else place_in old q) is ∙ ap (λ n. if bytes_eq n q then Some at else place_in old q) named

-- a key that is there takes its new value
pub replaced : {E : Type 0} (r : Result (Option ℕ) E) (old new : BTreeMap (CowStr Global) ℕ) (name : CowStr Global) (place : ℕ) → OnOk r (Updates name_cmp old new name (Some place)) → OnErr r (get name_cmp old name ≡ None)
    → IsSome (place_in old (cow_str_bytes name)) → (q : List ℕ) → place_in new q ≡ (if bytes_eq (cow_str_bytes name) q then Some place else place_in old q)
replaced (Ok o) old new name place h absent there q = updated (cow_str_bytes name) old new (Some place) h q
replaced (Err e) old new name place h absent there q = let none : place_in old (cow_str_bytes name) ≡ None = absent in absurd (some_is_not_none (place_in old (cow_str_bytes name)) none there)

-- a key that is taken out
pub removed : (bs : List ℕ) (old new : BTreeMap (CowStr Global) ℕ) → UpdatesBy name_cmp (λ k. slice_cmp nat_cmp bs (cow_str_bytes k)) old new None → (q : List ℕ) → place_in new q ≡ (if bytes_eq bs q then None else place_in old q)
removed bs old new h q = updated bs old new None h q

-- The last binding of the name is the last one, or it is among the others: one binding of the code after the other.
last_place-more : {B : Type 0} (name : B → List ℕ) (value : B → Datum) (q : List ℕ) (xs : List B) (x : B)
    → last_place q (named_by name value (xs ++ x ∷ [])) ≡ (if bytes_eq (name x) q then Some (length xs) else last_place q (named_by name value xs))
last_place-more name value q xs x =
    ap (last_place q) (map-append (λ b. (name b, value b)) xs (x ∷ []))
    ∙ last_place-push q (named_by name value xs) (name x, value x)
    ∙ ap (λ n. if bytes_eq q (name x) then Some n else last_place q (named_by name value xs)) (length-map xs (λ b. (name b, value b)))
    ∙ ap (λ t. if t then Some (length xs) else last_place q (named_by name value xs)) (bytes_eq-turned q (name x))

-- the bindings before one that is not the last
pub before : {B : Type 0} (name : B → List ℕ) (value : B → Datum) (i : ℕ) (xs : List B) (x : B) → i ≤ length xs
    → take i (named_by name value (xs ++ x ∷ [])) ≡ take i (named_by name value xs)
before name value i xs x h =
    ap (take i) (map-append (λ b. (name b, value b)) xs (x ∷ []))
    ∙ take-append-le i (named_by name value xs) ((name x, value x) ∷ []) (rw length-map h)

-- what a binding hides: the last binding of its name before it
abbrev HidesAt : {B : Type 0} → (B → List ℕ) → (B → Datum) → (B → Option ℕ) → List B → ℕ → B → Type 0
HidesAt name value hides xs i b = hides (get_or xs i b) ≡ last_place (name (get_or xs i b)) (take i (named_by name value xs))

hides_more : {B : Type 0} (name : B → List ℕ) (value : B → Datum) (hides : B → Option ℕ) (xs : List B) (x : B) (i : ℕ) (b : B) → i < length xs
    → HidesAt name value hides xs i b → HidesAt name value hides (xs ++ x ∷ []) i b
hides_more name value hides xs x i b h e =
    ap hides (get_or_append_left xs (x ∷ []) b i h) ∙ e
    ∙ ap (last_place (name (get_or xs i b))) (sym (before name value i xs x (omega arith)))
    ∙ ap (λ y. last_place (name y) (take i (named_by name value (xs ++ x ∷ [])))) (sym (get_or_append_left xs (x ∷ []) b i h))

hides_less : {B : Type 0} (name : B → List ℕ) (value : B → Datum) (hides : B → Option ℕ) (xs : List B) (x : B) (i : ℕ) (b : B) → i < length xs
    → HidesAt name value hides (xs ++ x ∷ []) i b → HidesAt name value hides xs i b
hides_less name value hides xs x i b h e =
    ap hides (sym (get_or_append_left xs (x ∷ []) b i h)) ∙ e
    ∙ ap (λ y. last_place (name y) (take i (named_by name value (xs ++ x ∷ [])))) (get_or_append_left xs (x ∷ []) b i h)
    ∙ ap (last_place (name (get_or xs i b))) (before name value i xs x (omega arith))

hides_last : {B : Type 0} (name : B → List ℕ) (value : B → Datum) (hides : B → Option ℕ) (xs : List B) (x : B) (i : ℕ) (b : B) → i ≡ length xs
    → hides x ≡ last_place (name x) (named_by name value xs) → HidesAt name value hides (xs ++ x ∷ []) i b
hides_last name value hides xs x i b h e =
    ap hides (get_or_push xs x b i (sym h)) ∙ e
    ∙ ap (last_place (name x)) (sym (before name value i xs x (omega arith) ∙ take_all i (named_by name value xs) (rw length-map (omega arith))))
    ∙ ap (λ y. last_place (name y) (take i (named_by name value (xs ++ x ∷ [])))) (sym (get_or_push xs x b i (sym h)))

-- one more binding
pub bound_more : {B : Type 0} (name : B → List ℕ) (value : B → Datum) (hides : B → Option ℕ) (xs : List B) (x : B) (old new : List ℕ → Option ℕ) → IsIndexed name value hides xs old
    → ((q : List ℕ) → new q ≡ (if bytes_eq (name x) q then Some (length xs) else old q)) → hides x ≡ old (name x) → IsIndexed name value hides (xs ++ x ∷ []) new
bound_more name value hides xs x old new h placed at_it =
    let first : hides x ≡ last_place (name x) (named_by name value xs) = at_it ∙ h.last (name x) in
    record {
      last = λ q. placed q ∙ ap (λ o. if bytes_eq (name x) q then Some (length xs) else o) (h.last q) ∙ sym (last_place-more name value q xs x);
      hidden = λ i b within. elim (cases_lt i (length xs)) [
        | inl less ↦ hides_more name value hides xs x i b less (h.hidden i b less)
        | inr more ↦ hides_last name value hides xs x i b (omega (arith, length_push xs x)) first
      ];
    }

-- where nothing changes
pub bound_same : {B : Type 0} (name : B → List ℕ) (value : B → Datum) (hides : B → Option ℕ) (xs : List B) (old new : List ℕ → Option ℕ) → IsIndexed name value hides xs old
    → ((q : List ℕ) → new q ≡ old q) → IsIndexed name value hides xs new
bound_same name value hides xs old new h same = record { last = λ q. same q ∙ h.last q; hidden = h.hidden }

-- one binding less: there is the place that it hid
pub bound_less : {B : Type 0} (name : B → List ℕ) (value : B → Datum) (hides : B → Option ℕ) (xs : List B) (x : B) (old new : List ℕ → Option ℕ) → IsIndexed name value hides (xs ++ x ∷ []) old
    → ((q : List ℕ) → new q ≡ (if bytes_eq (name x) q then hides x else old q)) → IsIndexed name value hides xs new
bound_less name value hides xs x old new h cut =
    let p = name x in
    let bs : Bindings = named_by name value xs in
    let here : HidesAt name value hides (xs ++ x ∷ []) (length xs) x = h.hidden (length xs) x (omega (arith, length_push xs x)) in
    let hidden_by : hides x ≡ last_place p bs =
    ap hides (sym (get_or_push xs x x (length xs) refl)) ∙ here
    ∙ ap (λ y. last_place (name y) (take (length xs) (named_by name value (xs ++ x ∷ [])))) (get_or_push xs x x (length xs) refl)
    ∙ ap (last_place p) (before name value (length xs) xs x (omega arith) ∙ take_all (length xs) bs (rw length-map (omega arith))) in
    let at_it : (q : List ℕ) → bytes_eq p q ≡ true → new q ≡ last_place q bs =
    λ q e. cut q ∙ ap (λ t. if t then hides x else old q) e ∙ hidden_by ∙ ap (λ n. last_place n bs) (same_text p q e) in
    let apart : (q : List ℕ) → bytes_eq p q ≡ false → new q ≡ last_place q bs =
    λ q e. cut q ∙ ap (λ t. if t then hides x else old q) e ∙ h.last q ∙ last_place-more name value q xs x ∙ ap (λ t. if t then Some (length xs) else last_place q bs) e in
    record {
      last = λ q. elim (cases_Bool (bytes_eq p q)) [ inl e ↦ at_it q e | inr e ↦ apart q e ];
      hidden = λ i b within. hides_less name value hides xs x i b within (h.hidden i b (omega (arith, length_push xs x)));
    }

-- the last name is there
pub last_at : {B : Type 0} (name : B → List ℕ) (value : B → Datum) (hides : B → Option ℕ) (xs : List B) (x : B) (old : List ℕ → Option ℕ) → IsIndexed name value hides (xs ++ x ∷ []) old → old (name x) ≡ Some (length xs)
last_at name value hides xs x old h =
    h.last (name x) ∙ last_place-more name value (name x) xs x ∙ ap (λ t. if t then Some (length xs) else last_place (name x) (named_by name value xs)) (text_itself (name x))

pub last_is_there : {B : Type 0} (name : B → List ℕ) (value : B → Datum) (hides : B → Option ℕ) (xs : List B) (x : B) (old : List ℕ → Option ℕ) → IsIndexed name value hides (xs ++ x ∷ []) old → IsSome (old (name x))
last_is_there name value hides xs x old h =
    let there : old (name x) ≡ Some (length xs) = last_at name value hides xs x old h in
    rw there refl

-- the value is that of the binding at the place
abbrev pub IsValueAt : {B : Type 0} → (B → Datum) → Option Datum → List B → Option ℕ → Type 0
IsValueAt value v xs None = v ≡ None
IsValueAt value v xs (Some i) = (i < length xs) × ((d : _) → v ≡ Some (value (get_or xs i d)))

value_after : {B : Type 0} (value : B → Datum) (t : Bool) (x : B) (xs : List B) (v : Option Datum) (o : Option ℕ) → IsValueAt value v xs o
    → IsValueAt value (first_some v (if t then Some (value x) else None)) (x ∷ xs) (place_after o (if t then Some 0 else None))
value_after value true x xs v None h = (omega arith, λ d. ap (λ w. first_some w (Some (value x))) h)
value_after value false x xs v None h = ap (λ w. first_some w None) h
value_after value true x xs v (Some i) h = (omega (arith, h.0), λ d. ap (λ w. first_some w (Some (value x))) (h.1 d))
value_after value false x xs v (Some i) h = (omega (arith, h.0), λ d. ap (λ w. first_some w None) (h.1 d))

value_at_place : {B : Type 0} (name : B → List ℕ) (value : B → Datum) (q : List ℕ) (xs : List B) → IsValueAt value (bound q (named_by name value xs)) xs (last_place q (named_by name value xs))
value_at_place name value q [] = refl
value_at_place name value q (x ∷ xs) =
    value_after value (bytes_eq q (name x)) x xs (bound q (named_by name value xs)) (last_place q (named_by name value xs)) (value_at_place name value q xs)

-- what there is says what the name is bound to
pub found_at : {B : Type 0} (name : B → List ℕ) (value : B → Datum) (hides : B → Option ℕ) (q : List ℕ) (xs : List B) (place : List ℕ → Option ℕ) (o : Option ℕ) → IsIndexed name value hides xs place
    → o ≡ place q → IsValueAt value (bound q (named_by name value xs)) xs o
found_at name value hides q xs place o h e = subst (λ p. IsValueAt value (bound q (named_by name value xs)) xs p) (sym (e ∙ h.last q)) (value_at_place name value q xs)
