-- The keys of each object of a value that a text reads as rise.
use Rattle.std.proofs.Common.{◌≡◌, ℕ, Bool, true, ◌&&◌, Option, Some, None, option_map, option_and_then, List, refl, ap, ap₂, ◌∙◌, subst, Ordering, Less, Equal, Greater, is_lt, nat_cmp}
use Rattle.std.specs.Prelude.{⊤}
use Rattle.std.specs.Ordering.{match_ordering, ordering_reverse}
use Rattle.std.specs.Cmp.Lexicographic.{slice_cmp}
use Rattle.std.proofs.lemmas.Cmp.{nat_list_cmp_total}
use Rattle.json.specs.Lex.{tokens}
use Rattle.json.specs.Json as json
use Rattle.serde_json.specs.Data.{Data, number, array, object, item, Members, no_members, member, put}
use Rattle.serde_json.specs.Read.{number_of, of_json, of_items, of_members, max_depth, read}
use Rattle.feel_value.proofs.Booleans.{both_true}
use Rattle.feel_value.specs.JsonKeys.{is_before, in_order, keys_rise, items_rise, members_rise}

and_true : (a b : Bool) → a ≡ true → b ≡ true → (a && b) ≡ true
and_true a b p q = ap₂ (λ x y. x && y) p q

pub less_by_test : (o : Ordering) → is_lt o ≡ true → o ≡ Less
less_by_test Less e = refl
less_by_test Equal e = cc
less_by_test Greater e = cc

before_both : (k l m : List ℕ) → is_lt (slice_cmp nat_cmp k l) ≡ true → is_lt (slice_cmp nat_cmp l m) ≡ true → is_lt (slice_cmp nat_cmp k m) ≡ true
before_both k l m d e = ap is_lt (nat_list_cmp_total.trans k l m (less_by_test (slice_cmp nat_cmp k l) d) (less_by_test (slice_cmp nat_cmp l m) e))

before_later : (k l : List ℕ) (ms : Members) → is_lt (slice_cmp nat_cmp k l) ≡ true → is_before l ms ≡ true → is_before k ms ≡ true
before_later k l no_members less h = refl
before_later k l (member m d ms) less h =
    let p = both_true (is_lt (slice_cmp nat_cmp l m)) (is_before l ms) h in
    and_true _ _ (before_both k l m less p.0) (before_later k l ms less p.1)

by_order : (P : Members → Bool) (o : Ordering) (a b c : Members) → (o ≡ Less → P a ≡ true) → P b ≡ true → (o ≡ Greater → P c ≡ true) → P (match_ordering o a b c) ≡ true
by_order P Less a b c p q r = p refl
by_order P Equal a b c p q r = q
by_order P Greater a b c p q r = r refl

is_before-put : (j k : List ℕ) (d : Data) (ms : Members) → is_lt (slice_cmp nat_cmp j k) ≡ true → is_before j ms ≡ true → is_before j (put k d ms) ≡ true
is_before-put j k d no_members less h = and_true _ _ less refl
is_before-put j k d (member l e ms) less h =
    let p = both_true (is_lt (slice_cmp nat_cmp j l)) (is_before j ms) h in
    by_order (is_before j) (slice_cmp nat_cmp k l) (member k d (member l e ms)) (member l d ms) (member l e (put k d ms))
    (λ o. and_true _ _ less h) h (λ o. and_true _ _ p.0 (is_before-put j k d ms less p.1))

in_order-put : (k : List ℕ) (d : Data) (ms : Members) → in_order ms ≡ true → in_order (put k d ms) ≡ true
in_order-put k d no_members h = refl
in_order-put k d (member l e ms) h =
    let p = both_true (is_before l ms) (in_order ms) h in
    by_order in_order (slice_cmp nat_cmp k l) (member k d (member l e ms)) (member l d ms) (member l e (put k d ms))
    (λ o. and_true _ _ (and_true _ _ (ap is_lt o) (before_later k l ms (ap is_lt o) p.0)) h) h
    (λ o. and_true _ _ (is_before-put l k d ms (ap is_lt (nat_list_cmp_total.antisymm l k ∙ ap ordering_reverse o)) p.0) (in_order-put k d ms p.1))

members_rise-put : (k : List ℕ) (d : Data) (ms : Members) → keys_rise d ≡ true → members_rise ms ≡ true → members_rise (put k d ms) ≡ true
members_rise-put k d no_members up h = and_true _ _ up refl
members_rise-put k d (member l e ms) up h =
    let p = both_true (keys_rise e) (members_rise ms) h in
    by_order members_rise (slice_cmp nat_cmp k l) (member k d (member l e ms)) (member l d ms) (member l e (put k d ms))
    (λ o. and_true _ _ up h) (and_true _ _ up p.1) (λ o. and_true _ _ p.0 (members_rise-put k d ms up p.1))

-- it holds of what there is
abbrev IfThere : {A : Type 0} → (A → Bool) → Option A → Type 0
IfThere P None = ⊤
IfThere P (Some a) = P a ≡ true

mapped : {A B : Type 0} (P : A → Bool) (Q : B → Bool) (f : A → B) → ((a : A) → P a ≡ true → Q (f a) ≡ true) → (o : Option A) → IfThere P o → IfThere Q (option_map f o)
mapped P Q f k None h = tt
mapped P Q f k (Some a) h = k a h

followed : {A B : Type 0} (P : A → Bool) (Q : B → Bool) (f : A → Option B) → ((a : A) → P a ≡ true → IfThere Q (f a)) → (o : Option A) → IfThere P o → IfThere Q (option_and_then f o)
followed P Q f k None h = tt
followed P Q f k (Some a) h = k a h

whatever : {A : Type 0} (o : Option A) → IfThere (λ _. true) o
whatever None = tt
whatever (Some a) = refl

abbrev rising_members : Members → Bool
rising_members ms = in_order ms && members_rise ms

mutual
  of_json-rises : (j : json.Json) → IfThere keys_rise (of_json j)
  of_json-rises json.null = refl
  of_json-rises (json.boolean b) = refl
  of_json-rises (json.number s) = mapped (λ _. true) keys_rise number (λ n h. refl) (number_of s) (whatever (number_of s))
  of_json-rises (json.string s) = refl
  of_json-rises (json.array js) = mapped items_rise keys_rise array (λ ds h. h) (of_items js) (of_items-rise js)
  of_json-rises (json.object ms) = mapped rising_members keys_rise object (λ found h. h) (of_members ms no_members) (of_members-rise ms no_members refl refl)

  of_items-rise : (js : json.Items) → IfThere items_rise (of_items js)
  of_items-rise json.no_items = refl
  of_items-rise (json.item j js) =
      followed keys_rise items_rise (λ d. option_map (item d) (of_items js))
      (λ d up. mapped items_rise items_rise (item d) (λ ds h. and_true _ _ up h) (of_items js) (of_items-rise js)) (of_json j) (of_json-rises j)

  of_members-rise : (ms : json.Members) (found : Members) → in_order found ≡ true → members_rise found ≡ true → IfThere rising_members (of_members ms found)
  of_members-rise json.no_members found p q = and_true _ _ p q
  of_members-rise (json.member k j ms) found p q =
      followed keys_rise rising_members (λ d. of_members ms (put k d found))
      (λ d up. of_members-rise ms (put k d found) (in_order-put k d found p) (members_rise-put k d found up q)) (of_json j) (of_json-rises j)

-- the keys of each object of a value that was read rise
pub read_rises : (s : List ℕ) (d : Data) → read s ≡ Some d → keys_rise d ≡ true
read_rises s d e =
    subst (IfThere keys_rise) e
    (followed (λ _. true) keys_rise of_json (λ j h. of_json-rises j) (option_and_then (λ p. json.if_last p.0 p.1) (json.value max_depth (tokens s))) (whatever _))
