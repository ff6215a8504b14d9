-- The grammar's turns as data: a value, a list and an object, with what is left.
use Rattle.std.proofs.Common.{◌≡◌, ℕ, zero, suc, ◌-◌, ◌<◌, List, [], ◌∷◌, ◌++◌, length, Option, Some, None, option_map, option_and_then, unwrap_or, refl, ap, sym, ◌∙◌, arith}
use Rattle.std.specs.Prelude.{MatchOption}
use Rattle.json.specs.Token.{Token}
use Rattle.json.specs.Json as json
use Rattle.json.specs.Json.{Parse, parse_map, after_end_array, read_key, items_step, members_step, items, members, value, if_last}
use Rattle.json.proofs.Grammar.{value-begin_array, value-begin_object}
use Rattle.serde_json.specs.Data.{Data, array, object, Items, no_items, item, Members, no_members, put}
use Rattle.serde_json.specs.Read.{of_json, of_items, of_members, converted}
use Rattle.serde_json.specs.View.{items_of, view}
use Rattle.serde_json.specs.declared.value.Value.{Value}
use Rattle.json_reader.specs.Reading.{value_read, list_read, object_read}

-- ---- what is left comes along

abbrev with_rest : {A : Type 0} → List Token → Option A → Option (A × List Token)
with_rest r x = option_map (λ a. (a, r)) x

mapped : {A B : Type 0} (g : A → B) (r : List Token) (x : Option A) → with_rest r (option_map g x) ≡ parse_map g (with_rest r x)
mapped g r None = refl
mapped g r (Some a) = refl

lists : (o : Option (json.Items × List Token)) → converted of_json (parse_map json.array o) ≡ parse_map array (converted of_items o)
lists None = refl
lists (Some p) = mapped array p.1 (of_items p.0)

objects : (o : Option (json.Members × List Token)) → converted of_json (parse_map json.object o) ≡ parse_map object (converted (λ ms. of_members ms no_members) o)
objects None = refl
objects (Some p) = mapped object p.1 (of_members p.0 no_members)

pub list_reads : (depth : ℕ) (ts : List Token) → 0 < depth → value_read depth (Token.begin_array ∷ ts) ≡ list_read (depth - 1) ts
list_reads depth ts some = ap (converted of_json) (value-begin_array depth ts some) ∙ lists (items (value (depth - 1)) (length ts) ts)

pub object_reads : (depth : ℕ) (ts : List Token) → 0 < depth → value_read depth (Token.begin_object ∷ ts) ≡ object_read (depth - 1) ts
object_reads depth ts some = ap (converted of_json) (value-begin_object depth ts some) ∙ objects (members (value (depth - 1)) (length ts) ts)

-- ---- one more item

abbrev pub items_more : Parse json.Items → Option (Data × List Token) → Option (Items × List Token)
items_more more o = option_and_then (λ q. parse_map (item q.0) (converted of_items (more q.1))) o

item_then : (j : json.Json) (x : Option Data) → of_json j ≡ x → (o : Option (json.Items × List Token))
    → converted of_items (parse_map (json.item j) o) ≡ option_and_then (λ d. parse_map (item d) (converted of_items o)) x
item_then j None is None = refl
item_then j None is (Some q) = rw is refl
item_then j (Some d) is None = refl
item_then j (Some d) is (Some q) = rw is (mapped (item d) q.1 (of_items q.0))

and_rest : (more : Parse json.Items) (r : List Token) (x : Option Data) → option_and_then (λ d. parse_map (item d) (converted of_items (more r))) x ≡ items_more more (with_rest r x)
and_rest more r None = refl
and_rest more r (Some d) = refl

item_turn : (more : Parse json.Items) (o : Option (json.Json × List Token))
    → converted of_items (option_and_then (λ q. parse_map (json.item q.0) (more q.1)) o) ≡ items_more more (converted of_json o)
item_turn more None = refl
item_turn more (Some q) = item_then q.0 (of_json q.0) refl (more q.1) ∙ and_rest more q.1 (of_json q.0)

pub one_item : (p : Parse json.Json) (n : ℕ) (ts : List Token) → 0 < n → after_end_array ts ≡ None
    → converted of_items (items p n ts) ≡ items_more (items p (n - 1)) (converted of_json (p ts))
unfolding items
one_item p zero ts some going = absurd (omega (arith, some))
one_item p (suc n) ts some going =
    let less : suc n - 1 ≡ n = omega arith in
    ap (λ o. converted of_items (items_step p (items p n) ts o)) going ∙ item_turn (items p n) (p ts) ∙ ap (λ k. items_more (items p k) (converted of_json (p ts))) (sym less)

pub no_item : (p : Parse json.Json) (n : ℕ) (ts : List Token) → after_end_array ts ≡ None → converted of_json (p ts) ≡ None → converted of_items (items p n ts) ≡ None
unfolding items
no_item p zero ts going none = refl
no_item p (suc n) ts going none = one_item p (suc n) ts (omega arith) going ∙ ap (items_more (items p (suc n - 1))) none

-- ---- one more member

abbrev pub members_more : Parse json.Members → List ℕ → Members → Option (Data × List Token) → Option (Members × List Token)
members_more more k old o = option_and_then (λ q. converted (λ ms. of_members ms (put k q.0 old)) (more q.1)) o

member_then : (k : List ℕ) (old : Members) (j : json.Json) (x : Option Data) → of_json j ≡ x → (o : Option (json.Members × List Token))
    → converted (λ ms. of_members ms old) (parse_map (json.member k j) o) ≡ option_and_then (λ d. converted (λ ms. of_members ms (put k d old)) o) x
member_then k old j None is None = refl
member_then k old j None is (Some q) = rw is refl
member_then k old j (Some d) is None = refl
member_then k old j (Some d) is (Some q) = rw is refl

and_members : (more : Parse json.Members) (k : List ℕ) (old : Members) (r : List Token) (x : Option Data)
    → option_and_then (λ d. converted (λ ms. of_members ms (put k d old)) (more r)) x ≡ members_more more k old (with_rest r x)
and_members more k old r None = refl
and_members more k old r (Some d) = refl

member_turn : (more : Parse json.Members) (k : List ℕ) (old : Members) (o : Option (json.Json × List Token))
    → converted (λ ms. of_members ms old) (option_and_then (λ q. parse_map (json.member k q.0) (more q.1)) o) ≡ members_more more k old (converted of_json o)
member_turn more k old None = refl
member_turn more k old (Some q) = member_then k old q.0 (of_json q.0) refl (more q.1) ∙ and_members more k old q.1 (of_json q.0)

pub one_member : (p : Parse json.Json) (old : Members) (n : ℕ) (k : List ℕ) (ts s : List Token) → 0 < n → read_key ts ≡ Some (Some k, s)
    → converted (λ ms. of_members ms old) (members p n ts) ≡ members_more (members p (n - 1)) k old (converted of_json (p s))
unfolding members
one_member p old zero k ts s some key = absurd (omega (arith, some))
one_member p old (suc n) k ts s some key =
    let less : suc n - 1 ≡ n = omega arith in
    ap (λ o. converted (λ ms. of_members ms old) (option_and_then (λ q. members_step p (members p n) q.0 q.1) o)) key ∙ member_turn (members p n) k old (p s)
    ∙ ap (λ i. members_more (members p i) k old (converted of_json (p s))) (sym less)

pub no_member : (p : Parse json.Json) (old : Members) (n : ℕ) (k : List ℕ) (ts s : List Token) → read_key ts ≡ Some (Some k, s) → converted of_json (p s) ≡ None
    → converted (λ ms. of_members ms old) (members p n ts) ≡ None
unfolding members
no_member p old zero k ts s key none = refl
no_member p old (suc n) k ts s key none = one_member p old (suc n) k ts s (omega arith) key ∙ ap (members_more (members p (suc n - 1)) k old) none

-- ---- a list that grows at its end

abbrev pub before : List Data → Items → Items
before [] rest = rest
before (d ∷ ds) rest = item d (before ds rest)

before_more : (ds : List Data) (d : Data) (rest : Items) → before ds (item d rest) ≡ before (ds ++ d ∷ []) rest
before_more [] d rest = refl
before_more (e ∷ ds) d rest = ap (item e) (before_more ds d rest)

pub grown : (ds : List Data) (d : Data) (o : Option (Items × List Token)) → parse_map (before ds) (parse_map (item d) o) ≡ parse_map (before (ds ++ d ∷ [])) o
grown ds d None = refl
grown ds d (Some p) = ap (λ i. Some (i, p.1)) (before_more ds d p.0)

pub before_none : (ds : List Data) → before ds no_items ≡ items_of ds
before_none [] = refl
before_none (d ∷ ds) = ap (item d) (before_none ds)

pub none_before : (o : Option (Items × List Token)) → o ≡ parse_map (before []) o
none_before None = refl
none_before (Some p) = refl

-- ---- a value that is found where one is read

pub found_as : (o : Option Value) (y : Option Data) (r : List Token) (read : Option (Data × List Token)) → read ≡ with_rest r y → option_map view o ≡ y
    → MatchOption o (read ≡ None) (λ v. read ≡ Some (view v, r))
found_as None y r read e h = e ∙ ap (with_rest r) (sym h)
found_as (Some v) y r read e h = e ∙ ap (with_rest r) (sym h)

-- ---- the whole text

abbrev pub whole : Option (json.Json × List Token) → Option Data
whole o = option_and_then of_json (option_and_then (λ p. if_last p.0 p.1) o)

none_within : (r : List Token) (x : Option Data) → with_rest r x ≡ None → x ≡ None
none_within r None h = refl
none_within r (Some d) h = absurd (cc)

pub whole_none : (o : Option (json.Json × List Token)) → converted of_json o ≡ None → whole o ≡ None
whole_none None h = refl
whole_none (Some (j, [])) h = none_within [] (of_json j) h
whole_none (Some (j, t ∷ r)) h = refl

parts : (r s : List Token) (x : Option Data) (d : Data) → with_rest r x ≡ Some (d, s) → (x ≡ Some d) × (r ≡ s)
parts r s None d h = absurd (cc)
parts r s (Some a) d h = let same = ap (λ o. unwrap_or o (a, r)) h in (ap (λ q. Some q.0) same, ap (λ q. q.1) same)

pub whole_done : (o : Option (json.Json × List Token)) (d : Data) → converted of_json o ≡ Some (d, []) → whole o ≡ Some d
whole_done None d h = absurd (cc)
whole_done (Some (j, r)) d h = let s = parts r [] (of_json j) d h in ap (λ l. whole (Some (j, l))) s.1 ∙ s.0

pub whole_more : (o : Option (json.Json × List Token)) (d : Data) (t : Token) (u : List Token) → converted of_json o ≡ Some (d, t ∷ u) → whole o ≡ None
whole_more None d t u h = refl
whole_more (Some (j, r)) d t u h = ap (λ l. whole (Some (j, l))) (parts r (t ∷ u) (of_json j) d h).1
