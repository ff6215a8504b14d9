-- A value that has the form of a model has no float, where the keys of its objects rise.
use Rattle.std.proofs.Common.{◌≡◌, ℕ, Bool, true, false, ◌&&◌, ◌||◌, if◌then◌else◌, Option, Some, None, option_map, List, [], ◌∷◌, refl, sym, ap, ap₂, ◌∙◌, subst, Ordering, Less, Equal, Greater, is_lt, is_eq, nat_cmp}
use Rattle.std.specs.Prelude.{⊤, codes, bytes_eq, nat_le}
use Rattle.std.specs.List.{list_any}
use Rattle.std.specs.Ordering.{match_ordering, ordering_reverse}
use Rattle.std.specs.Cmp.Lexicographic.{slice_cmp}
use Rattle.std.proofs.lemmas.Cmp.{nat_list_cmp_total, tied_itself}
use Rattle.std.proofs.lemmas.Map.Text.{is_eq-slice_cmp}
use Rattle.std.proofs.lemmas.Slice.Eq.{bytes_eq-Decides}
use Rattle.serde_json.specs.Data.{Data, null, boolean, number, string, array, object, Items, no_items, item, Members, no_members, member, depth}
use Rattle.serde_json.specs.Find.{get_member}
use Rattle.serde_json.specs.Written.{has_float, items_have_float, members_have_float}
use Rattle.feel_value.proofs.Booleans.{both_true}
use Rattle.feel_value.specs.JsonKeys.{is_before, in_order, keys_rise, items_rise, members_rise}
use Rattle.dmn_form.specs.Model.{Name}
use Rattle.dmn_form.specs.Draft.{Draft, Logic, each_in, text_of, some_text, list_of, texts_of, has_only, object_of, at, or_else, at_if, column_of, rule_of, table_of, logic_of, logic_in, members_at, members_in, entries_at, entries_in, entry_at, entry_members, decision_of, service_of, model_form, draft_of, most_nesting}
use Rattle.feel_value.specs.Found.{◌>>=◌}
use Rattle.dmn_plan.proofs.Rising.{less_by_test}

-- what f reads has no float
abbrev IsFree : {Y : Type 0} → (Data → Option Y) → Type 0
IsFree {Y = Y} f = (d : Data) (y : Y) → keys_rise d ≡ true → f d ≡ Some y → has_float d ≡ false

both_no : (a b : Bool) → a ≡ false → b ≡ false → (a || b) ≡ false
both_no a b p q = ap₂ (λ x y. x || y) p q

bound : {X Y P : Type 0} (o : Option X) (f : X → Option Y) (y : Y) → (o >>= f) ≡ Some y → ((x : X) → o ≡ Some x → f x ≡ Some y → P) → P
bound None f y e k = absurd (cc)
bound (Some x) f y e k = k x refl e

chosen : {Y P : Type 0} (b : Bool) (o q : Option Y) (y : Y) → (if b then o else q) ≡ Some y → (o ≡ Some y → P) → (q ≡ Some y → P) → P
chosen true o q y e k l = k e
chosen false o q y e k l = l e

made : {X Y P : Type 0} (f : X → Y) (o : Option X) (y : Y) → option_map f o ≡ Some y → ((x : X) → o ≡ Some x → P) → P
made f None y e k = absurd (cc)
made f (Some x) y e k = k x refl

nothing : {Y P : Type 0} (y : Y) → None ≡ Some y → P
nothing y e = absurd (cc)

text_free : IsFree text_of
text_free null y up e = nothing y e
text_free (boolean b) y up e = nothing y e
text_free (number n) y up e = nothing y e
text_free (string s) y up e = refl
text_free (array ds) y up e = nothing y e
text_free (object ms) y up e = nothing y e

some_text_free : IsFree some_text
some_text_free d y up e = made Some (text_of d) y e (λ s is. text_free d s up is)

each_free : {Y : Type 0} (f : Data → Option Y) → IsFree f → (ds : Items) (ys : List Y) → items_rise ds ≡ true → each_in f ds ≡ Some ys → items_have_float ds ≡ false
each_free f free no_items ys up e = refl
each_free f free (item d ds) ys up e =
    let p = both_true (keys_rise d) (items_rise ds) up in
    bound (f d) _ ys e (λ y is rest. bound (each_in f ds) _ ys rest (λ zs are last. both_no _ _ (free d y p.0 is) (each_free f free ds zs p.1 are)))

list_free : {Y : Type 0} (f : Data → Option Y) → IsFree f → IsFree (list_of f)
list_free f free null y up e = nothing y e
list_free f free (boolean b) y up e = nothing y e
list_free f free (number n) y up e = nothing y e
list_free f free (string s) y up e = nothing y e
list_free f free (array ds) y up e = each_free f free ds y up e
list_free f free (object ms) y up e = nothing y e

texts_free : IsFree texts_of
texts_free = list_free text_of text_free

-- ---- members of an object

abbrev IsFreeAt : List ℕ → Members → Type 0
IsFreeAt k ms = (d : Data) → get_member k ms ≡ Some d → has_float d ≡ false

abbrev AreFree : List (List ℕ) → Members → Type 0
AreFree [] ms = ⊤
AreFree (k ∷ ks) ms = IsFreeAt k ms × AreFree ks ms

rises_by : (o : Ordering) (c d : Data) (found : Option Data) → keys_rise c ≡ true → (found ≡ Some d → keys_rise d ≡ true) → match_ordering o found (Some c) found ≡ Some d → keys_rise d ≡ true
rises_by Less c d found up later is = later is
rises_by Equal c d found up later is = let same : c ≡ d = cc in ap keys_rise (sym same) ∙ up
rises_by Greater c d found up later is = later is

rises_at : (k : List ℕ) (ms : Members) (d : Data) → members_rise ms ≡ true → get_member k ms ≡ Some d → keys_rise d ≡ true
rises_at k no_members d up is = nothing d is
rises_at k (member l c ms) d up is =
    let p = both_true (keys_rise c) (members_rise ms) up in
    rises_by (slice_cmp nat_cmp k l) c d (get_member k ms) p.0 (λ e. rises_at k ms d p.1 e) is

at_free : {Y : Type 0} (key : List ℕ) (f : Data → Option Y) → IsFree f → (ms : Members) (y : Y) → members_rise ms ≡ true → at key f ms ≡ Some y → IsFreeAt key ms
at_free key f free ms y up e = λ d is.
    free d y (rises_at key ms d up is) (ap (λ o. o >>= f) (sym is) ∙ e)

at_if_free : {Y : Type 0} (key : List ℕ) (z : Y) (f : Data → Option Y) → IsFree f → (ms : Members) (y : Y) → members_rise ms ≡ true → at_if key z f ms ≡ Some y → IsFreeAt key ms
at_if_free key z f free ms y up e = λ d is. free d y (rises_at key ms d up is) (ap (or_else z f) (sym is) ∙ e)

free_or : (b : Bool) (k l : List ℕ) (ms : Members) (later : Bool) → bytes_eq k l ≡ b → IsFreeAt l ms → (later ≡ true → IsFreeAt k ms) → (b || later) ≡ true → IsFreeAt k ms
free_or true k l ms later is h rest e = subst (λ x. IsFreeAt x ms) (sym ((bytes_eq-Decides k l).0 is)) h
free_or false k l ms later is h rest e = rest e

free_among : (keys : List (List ℕ)) (ms : Members) → AreFree keys ms → (k : List ℕ) → list_any (bytes_eq k) keys ≡ true → IsFreeAt k ms
free_among [] ms h k e = absurd (cc)
free_among (l ∷ ls) ms h k e = free_or (bytes_eq k l) k l ms (list_any (bytes_eq k) ls) refl h.0 (λ among. free_among ls ms h.1 k among) e

after_by : (o : Ordering) (k l m : List ℕ) (c d : Data) (found : Option Data) → slice_cmp nat_cmp l m ≡ o → is_lt (slice_cmp nat_cmp k m) ≡ true
    → (found ≡ Some d → is_lt (slice_cmp nat_cmp k l) ≡ true) → match_ordering o found (Some c) found ≡ Some d → is_lt (slice_cmp nat_cmp k l) ≡ true
after_by Less k l m c d found o up later is = later is
after_by Equal k l m c d found o up later is = ap (λ x. is_lt (slice_cmp nat_cmp k x)) ((bytes_eq-Decides l m).0 (sym (is_eq-slice_cmp l m) ∙ ap is_eq o)) ∙ up
after_by Greater k l m c d found o up later is = later is

-- a key that is found is after one that is before all
after : (k l : List ℕ) (ms : Members) (d : Data) → is_before k ms ≡ true → get_member l ms ≡ Some d → is_lt (slice_cmp nat_cmp k l) ≡ true
after k l no_members d up is = nothing d is
after k l (member m c ms) d up is =
    let p = both_true (is_lt (slice_cmp nat_cmp k m)) (is_before k ms) up in
    after_by (slice_cmp nat_cmp l m) k l m c d (get_member l ms) refl p.0 (λ e. after k l ms d p.1 e) is

here : (k : List ℕ) (d : Data) (ms : Members) → get_member k (member k d ms) ≡ Some d
here k d ms = ap (λ o. match_ordering o (get_member k ms) (Some d) (get_member k ms)) (tied_itself nat_list_cmp_total k)

later : (k l : List ℕ) (c d : Data) (ms : Members) → is_before k ms ≡ true → get_member l ms ≡ Some d → get_member l (member k c ms) ≡ Some d
later k l c d ms up is =
    ap (λ o. match_ordering o (get_member l ms) (Some c) (get_member l ms))
    (nat_list_cmp_total.antisymm l k ∙ ap ordering_reverse (less_by_test (slice_cmp nat_cmp k l) (after k l ms d up is)))
    ∙ is

members_free : (keys : List (List ℕ)) (ms : Members) → ((k : List ℕ) → list_any (bytes_eq k) keys ≡ true → IsFreeAt k ms) → has_only keys ms ≡ true → in_order ms ≡ true → members_have_float ms ≡ false
members_free keys no_members h only up = refl
members_free keys (member k d ms) h only up =
    let p = both_true (list_any (bytes_eq k) keys) (has_only keys ms) only in
    let q = both_true (is_before k ms) (in_order ms) up in
    both_no _ _ (h k p.0 d (here k d ms)) (members_free keys ms (λ l among e is. h l among e (later k l d e ms q.0 is)) p.1 q.1)

object_free : {Y : Type 0} (keys : List (List ℕ)) (f : Members → Option Y) → ((ms : Members) (y : Y) → members_rise ms ≡ true → f ms ≡ Some y → AreFree keys ms) → IsFree (object_of keys f)
object_free keys f free null y up e = nothing y e
object_free keys f free (boolean b) y up e = nothing y e
object_free keys f free (number n) y up e = nothing y e
object_free keys f free (string s) y up e = nothing y e
object_free keys f free (array ds) y up e = nothing y e
object_free keys f free (object ms) y up e =
    let p = both_true (in_order ms) (members_rise ms) up in
    only_then (has_only keys ms) refl e
  where
    only_then : (b : Bool) → has_only keys ms ≡ b → (if b then f ms else None) ≡ Some y → members_have_float ms ≡ false
    only_then true only reads = members_free keys ms (λ k among. free_among keys ms (free ms y (both_true (in_order ms) (members_rise ms) up).1 reads) k among) only (both_true (in_order ms) (members_rise ms) up).0
    only_then false only reads = nothing y reads

column_free : IsFree column_of
column_free = object_free (codes "name" ∷ codes "values" ∷ codes "default" ∷ []) _ (λ ms c up e.
    bound (at (codes "name") text_of ms) _ c e (λ name n e1.
    bound (at_if (codes "values") [] texts_of ms) _ c e1 (λ values v e2.
    bound (at_if (codes "default") None some_text ms) _ c e2 (λ fallback b e3. (
      at_free (codes "name") text_of text_free ms name up n,
      (
        at_if_free (codes "values") [] texts_of texts_free ms values up v,
        (at_if_free (codes "default") None some_text some_text_free ms fallback up b, tt),
      ),
    )))))

rule_free : IsFree rule_of
rule_free = object_free (codes "when" ∷ codes "then" ∷ []) _ (λ ms r up e.
    bound (at (codes "when") texts_of ms) _ r e (λ tests t e1.
    bound (at (codes "then") texts_of ms) _ r e1 (λ gives g e2. (
      at_free (codes "when") texts_of texts_free ms tests up t,
      (at_free (codes "then") texts_of texts_free ms gives up g, tt),
    ))))

table_free : IsFree table_of
table_free = object_free (codes "hit" ∷ codes "inputs" ∷ codes "outputs" ∷ codes "rules" ∷ []) _ (λ ms t up e.
    bound (at (codes "hit") text_of ms) _ t e (λ hit h e1.
    bound (at (codes "inputs") texts_of ms) _ t e1 (λ inputs i e2.
    bound (at (codes "outputs") (list_of column_of) ms) _ t e2 (λ outputs o e3.
    bound (at (codes "rules") (list_of rule_of) ms) _ t e3 (λ rules r e4. (
      at_free (codes "hit") text_of text_free ms hit up h,
      (
        at_free (codes "inputs") texts_of texts_free ms inputs up i,
        (
          at_free (codes "outputs") (list_of column_of) (list_free column_of column_free) ms outputs up o,
          (at_free (codes "rules") (list_of rule_of) (list_free rule_of rule_free) ms rules up r, tt),
        ),
      ),
    ))))))

one_free : (d : Data) → has_float d ≡ false → (has_float d || false) ≡ false
one_free d h = both_no _ _ h refl

mutual
  logic_free : IsFree logic_of
  logic_free null b up e = nothing b e
  logic_free (boolean c) b up e = nothing b e
  logic_free (number n) b up e = nothing b e
  logic_free (string s) b up e = refl
  logic_free (array ds) b up e = nothing b e
  logic_free (object ms) b up e = logic_in_free ms b (both_true (in_order ms) (members_rise ms) up).1 e

  logic_in_free : (ms : Members) (b : Logic) → members_rise ms ≡ true → logic_in ms ≡ Some b → members_have_float ms ≡ false
  logic_in_free no_members b up e = nothing b e
  logic_in_free (member k d no_members) b up e =
      let p = (both_true (keys_rise d) true up).0 in
      chosen (bytes_eq k (codes "list")) _ _ b e
      (λ f. made _ (members_at d) b f (λ bs is. one_free d (members_at_free d bs p is)))
      (λ f. chosen (bytes_eq k (codes "context")) _ _ b f
      (λ g. made _ (entries_at d) b g (λ es is. one_free d (entries_at_free d es p is)))
      (λ g. chosen (bytes_eq k (codes "table")) _ _ b g
      (λ h. made _ (table_of d) b h (λ t is. one_free d (table_free d t p is)))
      (λ h. nothing b h)))
  logic_in_free (member k d (member l r no_members)) b up e =
      let p = both_true (keys_rise d) (keys_rise r && true) up in
      chosen (bytes_eq k (codes "context") && bytes_eq l (codes "result")) _ _ b e
      (λ f. bound (entries_at d) _ b f (λ es are g. bound (logic_of r) _ b g (λ c is h.
      both_no _ _ (entries_at_free d es p.0 are) (one_free r (logic_free r c (both_true (keys_rise r) true p.1).0 is)))))
      (λ f. nothing b f)
  logic_in_free (member k d (member l r (member m s ms))) b up e = nothing b e

  members_at_free : IsFree members_at
  members_at_free null b up e = nothing b e
  members_at_free (boolean c) b up e = nothing b e
  members_at_free (number n) b up e = nothing b e
  members_at_free (string s) b up e = nothing b e
  members_at_free (array ds) b up e = members_in_free ds b up e
  members_at_free (object ms) b up e = nothing b e

  members_in_free : (ds : Items) (bs : List Logic) → items_rise ds ≡ true → members_in ds ≡ Some bs → items_have_float ds ≡ false
  members_in_free no_items bs up e = refl
  members_in_free (item d ds) bs up e =
      let p = both_true (keys_rise d) (items_rise ds) up in
      bound (logic_of d) _ bs e (λ b is f. bound (members_in ds) _ bs f (λ cs are g. both_no _ _ (logic_free d b p.0 is) (members_in_free ds cs p.1 are)))

  entries_at_free : IsFree entries_at
  entries_at_free null b up e = nothing b e
  entries_at_free (boolean c) b up e = nothing b e
  entries_at_free (number n) b up e = nothing b e
  entries_at_free (string s) b up e = nothing b e
  entries_at_free (array ds) b up e = entries_in_free ds b up e
  entries_at_free (object ms) b up e = nothing b e

  entries_in_free : (ds : Items) (es : List (Name × Logic)) → items_rise ds ≡ true → entries_in ds ≡ Some es → items_have_float ds ≡ false
  entries_in_free no_items es up e = refl
  entries_in_free (item d ds) es up e =
      let p = both_true (keys_rise d) (items_rise ds) up in
      bound (entry_at d) _ es e (λ b is f. bound (entries_in ds) _ es f (λ cs are g. both_no _ _ (entry_at_free d b p.0 is) (entries_in_free ds cs p.1 are)))

  entry_at_free : IsFree entry_at
  entry_at_free null b up e = nothing b e
  entry_at_free (boolean c) b up e = nothing b e
  entry_at_free (number n) b up e = nothing b e
  entry_at_free (string s) b up e = nothing b e
  entry_at_free (array ds) b up e = nothing b e
  entry_at_free (object ms) b up e = entry_members_free ms b (both_true (in_order ms) (members_rise ms) up).1 e

  entry_members_free : (ms : Members) (b : Name × Logic) → members_rise ms ≡ true → entry_members ms ≡ Some b → members_have_float ms ≡ false
  entry_members_free no_members b up e = nothing b e
  entry_members_free (member k d no_members) b up e = nothing b e
  entry_members_free (member k d (member l n no_members)) b up e =
      let p = both_true (keys_rise d) (keys_rise n && true) up in
      chosen (bytes_eq k (codes "expr") && bytes_eq l (codes "name")) _ _ b e
      (λ f. bound (logic_of d) _ b f (λ c is g. bound (text_of n) _ b g (λ name named h.
      both_no _ _ (logic_free d c p.0 is) (one_free n (text_free n name (both_true (keys_rise n) true p.1).0 named)))))
      (λ f. nothing b f)
  entry_members_free (member k d (member l n (member m s ms))) b up e = nothing b e

decision_free : IsFree decision_of
decision_free = object_free (codes "name" ∷ codes "needs" ∷ codes "expr" ∷ []) _ (λ ms d up e.
    bound (at (codes "name") text_of ms) _ d e (λ name n e1.
    bound (at (codes "needs") texts_of ms) _ d e1 (λ needs t e2.
    bound (at (codes "expr") logic_of ms) _ d e2 (λ logic l e3. (
      at_free (codes "name") text_of text_free ms name up n,
      (
        at_free (codes "needs") texts_of texts_free ms needs up t,
        (at_free (codes "expr") logic_of logic_free ms logic up l, tt),
      ),
    )))))

service_free : IsFree service_of
service_free = object_free (codes "name" ∷ codes "outputs" ∷ codes "encapsulated" ∷ codes "inputDecisions" ∷ codes "inputData" ∷ []) _ (λ ms s up e.
    bound (at (codes "name") text_of ms) _ s e (λ name n e1.
    bound (at (codes "outputs") texts_of ms) _ s e1 (λ outputs o e2.
    bound (at (codes "encapsulated") texts_of ms) _ s e2 (λ encapsulated c e3.
    bound (at (codes "inputDecisions") texts_of ms) _ s e3 (λ input_decisions i e4.
    bound (at (codes "inputData") texts_of ms) _ s e4 (λ input_data j e5. (
      at_free (codes "name") text_of text_free ms name up n,
      (
        at_free (codes "outputs") texts_of texts_free ms outputs up o,
        (
          at_free (codes "encapsulated") texts_of texts_free ms encapsulated up c,
          (
            at_free (codes "inputDecisions") texts_of texts_free ms input_decisions up i,
            (at_free (codes "inputData") texts_of texts_free ms input_data up j, tt),
          ),
        ),
      ),
    )))))))

model_free : IsFree model_form
model_free = object_free (codes "inputs" ∷ codes "decisions" ∷ codes "services" ∷ []) _ (λ ms m up e.
    bound (at (codes "inputs") texts_of ms) _ m e (λ inputs i e1.
    bound (at (codes "decisions") (list_of decision_of) ms) _ m e1 (λ decisions d e2.
    bound (at (codes "services") (list_of service_of) ms) _ m e2 (λ services s e3. (
      at_free (codes "inputs") texts_of texts_free ms inputs up i,
      (
        at_free (codes "decisions") (list_of decision_of) (list_free decision_of decision_free) ms decisions up d,
        (at_free (codes "services") (list_of service_of) (list_free service_of service_free) ms services up s, tt),
      ),
    )))))

-- a value that has the form has no float
pub draft_free : (d : Data) (m : Draft) → keys_rise d ≡ true → draft_of d ≡ Some m → has_float d ≡ false
draft_free d m up e = chosen (nat_le (depth d) most_nesting) _ _ m e (λ f. model_free d m up f) (λ f. nothing m f)
