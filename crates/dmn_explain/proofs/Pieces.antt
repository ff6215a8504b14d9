-- The pieces of the text of an explanation, put together.
use Rattle.std.proofs.Common.{◌≡◌, ℕ, Bool, true, false, List, [], ◌∷◌, ◌++◌, refl, ap, sym, ◌∙◌, Option, None, Some, option_map}
use Rattle.std.specs.Prelude.{codes}
use Rattle.std.proofs.lemmas.Option.{same_Some}
use Rattle.json.specs.Print.{quoted}
use Rattle.serde_json.specs.Data.{Data, string, object, array, Items, Members, no_members, member}
use Rattle.serde_json.specs.Written.{comma_if, compact_text, items_text, members_text}
use Rattle.feel_value.specs.Datum.{Datum, list, items_of}
use Rattle.feel_value.specs.Json.{json_of}
use Rattle.json_writer.specs.Bounded.{longer}
use Rattle.json_writer.proofs.Longer.{Text, longer_again, longer_thrice, keyed}
pub use Rattle.json_writer.proofs.Longer.{row_more, row_ended, row_begun}
use Rattle.feel_value.specs.Found.{outcome_from, value_of}
use Rattle.feel_text.specs.Meaning.{Bindings}
use Rattle.dmn_table.specs.Hits.{output_of, values_of}
use Rattle.dmn_table.specs.Faults.{goes_by_priority, policy_text}
use Rattle.dmn_table.specs.Priority.{listed_places, listed_values}
use Rattle.dmn_table.specs.Table.{Column, Rule, Table}
use Rattle.dmn_explain.specs.How.{valued, told_as, members_from, decided_then, hit_told, hits_then, inputs_and_hits, listed_told, miss_told, misses, misses_if, misses_told, number_told, numbered_hits, numbers_told, places_if, table_told}
use Rattle.dmn_explain.specs.Numbered.{Found, found_from}
use Rattle.dmn_explain.specs.Text.{key_text, valued_text, name_text, entries_text, decided_text, misses_text, places_text}
use Rattle.dmn_explain.proofs.Rows.{told_of, told_same}

pub name_added : (t : Text) (key name : List ℕ) → longer (longer (longer t (123 ∷ [])) key) name ≡ longer t (123 ∷ (key ++ name))
name_added t key name = longer_thrice t (123 ∷ []) key name

-- a member, and those behind it
pub member_added : (t : Text) (later : Bool) (k : List ℕ) (d : Data) (ms : Members)
    → longer (longer (longer t (key_text later k)) (compact_text d)) (members_text true ms) ≡ longer t (members_text later (member k d ms))
member_added t later k d ms =
    ap (λ s. longer (longer s (compact_text d)) (members_text true ms))
    (sym (longer_again (longer t (comma_if later)) (quoted k) (58 ∷ []) ∙ longer_again t (comma_if later) (quoted k ++ 58 ∷ [])))
    ∙ keyed t (comma_if later) (quoted k) (compact_text d) (members_text true ms)

-- the last member, with the object's end
pub member_ended : (t : Text) (later : Bool) (k : List ℕ) (d : Data)
    → longer (longer (longer t (key_text later k)) (compact_text d)) (125 ∷ []) ≡ longer t (members_text later (member k d no_members))
member_ended t later k d = member_added t later k d no_members

pub valued_added : (t : Text) (later : Bool) (k : List ℕ) (o : Option Datum) (ms : Members)
    → longer (longer t (valued_text later k o)) (members_text true ms) ≡ longer t (members_text later (valued k o ms))
valued_added t later k (Some d) ms =
    ap (λ s. longer s (members_text true ms)) (sym (longer_again t (key_text later k) (compact_text (json_of d)))) ∙ member_added t later k (json_of d) ms
valued_added t later k None ms =
    ap (λ s. longer s (members_text true ms)) (sym (longer_again t (key_text later (codes "fault")) (quoted (codes "limit"))))
    ∙ member_added t later (codes "fault") (string (codes "limit")) ms

-- an object of a value, and how it came
pub told_added : (t : Text) (o : Option Datum) (ms : Members)
    → longer (longer (longer t (123 ∷ [])) (valued_text false (codes "value") o)) (members_text true ms) ≡ longer t (compact_text (told_as o ms))
told_added t o ms = valued_added (longer t (123 ∷ [])) false (codes "value") o ms ∙ longer_again t (123 ∷ []) (members_text false (valued (codes "value") o ms))

-- an object of a name, and then a value under any key
pub name_and_value : (t : Text) (n k : List ℕ) (o : Option Datum) (ms : Members)
    → longer (longer (longer t (name_text n)) (valued_text true k o)) (members_text true ms) ≡ longer t (compact_text (object (member (codes "name") (string n) (valued k o ms))))
name_and_value t n k o ms =
    valued_added (longer t (name_text n)) true k o ms
    ∙ ap (λ s. longer s (members_text true (valued k o ms))) (sym (name_added t (key_text false (codes "name")) (quoted n)))
    ∙ member_added (longer t (123 ∷ [])) false (codes "name") (string n) (valued k o ms)
    ∙ longer_again t (123 ∷ []) (members_text false (member (codes "name") (string n) (valued k o ms)))

-- ---- the same, step by step

pub member_ended_by : (t t1 t2 t3 : Text) (later : Bool) (k : List ℕ) (d : Data) → t1 ≡ longer t (key_text later k) → t2 ≡ longer t1 (compact_text d) → t3 ≡ longer t2 (125 ∷ [])
    → t3 ≡ longer t (members_text later (member k d no_members))
member_ended_by t t1 t2 t3 later k d key value end =
    end ∙ ap (λ s. longer s (125 ∷ [])) (value ∙ ap (λ s. longer s (compact_text d)) key) ∙ member_ended t later k d

pub member_added_by : (t t1 t2 t3 : Text) (later : Bool) (k : List ℕ) (d : Data) (ms : Members) → t1 ≡ longer t (key_text later k) → t2 ≡ longer t1 (compact_text d)
    → t3 ≡ longer t2 (members_text true ms) → t3 ≡ longer t (members_text later (member k d ms))
member_added_by t t1 t2 t3 later k d ms key value rest =
    rest ∙ ap (λ s. longer s (members_text true ms)) (value ∙ ap (λ s. longer s (compact_text d)) key) ∙ member_added t later k d ms

pub told_added_by : (t t1 t2 t3 : Text) (o : Option Datum) (ms : Members) → t1 ≡ longer t (123 ∷ []) → t2 ≡ longer t1 (valued_text false (codes "value") o)
    → t3 ≡ longer t2 (members_text true ms) → t3 ≡ longer t (compact_text (told_as o ms))
told_added_by t t1 t2 t3 o ms begin value rest =
    rest ∙ ap (λ s. longer s (members_text true ms)) (value ∙ ap (λ s. longer s (valued_text false (codes "value") o)) begin) ∙ told_added t o ms

pub named_added_by : (t t1 t2 t3 : Text) (n k : List ℕ) (o : Option Datum) (ms : Members) → t1 ≡ longer t (name_text n) → t2 ≡ longer t1 (valued_text true k o)
    → t3 ≡ longer t2 (members_text true ms) → t3 ≡ longer t (compact_text (object (member (codes "name") (string n) (valued k o ms))))
named_added_by t t1 t2 t3 n k o ms begin value rest =
    rest ∙ ap (λ s. longer s (members_text true ms)) (value ∙ ap (λ s. longer s (valued_text true k o)) begin) ∙ name_and_value t n k o ms

-- a context's entries, and behind them the rest of its object
pub entries_added_by : (t t1 t2 : Text) (es : Items) (ms : Members) → t1 ≡ longer t (entries_text es) → t2 ≡ longer t1 (members_text true ms)
    → t2 ≡ longer t (members_text true (member (codes "entries") (array es) ms))
entries_added_by t t1 t2 es ms entries rest =
    rest ∙ ap (λ s. longer s (members_text true ms)) (entries ∙ sym (longer_again t (key_text true (codes "entries")) (compact_text (array es))))
    ∙ member_added t true (codes "entries") (array es) ms

-- the bracket behind a context's entries, and what stands before it
pub entries_begun : (t t1 t2 : Text) (es : Items) → t1 ≡ longer t (key_text true (codes "entries")) → t2 ≡ longer t1 (91 ∷ []) → longer t2 (items_text false es) ≡ longer t (entries_text es)
entries_begun t t1 t2 es key begin =
    row_begun t1 t2 es begin ∙ ap (λ s. longer s (compact_text (array es))) key ∙ longer_again t (key_text true (codes "entries")) (compact_text (array es))

-- a member of a value that is the last of its object
pub valued_ended_by : (t t1 t2 : Text) (later : Bool) (k : List ℕ) (o : Option Datum) → t1 ≡ longer t (valued_text later k o) → t2 ≡ longer t1 (125 ∷ [])
    → t2 ≡ longer t (members_text later (valued k o no_members))
valued_ended_by t t1 t2 later k o value end = end ∙ ap (λ s. longer s (125 ∷ [])) value ∙ valued_added t later k o no_members

-- a member of a value whose JSON is known
pub valued_as : (t t1 t2 : Text) (later : Bool) (k : List ℕ) (o : Option Datum) (x : Data) → option_map json_of o ≡ Some x → t1 ≡ longer t (key_text later k) → t2 ≡ longer t1 (compact_text x)
    → t2 ≡ longer t (valued_text later k o)
valued_as t t1 t2 later k None x e key value = cc
valued_as t t1 t2 later k (Some d) x e key value =
    value ∙ ap (λ s. longer s (compact_text x)) key ∙ longer_again t (key_text later k) (compact_text x)
    ∙ ap (λ y. longer t (key_text later k ++ compact_text y)) (sym (same_Some (json_of d) x e))

-- from the brace on
pub object_begun : (t t1 t2 : Text) (ms : Members) → t1 ≡ longer t (123 ∷ []) → t2 ≡ longer t1 (members_text false ms) → t2 ≡ longer t (compact_text (object ms))
object_begun t t1 t2 ms begin rest = rest ∙ ap (λ s. longer s (members_text false ms)) begin ∙ longer_again t (123 ∷ []) (members_text false ms)

-- a value, and the members behind it
pub valued_added_by : (t t1 t2 : Text) (later : Bool) (k : List ℕ) (o : Option Datum) (ms : Members) → t1 ≡ longer t (valued_text later k o) → t2 ≡ longer t1 (members_text true ms)
    → t2 ≡ longer t (members_text later (valued k o ms))
valued_added_by t t1 t2 later k o ms value rest = rest ∙ ap (λ s. longer s (members_text true ms)) value ∙ valued_added t later k o ms

-- nothing, and then the rest
none_added_by : (t t1 t2 : Text) (ms : Members) → t1 ≡ longer t [] → t2 ≡ longer t1 (members_text true ms) → t2 ≡ longer t (members_text true ms)
none_added_by t t1 t2 ms none rest = rest ∙ ap (λ s. longer s (members_text true ms)) none ∙ longer_again t [] (members_text true ms)

-- a member in one piece, and then the rest
one_added_by : (t t1 t2 : Text) (k : List ℕ) (d : Data) (ms : Members) → t1 ≡ longer t (key_text true k ++ compact_text d) → t2 ≡ longer t1 (members_text true ms) → t2 ≡ longer t (members_text true (member k d ms))
one_added_by t t1 t2 k d ms one rest =
    rest ∙ ap (λ s. longer s (members_text true ms)) (one ∙ sym (longer_again t (key_text true k) (compact_text d))) ∙ member_added t true k d ms

-- ---- tables

-- the places of a hit's values, as the last member
pub places_added_by : (t t1 t2 : Text) (b : Bool) (columns : List Column) (values : List Datum) (places : List (Option ℕ)) → (b ≡ true → places ≡ listed_places (listed_values columns) values)
    → t1 ≡ longer t (places_text b places) → t2 ≡ longer t1 (125 ∷ []) → t2 ≡ longer t (members_text true (places_if b columns (Some values)))
places_added_by t t1 t2 false columns values places are added end = none_added_by t t1 t2 no_members added end
places_added_by t t1 t2 true columns values places are added end =
    one_added_by t t1 t2 (codes "places") (array (listed_told (listed_places (listed_values columns) values))) no_members
    (added ∙ ap (λ (ps : List (Option ℕ)). longer t (places_text true ps)) (are refl)) end

-- a rule that hit
pub hit_added : (t t1 t2 t3 t4 t5 : Text) (x : Table) (m : Bindings) (n : ℕ) (r : Rule) (values : Option (List Datum)) → values ≡ values_of m r.gives
    → t1 ≡ longer t (123 ∷ []) → t2 ≡ longer t1 (key_text false (codes "rule")) → t3 ≡ longer t2 (compact_text (number_told n))
    → t4 ≡ longer t3 (valued_text true (codes "value") (value_of (outcome_from (output_of x.outputs) values)))
    → t5 ≡ longer t4 (members_text true (places_if (goes_by_priority x.policy) x.outputs values)) → t5 ≡ longer t (compact_text (hit_told x m (n, r)))
hit_added t t1 t2 t3 t4 t5 x m n r values are begin key told value rest =
    let places : Members = places_if (goes_by_priority x.policy) x.outputs values in
    let whole : Members = valued (codes "value") (value_of (outcome_from (output_of x.outputs) values)) places in
    object_begun t t1 t5 (member (codes "rule") (number_told n) whole) begin
    (member_added_by t1 t2 t3 t5 false (codes "rule") (number_told n) whole key told
    (valued_added_by t3 t4 t5 true (codes "value") (value_of (outcome_from (output_of x.outputs) values)) places value rest))
    ∙ ap (λ (o : Option (List Datum)). longer t (compact_text (object (member (codes "rule") (number_told n) (valued (codes "value") (value_of (outcome_from (output_of x.outputs) o)) (places_if (goes_by_priority x.policy) x.outputs o)))))) are

-- a rule that missed
pub miss_added : (t t1 t2 t3 t4 t5 t6 : Text) (n c : ℕ) → t1 ≡ longer t (123 ∷ []) → t2 ≡ longer t1 (key_text false (codes "rule")) → t3 ≡ longer t2 (compact_text (number_told n))
    → t4 ≡ longer t3 (key_text true (codes "column")) → t5 ≡ longer t4 (compact_text (number_told c)) → t6 ≡ longer t5 (125 ∷ []) → t6 ≡ longer t (compact_text (miss_told (n, c)))
miss_added t t1 t2 t3 t4 t5 t6 n c begin key told key2 told2 end =
    object_begun t t1 t6 (member (codes "rule") (number_told n) (member (codes "column") (number_told c) no_members)) begin
    (member_added_by t1 t2 t3 t6 false (codes "rule") (number_told n) (member (codes "column") (number_told c) no_members) key told
    (member_ended_by t3 t4 t5 t6 true (codes "column") (number_told c) key2 told2 end))

-- the rules that make the result, and then the rest
pub decided_added_by : (t t1 t2 : Text) (o : Option (List ℕ)) (ms : Members) → t1 ≡ longer t (decided_text o) → t2 ≡ longer t1 (members_text true ms) → t2 ≡ longer t (members_text true (decided_then o ms))
decided_added_by t t1 t2 None ms added rest = none_added_by t t1 t2 ms added rest
decided_added_by t t1 t2 (Some ns) ms added rest = one_added_by t t1 t2 (codes "decided") (array (numbers_told ns)) ms added rest

-- the rules that missed, as the last member
pub misses_added_by : (t t1 t2 : Text) (w : Bool) (xs : List (ℕ × ℕ)) → t1 ≡ longer t (misses_text w xs) → t2 ≡ longer t1 (125 ∷ []) → t2 ≡ longer t (members_text true (misses_if w (Some xs)))
misses_added_by t t1 t2 false xs added end = none_added_by t t1 t2 no_members added end
misses_added_by t t1 t2 true xs added end = one_added_by t t1 t2 (codes "misses") (array (misses_told xs)) no_members added end

-- what is written behind the values of a table's input expressions
pub inputs_added : (t t1 t2 t3 : Text) (w : Bool) (x : Table) (m : Bindings) (values : List Datum) (found : Option Found) → found ≡ found_from w 1 m values x.rules
    → t1 ≡ longer t (key_text true (codes "inputs")) → t2 ≡ longer t1 (compact_text (json_of (list (items_of values)))) → t3 ≡ longer t2 (members_text true (told_of w x m found))
    → t3 ≡ longer t (members_text true (inputs_and_hits w x m values))
inputs_added t t1 t2 t3 w x m values found are key written rest =
    member_added_by t t1 t2 t3 true (codes "inputs") (json_of (list (items_of values))) (members_from (hits_then x m (misses_if w (misses x m values))) (numbered_hits x m values)) key written
    (rest ∙ ap (λ (ms : Members). longer t2 (members_text true ms)) (ap (told_of w x m) are ∙ told_same w x m values))

-- what is written of a table
pub table_added : (t t1 t2 t3 t4 : Text) (w : Bool) (x : Table) (m : Bindings) (values : Option (List Datum)) → values ≡ values_of m x.inputs
    → t1 ≡ longer t (123 ∷ []) → t2 ≡ longer t1 (key_text false (codes "policy")) → t3 ≡ longer t2 (quoted (policy_text x.policy))
    → t4 ≡ longer t3 (members_text true (members_from (inputs_and_hits w x m) values)) → t4 ≡ longer t (compact_text (object (table_told w x m)))
table_added t t1 t2 t3 t4 w x m values are begin key policy rest =
    object_begun t t1 t4 (table_told w x m) begin
    (member_added_by t1 t2 t3 t4 false (codes "policy") (string (policy_text x.policy)) (members_from (inputs_and_hits w x m) (values_of m x.inputs)) key policy
    (rest ∙ ap (λ (o : Option (List Datum)). longer t3 (members_text true (members_from (inputs_and_hits w x m) o))) are))
