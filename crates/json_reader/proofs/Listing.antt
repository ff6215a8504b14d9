-- Members that are listed as long as they are few, and values that are no object of few members.
use Rattle.std.proofs.Common.{◌≡◌, ◌≢◌, ℕ, suc, ◌<◌, ◌≤◌, List, [], ◌∷◌, length, Bool, true, false, true≢false, Option, Some, None, option_map, Bor, Ordering, Less, Equal, Greater, inr, refl, ap, sym, ◌∙◌, arith}
use Rattle.std.specs.Ordering.{nat_cmp, match_ordering}
use Rattle.std.specs.Cmp.Lexicographic.{slice_cmp}
use Rattle.std.specs.Str.{IsUtf8}
use Rattle.json.specs.Token.{Token}
use Rattle.json.specs.Json as json
use Rattle.json.specs.Json.{Parse, parse_map, value_with}
use Rattle.json.proofs.Grammar.{value_is}
use Rattle.serde_json.specs.Data.{Num, Data, array, number, object, Items, Members, no_members, member, put}
use Rattle.serde_json.specs.Read.{of_json, of_items, number_of, converted, read}
use Rattle.serde_json.specs.declared.value.Value.{Value}
use Rattle.json_reader.specs.Members.{members_of}
use Rattle.json_reader.specs.Listed.{IsNotFew, IsReadAs, count, most_listed}
use Rattle.json_reader.specs.Listing.{Lists, ListsRead, ListsText}
use Rattle.json_reader.specs.Reading.{value_read}
use Rattle.json_reader.specs.declared.listed.Listed.{Listed}
use Rattle.json_reader.specs.declared.listed.Listed.TheVariants.{Object, Other, Syntax}
use Rattle.json_reader.proofs.Reading.{whole, whole_none, whole_done, whole_more}

abbrev pub Entries : Type 0
Entries = List (Bor (List ℕ) × Value)

-- ---- how many members

listed_count : (ms : Entries) → count (members_of ms) ≡ length ms
listed_count [] = refl
listed_count (m ∷ ms) = ap suc (listed_count ms)

put_counts : (o : Ordering) (k l : List ℕ) (d e : Data) (ms : Members) → count ms ≤ count (put k d ms)
    → suc (count ms) ≤ count (match_ordering o (member k d (member l e ms)) (member l d ms) (member l e (put k d ms)))
put_counts Less k l d e ms h = omega arith
put_counts Equal k l d e ms h = omega arith
put_counts Greater k l d e ms h = omega (arith, h)

no_fewer : (k : List ℕ) (d : Data) (ms : Members) → count ms ≤ count (put k d ms)
no_fewer k d no_members = omega arith
no_fewer k d (member l e ms) = put_counts (slice_cmp nat_cmp k l) k l d e ms (no_fewer k d ms)

pub none_listed : (ms : Entries) → ms ≡ [] → Lists no_members ms
none_listed ms e = (λ few. ap members_of (sym e), λ many. absurd (omega (arith, many, ap length e)))

-- one more is put into the list
pub one_listed : (all : Members) (old new : Entries) (k : List ℕ) (d : Data) → length old ≤ most_listed → members_of new ≡ put k d (members_of old) → Lists all old → Lists (put k d all) new
one_listed all old new k d few e h =
    let same : put k d all ≡ members_of new = ap (put k d) (h.0 few) ∙ sym e in
    let counts : count (put k d all) ≡ length new = ap count same ∙ listed_count new in
    (λ _. same, λ many. omega (arith, many, counts))

-- one more is not listed
pub one_unlisted : (all : Members) (old : Entries) (k : List ℕ) (d : Data) → most_listed < length old → Lists all old → Lists (put k d all) old
one_unlisted all old k d many h = (λ few. absurd (omega (arith, many, few)), λ _. omega (arith, h.1 many, no_fewer k d all))

-- ---- no object of few members

abbrev pub members_within : Data → Members
members_within (object ms) = ms
members_within d = no_members

pub many_members : (all : Members) → most_listed < count all → IsNotFew (object all)
many_members all many = λ ms few same. let counts : count all ≡ count ms = ap (λ d. count (members_within d)) same in omega (arith, many, few, counts)

abbrev is_object : Data → Bool
is_object (object ms) = true
is_object d = false

abbrev is_object_read : Option (Data × List Token) → Bool
is_object_read None = false
is_object_read (Some p) = is_object p.0

arrays : (r : List Token) (x : Option Items) → is_object_read (option_map (λ d. (d, r)) (option_map array x)) ≡ false
arrays r None = refl
arrays r (Some ds) = refl

lists : (o : Option (json.Items × List Token)) → is_object_read (converted of_json (parse_map json.array o)) ≡ false
lists None = refl
lists (Some p) = arrays p.1 (of_items p.0)

numbers : (r : List Token) (x : Option Num) → is_object_read (option_map (λ d. (d, r)) (option_map number x)) ≡ false
numbers r None = refl
numbers r (Some n) = refl

opens_none : (a : Parse json.Items) (o : Parse json.Members) (t : Token) (ts : List Token) → t ≢ Token.begin_object → is_object_read (converted of_json (value_with a o (t ∷ ts))) ≡ false
opens_none a o Token.begin_object ts h = absurd (h refl)
opens_none a o Token.end_object ts h = refl
opens_none a o Token.begin_array ts h = lists (a ts)
opens_none a o Token.end_array ts h = refl
opens_none a o (Token.key s) ts h = refl
opens_none a o (Token.string s) ts h = refl
opens_none a o (Token.number s) ts h = numbers ts (number_of s)
opens_none a o (Token.boolean b) ts h = refl
opens_none a o Token.null ts h = refl
opens_none a o Token.bad ts h = refl

pub no_object : (depth : ℕ) (t : Token) (ts r : List Token) (d : Data) → t ≢ Token.begin_object → value_read depth (t ∷ ts) ≡ Some (d, r) → IsNotFew d
no_object depth t ts r d h e = λ ms few same.
    let none : is_object_read (value_read depth (t ∷ ts)) ≡ false = ap (λ o. is_object_read (converted of_json o)) (value_is depth (t ∷ ts)) ∙ opens_none _ _ t ts h in
    true≢false (sym (ap is_object same) ∙ sym (ap is_object_read e) ∙ none)

-- ---- the whole text

pub whole_listed : (o : Option (json.Json × List Token)) (l : Listed) → ListsRead (converted of_json o) l [] → ListsText (whole o) l
whole_listed o (Object ms) h = (whole_done o (object (members_of ms.items)) h.0, h.1)
whole_listed o Other h = (h.0, whole_done o h.0 h.1, h.2)
whole_listed o Syntax h = whole_none o h

pub whole_followed : (o : Option (json.Json × List Token)) (l : Listed) (t : Token) (ts : List Token) → ListsRead (converted of_json o) l (t ∷ ts) → whole o ≡ None
whole_followed o (Object ms) t ts h = whole_more o (object (members_of ms.items)) t ts h.0
whole_followed o Other t ts h = whole_more o h.0 t ts h.1
whole_followed o Syntax t ts h = whole_none o h

pub read_as : (text : List ℕ) (l : Listed) → IsUtf8 text → ListsText (read text) l → IsReadAs text l
read_as text (Object ms) utf8 h = (utf8, h.0, h.1)
read_as text Other utf8 h = (utf8, h)
read_as text Syntax utf8 h = inr h
