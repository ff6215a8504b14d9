use Rattle.std.proofs.Common.{◌≡◌, ◌∙◌, ◌∷◌, [], ◌++◌, ◌-◌, ◌<◌, IfOk, MatchOption, None, Some, ap, ap₂, arith, length, map, rules, string_bytes, subst, sym}
use Rattle.std.proofs.lemmas.List.{map-append}
use Rattle.json.specs.Token.{Token}
use Rattle.json.specs.Json.{after_end_array, items, members, parse_map, read_key, value}
use Rattle.json.specs.Reads.{token_of}
use Rattle.json.proofs.Grammar.{items_end, members_end, members_no_key, read_key-shorter, value_is}
use Rattle.serde_json.specs.Data.{array, boolean, null, object, put, string}
use Rattle.serde_json.specs.Read.{converted, of_items, of_json, of_members}
use Rattle.serde_json.specs.View.{members_view, view}
use Rattle.serde_json.specs.declared.value.Value.{Bool, Null, String, the_lemmas}
use Rattle.serde_json.proofs.Views.{members_view-insert_entry, view-Array, view-Object}
use Rattle.json_reader.specs.Reading.{value_read}
use Rattle.json_reader.proofs.Reading.{before, before_none, found_as, grown, items_more, list_reads, members_more, no_item, no_member, none_before, object_reads, one_item, one_member}
use Rattle.json_reader.proofs.value.+values.Goals as goal

-- ---- a list

pub list_in-items-init : goal.list_in-items-init
list_in-items-init t c =
    let all = converted of_items (items (value c.args.depth) (length c.args.reader.now) c.args.reader.now) in
    (length c.args.reader.now, omega arith, omega arith, none_before all ∙ ap (λ vs. parse_map (before (map view vs)) all) (sym c.new-list.ensures.items))

pub list_in-returns-in_default-clause-found : goal.list_in-returns-in_default-clause-found
list_in-returns-in_default-clause-found t c =
    let p = value c.args.depth in
    let l = c.items in
    let going : (after_end_array l.reader ≡ None) × (c.take_end_array.new.self ≡ l.reader) = grind arith in
    let none : value_read c.args.depth c.take_end_array.new.self ≡ None = grind arith in
    let refused : value_read c.args.depth l.reader ≡ None = ap (value_read c.args.depth) (sym going.1) ∙ none in
    ap (parse_map array) (l.invariant.3 ∙ ap (parse_map (before (map view l.list.items))) (no_item p l.invariant.0 l.reader going.0 refused))

pub list_in-items-preserved : goal.list_in-items-preserved
list_in-items-preserved t c =
    let p = value c.args.depth in
    let l = c.items in
    let n = l.invariant.0 in
    let vs = map view l.list.items in
    let d = view c.in-Some.item in
    let r = c.value_in.new.reader in
    let going : (after_end_array l.reader ≡ None) × (c.take_end_array.new.self ≡ l.reader) = grind arith in
    let found : value_read c.args.depth c.take_end_array.new.self ≡ Some (d, r) = grind arith in
    let read : value_read c.args.depth l.reader ≡ Some (d, r) = ap (value_read c.args.depth) (sym going.1) ∙ found in
    let shorter : length r < length c.take_end_array.new.self = grind arith in
    let less : length r < length l.reader = subst (λ ts. length r < length ts) going.1 shorter in
    let all : map view c.push.new.self.items ≡ vs ++ d ∷ [] = ap (map view) c.in_ok-push.ensures.items ∙ map-append view l.list.items (c.in-Some.item ∷ []) in (
      n - 1,
      omega (arith, l.invariant.1),
      omega (arith, l.invariant.2),
      l.invariant.3 ∙ ap (parse_map (before vs)) (one_item p n l.reader (omega (arith, l.invariant.1)) going.0 ∙ ap (items_more (items p (n - 1))) read)
          ∙ grown vs d (converted of_items (items p (n - 1) r)) ∙ ap (λ ws. parse_map (before ws) (converted of_items (items p (n - 1) r))) (sym all),
    )

pub list_in-returns-clause-found : goal.list_in-returns-clause-found
list_in-returns-clause-found t c =
    let l = c.items in
    let vs = map view l.list.items in
    let r = c.take_end_array.new.self in
    let ended : after_end_array l.reader ≡ Some r = grind arith in
    ap (parse_map array) (l.invariant.3 ∙ ap (λ o. parse_map (before vs) (converted of_items o)) (items_end (value c.args.depth) l.invariant.0 l.reader r l.invariant.1 ended))
    ∙ ap (λ d. Some (d, r)) (ap array (before_none vs) ∙ sym (view-Array l.list))

-- ---- an object

pub object_in-members-init : goal.object_in-members-init
object_in-members-init t c =
    let all = members (value c.args.depth) (length c.args.reader.now) c.args.reader.now in
    (length c.args.reader.now, omega arith, omega arith, ap (λ es. converted (λ ms. of_members ms (members_view es)) all) (sym c.new-object.ensures.empty))

pub object_in-returns-in_default-clause-found : goal.object_in-returns-in_default-clause-found
object_in-returns-in_default-clause-found t c =
    let l = c.members in
    let none : read_key l.reader ≡ None = grind arith in
    ap (parse_map object) (l.invariant.3 ∙ ap (converted (λ ms. of_members ms (members_view l.object.entries))) (members_no_key (value c.args.depth) l.invariant.0 l.reader none))

pub object_in-returns-in_default-2-clause-found : goal.object_in-returns-in_default-2-clause-found
object_in-returns-in_default-2-clause-found t c =
    let l = c.members in
    let s = c.next_key.new.self in
    let named : read_key l.reader ≡ Some (Some c.in-Some.name.now, s) = grind arith in
    let none : value_read c.args.depth s ≡ None = grind arith in
    ap (parse_map object) (l.invariant.3 ∙ no_member (value c.args.depth) (members_view l.object.entries) l.invariant.0 c.in-Some.name.now l.reader s named none)

pub object_in-members-preserved : goal.object_in-members-preserved
object_in-members-preserved t c =
    let p = value c.args.depth in
    let l = c.members in
    let n = l.invariant.0 in
    let old = members_view l.object.entries in
    let k = c.in-Some.name.now in
    let s = c.next_key.new.self in
    let d = view c.in-Some-2.member in
    let r = c.value_in.new.reader in
    let named : read_key l.reader ≡ Some (Some k, s) = grind arith in
    let read : value_read c.args.depth s ≡ Some (d, r) = grind arith in
    let lesser : length r < length s = grind arith in
    let less = read_key-shorter l.reader (Some k) s named in
    let copied : string_bytes c.in_ok-key.key ≡ k = search rules in
    let all : members_view c.insert.new.self.entries ≡ put k d old =
    ap members_view c.in_ok-insert.ensures.entries ∙ members_view-insert_entry l.object.entries c.in_ok-key.key c.in-Some-2.member ∙ ap (λ name. put name d old) copied in (
      n - 1,
      omega (arith, l.invariant.1),
      omega (arith, l.invariant.2),
      l.invariant.3 ∙ one_member p old n k l.reader s (omega (arith, l.invariant.1)) named ∙ ap (members_more (members p (n - 1)) k old) read
          ∙ ap (λ found. converted (λ ms. of_members ms found) (members p (n - 1) r)) (sym all),
    )

pub object_in-returns-clause-found : goal.object_in-returns-clause-found
object_in-returns-clause-found t c =
    let l = c.members in
    let r = c.next_key.new.self in
    let ended : read_key l.reader ≡ Some (None, r) = grind arith in
    ap (parse_map object) (l.invariant.3 ∙ ap (converted (λ ms. of_members ms (members_view l.object.entries))) (members_end (value c.args.depth) l.invariant.0 l.reader r l.invariant.1 ended))
    ∙ ap (λ d. Some (d, r)) (sym (view-Object l.object))

-- ---- a value

pub value_in-returns-in_default-clause-found : goal.value_in-returns-in_default-clause-found
value_in-returns-in_default-clause-found t c =
    let empty : c.args.reader.now ≡ [] = grind arith in
    ap (converted of_json) (ap (value c.args.depth) empty ∙ value_is c.args.depth [])

pub value_in-returns-clause-found : goal.value_in-returns-clause-found
value_in-returns-clause-found t c =
    let first : c.args.reader.now ≡ token_of c.in-Some.token ∷ c.next.new.self = grind arith in
    subst (λ ts. IfOk c.value_from.result (λ o. MatchOption o (value_read c.args.depth ts ≡ None) (λ v. value_read c.args.depth ts ≡ Some (view v, c.value_from.new.reader))))
    (sym first) c.value_from.ensures.found

pub value_from-returns-in_ok-from_str-in-String-clause-found : goal.value_from-returns-in_ok-from_str-in-String-clause-found
value_from-returns-in_ok-from_str-in-String-clause-found t c =
    let is : token_of c.args.token ≡ Token.string c.in-String.text.now = grind arith in
    let seen : view (String c.in_ok-from_str-in-String.field-0) ≡ string c.in-String.text.now = search (rules, the_lemmas) in
    ap (converted of_json) (ap (λ u. value c.args.depth (u ∷ c.args.reader.now)) is ∙ value_is c.args.depth _) ∙ ap (λ d. Some (d, c.args.reader.now)) (sym seen)

pub value_from-returns-in-Number-clause-found : goal.value_from-returns-in-Number-clause-found
value_from-returns-in-Number-clause-found t c =
    let r = c.args.reader.now in
    let is : token_of c.args.token ≡ Token.number c.in-Number.text.now = grind arith in
    found_as c.number_in.result _ r (value_read c.args.depth (token_of c.args.token ∷ r)) (ap (converted of_json) (ap (λ u. value c.args.depth (u ∷ r)) is ∙ value_is c.args.depth _)) c.number_in.ensures

pub value_from-returns-in-Bool-clause-found : goal.value_from-returns-in-Bool-clause-found
value_from-returns-in-Bool-clause-found t c =
    let is : token_of c.args.token ≡ Token.boolean c.in-Bool.b = grind arith in
    let seen : view (Bool c.in-Bool.b) ≡ boolean c.in-Bool.b = search (rules, the_lemmas) in
    ap (converted of_json) (ap (λ u. value c.args.depth (u ∷ c.args.reader.now)) is ∙ value_is c.args.depth _) ∙ ap (λ d. Some (d, c.args.reader.now)) (sym seen)

pub value_from-returns-in-Null-clause-found : goal.value_from-returns-in-Null-clause-found
value_from-returns-in-Null-clause-found t c =
    let is : token_of c.args.token ≡ Token.null = grind arith in
    let seen : view Null ≡ null = search (rules, the_lemmas) in
    ap (converted of_json) (ap (λ u. value c.args.depth (u ∷ c.args.reader.now)) is ∙ value_is c.args.depth _) ∙ ap (λ d. Some (d, c.args.reader.now)) (sym seen)

pub value_from-returns-in-BeginArray-2-clause-found : goal.value_from-returns-in-BeginArray-2-clause-found
value_from-returns-in-BeginArray-2-clause-found t c =
    let is : token_of c.args.token ≡ Token.begin_array = grind arith in
    subst (λ read. IfOk c.list_in.result (λ o. MatchOption o (read ≡ None) (λ v. read ≡ Some (view v, c.list_in.new.reader))))
    (sym (ap (λ u. value_read c.args.depth (u ∷ c.args.reader.now)) is ∙ list_reads c.args.depth c.args.reader.now (omega arith)))
    c.list_in.ensures.found

pub value_from-returns-in-BeginObject-2-clause-found : goal.value_from-returns-in-BeginObject-2-clause-found
value_from-returns-in-BeginObject-2-clause-found t c =
    let is : token_of c.args.token ≡ Token.begin_object = grind arith in
    subst (λ read. IfOk c.object_in.result (λ o. MatchOption o (read ≡ None) (λ v. read ≡ Some (view v, c.object_in.new.reader))))
    (sym (ap (λ u. value_read c.args.depth (u ∷ c.args.reader.now)) is ∙ object_reads c.args.depth c.args.reader.now (omega arith)))
    c.object_in.ensures.found

pub value_from-returns-in-BeginArray-clause-found : goal.value_from-returns-in-BeginArray-clause-found
unfolding value
value_from-returns-in-BeginArray-clause-found t c =
    let is : token_of c.args.token ≡ Token.begin_array = grind arith in
    let none : c.args.depth ≡ 0 = omega arith in
    ap (converted of_json) (ap₂ (λ depth u. value depth (u ∷ c.args.reader.now)) none is)

pub value_from-returns-in-BeginObject-clause-found : goal.value_from-returns-in-BeginObject-clause-found
unfolding value
value_from-returns-in-BeginObject-clause-found t c =
    let is : token_of c.args.token ≡ Token.begin_object = grind arith in
    let none : c.args.depth ≡ 0 = omega arith in
    ap (converted of_json) (ap₂ (λ depth u. value depth (u ∷ c.args.reader.now)) none is)

pub value_from-returns-in-EndObject-clause-found : goal.value_from-returns-in-EndObject-clause-found
value_from-returns-in-EndObject-clause-found t c =
    let none : value c.args.depth (token_of c.args.token ∷ c.args.reader.now) ≡ None = rw (value_is c.args.depth (token_of c.args.token ∷ c.args.reader.now)) (grind arith) in
    ap (converted of_json) none
