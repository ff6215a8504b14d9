-- Values under names in the order of an object's members, by the places of the names.
use Rattle.std.proofs.Common.{◌≡◌, ℕ, ◌+◌, ◌<◌, List, ◌∷◌, map, length, get_or, drop, ap, sym, ◌∙◌, subst, Option, option_map, unwrap_or, Bor, refl, Ordering, Less, Equal, Greater}
use Rattle.std.specs.Ordering.{match_ordering, nat_cmp}
use Rattle.std.specs.Cmp.Lexicographic.{slice_cmp}
use Rattle.std.specs.List.{zip}
use Rattle.std.proofs.lemmas.List.{at_drop_more}
use Rattle.std.proofs.lemmas.Option.{slice_get-get_or}
use Rattle.serde_json.specs.Data.{Data, null, number, unsigned, Members, no_members, member, put}
use Rattle.feel_value.specs.Datum.{Datum, entries_of}
use Rattle.feel_value.specs.Datum as datum
use Rattle.feel_value.specs.Json.{json_of, json_members}
use Rattle.dmn_explain.specs.ByName.{each_member, json_among}

ordered : (f : Data → Data) (o : Ordering) (a b c : Members) → each_member f (match_ordering o a b c) ≡ match_ordering o (each_member f a) (each_member f b) (each_member f c)
ordered f Less a b c = refl
ordered f Equal a b c = refl
ordered f Greater a b c = refl

each_member-put : (f : Data → Data) (k : List ℕ) (d : Data) (ms : Members) → each_member f (put k d ms) ≡ put k (f d) (each_member f ms)
each_member-put f k d no_members = refl
each_member-put f k d (member l e ms) =
    let o = slice_cmp nat_cmp k l in
    ordered f o (member k d (member l e ms)) (member l d ms) (member l e (put k d ms))
    ∙ ap (λ r. match_ordering o (member k (f d) (member l (f e) (each_member f ms))) (member l (f d) (each_member f ms)) (member l (f e) r)) (each_member-put f k d ms)

-- the value at a place
json_here : (ds : List Datum) (i : ℕ) → i < length ds → json_among ds (number (unsigned i)) ≡ json_of (get_or ds i datum.null)
json_here ds i more = ap (λ (o : Option Datum). unwrap_or (option_map json_of o) null) (slice_get-get_or ds i datum.null more)

-- one name more, from the last to the first
pub name_put : (ns : List (Bor (List ℕ))) (ds : List Datum) (i : ℕ) (any : Bor (List ℕ)) (ms : Members) → i < length ns → length ds ≡ length ns
    → each_member (json_among ds) ms ≡ json_members (entries_of (zip (map (λ n. n.now) (drop (i + 1) ns)) (drop (i + 1) ds)))
    → each_member (json_among ds) (put (get_or ns i any).now (number (unsigned i)) ms) ≡ json_members (entries_of (zip (map (λ n. n.now) (drop i ns)) (drop i ds)))
name_put ns ds i any ms more same rest =
    let inside : i < length ds = subst (λ k. i < k) (sym same) more in
    let n : List ℕ = (get_or ns i any).now in
    let d : Datum = get_or ds i datum.null in
    each_member-put (json_among ds) n (number (unsigned i)) ms
    ∙ ap (λ e. put n e (each_member (json_among ds) ms)) (json_here ds i inside)
    ∙ ap (put n (json_of d)) rest
    ∙ sym (at_drop_more (λ (xs : List Datum). json_members (entries_of (zip (map (λ n. n.now) (drop i ns)) xs))) ds i datum.null inside
    ∙ at_drop_more (λ (ms : List (Bor (List ℕ))). json_members (entries_of (zip (map (λ n. n.now) ms) (d ∷ drop (i + 1) ds)))) ns i any more)
