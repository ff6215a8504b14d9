-- A member that is put into a list of members.
use Rattle.std.proofs.Common.{◌≡◌, ℕ, ◌<◌, ◌≤◌, ◌+◌, List, [], ◌∷◌, ◌++◌, length, take, drop, get_or, Bor, Ordering, Less, Equal, Greater, refl, ap, sym, ◌∙◌, arith, slice_set, suc}
use Rattle.std.specs.List.{insert}
use Rattle.std.specs.Ordering.{nat_cmp, match_ordering}
use Rattle.std.specs.Cmp.Lexicographic.{slice_cmp}
use Rattle.std.proofs.lemmas.List.{drop_more, take_more, take_all, drop_all}
use lib.Seq.{set_split}
use Rattle.serde_json.specs.Data.{Members, member, put}
use Rattle.serde_json.specs.View.{view}
use Rattle.serde_json.specs.declared.value.Value.{Value}
use Rattle.json_reader.specs.Members.{members_of}

-- the members of a list, and then these
abbrev pub onto : List (Bor (List ℕ) × Value) → Members → Members
onto [] rest = rest
onto (m ∷ ms) rest = member m.0.now (view m.1) (onto ms rest)

members_of-append : (ms ns : List (Bor (List ℕ) × Value)) → members_of (ms ++ ns) ≡ onto ms (members_of ns)
members_of-append [] ns = refl
members_of-append (m ∷ ms) ns = ap (member m.0.now (view m.1)) (members_of-append ms ns)

onto-append : (ms ns : List (Bor (List ℕ) × Value)) (rest : Members) → onto (ms ++ ns) rest ≡ onto ms (onto ns rest)
onto-append [] ns rest = refl
onto-append (m ∷ ms) ns rest = ap (member m.0.now (view m.1)) (onto-append ms ns rest)

-- the member goes behind all of the list
pub put_behind : (k : Bor (List ℕ)) (v : Value) (xs : List (Bor (List ℕ) × Value)) (i : ℕ) → length xs ≤ i
    → members_of (xs ++ (k, v) ∷ []) ≡ onto (take i xs) (put k.now (view v) (members_of (drop i xs)))
put_behind k v xs i past =
    members_of-append xs ((k, v) ∷ []) ∙ (λ j. onto (sym (take_all i xs past) j) (put k.now (view v) (members_of (sym (drop_all i xs past) j))))

module _ (k : Bor (List ℕ)) (v : Value) (xs : List (Bor (List ℕ) × Value)) (i : ℕ) (x : Bor (List ℕ) × Value) (inside : i < length xs) (here : x ≡ get_or xs i x) where
  rest : drop i xs ≡ x ∷ drop (i + 1) xs
  rest = drop_more xs i x inside ∙ ap (λ y. y ∷ drop (i + 1) xs) (sym here)

  abbrev by_order : Ordering → Members
  by_order o =
      match_ordering o (member k.now (view v) (members_of (x ∷ drop (i + 1) xs))) (member x.0.now (view v) (members_of (drop (i + 1) xs)))
      (member x.0.now (view x.1) (put k.now (view v) (members_of (drop (i + 1) xs))))

  puts : (o : Ordering) → o ≡ slice_cmp nat_cmp k.now x.0.now → put k.now (view v) (members_of (drop i xs)) ≡ by_order o
  puts o e = ap (λ l. put k.now (view v) (members_of l)) rest ∙ ap by_order (sym e)

  pub put_less : Less ≡ slice_cmp nat_cmp k.now x.0.now → members_of (insert xs i (k, v)) ≡ onto (take i xs) (put k.now (view v) (members_of (drop i xs)))
  put_less e =
      members_of-append (take i xs) ((k, v) ∷ drop i xs)
      ∙ ap (onto (take i xs)) (ap (λ l. member k.now (view v) (members_of l)) rest ∙ sym (puts Less e))

  pub put_equal : Equal ≡ slice_cmp nat_cmp k.now x.0.now → members_of (slice_set xs i (x.0, v)) ≡ onto (take i xs) (put k.now (view v) (members_of (drop i xs)))
  put_equal e =
      let next : suc i ≡ i + 1 = omega arith in
      ap members_of (set_split xs i (x.0, v) inside ∙ ap (λ n. take i xs ++ (x.0, v) ∷ drop n xs) next)
      ∙ members_of-append (take i xs) ((x.0, v) ∷ drop (i + 1) xs) ∙ ap (onto (take i xs)) (sym (puts Equal e))

  pub put_greater : Greater ≡ slice_cmp nat_cmp k.now x.0.now
      → onto (take i xs) (put k.now (view v) (members_of (drop i xs))) ≡ onto (take (i + 1) xs) (put k.now (view v) (members_of (drop (i + 1) xs)))
  put_greater e =
      ap (onto (take i xs)) (puts Greater e)
      ∙ sym (ap (λ l. onto l (put k.now (view v) (members_of (drop (i + 1) xs)))) (take_more xs i x inside ∙ ap (λ y. take i xs ++ y ∷ []) (sym here))
      ∙ onto-append (take i xs) (x ∷ []) (put k.now (view v) (members_of (drop (i + 1) xs))))
