-- Values at the positions that names have in a list: one binding after the other.
use Rattle.std.proofs.Common.{◌≡◌, ◌∙◌, sym, ap, refl, subst, ℕ, zero, suc, ◌+◌, ◌-◌, ◌<◌, ◌≤◌, ◌^◌, Bool, true, false, List, [], ◌∷◌, ◌++◌, take, length, get_or, set, replicate, Option, Some, None, Result, Ok, Err, bytes_eq, if◌then◌else◌, arith, inl, inr}
use Rattle.std.specs.Prelude.{◌≢◌, slice_index_or}
use Rattle.std.proofs.lemmas.Bool.{cases_Bool, cases_lt}
use Rattle.std.proofs.lemmas.List.{get_or_past, get_or_append_left, get_or-append-add, get_or_push, take_all, map-append, length_push, get_or-set_same, get_or-set_other}
use Rattle.feel_value.specs.Datum.{Datum}
use Rattle.feel_text.specs.Meaning.{Bindings, bound}
use Rattle.feel_text.specs.Needed.{Places, need_at}
use Rattle.feel_text.specs.Places.{place_after, last_place}
use Rattle.feel_text.proofs.Bindings.{same_text, text_itself}
use Rattle.feel_eval.specs.Index.{IsIndexed}
use Rattle.feel_eval.specs.Listed.{name_at, value_of, hidden_of, listed_of, numbered, slot_at, slot_of, AreListed}
use Rattle.feel_eval.specs.declared.listed.Placed.{Placed}
use Rattle.feel_eval.proofs.Index.{bound_more, bound_same, bound_less, last_at, before, found_at, IsValueAt}

placed_after : (o : Option ℕ) (t : Bool) (i : ℕ) → place_after o (if t then Some 0 else None) ≡ Some (suc i) → o ≡ Some i
placed_after None true i e = cc
placed_after None false i e = cc
placed_after (Some j) t i e = cc

placed_first : (o : Option ℕ) (t : Bool) → place_after o (if t then Some 0 else None) ≡ Some 0 → t ≡ true
placed_first None true e = refl
placed_first None false e = cc
placed_first (Some j) t e = cc

-- the name stands where its last one stands
pub name_there : (ns : Places) (q : List ℕ) (i : ℕ) → last_place q ns ≡ Some i → q ≡ (need_at ns i).0
name_there [] q i e = cc
name_there (n ∷ ns) q zero e = same_text q n.0 (placed_first (last_place q ns) (bytes_eq q n.0) e)
name_there (n ∷ ns) q (suc i) e = name_there ns q i (placed_after (last_place q ns) (bytes_eq q n.0) i e)

text_itself_apart : (a b : List ℕ) → bytes_eq a b ≡ false → a ≡ b → ⊥
text_itself_apart a b apart same = let here : bytes_eq a a ≡ false = ap (bytes_eq a) same ∙ apart in let there : bytes_eq a a ≡ true = text_itself a in cc

-- a slot that changes
slot_changed : (ns : Places) (old new : List ℕ) (name : List ℕ) (p w : ℕ) → last_place name ns ≡ Some p → slice_index_or new p 0 ≡ w
    → ((j : ℕ) → p ≢ j → slice_index_or new j 0 ≡ slice_index_or old j 0)
    → (q : List ℕ) → slot_of ns new q ≡ (if bytes_eq name q then numbered w else slot_of ns old q)
slot_changed ns old new name p w here at apart q = elim (cases_Bool (bytes_eq name q)) [
  | inl e ↦ ap (slot_at new) (ap (λ n. last_place n ns) (sym (same_text name q e)) ∙ here) ∙ ap numbered at
      ∙ sym (ap (λ t. if t then numbered w else slot_of ns old q) e)
  | inr e ↦ kept (last_place q ns) refl e ∙ sym (ap (λ t. if t then numbered w else slot_of ns old q) e)
]
  where
    kept : (o : Option ℕ) → last_place q ns ≡ o → bytes_eq name q ≡ false → slot_at new o ≡ slot_at old o
    kept None f e = refl
    kept (Some j) f e = ap numbered (apart j (λ same. text_itself_apart name q e (name_there ns name p here ∙ ap (λ i. (need_at ns i).0) same ∙ sym (name_there ns q j f))))

-- slots that stay
slots_same : (old new : List ℕ) → ((i : ℕ) → slice_index_or new i 0 ≡ slice_index_or old i 0) → (o : Option ℕ) → slot_at new o ≡ slot_at old o
slots_same old new same None = refl
slots_same old new same (Some j) = ap numbered (same j)

-- where nothing changes
pub listed_same : (ns : Places) (xs : List Placed) (old new : List ℕ) → AreListed ns xs old → ((i : ℕ) → slice_index_or new i 0 ≡ slice_index_or old i 0) → AreListed ns xs new
listed_same ns xs old new h same = record {
  indexed = bound_same (name_at ns) value_of hidden_of xs (slot_of ns old) (slot_of ns new) h.indexed (λ q. slots_same old new same (last_place q ns));
  there = h.there;
  small = h.small;
}

-- numbers count from 1
pub number_next : (n i : ℕ) → n ≡ i + 1 → numbered n ≡ Some i
number_next zero i e = absurd (omega (arith, e))
number_next (suc n) i e = let same : n ≡ i = omega (arith, e) in ap Some same

pub number_is : (n : ℕ) → 0 < n → numbered n ≡ Some (n - 1)
number_is zero e = absurd (omega (arith, e))
number_is (suc n) e = let same : n ≡ suc n - 1 = omega arith in ap Some same

pub some_number : (n i : ℕ) → numbered n ≡ Some i → 0 < n
some_number zero i e = cc
some_number (suc n) i e = omega arith

-- one more binding
pub listed_more : (ns : Places) (xs : List Placed) (x : Placed) (old new : List ℕ) (name : List ℕ) → AreListed ns xs old → length xs < 2 ^ 60
    → last_place name ns ≡ Some x.position → x.hidden ≡ slice_index_or old x.position 0 → slice_index_or new x.position 0 ≡ length xs + 1
    → ((j : ℕ) → x.position ≢ j → slice_index_or new j 0 ≡ slice_index_or old j 0) → AreListed ns (xs ++ x ∷ []) new
listed_more ns xs x old new name h room here hides at apart =
    let named : name ≡ name_at ns x = name_there ns name x.position here in
    let there : last_place (name_at ns x) ns ≡ Some x.position = ap (λ n. last_place n ns) (sym named) ∙ here in
    record {
      indexed = bound_more (name_at ns) value_of hidden_of xs x (slot_of ns old) (slot_of ns new) h.indexed
          (λ q. slot_changed ns old new (name_at ns x) x.position (length xs + 1) there at apart q
          ∙ ap (λ o. if bytes_eq (name_at ns x) q then o else slot_of ns old q) (number_next (length xs + 1) (length xs) refl))
          (ap numbered hides ∙ sym (ap (slot_at old) there));
      there = λ i b within. elim (cases_lt i (length xs)) [
        | inl less ↦ subst (λ (y : Placed). last_place (name_at ns y) ns ≡ Some y.position) (sym (get_or_append_left xs (x ∷ []) b i less)) (h.there i b less)
        | inr more ↦ subst (λ (y : Placed). last_place (name_at ns y) ns ≡ Some y.position) (sym (get_or_push xs x b i (omega (arith, within, more, length_push xs x)))) there
      ];
      small = omega (arith, room, length_push xs x);
    }

-- what is seen of one more
pub view_more : (ns : Places) (xs : List Placed) (x : Placed) (name : List ℕ) → last_place name ns ≡ Some x.position → listed_of ns (xs ++ x ∷ []) ≡ listed_of ns xs ++ (name, value_of x) ∷ []
view_more ns xs x name here =
    map-append (λ (b : Placed). ((need_at ns b.position).0, b.value)) xs (x ∷ [])
    ∙ ap (λ n. listed_of ns xs ++ (n, value_of x) ∷ []) (sym (name_there ns name x.position here))

-- the last one stands at its position
pub last_there : (ns : Places) (xs : List Placed) (x : Placed) (old : List ℕ) → AreListed ns (xs ++ x ∷ []) old → last_place (name_at ns x) ns ≡ Some x.position
last_there ns xs x old h =
    subst (λ (y : Placed). last_place (name_at ns y) ns ≡ Some y.position) (get_or_push xs x x (length xs) refl) (h.there (length xs) x (omega (arith, length_push xs x)))

-- there is a slot for the last one
pub last_within : (ns : Places) (xs : List Placed) (x : Placed) (old : List ℕ) → AreListed ns (xs ++ x ∷ []) old → x.position < length old
last_within ns xs x old h =
    let lies : numbered (slice_index_or old x.position 0) ≡ Some (length xs) =
    ap (slot_at old) (sym (last_there ns xs x old h)) ∙ last_at (name_at ns) value_of hidden_of xs x (slot_of ns old) h.indexed in
    elim (cases_lt x.position (length old)) [
      | inl less ↦ less
      | inr more ↦ absurd (omega (arith, some_number (slice_index_or old x.position 0) (length xs) lies, get_or_past old x.position 0 more))
    ]

-- one binding less
pub listed_less : (ns : Places) (xs : List Placed) (x : Placed) (old new : List ℕ) → AreListed ns (xs ++ x ∷ []) old → slice_index_or new x.position 0 ≡ x.hidden
    → ((j : ℕ) → x.position ≢ j → slice_index_or new j 0 ≡ slice_index_or old j 0) → AreListed ns xs new
listed_less ns xs x old new h at apart =
    record {
      indexed = bound_less (name_at ns) value_of hidden_of xs x (slot_of ns old) (slot_of ns new) h.indexed
          (slot_changed ns old new (name_at ns x) x.position x.hidden (last_there ns xs x old h) at apart);
      there = λ i b within. subst (λ (y : Placed). last_place (name_at ns y) ns ≡ Some y.position) (get_or_append_left xs (x ∷ []) b i within)
          (h.there i b (omega (arith, within, length_push xs x)));
      small = omega (arith, h.small, length_push xs x);
    }

-- the bindings before one that is not the last
pub listed_before : (ns : Places) (n : ℕ) (xs : List Placed) (x : Placed) → n ≤ length xs → take n (listed_of ns (xs ++ x ∷ [])) ≡ take n (listed_of ns xs)
listed_before ns n xs x h = before (name_at ns) value_of n xs x h

-- what lies at the position says what the name is bound to
pub value_listed : (ns : Places) (xs : List Placed) (slots : List ℕ) (q : List ℕ) (p : ℕ) (o : Option ℕ) → AreListed ns xs slots → last_place q ns ≡ Some p → numbered (slice_index_or slots p 0) ≡ o
    → IsValueAt value_of (bound q (listed_of ns xs)) xs o
value_listed ns xs slots q p o h here lies =
    found_at (name_at ns) value_of hidden_of q xs (slot_of ns slots) o h.indexed (sym (ap (slot_at slots) here ∙ lies))

-- a name that is not in the list is not bound
pub none_listed : (ns : Places) (xs : List Placed) (slots : List ℕ) (q : List ℕ) → AreListed ns xs slots → last_place q ns ≡ None → bound q (listed_of ns xs) ≡ None
none_listed ns xs slots q h none =
    found_at (name_at ns) value_of hidden_of q xs (slot_of ns slots) None h.indexed (sym (ap (slot_at slots) none))

-- no binding
pub none_bound : (ns : Places) → AreListed ns [] []
none_bound ns = record {
  indexed = record { last = λ q. nothing (last_place q ns); hidden = λ i b within. absurd (omega (arith, within)) };
  there = λ i b within. absurd (omega (arith, within));
  small = omega arith;
}
  where
    nothing : (o : Option ℕ) → slot_at [] o ≡ None
    nothing None = refl
    nothing (Some i) = refl

-- slots that are filled up hold nothing
nothing_in : (k i : ℕ) → get_or (replicate k zero) i zero ≡ zero
nothing_in zero i = refl
nothing_in (suc k) zero = refl
nothing_in (suc k) (suc i) = nothing_in k i

pub filled : (xs : List ℕ) (n m i : ℕ) → length xs ≤ n → get_or (take n xs ++ replicate m zero) i zero ≡ get_or xs i zero
filled xs n m i h = ap (λ ys. get_or (ys ++ replicate m zero) i zero) (take_all n xs h) ∙ elim (cases_lt i (length xs)) [
  | inl less ↦ get_or_append_left xs (replicate m zero) zero i less
  | inr more ↦ ap (λ k. get_or (xs ++ replicate m zero) k zero) (sym (back i more)) ∙ get_or-append-add xs (replicate m zero) (i - length xs) zero
      ∙ nothing_in m (i - length xs) ∙ sym (get_or_past xs i zero more)
]
  where
    back : (i : ℕ) → length xs ≤ i → length xs + (i - length xs) ≡ i
    back i le = omega (arith, le)
