-- What services take, and the requests to them.
use Rattle.std.proofs.Common.{◌≡◌, ◌∙◌, ◌⊎◌, inl, inr, ℕ, Bool, true, false, List, [], ◌∷◌, Option, Some, None, option_map, cond, suc, refl, sym, ap, subst, ◌||◌, String, Global, string_bytes}
use Rattle.std.specs.BTreeMap as map
use Rattle.std.specs.BTreeMap.{get_by_text}
use Rattle.std.specs.List.{slice_get}
use Rattle.std.specs.Option.{is_some}
use Rattle.std.specs.BTreeSet.{BTreeSet, Updates, contains_text}
use Rattle.std.specs.Ordering.{match_ordering, nat_cmp, is_eq}
use Rattle.std.specs.Prelude.{bytes_eq}
use Rattle.std.specs.Cmp.Lexicographic.{slice_cmp}
use Rattle.std.specs.String.{string_cmp}
use Rattle.std.specs.declared.cmp.Ordering.{Ordering}
use Rattle.std.specs.declared.cmp.Ordering.TheVariants.{Less, Equal, Greater}
use Rattle.std.proofs.lemmas.Map.Text.{btree_map_updates_text, is_eq-slice_cmp}
use Rattle.std.proofs.lemmas.Option.{same_Some}
use Rattle.std.proofs.lemmas.Slice.Eq.{bytes_eq-Decides}
use Rattle.serde_json.specs.Data as json
use Rattle.serde_json.specs.Data.{Data, Members, member}
use Rattle.serde_json.specs.Find.{get, get_member}
use Rattle.feel_value.specs.Datum.{Datum}
use Rattle.feel_value.specs.Distinct.{is_among}
use Rattle.feel_value.specs.Found.{each, ◌>>=◌}
use Rattle.dmn_form.specs.Model.{Service}
use Rattle.dmn_plan.specs.ReadModel.{read_text}
use Rattle.dmn_plan.specs.Request.{request_of, request_to, request_with, service_in, value_under, values_under}
use Rattle.dmn_plan.specs.declared.fault.TaskFault.TheVariants as fault
use Rattle.dmn_service.specs.Decision.{parameters_of}
use Rattle.desk_wire.specs.Parts.{IsObject}
use Rattle.desk_requests.specs.Services.{HasNoValue, HaveValues, KnowsService, KnowsServices, fault_in}
use Rattle.desk_requests.specs.declared.services.Services.{Services}
use Rattle.desk_requests.proofs.Names.{among_at, turned_name}
use Rattle.desk_requests.proofs.Passing.{one_more_closed}

-- ## Sets of names

by_turns : (a b c r : Bool) → a ≡ b → ((a || c) || r) ≡ (c || (b || r))
by_turns true true true r e = refl
by_turns true true false r e = refl
by_turns true false c r e = cc
by_turns false true c r e = cc
by_turns false false true r e = refl
by_turns false false false r e = refl

pub one_more_name : (old new : BTreeSet (String Global)) (name : String Global) (k : List ℕ) (rest all : List (List ℕ)) → Updates string_cmp old new name true → string_bytes name ≡ k
    → ((n : List ℕ) → (contains_text old n || is_among (k ∷ rest) n) ≡ is_among all n) → (n : List ℕ) → (contains_text new n || is_among rest n) ≡ is_among all n
one_more_name old new name k rest all put is before n =
    ap (λ b. b || is_among rest n) (one_more_closed old new name put n)
    ∙ by_turns (bytes_eq (string_bytes name) n) (bytes_eq n k) (contains_text old n) (is_among rest n) (ap (λ s. bytes_eq s n) is ∙ turned_name k n)
    ∙ before n

-- ## Members of an object

unequal : (c : Ordering) (a b : Option Data) → is_eq c ≡ false → match_ordering c a b a ≡ a
unequal Less a b e = refl
unequal Equal a b e = cc
unequal Greater a b e = refl

-- a name that isn't a member's is looked for behind it
passed_member : (k l : List ℕ) (d : Data) (ms : Members) → bytes_eq k l ≡ false → get_member k (member l d ms) ≡ get_member k ms
passed_member k l d ms e = unequal (slice_cmp nat_cmp k l) (get_member k ms) (Some d) (is_eq-slice_cmp k l ∙ e)

-- what stands under each of the names is a value, or stands among these members
abbrev pub AreLeft : BTreeSet (String Global) → Data → Members → Type 0
AreLeft names inputs ms = (k : List ℕ) → contains_text names k ≡ true → (is_some (value_under (get k inputs)) ≡ true) ⊎ (get k inputs ≡ get_member k ms)

-- one member more was looked at
pub one_more_member : (names : BTreeSet (String Global)) (inputs : Data) (l : List ℕ) (d : Data) (ms : Members) → AreLeft names inputs (member l d ms)
    → (contains_text names l ≡ true → is_some (value_under (get l inputs)) ≡ true) → AreLeft names inputs ms
one_more_member names inputs l d ms before looked k among =
    elim (before k among) [
      | inl has ↦ inl has
      | inr rest ↦ go (bytes_eq k l) refl rest
    ]
  where
    go : (b : Bool) → bytes_eq k l ≡ b → get k inputs ≡ get_member k (member l d ms) → (is_some (value_under (get k inputs)) ≡ true) ⊎ (get k inputs ≡ get_member k ms)
    go true e rest =
        let same : k ≡ l = (bytes_eq-Decides k l).0 e in
        inl (subst (λ n. is_some (value_under (get n inputs)) ≡ true) (sym same) (looked (ap (contains_text names) (sym same) ∙ among)))
    go false e rest = inr (rest ∙ passed_member k l d ms e)

-- where no member is left, each name has its value
pub all_looked_at : (inputs : Data) (k : List ℕ) → (is_some (value_under (get k inputs)) ≡ true) ⊎ (get k inputs ≡ None) → is_some (value_under (get k inputs)) ≡ true
all_looked_at inputs k h =
    elim h [
      | inl has ↦ has
      | inr none ↦ ap (λ o. is_some (value_under o)) none
    ]

-- ## Services that were asked

service_found : (text n : List ℕ) (set : BTreeSet (String Global)) (ns : List (List ℕ)) (o : Option Service) → service_in (read_text text) n ≡ o → option_map parameters_of o ≡ Some ns
    → ((k : List ℕ) → contains_text set k ≡ is_among ns k) → KnowsService text n set
service_found text n set ns None e f tells = cc
service_found text n set ns (Some s) e f tells = record { service = s; found = e; takes = λ k. tells k ∙ ap (λ names. is_among names k) (sym (same_Some (parameters_of s) ns f)) }

-- a service more
pub one_more_service : (text n : List ℕ) (old new : Services) (name : String Global) (set : BTreeSet (String Global)) (ns : List (List ℕ)) → map.Updates string_cmp old.known new.known name (Some set)
    → string_bytes name ≡ n → option_map parameters_of (service_in (read_text text) n) ≡ Some ns → ((k : List ℕ) → contains_text set k ≡ is_among ns k) → KnowsServices text old → KnowsServices text new
one_more_service text n old new name set ns put is takes tells before m names there =
    go (bytes_eq (string_bytes name) m) refl (sym (btree_map_updates_text (string_bytes name) old.known new.known (Some set) put m) ∙ there)
  where
    go : (b : Bool) → bytes_eq (string_bytes name) m ≡ b → cond (bytes_eq (string_bytes name) m) (Some set) (get_by_text old.known m) ≡ Some names → KnowsService text m names
    go true e f =
        let same : set ≡ names = same_Some set names (sym (ap (λ b. cond b (Some set) (get_by_text old.known m)) e) ∙ f) in
        let named : n ≡ m = sym is ∙ (bytes_eq-Decides (string_bytes name) m).0 e in
        subst (λ k. KnowsService text k names) named (subst (KnowsService text n) same (service_found text n set ns (service_in (read_text text) n) refl takes tells))
    go false e f = before m names (sym (ap (λ b. cond b (Some set) (get_by_text old.known m)) e) ∙ f)

-- ## Requests to a service

both_some : {Y : Type 0} (o : Option Y) (p : Option (List Y)) → is_some o ≡ true → is_some p ≡ true → is_some (o >>= λ y. p >>= λ ys. Some (y ∷ ys)) ≡ true
both_some None p e f = cc
both_some (Some y) None e f = cc
both_some (Some y) (Some ys) e f = refl

each_some : {X Y : Type 0} (f : X → Option Y) (xs : List X) → ((k : ℕ) (x : X) → slice_get xs k ≡ Some x → is_some (f x) ≡ true) → is_some (each f xs) ≡ true
each_some f [] h = refl
each_some f (x ∷ xs) h = both_some (f x) (each f xs) (h 0 x refl) (each_some f xs (λ k y there. h (suc k) y there))

first_none : {Y : Type 0} (o : Option Y) (p : Option (List Y)) → is_some o ≡ false → is_some (o >>= λ y. p >>= λ ys. Some (y ∷ ys)) ≡ false
first_none None p e = refl
first_none (Some y) p e = cc

later_none : {Y : Type 0} (o : Option Y) (p : Option (List Y)) → is_some p ≡ false → is_some (o >>= λ y. p >>= λ ys. Some (y ∷ ys)) ≡ false
later_none None p e = refl
later_none (Some y) None e = refl
later_none (Some y) (Some ys) e = cc

-- there are not all values where one of several is missing
at_first : (f : List ℕ → Option Datum) (n : List ℕ) (ns : List (List ℕ)) (k : List ℕ) (b : Bool) → bytes_eq k n ≡ b → (bytes_eq k n || is_among ns k) ≡ true → is_some (f k) ≡ false
    → (is_among ns k ≡ true → is_some (each f ns) ≡ false) → is_some (each f (n ∷ ns)) ≡ false
at_first f n ns k true e among none rest = first_none (f n) (each f ns) (subst (λ m. is_some (f m) ≡ false) ((bytes_eq-Decides k n).0 e) none)
at_first f n ns k false e among none rest = later_none (f n) (each f ns) (rest (sym (ap (λ b. b || is_among ns k) e) ∙ among))

each_none : (f : List ℕ → Option Datum) (ns : List (List ℕ)) (k : List ℕ) → is_among ns k ≡ true → is_some (f k) ≡ false → is_some (each f ns) ≡ false
each_none f [] k among none = cc
each_none f (n ∷ ns) k among none = at_first f n ns k (bytes_eq k n) refl among none (λ later. each_none f ns k later none)

no_object : (ns : List (List ℕ)) (d : Data) → (IsObject d → ⊥) → is_some (values_under ns d) ≡ false
no_object ns json.null h = refl
no_object ns (json.boolean b) h = refl
no_object ns (json.number n) h = refl
no_object ns (json.string s) h = refl
no_object ns (json.array ds) h = refl
no_object ns (json.object ms) h = absurd (h (ms, refl))

all_values : (ns : List (List ℕ)) (d : Data) (ms : Members) → d ≡ json.object ms → ((k : List ℕ) → is_among ns k ≡ true → is_some (value_under (get k d)) ≡ true) → is_some (values_under ns d) ≡ true
all_values ns d ms is each_has =
    subst (λ e. is_some (values_under ns e) ≡ true) (sym is)
    (each_some (λ k. value_under (get_member k ms)) ns (λ c k there. ap (λ e. is_some (value_under (get k e))) (sym is) ∙ each_has k (among_at k ns c there)))

one_bad : (ns : List (List ℕ)) (d : Data) (k : List ℕ) → is_among ns k ≡ true → is_some (value_under (get k d)) ≡ false → is_some (values_under ns d) ≡ false
one_bad ns json.null k among none = refl
one_bad ns (json.boolean b) k among none = refl
one_bad ns (json.number n) k among none = refl
one_bad ns (json.string s) k among none = refl
one_bad ns (json.array ds) k among none = refl
one_bad ns (json.object ms) k among none = each_none (λ n. value_under (get_member n ms)) ns k among none

made : (text n : List ℕ) (o : Option (List Datum)) → is_some o ≡ true → None ≡ fault_in (request_with text n o)
made text n None e = cc
made text n (Some vs) e = refl

unmade : (text n : List ℕ) (o : Option (List Datum)) → is_some o ≡ false → Some fault.Value ≡ fault_in (request_with text n o)
unmade text n None e = refl
unmade text n (Some vs) e = cc

module _ (text n : List ℕ) (d : Data) where
  pub unserved : service_in (read_text text) n ≡ None → Some fault.Service ≡ fault_in (request_of text n d)
  unserved e = ap (λ o. fault_in (request_to text n o d)) (sym e)

  module _ (names : BTreeSet (String Global)) (knows : KnowsService text n names) where
    served : fault_in (request_with text n (values_under (parameters_of knows.service) d)) ≡ fault_in (request_of text n d)
    served = ap (λ o. fault_in (request_to text n o d)) (sym knows.found)

    pub lawful : HaveValues names d → None ≡ fault_in (request_of text n d)
    lawful have =
        made text n (values_under (parameters_of knows.service) d) (all_values (parameters_of knows.service) d have.of_object.0 have.of_object.1 (λ k among. have.each k (knows.takes k ∙ among)))
        ∙ served

    pub unlawful : HasNoValue names d → Some fault.Value ≡ fault_in (request_of text n d)
    unlawful bad =
        unmade text n (values_under (parameters_of knows.service) d)
        (elim bad [
          | inl over ↦ one_bad (parameters_of knows.service) d over.name (sym (knows.takes over.name) ∙ over.asked) over.none
          | inr none ↦ no_object (parameters_of knows.service) d none
        ])
        ∙ served
