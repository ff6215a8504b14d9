-- What handing out does to what is owed.
use Rattle.std.proofs.Common.{◌≡◌, ◌+◌, ℕ, zero, suc, Bool, true, false, List, [], ◌∷◌, ◌++◌, Option, Some, None, length, drop, map, slice_get, slice_set, if◌then◌else◌, refl, sym, ap, ◌∙◌, arith, append_assoc, append-nil, add-one, subst}
use Rattle.std.specs.Prelude.{bytes_eq}
use Rattle.std.specs.List.{flat_map}
use Rattle.std.proofs.lemmas.Grind.{flat_map-append}
use Rattle.std.proofs.lemmas.List.{map-append}
use Rattle.std.proofs.lemmas.List.Elements.{filter-append}
use Rattle.dmn_plan.specs.Request.{Request}
use Rattle.desk_lines.specs.Lines.{ended}
use Rattle.desk_serving.specs.Owed.{Lane, Owed, Queue, ToLine, ToRequest, as_queue, replies, due, due_to, due_to_name, owed_report, unhanded, AreHanded, AreOwn, AreFirst, AreFirstOwn, Hands, HandsOwn, HandsThen, LosesFirst}
use Rattle.desk_requests.specs.State.{AreDistinct}
use Rattle.desk_wire.specs.Reports.{Report, client_on, report_text}
use Rattle.desk_serving.specs.Script.{same_client, of_client, texts_of}
use Rattle.feel_value.specs.Distinct.{is_among}
use Rattle.desk_requests.proofs.Names.{same_name, name_itself, turned_name, or_false, not_among_at}

-- ## Reports

pub of_client-append : (who : Option (List ℕ)) (xs ys : List Report) → of_client who (xs ++ ys) ≡ of_client who xs ++ of_client who ys
of_client-append who xs ys = filter-append (λ e. same_client (client_on e) who) xs ys

pub same_client-refl : (who : Option (List ℕ)) → same_client who who ≡ true
same_client-refl None = refl
same_client-refl (Some n) = name_itself n

pub same_is : (a b : Option (List ℕ)) → same_client a b ≡ true → a ≡ b
same_is None None h = refl
same_is None (Some n) h = cc
same_is (Some m) None h = cc
same_is (Some m) (Some n) h = ap Some (same_name m n h)

pub of_other : (who : Option (List ℕ)) (e : Report) → same_client (client_on e) who ≡ false → of_client who (e ∷ []) ≡ []
of_other who e h = rw h refl

pub of_same : (who : Option (List ℕ)) (e : Report) → same_client (client_on e) who ≡ true → of_client who (e ∷ []) ≡ e ∷ []
of_same who e h = rw h refl

-- the lines of more reports
pub lines-append : (xs ys : List Report) → flat_map ended (texts_of (xs ++ ys)) ≡ flat_map ended (texts_of xs) ++ flat_map ended (texts_of ys)
lines-append xs ys = ap (flat_map ended) (map-append (λ e. report_text e) xs ys) ∙ flat_map-append ended (texts_of xs) (texts_of ys)

-- ## What a lane owes

-- the reply at a place is the first that is owed from there
replies-drop : (t : ℕ) (qs : List Request) (i : ℕ) (q : Request) → slice_get qs i ≡ Some q → replies t (drop i qs) ≡ ToRequest t q ∷ replies (t + 1) (drop (suc i) qs)
replies-drop t [] i q h = cc
replies-drop t (x ∷ qs) zero q h = let is : x ≡ q = cc in ap (λ (y : Request). ToRequest t y ∷ replies (t + 1) qs) is
replies-drop t (x ∷ qs) (suc i) q h = replies-drop t qs i q h

replies-next : (lane : Lane) (q : Request) → slice_get lane.put lane.handed ≡ Some q
    → replies lane.handed (drop lane.handed lane.put) ≡ ToRequest lane.handed q ∷ replies (lane.handed + 1) (drop (lane.handed + 1) lane.put)
replies-next lane q h = simp add-one (simp add-one at (replies-drop lane.handed lane.put lane.handed q h))

-- the lane with one result more handed out
abbrev pub with_handed : Lane → Lane
with_handed lane = record { put = lane.put; handed = lane.handed + 1; closed = lane.closed }

pub next_handed : (lane : Lane) (q : Request) → slice_get lane.put lane.handed ≡ Some q → LosesFirst (ToRequest lane.handed q) (as_queue lane) (as_queue (with_handed lane))
next_handed lane q h = record { put = refl; closed = refl; owed = replies-next lane q h }

pub replies-none : (t : ℕ) (qs : List Request) → replies t qs ≡ [] → qs ≡ []
replies-none t [] e = refl
replies-none t (q ∷ qs) e = cc

-- where nothing is owed, nothing is due
pub due-whole : (name : List ℕ) (lane : Queue) → lane.owed ≡ [] → due name lane ≡ []
due-whole name lane h = ap (map (λ owed. owed_report name owed)) h

-- the first that is owed is handed out
on_owed : (name : List ℕ) (owed : Owed) → client_on (owed_report name owed) ≡ Some name
on_owed name (ToRequest ticket request) = refl
on_owed name (ToLine line what) = refl

pub said_to : (name : List ℕ) (owed : Owed) → of_client (Some name) (owed_report name owed ∷ []) ≡ owed_report name owed ∷ []
said_to name owed = of_same (Some name) (owed_report name owed) (ap (λ c. same_client c (Some name)) (on_owed name owed) ∙ name_itself name)

pub said_to_none : (name : List ℕ) (owed : Owed) (who : Option (List ℕ)) → same_client (Some name) who ≡ false → of_client who (owed_report name owed ∷ []) ≡ []
said_to_none name owed who far = of_other who (owed_report name owed) (ap (λ c. same_client c who) (on_owed name owed) ∙ far)

pub own_lost : (name : List ℕ) (first : Owed) (old new : Queue) → LosesFirst first old new → AreOwn name old new (owed_report name first ∷ [])
own_lost name first old new h = record {
  put = h.put;
  closed = h.closed;
  own = ap (λ t. t ++ due name new) (said_to name first) ∙ ap (map (λ owed. owed_report name owed)) (sym h.owed);
  others = λ who far. said_to_none name first who far;
}

-- what is owed to the name of a lane is what that lane owes
pub due_to_own : (names : List (List ℕ)) (lanes : List Queue) (c : ℕ) (n : List ℕ) (lane : Queue) → AreDistinct names → slice_get names c ≡ Some n → slice_get lanes c ≡ Some lane
    → due_to_name n names lanes ≡ due n lane
due_to_own [] lanes c n lane dis at la = cc
due_to_own (m ∷ names) [] c n lane dis at la = cc
due_to_own (m ∷ names) (x ∷ lanes) zero n lane dis at la =
    let is : m ≡ n = cc in let l : x ≡ lane = cc in
    let e : bytes_eq m n ≡ true = subst (λ y. bytes_eq y n ≡ true) (sym is) (name_itself n) in
    rw (e, is, l) refl
due_to_own (m ∷ names) (x ∷ lanes) (suc c) n lane dis at la =
    let e : bytes_eq m n ≡ false = turned_name m n ∙ not_among_at m n names c dis.0 at in
    rw e (due_to_own names lanes c n lane dis.1 at la)

-- and nothing that changes there changes what is owed to others
pub due_to_other : (m : List ℕ) (names : List (List ℕ)) (lanes : List Queue) (c : ℕ) (n : List ℕ) (lane : Queue) → slice_get names c ≡ Some n → bytes_eq n m ≡ false
    → due_to_name m names (slice_set lanes c lane) ≡ due_to_name m names lanes
due_to_other m [] lanes c n lane at h = cc
due_to_other m (k ∷ names) [] c n lane at h = refl
due_to_other m (k ∷ names) (x ∷ lanes) zero n lane at h =
    let is : k ≡ n = cc in
    let e : bytes_eq k m ≡ false = subst (λ y. bytes_eq y m ≡ false) (sym is) h in rw e refl
due_to_other m (k ∷ names) (x ∷ lanes) (suc c) n lane at h = ap (λ (t : List Report). if bytes_eq k m then due k x else t) (due_to_other m names lanes c n lane at h)

-- nothing is owed to a name without a lane
pub due_to_none : (m : List ℕ) (names : List (List ℕ)) (lanes : List Queue) → is_among names m ≡ false → due_to_name m names lanes ≡ []
due_to_none m [] lanes h = refl
due_to_none m (n ∷ names) [] h = refl
due_to_none m (n ∷ names) (lane ∷ lanes) h =
    let both = or_false (bytes_eq m n) (is_among names m) h in
    let other : bytes_eq n m ≡ false = turned_name n m ∙ both.0 in rw other (due_to_none m names lanes both.1)

-- ## Lists of lanes

pub set_at : {X : Type 0} (xs : List X) (c : ℕ) (x y : X) → slice_get xs c ≡ Some x → slice_get (slice_set xs c y) c ≡ Some y
set_at [] c x y h = cc
set_at (z ∷ xs) zero x y h = refl
set_at (z ∷ xs) (suc c) x y h = set_at xs c x y h

pub unhanded-set : (lanes : List Queue) (c : ℕ) (lane new : Queue) → slice_get lanes c ≡ Some lane → new.put ≡ lane.put → new.closed ≡ lane.closed
    → unhanded (slice_set lanes c new) ≡ unhanded lanes
unhanded-set [] c lane new h p q = cc
unhanded-set (x ∷ lanes) zero lane new h p q =
    let is : x ≡ lane = cc in
    let put : new.put ≡ x.put = p ∙ ap (λ (y : Queue). y.put) (sym is) in
    let closed : new.closed ≡ x.closed = q ∙ ap (λ (y : Queue). y.closed) (sym is) in
    rw (put, closed) refl
unhanded-set (x ∷ lanes) (suc c) lane new h p q = ap (λ (t : List Lane). (record { put = x.put; handed = 0; closed = x.closed }) ∷ t) (unhanded-set lanes c lane new h p q)

-- ## What was handed out

pub handed_none : (names : List (List ℕ)) (lanes : List Queue) → AreHanded names lanes lanes []
handed_none names lanes = record { lanes = refl; owed = λ who. refl }

pub handed_then : (names : List (List ℕ)) (a b c : List Queue) (m k : List Report) → AreHanded names a b m → AreHanded names b c k → AreHanded names a c (m ++ k)
handed_then names a b c m k x y = record {
  lanes = y.lanes ∙ x.lanes;
  owed = λ who. ap (λ t. t ++ due_to who names c) (of_client-append who m k) ∙ append_assoc (of_client who m) (of_client who k) (due_to who names c)
      ∙ ap (λ t. of_client who m ++ t) (y.owed who) ∙ x.owed who;
}

pub handed_first : (names : List (List ℕ)) (a b : List Queue) (m : List Report) → AreHanded names a b m → AreFirst names a m
handed_first names a b m x who = (due_to who names b, x.owed who)

pub first_after : (names : List (List ℕ)) (a b : List Queue) (m k : List Report) → AreHanded names a b m → AreFirst names b k → AreFirst names a (m ++ k)
first_after names a b m k x y who =
    let r = y who in (
      r.0,
      ap (λ t. t ++ r.0) (of_client-append who m k) ∙ append_assoc (of_client who m) (of_client who k) r.0 ∙ ap (λ t. of_client who m ++ t) r.1 ∙ x.owed who,
    )

owed_at : (names : List (List ℕ)) (lanes : List Queue) (c : ℕ) (n : List ℕ) (lane new : Queue) (more : List Report) → AreDistinct names → slice_get names c ≡ Some n → slice_get lanes c ≡ Some lane
    → AreOwn n lane new more → (m : List ℕ) (b : Bool) → bytes_eq n m ≡ b → of_client (Some m) more ++ due_to_name m names (slice_set lanes c new) ≡ due_to_name m names lanes
owed_at names lanes c n lane new more dis at la own m false e = rw (own.others (Some m) e, due_to_other m names lanes c n new at e) refl
owed_at names lanes c n lane new more dis at la own m true e =
    let is : n ≡ m = same_name n m e in
    let now : due_to_name n names (slice_set lanes c new) ≡ due n new = due_to_own names (slice_set lanes c new) c n new dis at (set_at lanes c lane new la) in
    let P : List ℕ → Type 0 = λ k. of_client (Some k) more ++ due_to_name k names (slice_set lanes c new) ≡ due_to_name k names lanes in
    subst P is (rw (now, due_to_own names lanes c n lane dis at la) own.own)

pub own_handed : (names : List (List ℕ)) (lanes : List Queue) (c : ℕ) (n : List ℕ) (lane new : Queue) (more : List Report) → AreDistinct names → slice_get names c ≡ Some n → slice_get lanes c ≡ Some lane
    → AreOwn n lane new more → AreHanded names lanes (slice_set lanes c new) more
own_handed names lanes c n lane new more dis at la own = record {
  lanes = unhanded-set lanes c lane new la own.put own.closed;
  owed = elim [
    | None ↦ append-nil (of_client None more) ∙ own.others None refl
    | Some m ↦ owed_at names lanes c n lane new more dis at la own m (bytes_eq n m) refl
  ];
}

first_at : (names : List (List ℕ)) (lanes : List Queue) (c : ℕ) (n : List ℕ) (lane : Queue) (more : List Report) → AreDistinct names → slice_get names c ≡ Some n → slice_get lanes c ≡ Some lane
    → AreFirstOwn n lane more → (m : List ℕ) (b : Bool) → bytes_eq n m ≡ b → (rest : List Report) × (of_client (Some m) more ++ rest ≡ due_to_name m names lanes)
first_at names lanes c n lane more dis at la own m false e = (due_to_name m names lanes, ap (λ t. t ++ due_to_name m names lanes) (own.others (Some m) e))
first_at names lanes c n lane more dis at la own m true e =
    let is : n ≡ m = same_name n m e in
    let P : List ℕ → Type 0 = λ k. (rest : List Report) × (of_client (Some k) more ++ rest ≡ due_to_name k names lanes) in
    subst P is (own.rest, own.own ∙ sym (due_to_own names lanes c n lane dis at la))

pub own_first : (names : List (List ℕ)) (lanes : List Queue) (c : ℕ) (n : List ℕ) (lane : Queue) (more : List Report) → AreDistinct names → slice_get names c ≡ Some n → slice_get lanes c ≡ Some lane
    → AreFirstOwn n lane more → AreFirst names lanes more
own_first names lanes c n lane more dis at la own = elim [
  | None ↦ ([], append-nil (of_client None more) ∙ own.others None refl)
  | Some m ↦ first_at names lanes c n lane more dis at la own m (bytes_eq n m) refl
]

-- the same, at the end of a text

pub hands_none : (names : List (List ℕ)) (lanes : List Queue) (text : List ℕ) → Hands names lanes lanes text text
hands_none names lanes text = record { more = []; is = sym (append-nil text); handed = handed_none names lanes }

pub hands_then : (names : List (List ℕ)) (a b c : List Queue) (s t u : List ℕ) → Hands names a b s t → Hands names b c t u → Hands names a c s u
hands_then names a b c s t u x y = record {
  more = x.more ++ y.more;
  is = y.is ∙ ap (λ v. v ++ flat_map ended (texts_of y.more)) x.is ∙ append_assoc s (flat_map ended (texts_of x.more)) (flat_map ended (texts_of y.more))
      ∙ ap (λ v. s ++ v) (sym (lines-append x.more y.more));
  handed = handed_then names a b c x.more y.more x.handed y.handed;
}

pub own_hands : (names : List (List ℕ)) (lanes : List Queue) (c : ℕ) (n : List ℕ) (lane new : Queue) (s t : List ℕ) → AreDistinct names → slice_get names c ≡ Some n → slice_get lanes c ≡ Some lane
    → HandsOwn n lane new s t → Hands names lanes (slice_set lanes c new) s t
own_hands names lanes c n lane new s t dis at la h = record {
  more = h.more;
  is = h.is;
  handed = own_handed names lanes c n lane new h.more dis at la h.handed;
}

-- a report that is said where nothing is owed to its client any more
then_by : (names : List (List ℕ)) (old new : List Queue) (more : List Report) (e : Report) → AreHanded names old new more → due_to (client_on e) names new ≡ []
    → (who : Option (List ℕ)) (b : Bool) → same_client (client_on e) who ≡ b → of_client who (more ++ e ∷ []) ++ due_to who names new ≡ due_to who names old ++ of_client who (e ∷ [])
then_by names old new more e h free who false s =
    ap (λ t. t ++ due_to who names new) (of_client-append who more (e ∷ []) ∙ ap (λ t. of_client who more ++ t) (of_other who e s) ∙ append-nil (of_client who more))
    ∙ h.owed who ∙ sym (append-nil (due_to who names old)) ∙ ap (λ t. due_to who names old ++ t) (sym (of_other who e s))
then_by names old new more e h free who true s =
    let is : client_on e ≡ who = same_is (client_on e) who s in
    let nothing : due_to who names new ≡ [] = subst (λ (c : Option (List ℕ)). due_to c names new ≡ []) is free in
    let at : of_client who more ≡ due_to who names old = sym (append-nil (of_client who more)) ∙ ap (λ t. of_client who more ++ t) (sym nothing) ∙ h.owed who in
    ap (λ t. of_client who (more ++ e ∷ []) ++ t) nothing ∙ append-nil (of_client who (more ++ e ∷ [])) ∙ of_client-append who more (e ∷ []) ∙ ap (λ t. t ++ of_client who (e ∷ [])) at

pub hands_then_report : (names : List (List ℕ)) (old new : List Queue) (e : Report) (s t u : List ℕ) → Hands names old new s t → due_to (client_on e) names new ≡ [] → u ≡ t ++ ended (report_text e)
    → HandsThen names old new e s u
hands_then_report names old new e s t u h free is = record {
  more = h.more ++ e ∷ [];
  is = is ∙ ap (λ v. v ++ ended (report_text e)) h.is ∙ append_assoc s (flat_map ended (texts_of h.more)) (ended (report_text e))
      ∙ ap (λ v. s ++ v) (sym (lines-append h.more (e ∷ []) ∙ ap (λ v. flat_map ended (texts_of h.more) ++ v) (append-nil (ended (report_text e)))));
  owed = λ who. then_by names old new h.more e h.handed free who (same_client (client_on e) who) refl;
}

-- ## Lanes that are the same but for what they handed out

abbrev pub stripped : Queue → Lane
stripped lane = record { put = lane.put; handed = 0; closed = lane.closed }

pub length-unhanded : (xs ys : List Queue) → unhanded xs ≡ unhanded ys → length xs ≡ length ys
length-unhanded [] [] e = refl
length-unhanded [] (y ∷ ys) e = cc
length-unhanded (x ∷ xs) [] e = cc
length-unhanded (x ∷ xs) (y ∷ ys) e = let rest : unhanded xs ≡ unhanded ys = cc in let h = length-unhanded xs ys rest in omega (arith, h)

-- the lane at the same place
pub unhanded_at : (xs ys : List Queue) (c : ℕ) (y : Queue) → unhanded xs ≡ unhanded ys → slice_get ys c ≡ Some y
    → (x : Queue) × (slice_get xs c ≡ Some x) × (x.put ≡ y.put) × (x.closed ≡ y.closed)
unhanded_at xs [] c y e h = cc
unhanded_at [] (b ∷ ys) c y e h = cc
unhanded_at (a ∷ xs) (b ∷ ys) zero y e h =
    let first : stripped a ≡ stripped b = cc in
    let is : b ≡ y = cc in
    (a, refl, ap (λ (l : Lane). l.put) first ∙ ap (λ (l : Queue). l.put) is, ap (λ (l : Lane). l.closed) first ∙ ap (λ (l : Queue). l.closed) is)
unhanded_at (a ∷ xs) (b ∷ ys) (suc c) y e h = let rest : unhanded xs ≡ unhanded ys = cc in unhanded_at xs ys c y rest h
