-- What stays of a list of lanes, and what a line adds to what is owed.
use Rattle.std.proofs.Common.{◌≡◌, ℕ, zero, suc, ◌+◌, ◌<◌, ◌≤◌, Bool, true, false, List, [], ◌∷◌, ◌++◌, Option, Some, None, length, map, drop, take, slice_get, length-append, string_bytes, slice_set, slice_index_or, if◌then◌else◌, refl, sym, ap, ◌∙◌, arith, append_assoc, append-nil, subst}
use Rattle.std.specs.Prelude.{bytes_eq, nat_le}
use Rattle.std.proofs.lemmas.Bool.Decides.{nat_tests}
use Rattle.std.proofs.lemmas.List.{length-map, map-append, take_all}
use Rattle.dmn_plan.specs.Request.{Request, request_result}
use Rattle.lanes.specs.Clients.{client_links}
use Rattle.lanes.specs.Links.{Link}
use Rattle.lanes.proofs.Making.{map_set}
use Rattle.desk_serving.specs.LanesView.{AreClear, ArePolled, IsPolled, client_held, lane_held, lanes_in, links_held, names_in}
use Rattle.desk_serving.specs.declared.client_lane.ClientLane.{ClientLane}
use Rattle.desk_serving.specs.declared.named_lanes.Lanes.{Lanes}
use Rattle.desk_serving.specs.Owed.{AreBehind, Owed, Queue, ToLine, ToRequest, due, due_to, due_to_name, owed_report, queue_of, unhanded, Hands, HandsOwn, HandsThen, with_put, with_told}
use Rattle.desk_serving.specs.Waits.{with_waits}
use Rattle.desk_requests.specs.State.{AreDistinct, with_lane}
use Rattle.desk_wire.specs.Reports.{Of, Reply}
use Rattle.desk_wire.specs.declared.report.Told.{Told}
use Rattle.desk_serving.specs.Script.{of_client}
use Rattle.feel_value.specs.Distinct.{is_among}
use Rattle.desk_requests.proofs.Callers.{distinct-push}
use Rattle.desk_serving.proofs.Laning.{behind_owes}
use Rattle.desk_serving.proofs.Owing.{due_to_other, due_to_own, own_hands, said_to, said_to_none, set_at}
use Rattle.desk_requests.proofs.Names.{among_at, same_name, get_map, get_at, get_inside}
use Rattle.model_marks.specs.declared.mark.Catalog.{Ghosts}

-- ## Lists of lanes

pub inside_of : {A B C : Type 0} (f : A → C) (names : List A) (clients : List B) (place : ℕ) → place < length (map f names) → length names ≤ length clients → place < length clients
inside_of f names clients place h le = let n = length-map names f in omega (arith, n, h, le)

pub some_same : {X : Type 0} (o : Option X) (x y : X) → o ≡ Some x → o ≡ Some y → x ≡ y
some_same o x y p q = cc

-- the lane at a place, as it is held
pub lane_at : {C : Type 0} {G : Ghosts C} → (clients : List (ClientLane C G)) (c : ℕ) (client : ClientLane C G) → c < length clients → client ≡ slice_index_or clients c client
    → slice_get (map lane_held clients) c ≡ Some (lane_held client)
lane_at clients c client lt is = get_map lane_held clients c client (get_at clients c client lt is)

pub lanes_set : {C : Type 0} {G : Ghosts C} → (clients : List (ClientLane C G)) (c : ℕ) (new : ClientLane C G) → map lane_held (slice_set clients c new) ≡ slice_set (map lane_held clients) c (lane_held new)
lanes_set clients c new = map_set lane_held clients c new

-- something is owed only behind a request
pub all_behind : {C : Type 0} {G : Ghosts C} → (clients : List (ClientLane C G)) → AreBehind (map lane_held clients)
all_behind [] = tt
all_behind (x ∷ clients) = (behind_owes x.client x.waits.items x.behind, all_behind clients)

pub client_hands : {C : Type 0} {G : Ghosts C} → (names : List (List ℕ)) (clients : List (ClientLane C G)) (c : ℕ) (name : List ℕ) (old new : ClientLane C G) (s t : List ℕ) → AreDistinct names → slice_get names c ≡ Some name
    → c < length clients → old ≡ slice_index_or clients c old → HandsOwn name (lane_held old) (lane_held new) s t
    → Hands names (map lane_held clients) (map lane_held (slice_set clients c new)) s t
client_hands names clients c name old new s t dis at lt is h =
    let before = map lane_held clients in
    subst (λ (ls : List Queue). Hands names before ls s t) (sym (lanes_set clients c new))
    (own_hands names before c name (lane_held old) (lane_held new) s t dis at (lane_at clients c old lt is) h)

module _ {C : Type 0} {G : Ghosts C} where
  -- one more client was polled
  polled_first : (old : List (ClientLane C G)) (client client' : ClientLane C G) → 0 < length old → client ≡ slice_index_or old 0 client → IsPolled client client' → ArePolled 1 old (slice_set old 0 client')
  polled_first [] client client' lt is p = absurd (omega (arith, lt))
  polled_first (x ∷ old) client client' lt is p = (subst (λ (c : ClientLane C G). IsPolled c client') is p, refl)

  polled_suc : (n : ℕ) (old now : List (ClientLane C G)) (client client' : ClientLane C G) → n < length now → client ≡ slice_index_or now n client
      → IsPolled client client' → ArePolled n old now → ArePolled (suc n) old (slice_set now n client')
  polled_suc zero old now client client' lt is p same = subst (λ (cs : List (ClientLane C G)). ArePolled 1 cs (slice_set now 0 client')) same (polled_first now client client' lt is p)
  polled_suc (suc n) [] [] client client' lt is p polled = polled
  polled_suc (suc n) [] (y ∷ now) client client' lt is p polled = polled
  polled_suc (suc n) (x ∷ old) [] client client' lt is p polled = polled
  polled_suc (suc n) (x ∷ old) (y ∷ now) client client' lt is p polled = (polled.0, polled_suc n old now client client' (omega (arith, lt)) is p polled.1)

  pub polled_next : (n : ℕ) (old now : List (ClientLane C G)) (client client' : ClientLane C G) → n < length now → client ≡ slice_index_or now n client
      → IsPolled client client' → ArePolled n old now → ArePolled (n + 1) old (slice_set now n client')
  polled_next n old now client client' lt is p polled =
      let next : suc n ≡ n + 1 = omega arith in
      subst (λ (k : ℕ). ArePolled k old (slice_set now n client')) next (polled_suc n old now client client' lt is p polled)

-- ## Where nothing waits

module _ {C : Type 0} {G : Ghosts C} where
  pub clear_at : (clients : List (ClientLane C G)) (c : ℕ) (client : ClientLane C G) → AreClear clients → slice_get clients c ≡ Some client → client.waits.items ≡ []
  clear_at [] c client clear e = cc
  clear_at (x ∷ clients) zero client clear e = let is : x ≡ client = cc in subst (λ (l : ClientLane C G). l.waits.items ≡ []) is clear.0
  clear_at (x ∷ clients) (suc c) client clear e = clear_at clients c client clear.1 e

  clear_set : (clients : List (ClientLane C G)) (c : ℕ) (new : ClientLane C G) → AreClear clients → new.waits.items ≡ [] → AreClear (slice_set clients c new)
  clear_set [] c new clear e = tt
  clear_set (x ∷ clients) zero new clear e = (e, clear.1)
  clear_set (x ∷ clients) (suc c) new clear e = (clear.0, clear_set clients c new clear.1 e)

  -- in the lane at a place nothing waits then either
  pub clear_kept : (clients : List (ClientLane C G)) (c : ℕ) (old new : ClientLane C G) → c < length clients → old ≡ slice_index_or clients c old → (old.waits.items ≡ [] → new.waits.items ≡ []) → AreClear clients
      → AreClear (slice_set clients c new)
  clear_kept clients c old new lt is keeps clear = clear_set clients c new clear (keeps (clear_at clients c old clear (get_at clients c old lt is)))

  clear_suc : (clients : List (ClientLane C G)) (c : ℕ) (client : ClientLane C G) → slice_get clients c ≡ Some client → client.waits.items ≡ [] → AreClear (take c clients) → AreClear (take (suc c) clients)
  clear_suc [] c client e none clear = tt
  clear_suc (x ∷ clients) zero client e none clear = let is : client ≡ x = cc in (subst (λ (l : ClientLane C G). l.waits.items ≡ []) is none, tt)
  clear_suc (x ∷ clients) (suc c) client e none clear = (clear.0, clear_suc clients c client e none clear.1)

  pub clear_next : (clients : List (ClientLane C G)) (c : ℕ) (client : ClientLane C G) → c < length clients → client ≡ slice_index_or clients c client → client.waits.items ≡ [] → AreClear (take c clients) → AreClear (take (c + 1) clients)
  clear_next clients c client lt is none clear =
      let next : suc c ≡ c + 1 = omega arith in
      subst (λ (k : ℕ). AreClear (take k clients)) next (clear_suc clients c client (get_at clients c client lt is) none clear)

  pub clear_all : (clients : List (ClientLane C G)) (n : ℕ) → length clients ≤ n → AreClear (take n clients) → AreClear clients
  clear_all clients n le clear = subst AreClear (take_all n clients le) clear

  -- then each lane is its client's
  pub clear_lanes : (clients : List (ClientLane C G)) → AreClear clients → map queue_of (map client_held clients) ≡ map lane_held clients
  clear_lanes [] clear = refl
  clear_lanes (x ∷ clients) clear =
      let first : queue_of x.client ≡ lane_held x = sym (ap (with_waits (queue_of x.client)) clear.0) in
      let rest = clear_lanes clients clear.1 in λ i. first i ∷ rest i

  pub held_links : (clients : List (ClientLane C G)) → map client_links (map client_held clients) ≡ map links_held clients
  held_links [] = refl
  held_links (x ∷ clients) = ap (λ (ls : List (List Link)). client_links x.client ∷ ls) (held_links clients)

-- a place with a name has a lane
pub lanes_inside : {C : Type 0} {G : Ghosts C} → (lanes : Lanes C G) (place : ℕ) → place < length (names_in lanes) → (place < length lanes.clients.items) × (place < length (lanes_in lanes))
lanes_inside lanes place h =
    let inside = inside_of string_bytes lanes.names.items lanes.clients.items place h lanes.named in
    (inside, let n = length-map lanes.clients.items lane_held in omega (arith, n, inside))

-- ## Names

pub with_lane-known : (lanes : ℕ) (n : List ℕ) (names : List (List ℕ)) → is_among names n ≡ true → with_lane lanes n names ≡ names
with_lane-known lanes n names h = rw h refl

pub with_lane-full : (lanes : ℕ) (n : List ℕ) (names : List (List ℕ)) → is_among names n ≡ false → lanes ≤ length names → with_lane lanes n names ≡ names
with_lane-full lanes n names new full = rw (new, no_lane lanes (length names) full) refl
  where
    no_lane : (a b : ℕ) → a ≤ b → nat_le a b ≡ true
    no_lane a b h = grind (arith, nat_tests)

pub with_lane-next : (lanes : ℕ) (n : List ℕ) (names : List (List ℕ)) → is_among names n ≡ false → length names < lanes → with_lane lanes n names ≡ names ++ n ∷ []
with_lane-next lanes n names new room = rw (new, a_lane lanes (length names) room) refl
  where
    a_lane : (a b : ℕ) → b < a → nat_le a b ≡ false
    a_lane a b h = grind (arith, nat_tests)

get_before : {X : Type 0} (xs ys : List X) (c : ℕ) → c < length xs → slice_get (xs ++ ys) c ≡ slice_get xs c
get_before [] ys c h = absurd (omega (arith, h))
get_before (x ∷ xs) ys zero h = refl
get_before (x ∷ xs) ys (suc c) h = let less : c < length xs = omega (arith, h) in get_before xs ys c less

-- a name that has the lane at a place where there is a name has had it
pub with_lane-had : (lanes : ℕ) (n : List ℕ) (names : List (List ℕ)) (c : ℕ) (b d : Bool) → is_among names n ≡ b → nat_le lanes (length names) ≡ d → slice_get (with_lane lanes n names) c ≡ Some n → c < length names
    → with_lane lanes n names ≡ names
with_lane-had lanes n names c true d eb ed at h = rw eb refl
with_lane-had lanes n names c false true eb ed at h = rw (eb, ed) refl
with_lane-had lanes n names c false false eb ed at h =
    let next : with_lane lanes n names ≡ names ++ n ∷ [] = rw (eb, ed) refl in
    let there : is_among names n ≡ true = among_at n names c (sym (get_before names (n ∷ []) c h) ∙ ap (λ (ns : List (List ℕ)). slice_get ns c) (sym next) ∙ at) in
    let wrong : true ≡ false = sym there ∙ eb in cc

-- and where there is none it gets the next
pub with_lane-gets : (lanes : ℕ) (n : List ℕ) (names : List (List ℕ)) (c : ℕ) (b d : Bool) → is_among names n ≡ b → nat_le lanes (length names) ≡ d → slice_get (with_lane lanes n names) c ≡ Some n → length names ≤ c
    → (is_among names n ≡ false) × (length names < lanes)
with_lane-gets lanes n names c true d eb ed at h =
    let same : with_lane lanes n names ≡ names = rw eb refl in
    let less : c < length names = get_inside names c n (ap (λ (ns : List (List ℕ)). slice_get ns c) (sym same) ∙ at) in absurd (omega (arith, less, h))
with_lane-gets lanes n names c false true eb ed at h =
    let same : with_lane lanes n names ≡ names = rw (eb, ed) refl in
    let less : c < length names = get_inside names c n (ap (λ (ns : List (List ℕ)). slice_get ns c) (sym same) ∙ at) in absurd (omega (arith, less, h))
with_lane-gets lanes n names c false false eb ed at h = (eb, a_lane lanes (length names) ed)
  where
    a_lane : (a b : ℕ) → nat_le a b ≡ false → b < a
    a_lane a b e = grind (arith, nat_tests)

pub pushed_names : {A B : Type 0} (f : A → List ℕ) (clients : List B) (names names' : List A) (x : A) (b : Bool) → names' ≡ (if b then names ++ x ∷ [] else names) → AreDistinct (map f names)
    → is_among (map f names) (f x) ≡ false → length names < length clients → (length names' ≤ length clients) × AreDistinct (map f names')
pushed_names f clients names names' x true is dis new lt = (
  (let n = ap length is in let k = length-append names (x ∷ []) in omega (arith, n, k, lt)),
  subst AreDistinct (sym (ap (map f) is ∙ map-append f names (x ∷ []))) (distinct-push (map f names) (f x) dis new),
)
pushed_names f clients names names' x false is dis new lt = ((let n = ap length is in omega (arith, n, lt)), subst AreDistinct (sym (ap (map f) is)) dis)

-- ## What a line adds

-- one more is owed
due-more : (name : List ℕ) (lane new : Queue) (owed : Owed) → new.owed ≡ lane.owed ++ owed ∷ [] → due name new ≡ due name lane ++ owed_report name owed ∷ []
due-more name lane new owed e = ap (map (λ o. owed_report name o)) e ∙ map-append (λ o. owed_report name o) lane.owed (owed ∷ [])

due_to_more_at : (names : List (List ℕ)) (lanes : List Queue) (c : ℕ) (n : List ℕ) (lane new : Queue) (owed : Owed) → AreDistinct names → slice_get names c ≡ Some n → slice_get lanes c ≡ Some lane
    → new.owed ≡ lane.owed ++ owed ∷ [] → (m : List ℕ) (b : Bool) → bytes_eq n m ≡ b
    → due_to_name m names (slice_set lanes c new) ≡ due_to_name m names lanes ++ of_client (Some m) (owed_report n owed ∷ [])
due_to_more_at names lanes c n lane new owed dis at la more m false e =
    due_to_other m names lanes c n new at e ∙ sym (append-nil (due_to_name m names lanes)) ∙ ap (λ t. due_to_name m names lanes ++ t) (sym (said_to_none n owed (Some m) e))
due_to_more_at names lanes c n lane new owed dis at la more m true e =
    let is : n ≡ m = same_name n m e in
    let P : List ℕ → Type 0 = λ k. due_to_name k names (slice_set lanes c new) ≡ due_to_name k names lanes ++ of_client (Some k) (owed_report n owed ∷ []) in
    subst P is
    (due_to_own names (slice_set lanes c new) c n new dis at (set_at lanes c lane new la) ∙ due-more n lane new owed more
    ∙ ap (λ t. t ++ owed_report n owed ∷ []) (sym (due_to_own names lanes c n lane dis at la)) ∙ ap (λ t. due_to_name n names lanes ++ t) (sym (said_to n owed)))

pub due_to_grown : (names : List (List ℕ)) (lanes : List Queue) (c : ℕ) (n : List ℕ) (lane new : Queue) (owed : Owed) → AreDistinct names → slice_get names c ≡ Some n → slice_get lanes c ≡ Some lane
    → new.owed ≡ lane.owed ++ owed ∷ [] → (who : Option (List ℕ)) → due_to who names (slice_set lanes c new) ≡ due_to who names lanes ++ of_client who (owed_report n owed ∷ [])
due_to_grown names lanes c n lane new owed dis at la more None = sym (said_to_none n owed None refl)
due_to_grown names lanes c n lane new owed dis at la more (Some m) = due_to_more_at names lanes c n lane new owed dis at la more m (bytes_eq n m) refl

-- a request was put
pub put_then : (names : List (List ℕ)) (lanes : List Queue) (c : ℕ) (n : List ℕ) (lane : Queue) (q : Request) (text : List ℕ) → AreDistinct names → slice_get names c ≡ Some n → slice_get lanes c ≡ Some lane
    → HandsThen names lanes (slice_set lanes c (with_put lane q)) (Reply n (length lane.put) (request_result q)) text text
put_then names lanes c n lane q text dis at la = record {
  more = [];
  is = sym (append-nil text);
  owed = due_to_grown names lanes c n lane (with_put lane q) (ToRequest (length lane.put) q) dis at la refl;
}

-- something was told of a line behind what was owed, and then some of that was handed out
pub told_then : (names : List (List ℕ)) (lanes new : List Queue) (c k : ℕ) (what : Told) (n : List ℕ) (lane : Queue) (s t : List ℕ) → AreDistinct names → slice_get names c ≡ Some n → slice_get lanes c ≡ Some lane
    → Hands names (slice_set lanes c (with_told k what lane)) new s t → HandsThen names lanes new (Of n k what) s t
told_then names lanes new c k what n lane s t dis at la h = record {
  more = h.more;
  is = h.is;
  owed = λ who. h.handed.owed who ∙ due_to_grown names lanes c n lane (with_told k what lane) (ToLine k what) dis at la refl who;
}

pub set_twice : {X : Type 0} (xs : List X) (c : ℕ) (x y : X) → slice_set (slice_set xs c x) c y ≡ slice_set xs c y
set_twice [] c x y = refl
set_twice (z ∷ xs) zero x y = refl
set_twice (z ∷ xs) (suc c) x y = ap (λ l. z ∷ l) (set_twice xs c x y)

-- what is told of a client's line stands at the end of what its lane owes, before some of that is handed out
pub client_told : {C : Type 0} {G : Ghosts C} → (names : List (List ℕ)) (clients : List (ClientLane C G)) (c k : ℕ) (what : Told) (name : List ℕ) (old new : ClientLane C G) (s t : List ℕ) → AreDistinct names → slice_get names c ≡ Some name
    → c < length clients → old ≡ slice_index_or clients c old → HandsOwn name (with_told k what (lane_held old)) (lane_held new) s t
    → Hands names (slice_set (map lane_held clients) c (with_told k what (lane_held old))) (map lane_held (slice_set clients c new)) s t
client_told ns clients c k what name old new s t dis at lt is h =
    let before = map lane_held clients in let told = with_told k what (lane_held old) in let mid = slice_set before c told in
    subst (λ (ls : List Queue). Hands ns mid ls s t) (set_twice before c told (lane_held new) ∙ sym (lanes_set clients c new))
    (own_hands ns mid c name told (lane_held new) s t dis at (set_at before c (lane_held old) told (lane_at clients c old lt is)) h)
