-- Lanes are made, one after another.
use Rattle.std.proofs.Common.{◌≡◌, ℕ, zero, suc, ◌<◌, All, List, [], ◌∷◌, ◌++◌, length, map, get_or, set, refl, ap, sym, ◌∙◌, subst, arith}
use Rattle.std.proofs.lemmas.List.Elements.{All-cons, All-tail, All-head, All-append}
use Rattle.std.proofs.lemmas.List.{map-append}
use Rattle.std.specs.Prelude.{flat_map}
use Rattle.std.proofs.lemmas.List.Concat.{flat_map-append}
use Rattle.lanes.specs.Ends.{ClientEnd, LaneEnd, WorkerEnd}
use Rattle.rtrb.specs.Ring.{received}
use Rattle.lanes.specs.Joined.{received_of}
use Rattle.lanes.specs.Identities.{add_each, link}
use Rattle.lanes.specs.Links.{Link, empties, AreOfOneCall}
use Rattle.std.specs.declared.alloc.Global.{Global}
use Rattle.rtrb.specs.declared.consumer.Consumer.{Consumer}
use Rattle.rtrb.specs.declared.AnyItems.{AnyItems}
use Rattle.box_core.specs.Answer.{Ticketed}
use Rattle.lanes.specs.Clients.{client_links, put_of, came_to, mail_of}
use Rattle.lanes.specs.Identities.{links_of, ring_of, link}
use Rattle.lanes.specs.Made.{AreNew, AreIdle}
use Rattle.box_core.specs.Mail.{fresh}
use Rattle.lanes.specs.Ports.{taken_at, held_at}
use Rattle.lanes.specs.Workers.{ports_of, port_link, port_links, worker_links, SameEnds}
use Rattle.lanes.proofs.Serving.{same_map}
use Rattle.lanes.proofs.Crossing.{none, high, one_call_more}

module _ {A : Type 0} where
  add_none : (rows : List (List A)) → add_each rows [] ≡ rows
  add_none [] = refl
  add_none (r ∷ rows) = refl

  -- one row more is longer by one
  grown : (rows : List (List A)) (xs : List A) (x : A) (i : ℕ) (row row' : List A) → length xs ≡ i → i < length rows → row ≡ get_or (add_each rows xs) i row → row' ≡ row ++ x ∷ [] → set (add_each rows xs) i row' ≡ add_each rows (xs ++ x ∷ [])
  grown [] xs x i row row' n h is more = absurd (omega (arith, h))
  grown (r ∷ rows) [] x zero row row' n h is more = (let first : row' ≡ r ++ x ∷ [] = more ∙ ap (λ l. l ++ x ∷ []) is in let rest = sym (add_none rows) in λ i. first i ∷ rest i)
  grown (r ∷ rows) [] x (suc i) row row' n h is more = absurd (omega (arith, n))
  grown (r ∷ rows) (y ∷ xs) x zero row row' n h is more = absurd (omega (arith, n))
  grown (r ∷ rows) (y ∷ xs) x (suc i) row row' n h is more = ap (λ l. (r ++ y ∷ []) ∷ l) (grown rows xs x i row row' (omega (arith, n)) (omega (arith, h)) is more)

  pub map_set : {B : Type 0} (f : A → B) (xs : List A) (i : ℕ) (y : A) → map f (set xs i y) ≡ set (map f xs) i (f y)
  map_set f [] i y = refl
  map_set f (x ∷ xs) zero y = refl
  map_set f (x ∷ xs) (suc i) y = ap (λ l. f x ∷ l) (map_set f xs i y)

  pub map_get : {B : Type 0} (f : A → B) (xs : List A) (i : ℕ) (d : A) → i < length xs → get_or (map f xs) i (f d) ≡ f (get_or xs i d)
  map_get f [] i d h = absurd (omega (arith, h))
  map_get f (x ∷ xs) zero d h = refl
  map_get f (x ∷ xs) (suc i) d h = map_get f xs i d (omega (arith, h))

  pub map_length : {B : Type 0} (f : A → B) (xs : List A) → length (map f xs) ≡ length xs
  map_length f [] = refl
  map_length f (x ∷ xs) = ap suc (map_length f xs)

module _ {A : Type 0} where
  -- one worker has one link more
  pub linked : {B : Type 0} (links : A → List B) (crew crew0 : List A) (xs : List B) (x : B) (i : ℕ) (w w' : A) → map links crew ≡ add_each (map links crew0) xs → length xs ≡ i → i < length crew → length crew ≡ length crew0
      → w ≡ get_or crew i w → links w' ≡ links w ++ x ∷ [] → map links (set crew i w') ≡ add_each (map links crew0) (xs ++ x ∷ [])
  linked links crew crew0 xs x i w w' rows n h same is more =
      map_set links crew i w' ∙ ap (λ l. set l i (links w')) rows
      ∙ grown (map links crew0) xs x i (links w) (links w') n (let a = map_length links crew0 in omega (arith, a, h, same))
      (ap links is ∙ sym (map_get links crew i w h) ∙ ap (λ l. get_or l i (links w)) rows) more

  pub all_set : (P : A → Type 0) (xs : List A) (i : ℕ) (y : A) → All P xs → P y → All P (set xs i y)
  all_set P [] i y all p = all
  all_set P (x ∷ xs) zero y all p = All-cons P y xs p (All-tail P x xs all)
  all_set P (x ∷ xs) (suc i) y all p = All-cons P x (set xs i y) (All-head P x xs all) (all_set P xs i y (All-tail P x xs all) p)

  pub all_snoc : (P : A → Type 0) (xs : List A) (y : A) → All P xs → P y → All P (xs ++ y ∷ [])
  all_snoc P xs y all p = All-append P xs (y ∷ []) all (All-cons P y [] p (none P))

  pub empties_more : (n : ℕ) → empties {T = A} n ++ [] ∷ [] ≡ empties (suc n)
  empties_more zero = refl
  empties_more (suc n) = ap (λ l. [] ∷ l) (empties_more n)

  pub add_empty : (rows : List (List A)) → rows ≡ add_each rows []
  add_empty rows = sym (add_none rows)

pub flat_snoc : {A B : Type 0} (f : A → List B) (xs : List A) (x : A) → flat_map f xs ≡ [] → f x ≡ [] → flat_map f (xs ++ x ∷ []) ≡ []
flat_snoc f xs x e h = flat_map-append f xs (x ∷ []) ∙ (λ i. e i ++ (h i ++ []))

-- nothing came out of one ring more
pub received_snoc : {T : Type 0} (rings : List (Consumer T Global AnyItems)) (ring : Consumer T Global AnyItems) → received_of rings ≡ [] → received ring ≡ [] → received_of (rings ++ ring ∷ []) ≡ []
received_snoc {T} rings ring e h =
    ap (λ (l : List (List T)). flat_map (λ answers. answers) l) (map-append (λ r. received r) rings (ring ∷ [])) ∙ flat_snoc (λ answers. answers) (map (λ r. received r) rings) (received ring) e h

-- each worker has as many links as there are clients
pub heights : (clients workers : List (List Link)) → AreOfOneCall clients workers → All (λ links. length links ≡ length clients) workers
heights clients workers h = subst (λ l. All (λ (links : List Link). length links ≡ length clients) l) (sym h.meet) (high (length workers) clients)

-- one row gives up its last member
pub shrunk : {A : Type 0} (rows : List (List A)) (xs : List A) (x : A) (i : ℕ) (row row' : List A) → length xs ≡ i → i < length rows → row ≡ get_or rows i row → row ≡ row' ++ x ∷ [] → add_each rows xs ≡ add_each (set rows i row') (xs ++ x ∷ [])
shrunk [] xs x i row row' n h is less = absurd (omega (arith, h))
shrunk (r ∷ rows) [] x zero row row' n h is less = (let first : r ≡ row' ++ x ∷ [] = sym is ∙ less in let rest = add_empty rows in λ i. first i ∷ rest i)
shrunk (r ∷ rows) [] x (suc i) row row' n h is less = absurd (omega (arith, n))
shrunk (r ∷ rows) (y ∷ xs) x zero row row' n h is less = absurd (omega (arith, n))
shrunk (r ∷ rows) (y ∷ xs) x (suc i) row row' n h is less = ap (λ l. (r ++ y ∷ []) ∷ l) (shrunk rows xs x i row row' (omega (arith, n)) (omega (arith, h)) is less)

links_snoc : {T : Type 0} (deque : (ℕ × ℕ) × Global) (rs : List (Consumer T Global AnyItems)) (r : Consumer T Global AnyItems) → links_of deque (rs ++ r ∷ []) ≡ links_of deque rs ++ link deque (ring_of r) ∷ []
links_snoc deque [] r = refl
links_snoc deque (x ∷ rs) r = ap (λ l. link deque (ring_of x) ∷ l) (links_snoc deque rs r)

pub links_length : {T : Type 0} (deque : (ℕ × ℕ) × Global) (rs : List (Consumer T Global AnyItems)) → length (links_of deque rs) ≡ length rs
links_length deque [] = refl
links_length deque (x ∷ rs) = ap suc (links_length deque rs)

same_default : {T : Type 0} (xs : List T) (i : ℕ) (d e : T) → i < length xs → get_or xs i d ≡ get_or xs i e
same_default [] i d e h = absurd (omega (arith, h))
same_default (x ∷ xs) zero d e h = refl
same_default (x ∷ xs) (suc i) d e h = same_default xs i d e (omega (arith, h))

module _ {W O : Type 0} where
  pub crew_linked : (crew crew0 : List (WorkerEnd W O)) (deque deque' : (ℕ × ℕ) × Global) (rings : List (Consumer (Ticketed W) Global AnyItems)) (ring : Consumer (Ticketed W) Global AnyItems) (i : ℕ) (w w' : WorkerEnd W O) (port : LaneEnd W O)
      → map worker_links crew ≡ add_each (map worker_links crew0) (links_of deque rings) → deque' ≡ deque → length rings ≡ i → i < length crew → length crew ≡ length crew0 → w ≡ get_or crew i w
      → ports_of w' ≡ ports_of w ++ port ∷ [] → port_link port ≡ link deque (ring_of ring) → map worker_links (set crew i w') ≡ add_each (map worker_links crew0) (links_of deque' (rings ++ ring ∷ []))
  crew_linked crew crew0 deque deque' rings ring i w w' port rows dq n h same is more link_is =
      linked worker_links crew crew0 (links_of deque rings) (link deque (ring_of ring)) i w w' rows (links_length deque rings ∙ n) h same is
      (ap (λ l. port_links l) more ∙ map-append (λ (p : LaneEnd W O). port_link p) (ports_of w) (port ∷ []) ∙ ap (λ x. port_links (ports_of w) ++ x ∷ []) link_is)
      ∙ ap (λ l. add_each (map worker_links crew0) l) (sym (links_snoc deque rings ring)) ∙ ap (λ d. add_each (map worker_links crew0) (links_of d (rings ++ ring ∷ []))) (sym dq)

  pub crew_idle : (crew : List (WorkerEnd W O)) (i : ℕ) (w w' : WorkerEnd W O) (port : LaneEnd W O) → AreIdle crew → i < length crew → w ≡ get_or crew i w → ports_of w' ≡ ports_of w ++ port ∷ []
      → (taken_at port ≡ []) × (held_at port ≡ []) → AreIdle (set crew i w')
  crew_idle crew i w w' port idle h is more fresh =
      all_set (λ (w : WorkerEnd W O). All (λ p. (taken_at p ≡ []) × (held_at p ≡ [])) (ports_of w)) crew i w' idle
      (subst (λ l. All (λ (p : LaneEnd W O). (taken_at p ≡ []) × (held_at p ≡ [])) l) (sym more)
      (all_snoc (λ (p : LaneEnd W O). (taken_at p ≡ []) × (held_at p ≡ [])) (ports_of w) port
      (subst (λ (x : WorkerEnd W O). All (λ (p : LaneEnd W O). (taken_at p ≡ []) × (held_at p ≡ [])) (ports_of x)) (sym is) (idle i w h)) fresh))

  pub few_at : (crew : List (WorkerEnd W O)) (n : ℕ) → All (λ ports. length ports < n) (map ports_of crew) → (k : ℕ) (d : WorkerEnd W O) → k < length crew → length (ports_of (get_or crew k d)) < n
  few_at crew n all k d h = subst (λ l. length l < n) (map_get ports_of crew k d h) (all k (ports_of d) (let m = map_length ports_of crew in omega (arith, m, h)))

  few_links : (ws : List (WorkerEnd W O)) (n : ℕ) → n < 64 → All (λ l. length l ≡ n) (map worker_links ws) → All (λ ports. length ports < 64) (map ports_of ws)
  few_links [] n less h = none (λ (ports : List (LaneEnd W O)). length ports < 64)
  few_links (w ∷ ws) n less h = All-cons (λ (ports : List (LaneEnd W O)). length ports < 64) (ports_of w) (map ports_of ws)
      (let a = map_length (λ (p : LaneEnd W O). port_link p) (ports_of w) in let b = All-head (λ (l : List Link). length l ≡ n) (worker_links w) (map worker_links ws) h in omega (arith, a, b, less))
      (few_links ws n less (All-tail (λ (l : List Link). length l ≡ n) (worker_links w) (map worker_links ws) h))

  -- each worker has room for one lane more
  pub few_lanes : (ends : List (ClientEnd W O)) (crew : List (WorkerEnd W O)) → AreOfOneCall (map client_links ends) (map worker_links crew) → length ends < 64 → All (λ ports. length ports < 64) (map ports_of crew)
  few_lanes ends crew h less = few_links crew (length (map client_links ends)) (let n = map_length client_links ends in omega (arith, n, less)) (heights (map client_links ends) (map worker_links crew) h)

  pub lanes_more : (ends ends' : List (ClientEnd W O)) (crew crew' : List (WorkerEnd W O)) (client : ClientEnd W O) → AreOfOneCall (map client_links ends) (map worker_links crew) → ends' ≡ ends ++ client ∷ []
      → length (client_links client) ≡ length crew → map worker_links crew' ≡ add_each (map worker_links crew) (client_links client) → AreOfOneCall (map client_links ends') (map worker_links crew')
  lanes_more ends ends' crew crew' client h more n rows =
      subst (λ l. AreOfOneCall l (map worker_links crew')) (sym (ap (map client_links) more ∙ map-append client_links ends (client ∷ [])))
      (subst (λ l. AreOfOneCall (map client_links ends ++ client_links client ∷ []) l) (sym rows)
      (one_call_more (map client_links ends) (map worker_links crew) (client_links client) (n ∙ sym (map_length worker_links crew)) h))

  pub column_taken : (workers0 workers : List (WorkerEnd W O)) (column : List (LaneEnd W O)) (i : ℕ) (w w' : WorkerEnd W O) (port : LaneEnd W O) → map ports_of workers0 ≡ add_each (map ports_of workers) column → length column ≡ i → i < length workers
      → w ≡ get_or workers i w → ports_of w ≡ ports_of w' ++ port ∷ [] → map ports_of workers0 ≡ add_each (map ports_of (set workers i w')) (column ++ port ∷ [])
  column_taken workers0 workers column i w w' port rows n h is less =
      rows ∙ shrunk (map ports_of workers) column port i (ports_of w) (ports_of w') n (let m = map_length ports_of workers in omega (arith, m, h)) (ap ports_of is ∙ sym (map_get ports_of workers i w h)) less
      ∙ ap (λ l. add_each l (column ++ port ∷ [])) (sym (map_set ports_of workers i w'))

  -- without lanes
  pub worker_links_none : (ws : List (WorkerEnd W O)) (n : ℕ) → map ports_of ws ≡ empties n → map worker_links ws ≡ empties n
  worker_links_none [] zero e = refl
  worker_links_none [] (suc n) e = let k : zero ≡ length (empties {T = LaneEnd W O} (suc n)) = ap length e in absurd (omega (arith, k))
  worker_links_none (w ∷ ws) zero e = let k : suc (length (map ports_of ws)) ≡ zero = ap length e in absurd (omega (arith, k))
  worker_links_none (w ∷ ws) (suc n) e =
      let first : port_links (ports_of w) ≡ [] = ap (λ l. port_links (front l)) e in let rest = worker_links_none ws n (ap back e) in λ i. first i ∷ rest i
    where
      front : List (List (LaneEnd W O)) → List (LaneEnd W O)
      front [] = []
      front (l ∷ ls) = l

      back : List (List (LaneEnd W O)) → List (List (LaneEnd W O))
      back [] = []
      back (l ∷ ls) = ls

  pub idle_none : (ws : List (WorkerEnd W O)) (n : ℕ) → map ports_of ws ≡ empties n → AreIdle ws
  idle_none ws n e k d h = subst (λ l. All (λ (p : LaneEnd W O). (taken_at p ≡ []) × (held_at p ≡ [])) l) (sym (nothing ws n e k d h)) (none (λ (p : LaneEnd W O). (taken_at p ≡ []) × (held_at p ≡ [])))
    where
      empty_at : (n k : ℕ) → get_or (empties {T = LaneEnd W O} n) k [] ≡ []
      empty_at zero k = refl
      empty_at (suc n) zero = refl
      empty_at (suc n) (suc k) = empty_at n k

      nothing : (ws : List (WorkerEnd W O)) (n : ℕ) → map ports_of ws ≡ empties n → (k : ℕ) (d : WorkerEnd W O) → k < length ws → ports_of (get_or ws k d) ≡ []
      nothing ws n e k d h = sym (map_get ports_of ws k d h) ∙ same_default (map ports_of ws) k (ports_of d) [] (let m = map_length ports_of ws in omega (arith, m, h)) ∙ ap (λ l. get_or l k []) e ∙ empty_at n k

  pub new_none : (capacity : ℕ) → AreNew {W = W} {O = O} capacity []
  new_none capacity = none (λ (c : ClientEnd W O). (put_of c ≡ []) × (came_to c ≡ []) × (mail_of c ≡ fresh 0 capacity))

  pub new_more : (capacity : ℕ) (ends ends' : List (ClientEnd W O)) (client : ClientEnd W O) → AreNew capacity ends → ends' ≡ ends ++ client ∷ [] → (put_of client ≡ []) × (came_to client ≡ []) × (mail_of client ≡ fresh 0 capacity) → AreNew capacity ends'
  new_more capacity ends ends' client new more is = subst (λ l. AreNew capacity l) (sym more) (all_snoc (λ (c : ClientEnd W O). (put_of c ≡ []) × (came_to c ≡ []) × (mail_of c ≡ fresh 0 capacity)) ends client new is)

-- one end that stays the same end
pub links_kept : {T U : Type 0} (links : T → U) (xs : List T) (i : ℕ) (x y : T) → x ≡ get_or xs i x → links y ≡ links x → map links (set xs i y) ≡ map links xs
links_kept links [] i x y is same = refl
links_kept links (z ∷ xs) zero x y is same = (let e = same ∙ ap links is in ap (λ l. l ∷ map links xs) e)
links_kept links (z ∷ xs) (suc i) x y is same = ap (λ l. links z ∷ l) (links_kept links xs i x y is same)

pub same_ends : {W O : Type 0} (old new : List (WorkerEnd W O)) → SameEnds old new → map worker_links new ≡ map worker_links old
same_ends old new h = same_map worker_links old new h.count h.links
