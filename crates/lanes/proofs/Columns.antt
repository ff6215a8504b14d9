-- The lanes are settled one after the other, the last one first.
use Rattle.std.proofs.Common.{◌≡◌, ℕ, zero, suc, ◌+◌, ◌<◌, All, List, [], ◌∷◌, ◌++◌, length, map, take, get_or, refl, ap, sym, ◌∙◌, subst, append_assoc, append-nil, arith}
use Rattle.std.specs.Prelude.{reverse, Vec}
use Rattle.std.proofs.lemmas.List.Elements.{All-cons, All-tail, All-head}
use Rattle.std.proofs.lemmas.List.{map-append, reverse-append}
use lib.ListN.{length-append}
use Rattle.std.specs.declared.alloc.Global.{Global}
use Rattle.box_core.specs.Answer.{Ticketed}
use Rattle.lanes.specs.Ends.{ClientEnd, LaneEnd, WorkerEnd, SettledEnd}
use Rattle.lanes.specs.Clients.{client_links}
use Rattle.lanes.specs.Identities.{add_each}
use Rattle.lanes.specs.Links.{Link, AreOfOneCall}
use Rattle.lanes.specs.Rooms.{HasRoom, AllHaveRoom, HavePorts}
use Rattle.lanes.specs.Settling.{column, Settles, AllSettle}
use Rattle.lanes.specs.Workers.{ports_of, port_link, port_links, worker_links}
use Rattle.lanes.proofs.Crossing.{none, one_call_less, column_last, column_other, add_map}
use Rattle.lanes.proofs.Making.{map_length, map_get, heights}

take_next : {A : Type 0} (xs : List A) (i : ℕ) (x : A) → i < length xs → x ≡ get_or xs i x → take (suc i) xs ≡ take i xs ++ x ∷ []
take_next [] i x h is = absurd (omega (arith, h))
take_next (y ∷ xs) zero x h is = ap (λ z. z ∷ []) (sym is)
take_next (y ∷ xs) (suc i) x h is = ap (λ l. y ∷ l) (take_next xs i x (omega (arith, h)) is)

module _ {W O : Type 0} where
  -- the last room is the last client's
  pub room_split : (n : ℕ) (clients : List (ClientEnd W O)) (lefts : List (Vec (Ticketed W) Global)) (c : ClientEnd W O) (left : Vec (Ticketed W) Global) → AllHaveRoom n (clients ++ c ∷ []) (lefts ++ left ∷ []) → AllHaveRoom n clients lefts × HasRoom n c left
  room_split n [] [] c left h = (tt, h.0)
  room_split n [] (l ∷ []) c left h = absurd h.1
  room_split n [] (l ∷ (m ∷ lefts)) c left h = absurd h.1
  room_split n (d ∷ []) [] c left h = absurd h.1
  room_split n (d ∷ (e ∷ clients)) [] c left h = absurd h.1
  room_split n (d ∷ clients) (l ∷ lefts) c left h = let r = room_split n clients lefts c left h.1 in ((h.0, r.0), r.1)

  pub room_length : (n : ℕ) (clients : List (ClientEnd W O)) (lefts : List (Vec (Ticketed W) Global)) → AllHaveRoom n clients lefts → length lefts ≡ length clients
  room_length n [] [] h = refl
  room_length n [] (l ∷ lefts) h = absurd h
  room_length n (c ∷ clients) [] h = absurd h
  room_length n (c ∷ clients) (l ∷ lefts) h = ap suc (room_length n clients lefts h.1)

  pub room_more : (n : ℕ) (clients : List (ClientEnd W O)) (lefts : List (Vec (Ticketed W) Global)) (c : ClientEnd W O) (left : Vec (Ticketed W) Global) → AllHaveRoom n clients lefts → HasRoom n c left → AllHaveRoom n (clients ++ c ∷ []) (lefts ++ left ∷ [])
  room_more n [] [] c left h r = (r, tt)
  room_more n [] (l ∷ lefts) c left h r = absurd h
  room_more n (d ∷ clients) [] c left h r = absurd h
  room_more n (d ∷ clients) (l ∷ lefts) c left h r = (h.0, room_more n clients lefts c left h.1 r)

  -- room for one client more
  pub room_next : (n : ℕ) (clients : List (ClientEnd W O)) (i : ℕ) (lefts : List (Vec (Ticketed W) Global)) (c : ClientEnd W O) (left : Vec (Ticketed W) Global) → i < length clients → c ≡ get_or clients i c
      → AllHaveRoom n (take i clients) lefts → HasRoom n c left → AllHaveRoom n (take (i + 1) clients) (lefts ++ left ∷ [])
  room_next n clients i lefts c left h is old new =
      let next : take (i + 1) clients ≡ take i clients ++ c ∷ [] = (let e : i + 1 ≡ suc i = omega arith in ap (λ k. take k clients) e ∙ take_next clients i c h is) in
      subst (λ l. AllHaveRoom n l (lefts ++ left ∷ [])) (sym next) (room_more n (take i clients) lefts c left old new)

  pub room_last : (n : ℕ) (clients clients' : List (ClientEnd W O)) (lefts lefts' : List (Vec (Ticketed W) Global)) (c : ClientEnd W O) (left : Vec (Ticketed W) Global) → AllHaveRoom n clients lefts
      → clients ≡ clients' ++ c ∷ [] → lefts ≡ lefts' ++ left ∷ [] → AllHaveRoom n clients' lefts' × HasRoom n c left
  room_last n clients clients' lefts lefts' c left h e f = room_split n clients' lefts' c left (subst (λ l. AllHaveRoom n l (lefts' ++ left ∷ [])) e (subst (λ l. AllHaveRoom n clients l) f h))

  links_of_ports : (workers : List (WorkerEnd W O)) → map worker_links workers ≡ map (map (λ p. port_link p)) (map ports_of workers)
  links_of_ports [] = refl
  links_of_ports (w ∷ workers) = ap (λ l. worker_links w ∷ l) (links_of_ports workers)

  -- where there is a client, each worker has a port
  pub have_ports : (clients : List (ClientEnd W O)) (workers : List (WorkerEnd W O)) → AreOfOneCall (map client_links clients) (map worker_links workers) → 0 < length clients → HavePorts workers
  have_ports clients workers h some k d in_range none =
      let high = heights (map client_links clients) (map worker_links workers) h in
      let at : length (get_or (map worker_links workers) k (worker_links d)) ≡ length (map client_links clients) = high k (worker_links d) (let n = map_length worker_links workers in omega (arith, n, in_range)) in
      let is : get_or (map worker_links workers) k (worker_links d) ≡ worker_links (get_or workers k d) = map_get worker_links workers k d in_range in
      let m : length (worker_links (get_or workers k d)) ≡ length (ports_of (get_or workers k d)) = map_length (λ p. port_link p) (ports_of (get_or workers k d)) in
      let z : length (ports_of (get_or workers k d)) ≡ 0 = ap length none in
      let e : length (get_or (map worker_links workers) k (worker_links d)) ≡ length (worker_links (get_or workers k d)) = ap length is in
      omega (arith, at, e, m, z, some, map_length client_links clients)

module _ {W R O : Type 0} (request : W → R) (result_of : R → O) where
  -- What stands at the loop's head: what the workers have of the lanes that are left is as at first, and the others are settled.
  pub record Settling (ports0 ports : List (List (LaneEnd W O))) (clients0 clients : List (ClientEnd W O)) (ends : List (SettledEnd W O)) : Type 0 where
    pub same : (d : ℕ) → d < length clients → column d ports ≡ column d ports0
    pub rest : List (ClientEnd W O)
    pub clients_are : clients0 ≡ clients ++ rest
    pub settled : AllSettle request result_of (length clients) ports0 rest (reverse ends)

  pub settling_none : (ports : List (List (LaneEnd W O))) (clients : List (ClientEnd W O)) (ends : List (SettledEnd W O)) → ends ≡ [] → Settling ports ports clients clients ends
  settling_none ports clients ends e = record {
    same = λ d h. refl;
    rest = [];
    clients_are = sym (append-nil clients);
    settled = subst (λ l. AllSettle request result_of (length clients) ports [] (reverse l)) (sym e) tt;
  }

  pub settling_all : (ports0 ports : List (List (LaneEnd W O))) (clients0 clients : List (ClientEnd W O)) (ends : List (SettledEnd W O)) → Settling ports0 ports clients0 clients ends → length clients ≡ 0
      → AllSettle request result_of 0 ports0 clients0 (reverse ends)
  settling_all ports0 ports clients0 [] ends h e = subst (λ l. AllSettle request result_of 0 ports0 l (reverse ends)) (sym h.clients_are) h.settled
  settling_all ports0 ports clients0 (c ∷ clients) ends h e = absurd (omega (arith, e))

  -- What the last lane has of the workers.
  pub record LastLane (clients' : List (ClientEnd W O)) (c : ClientEnd W O) (workers workers' : List (WorkerEnd W O)) (ports : List (LaneEnd W O)) : Type 0 where
    pub links : port_links ports ≡ client_links c
    pub one_call : AreOfOneCall (map client_links clients') (map worker_links workers')
    pub heights : All (λ l. length l ≡ length clients') (map ports_of workers')

  pub last_lane : (clients clients' : List (ClientEnd W O)) (c : ClientEnd W O) (workers workers' : List (WorkerEnd W O)) (ports : List (LaneEnd W O)) → AreOfOneCall (map client_links clients) (map worker_links workers)
      → clients ≡ clients' ++ c ∷ [] → map ports_of workers ≡ add_each (map ports_of workers') ports → length ports ≡ length workers' → LastLane clients' c workers workers' ports
  last_lane clients clients' c workers workers' ports h e taken n =
      let rows : map client_links clients ≡ map client_links clients' ++ client_links c ∷ [] = ap (map client_links) e ∙ map-append client_links clients' (c ∷ []) in
      let columns : map worker_links workers ≡ add_each (map worker_links workers') (port_links ports) =
      links_of_ports workers ∙ ap (map (map (λ p. port_link p))) taken ∙ add_map (λ p. port_link p) (map ports_of workers') ports ∙ ap (λ l. add_each l (port_links ports)) (sym (links_of_ports workers')) in
      let whole : AreOfOneCall (map client_links clients' ++ client_links c ∷ []) (add_each (map worker_links workers') (port_links ports)) = subst (λ l. AreOfOneCall l (add_each (map worker_links workers') (port_links ports))) rows (subst (λ l. AreOfOneCall (map client_links clients) l) columns h) in
      let less = one_call_less (map client_links clients') (map worker_links workers') (client_links c) (port_links ports)
      (let a = map_length (λ (p : LaneEnd W O). port_link p) ports in let b = map_length worker_links workers' in omega (arith, a, b, n)) whole in
      record {
        links = less.0;
        one_call = less.1;
        heights = λ k d in_range.
            let w = map_length ports_of workers' in
            let high = heights (map client_links clients') (map worker_links workers') less.1 in
            lengths workers' (length clients') (subst (λ n. All (λ (l : List Link). length l ≡ n) (map worker_links workers')) (map_length client_links clients') high) k d in_range;
      }
    where
      lengths : (ws : List (WorkerEnd W O)) (n : ℕ) → All (λ l. length l ≡ n) (map worker_links ws) → All (λ l. length l ≡ n) (map ports_of ws)
      lengths [] n h = none (λ (l : List (LaneEnd W O)). length l ≡ n)
      lengths (w ∷ ws) n h = All-cons (λ (l : List (LaneEnd W O)). length l ≡ n) (ports_of w) (map ports_of ws)
          (sym (map_length (λ p. port_link p) (ports_of w)) ∙ All-head (λ (l : List Link). length l ≡ n) (worker_links w) (map worker_links ws) h) (lengths ws n (All-tail (λ (l : List Link). length l ≡ n) (worker_links w) (map worker_links ws) h))

  pub settling_step : (ports0 : List (List (LaneEnd W O))) (clients0 clients clients' : List (ClientEnd W O)) (c : ClientEnd W O) (workers workers' : List (WorkerEnd W O)) (ports : List (LaneEnd W O)) (ends ends' : List (SettledEnd W O)) (end : SettledEnd W O)
      → Settling ports0 (map ports_of workers) clients0 clients ends → clients ≡ clients' ++ c ∷ [] → map ports_of workers ≡ add_each (map ports_of workers') ports → length ports ≡ length workers'
      → LastLane clients' c workers workers' ports → Settles request result_of c ports end → ends' ≡ ends ++ end ∷ []
      → Settling ports0 (map ports_of workers') clients0 clients' ends'
  settling_step ports0 clients0 clients clients' c workers workers' ports ends ends' end h e taken n last s more =
      let count : length clients ≡ suc (length clients') = (let k : length clients ≡ length (clients' ++ c ∷ []) = ap length e in omega (arith, k, length-append clients' (c ∷ []))) in
      let mine : column (length clients') ports0 ≡ ports = sym (h.same (length clients') (omega (arith, count))) ∙ ap (column (length clients')) taken
      ∙ column_last (length clients') (map ports_of workers') ports (let w = map_length ports_of workers' in omega (arith, n, w)) last.heights in
      record {
        same = λ d less. sym (column_other d (length clients') (map ports_of workers') ports less last.heights) ∙ ap (column d) (sym taken) ∙ h.same d (omega (arith, less, count));
        rest = c ∷ h.rest;
        clients_are = h.clients_are ∙ ap (λ l. l ++ h.rest) e ∙ append_assoc clients' (c ∷ []) h.rest;
        settled = subst (λ l. AllSettle request result_of (length clients') ports0 (c ∷ h.rest) l) (sym (ap reverse more ∙ reverse-append ends (end ∷ [])))
            (subst (λ l. Settles request result_of c l end) (sym mine) s, subst (λ k. AllSettle request result_of k ports0 h.rest (reverse ends)) count h.settled);
      }
