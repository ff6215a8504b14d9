-- The passes of a lane are taken in one after the other, the last one first.
use Rattle.std.proofs.Common.{◌≡◌, ℕ, zero, suc, ◌-◌, ◌≤◌, List, [], ◌∷◌, ◌++◌, length, sym, refl, ap, ◌∙◌, subst, append_assoc, append-nil, arith}
use Rattle.std.specs.Prelude.{IsPermutation}
use Rattle.std.proofs.lemmas.List.Sorted.{IsPermutation-refl, IsPermutation-trans, IsPermutation-append_right, IsPermutation-append_comm}
use Rattle.std.proofs.lemmas.List.{map-append}
use lib.ListN.{length-append}
use Rattle.std.specs.declared.alloc.Global.{Global}
use Rattle.rtrb.specs.Ring.{received, sent, IsPair}
use Rattle.rtrb.specs.declared.consumer.Consumer.{Consumer}
use Rattle.rtrb.specs.declared.producer.Producer.{Producer}
use Rattle.rtrb.specs.declared.AnyItems.{AnyItems}
use Rattle.box_core.specs.Answer.{Ticketed}
use Rattle.box_core.specs.Mail.{Mail}
use Rattle.lanes.specs.Ends.{LaneEnd}
use Rattle.lanes.specs.declared.book.Book.{Book}
use Rattle.lanes.specs.declared.port.Held.{Held}
use Rattle.lanes.specs.declared.port.Held.TheVariants as held
use Rattle.lanes.specs.Books.{book}
use Rattle.lanes.specs.Held.{held_in, jobs_in, answers_in}
use Rattle.lanes.specs.Identities.{link, link-inj, links_of, ring_of, sender_ring}
use Rattle.lanes.specs.Links.{Link}
use Rattle.lanes.specs.Polls.{TakenIn}
use Rattle.lanes.specs.Ports.{taken_at, sent_at}
use Rattle.lanes.specs.Joined.{received_of, Joins}
use Rattle.lanes.specs.Settling.{taken_by, sent_by, answers_by, jobs_by}
use Rattle.lanes.specs.Workers.{port_link, port_links}
use Rattle.lanes.proofs.Carried.{over}
use Rattle.lanes.proofs.Crossing.{snoc_split}
use Rattle.lanes.proofs.Taking.{taken_append}

held_parts : {W O : Type 0} (h : Held W O) → held_in h ≡ answers_in h ++ jobs_in h
held_parts held.Nothing = refl
held_parts (held.Job job) = refl
held_parts (held.Done done) = refl

one_job : {W O : Type 0} (h : Held W O) → length (jobs_in h) ≤ 1
one_job held.Nothing = omega arith
one_job (held.Job job) = omega arith
one_job (held.Done done) = omega arith

-- a list without members
pub no_items : {T : Type 0} (xs : List T) → length xs ≡ 0 → xs ≡ []
no_items [] h = refl
no_items (x ∷ xs) h = absurd (omega (arith, h))

module _ {T : Type 0} where
  same_book : (live : ℕ) (put : List T) (m n : ℕ) (xs ys : List T) → m ≡ n → xs ≡ ys → book live m put xs ≡ book live n put ys
  same_book live put m n xs ys e f = λ i. book live (e i) put (f i)

  -- what came out of one ring more, and what its worker held
  arrived_more : (r m a R A S H : List T) → IsPermutation (R ++ A) (S ++ H) → IsPermutation ((r ++ R) ++ ((A ++ m) ++ a)) (((r ++ m) ++ S) ++ (a ++ H))
  arrived_more r m a R A S H h =
      let one : IsPermutation (r ++ ((R ++ A) ++ (m ++ a))) (r ++ ((m ++ a) ++ (R ++ A))) = IsPermutation-append_right r ((R ++ A) ++ (m ++ a)) ((m ++ a) ++ (R ++ A)) (IsPermutation-append_comm (R ++ A) (m ++ a)) in
      let two : IsPermutation (r ++ ((m ++ a) ++ (R ++ A))) (r ++ ((m ++ a) ++ (S ++ H))) = IsPermutation-append_right r ((m ++ a) ++ (R ++ A)) ((m ++ a) ++ (S ++ H)) (IsPermutation-append_right (m ++ a) (R ++ A) (S ++ H) h) in
      let three : IsPermutation (r ++ (m ++ (a ++ (S ++ H)))) (r ++ (m ++ (S ++ (a ++ H)))) = IsPermutation-append_right r (m ++ (a ++ (S ++ H))) (m ++ (S ++ (a ++ H))) (IsPermutation-append_right m (a ++ (S ++ H)) (S ++ (a ++ H)) (over a S H)) in
      let three' : IsPermutation (r ++ ((m ++ a) ++ (S ++ H))) (r ++ (m ++ (S ++ (a ++ H)))) = subst (λ l. IsPermutation (r ++ l) (r ++ (m ++ (S ++ (a ++ H))))) (sym (append_assoc m a (S ++ H))) three in
      let whole = IsPermutation-trans (r ++ ((R ++ A) ++ (m ++ a))) (r ++ ((m ++ a) ++ (R ++ A))) (r ++ (m ++ (S ++ (a ++ H)))) one (IsPermutation-trans (r ++ ((m ++ a) ++ (R ++ A))) (r ++ ((m ++ a) ++ (S ++ H))) (r ++ (m ++ (S ++ (a ++ H)))) two three') in
      simp append_assoc (simp append_assoc at whole)

module _ {W O : Type 0} where
  joins_none : (v : Book (Ticketed W)) → Joins {O = O} [] [] v v [] []
  joins_none v = record {
    joined = [];
    view = same_book v.live v.put v.out (v.out - 0) v.taken (v.taken ++ []) (omega arith) (sym (append-nil v.taken));
    moved = IsPermutation-refl [];
    arrived = IsPermutation-refl [];
    held = IsPermutation-refl [];
    beginnings = tt;
    count = refl;
    fewer = omega arith;
  }

  -- one pass more
  joins_more : (p : LaneEnd W O) (r : Consumer (Ticketed W) Global AnyItems) (ports : List (LaneEnd W O)) (rings : List (Consumer (Ticketed W) Global AnyItems)) (v w w' : Book (Ticketed W)) (answers jobs m : List (Ticketed W))
      → Joins ports rings v w answers jobs → received r ++ m ≡ sent_at p → w' ≡ book w.live (w.out - 1) w.put (w.taken ++ taken_at p)
      → Joins (p ∷ ports) (r ∷ rings) v w' ((answers ++ m) ++ answers_in p.held) (jobs ++ jobs_in p.held)
  joins_more p r ports rings v w w' answers jobs m h sent_is book_is = record {
    joined = h.joined ++ taken_at p;
    view = book_is ∙ ap (λ (b : Book (Ticketed W)). book b.live (b.out - 1) b.put (b.taken ++ taken_at p)) h.view
        ∙ same_book v.live v.put ((v.out - length ports) - 1) (v.out - suc (length ports)) ((v.taken ++ h.joined) ++ taken_at p) (v.taken ++ (h.joined ++ taken_at p)) (omega arith) (append_assoc v.taken h.joined (taken_at p));
    moved = IsPermutation-trans (h.joined ++ taken_at p) (taken_at p ++ h.joined) (taken_at p ++ taken_by ports) (IsPermutation-append_comm h.joined (taken_at p)) (IsPermutation-append_right (taken_at p) h.joined (taken_by ports) h.moved);
    arrived = subst (λ l. IsPermutation ((received r ++ received_of rings) ++ ((answers ++ m) ++ answers_in p.held)) ((l ++ sent_by ports) ++ (answers_in p.held ++ answers_by ports))) sent_is
        (arrived_more (received r) m (answers_in p.held) (received_of rings) answers (sent_by ports) (answers_by ports) h.arrived);
    held = IsPermutation-trans (jobs ++ jobs_in p.held) (jobs_in p.held ++ jobs) (jobs_in p.held ++ jobs_by ports) (IsPermutation-append_comm jobs (jobs_in p.held)) (IsPermutation-append_right (jobs_in p.held) jobs (jobs_by ports) h.held);
    beginnings = ((m, sent_is), h.beginnings);
    count = ap suc h.count;
    fewer = (let f = h.fewer in let o = one_job p.held in omega (arith, f, o, length-append jobs (jobs_in p.held)));
  }

  -- what was taken was sent, or is held
  pub taken_parts : (ports : List (LaneEnd W O)) → IsPermutation (taken_by ports) (sent_by ports ++ (answers_by ports ++ jobs_by ports))
  taken_parts [] = IsPermutation-refl []
  taken_parts (p ∷ ports) =
      let s : List (Ticketed W) = sent_at p in let a : List (Ticketed W) = answers_in p.held in let j : List (Ticketed W) = jobs_in p.held in
      let S : List (Ticketed W) = sent_by ports in let A : List (Ticketed W) = answers_by ports in let J : List (Ticketed W) = jobs_by ports in
      let mine : taken_at p ≡ s ++ (a ++ j) = sym p.carried ∙ ap (λ l. s ++ l) (held_parts p.held) in
      subst (λ l. IsPermutation (l ++ taken_by ports) ((s ++ S) ++ ((a ++ A) ++ (j ++ J)))) (sym mine)
      (IsPermutation-trans ((s ++ (a ++ j)) ++ taken_by ports) ((s ++ (a ++ j)) ++ (S ++ (A ++ J))) ((s ++ S) ++ ((a ++ A) ++ (j ++ J)))
      (IsPermutation-append_right (s ++ (a ++ j)) (taken_by ports) (S ++ (A ++ J)) (taken_parts ports)) (spread s a j S A J))
    where
      spread : (s a j S A J : List (Ticketed W)) → IsPermutation ((s ++ (a ++ j)) ++ (S ++ (A ++ J))) ((s ++ S) ++ ((a ++ A) ++ (j ++ J)))
      spread s a j S A J =
          let inner : IsPermutation ((a ++ j) ++ (S ++ (A ++ J))) (S ++ ((a ++ j) ++ (A ++ J))) = over (a ++ j) S (A ++ J) in
          let last : IsPermutation (a ++ (j ++ (A ++ J))) (a ++ (A ++ (j ++ J))) = IsPermutation-append_right a (j ++ (A ++ J)) (A ++ (j ++ J)) (over j A J) in
          let last' : IsPermutation ((a ++ j) ++ (A ++ J)) (a ++ (A ++ (j ++ J))) = subst (λ l. IsPermutation l (a ++ (A ++ (j ++ J)))) (sym (append_assoc a j (A ++ J))) last in
          let both : IsPermutation ((a ++ j) ++ (S ++ (A ++ J))) (S ++ (a ++ (A ++ (j ++ J)))) = IsPermutation-trans ((a ++ j) ++ (S ++ (A ++ J))) (S ++ ((a ++ j) ++ (A ++ J))) (S ++ (a ++ (A ++ (j ++ J)))) inner (IsPermutation-append_right S ((a ++ j) ++ (A ++ J)) (a ++ (A ++ (j ++ J))) last') in
          let whole : IsPermutation (s ++ ((a ++ j) ++ (S ++ (A ++ J)))) (s ++ (S ++ (a ++ (A ++ (j ++ J))))) = IsPermutation-append_right s ((a ++ j) ++ (S ++ (A ++ J))) (S ++ (a ++ (A ++ (j ++ J)))) both in
          simp append_assoc (simp append_assoc at whole)

module _ {W R O : Type 0} (request : W → R) (result_of : R → O) where
  -- What stands at the loop's head: the ports and rings that are left, and what the others came to.
  pub record Joining (deque : (ℕ × ℕ) × Global) (ports0 ports : List (LaneEnd W O)) (rings0 rings : List (Consumer (Ticketed W) Global AnyItems)) (v w : Book (Ticketed W)) (mail0 mail : Mail W O) (left0 left : List (Ticketed W)) : Type 0 where
    pub ended : List (LaneEnd W O)
    pub drained : List (Consumer (Ticketed W) Global AnyItems)
    pub answers : List (Ticketed W)
    pub jobs : List (Ticketed W)
    pub ports_are : ports0 ≡ ports ++ ended
    pub rings_are : rings0 ≡ rings ++ drained
    pub links : port_links ports ≡ links_of deque rings
    pub taken_in : TakenIn request result_of mail0 answers mail
    pub jobs_are : left ≡ left0 ++ jobs
    pub joins : Joins ended drained v w answers jobs

  pub joining_none : (deque : (ℕ × ℕ) × Global) (ports : List (LaneEnd W O)) (rings : List (Consumer (Ticketed W) Global AnyItems)) (v : Book (Ticketed W)) (mail : Mail W O) (left : List (Ticketed W))
      → port_links ports ≡ links_of deque rings → Joining deque ports ports rings rings v v mail mail left left
  joining_none deque ports rings v mail left links = record {
    ended = [];
    drained = [];
    answers = [];
    jobs = [];
    ports_are = sym (append-nil ports);
    rings_are = sym (append-nil rings);
    links = links;
    taken_in = refl;
    jobs_are = sym (append-nil left);
    joins = joins_none v;
  }

  links_length : (deque : (ℕ × ℕ) × Global) (ports : List (LaneEnd W O)) (rings : List (Consumer (Ticketed W) Global AnyItems)) → port_links ports ≡ links_of deque rings → length ports ≡ length rings
  links_length deque [] [] e = refl
  links_length deque [] (r ∷ rings) e = let n : zero ≡ suc (length (links_of deque rings)) = ap length e in absurd (omega (arith, n))
  links_length deque (p ∷ ports) [] e = let n : suc (length (port_links ports)) ≡ zero = ap length e in absurd (omega (arith, n))
  links_length deque (p ∷ ports) (r ∷ rings) e = ap suc (links_length deque ports rings (ap others e))
    where
      others : List Link → List Link
      others [] = []
      others (l ∷ ls) = ls

  -- No port is left: all that were there came to this.
  pub joined_all : (deque : (ℕ × ℕ) × Global) (ports0 ports : List (LaneEnd W O)) (rings0 rings : List (Consumer (Ticketed W) Global AnyItems)) (v w : Book (Ticketed W)) (mail0 mail : Mail W O) (left0 left : List (Ticketed W))
      → ports ≡ [] → Joining deque ports0 ports rings0 rings v w mail0 mail left0 left
      → (answers : List (Ticketed W)) × (jobs : List (Ticketed W)) × TakenIn request result_of mail0 answers mail × (left ≡ left0 ++ jobs) × Joins ports0 rings0 v w answers jobs
  joined_all deque ports0 ports rings0 rings v w mail0 mail left0 left e h =
      let none : rings ≡ [] = no_items rings (sym (links_length deque ports rings h.links) ∙ ap length e) in
      let ports_are : h.ended ≡ ports0 = sym (h.ports_are ∙ ap (λ l. l ++ h.ended) e) in
      let rings_are : h.drained ≡ rings0 = sym (h.rings_are ∙ ap (λ l. l ++ h.drained) none) in
      (h.answers, h.jobs, h.taken_in, h.jobs_are, subst (λ p. Joins p rings0 v w h.answers h.jobs) ports_are (subst (λ r. Joins h.ended r v w h.answers h.jobs) rings_are h.joins))

  -- there is a ring for each port
  pub rings_left : (deque : (ℕ × ℕ) × Global) (ports0 ports ports' : List (LaneEnd W O)) (rings0 rings : List (Consumer (Ticketed W) Global AnyItems)) (v w : Book (Ticketed W)) (mail0 mail : Mail W O) (left0 left : List (Ticketed W)) (p : LaneEnd W O)
      → Joining deque ports0 ports rings0 rings v w mail0 mail left0 left → ports ≡ ports' ++ p ∷ [] → length rings ≡ suc (length ports')
  rings_left deque ports0 ports ports' rings0 rings v w mail0 mail left0 left p h e =
      let n = links_length deque ports rings h.links in let m : length ports ≡ length (ports' ++ p ∷ []) = ap length e in omega (arith, n, m, length-append ports' (p ∷ []))

  -- the last of each are of one link
  pub last_link : (deque : (ℕ × ℕ) × Global) (ports ports' : List (LaneEnd W O)) (rings rings' : List (Consumer (Ticketed W) Global AnyItems)) (p : LaneEnd W O) (r : Consumer (Ticketed W) Global AnyItems)
      → port_links ports ≡ links_of deque rings → ports ≡ ports' ++ p ∷ [] → rings ≡ rings' ++ r ∷ [] → (port_links ports' ≡ links_of deque rings') × (port_link p ≡ link deque (ring_of r))
  last_link deque ports ports' rings rings' p r links e f =
      snoc_split (port_links ports') (links_of deque rings') (port_link p) (link deque (ring_of r))
      (sym (map-append (λ (q : LaneEnd W O). port_link q) ports' (p ∷ [])) ∙ ap (λ l. port_links l) (sym e) ∙ links ∙ ap (λ l. links_of deque l) f ∙ links_snoc rings' r)
    where
      links_snoc : (rs : List (Consumer (Ticketed W) Global AnyItems)) (r : Consumer (Ticketed W) Global AnyItems) → links_of deque (rs ++ r ∷ []) ≡ links_of deque rs ++ link deque (ring_of r) ∷ []
      links_snoc [] r = refl
      links_snoc (x ∷ rs) r = ap (λ l. link deque (ring_of x) ∷ l) (links_snoc rs r)

  pub is_pair : (deque deque' : (ℕ × ℕ) × Global) (p : LaneEnd W O) (sender : Producer (Ticketed W) Global AnyItems) (r : Consumer (Ticketed W) Global AnyItems) → port_link p ≡ link deque' (sender_ring sender) → port_link p ≡ link deque (ring_of r) → IsPair sender r
  is_pair deque deque' p sender r mine e = let f = (link-inj deque deque' (ring_of r) (sender_ring sender) (sym e ∙ mine)).1 in (ap (λ x. x.0) f, ap (λ x. x.1.0) f, ap (λ x. x.1.1.0) f, ap (λ x. x.1.1.1) f)

  pub joining_step : (deque : (ℕ × ℕ) × Global) (ports0 ports ports' : List (LaneEnd W O)) (rings0 rings rings' : List (Consumer (Ticketed W) Global AnyItems)) (v w w' : Book (Ticketed W)) (mail0 mail mail1 mail2 : Mail W O) (left0 left left1 : List (Ticketed W))
      (p : LaneEnd W O) (r : Consumer (Ticketed W) Global AnyItems) (sender : Producer (Ticketed W) Global AnyItems) (held : Held W O) (m : List (Ticketed W))
      → Joining deque ports0 ports rings0 rings v w mail0 mail left0 left → ports ≡ ports' ++ p ∷ [] → rings ≡ rings' ++ r ∷ []
      → w' ≡ book w.live (w.out - 1) w.put (w.taken ++ taken_at p) → sent sender ≡ sent_at p → held ≡ p.held
      → received r ++ m ≡ sent sender → TakenIn request result_of mail m mail1 → TakenIn request result_of mail1 (answers_in held) mail2 → left1 ≡ left ++ jobs_in held
      → Joining deque ports0 ports' rings0 rings' v w' mail0 mail2 left0 left1
  joining_step deque ports0 ports ports' rings0 rings rings' v w w' mail0 mail mail1 mail2 left0 left left1 p r sender held m h e f book_is sender_is held_is sent_is taken1 taken2 left_is =
      record {
        ended = p ∷ h.ended;
        drained = r ∷ h.drained;
        answers = (h.answers ++ m) ++ answers_in p.held;
        jobs = h.jobs ++ jobs_in p.held;
        ports_are = h.ports_are ∙ ap (λ l. l ++ h.ended) e ∙ append_assoc ports' (p ∷ []) h.ended;
        rings_are = h.rings_are ∙ ap (λ l. l ++ h.drained) f ∙ append_assoc rings' (r ∷ []) h.drained;
        links = (last_link deque ports ports' rings rings' p r h.links e f).0;
        taken_in = taken_append request result_of mail0 mail1 mail2 (h.answers ++ m) (answers_in p.held) (taken_append request result_of mail0 mail mail1 h.answers m h.taken_in taken1)
            (subst (λ (x : Held W O). TakenIn request result_of mail1 (answers_in x) mail2) held_is taken2);
        jobs_are = left_is ∙ ap (λ (x : Held W O). left ++ jobs_in x) held_is ∙ ap (λ l. l ++ jobs_in p.held) h.jobs_are ∙ append_assoc left0 h.jobs (jobs_in p.held);
        joins = joins_more p r h.ended h.drained v w w' h.answers h.jobs m h.joins (sent_is ∙ sender_is) book_is;
      }
