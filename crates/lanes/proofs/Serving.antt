-- A worker steals a job of one lane and runs it.
use Rattle.std.proofs.Common.{◌≡◌, ◌≢◌, ℕ, zero, suc, ◌+◌, ◌<◌, ◌≤◌, List, [], ◌∷◌, ◌++◌, length, get_or, set, sym, refl, ap, ◌∙◌, subst, append-nil, false, true≢false, arith, get_or-set_same, get_or-set_other}
use lib.ListN.{length-set}
use Rattle.std.specs.Prelude.{sum_by, map}
use mathlib.Core.Logic.{dite}
use native.Mathlib.Decide.{ℕ_discrete}
use Rattle.std.proofs.lemmas.List.Sums.{sum_by-cons, get_or-le-sum_by}
use Rattle.lanes.specs.Ends.{LaneEnd}
use Rattle.lanes.specs.Workers.{port_link, port_links}
use Rattle.box_core.specs.Answer.{Ticketed}
use Rattle.lanes.specs.declared.gate.Stepped.{Stepped}
use Rattle.lanes.specs.declared.gate.Stepped.TheVariants as stepped
use Rattle.lanes.specs.declared.port.Held.{Held}
use Rattle.lanes.specs.declared.port.Held.TheVariants as held
use Rattle.lanes.specs.Held.{held_in, answers_in, HoldsJob}
use Rattle.lanes.specs.Ports.{taken_at, sent_at, held_at, SamePort, SameBooks, Finishes}
use Rattle.lanes.specs.Steps.{Holds, Rests, HoldNothing, Unchanged, Ends, Serves, ServesOne, Steps, keeps}

pub holds_one : {W O : Type 0} (h : Held W O) → HoldsJob h → length (held_in h) ≡ 1
holds_one held.Nothing j = absurd j
holds_one (held.Job job) j = refl
holds_one (held.Done done) j = absurd j

no_answer : {W O : Type 0} (h : Held W O) → held_in h ≡ [] → answers_in h ≡ []
no_answer held.Nothing e = refl
no_answer (held.Job job) e = refl
no_answer (held.Done done) e = e

job_alone : {W O : Type 0} (h : Held W O) → HoldsJob h → answers_in h ≡ []
job_alone held.Nothing j = absurd j
job_alone (held.Job job) j = refl
job_alone (held.Done done) j = absurd j

pub same_default : {T : Type 0} (xs : List T) (i : ℕ) (d e : T) → i < length xs → get_or xs i d ≡ get_or xs i e
same_default [] i d e h = absurd (omega arith)
same_default (x ∷ xs) zero d e h = refl
same_default (x ∷ xs) (suc i) d e h = same_default xs i d e (omega arith)

module _ {W O : Type 0} where
  same_port : (p q r : LaneEnd W O) → SamePort p q → SamePort q r → SamePort p r
  same_port p q r a b = (b.0 ∙ a.0, b.1 ∙ a.1)

  ends_of : (result : Stepped) (p0 p q : LaneEnd W O) (hand : List (Ticketed W)) → Finishes p result q → HoldsJob p.held → held_at p0 ≡ [] → sent_at p ≡ sent_at p0 → hand ≡ held_at p → Ends hand p0 result q
  ends_of stepped.Answered p0 p q hand f j n s h = (f.0 ∙ (λ i. s i ++ sym h i), f.1)
  ends_of stepped.Idle p0 p q hand f j n s h = let n = holds_one p.held j in let e : length (held_in p.held) ≡ 0 = ap length f.1 in absurd (omega arith)
  ends_of stepped.Again p0 p q hand f j n s h = absurd f
  ends_of stepped.NoMemory p0 p q hand f j n s h = (f.0.1 ∙ s, f.0.2 ∙ sym h, f.2, no_answer p0.held n)
  ends_of stepped.RingFull p0 p q hand f j n s h = (f.0.1 ∙ s, f.0.2 ∙ sym h, f.1)

  steps_of : (result : Stepped) (p q : LaneEnd W O) (old new : List (LaneEnd W O)) → Finishes p result q → HoldsJob p.held → ServesOne old result new → Steps old result new
  steps_of stepped.Answered p q old new f j s = s
  steps_of stepped.Idle p q old new f j s = let n = holds_one p.held j in let e : length (held_in p.held) ≡ 0 = ap length f.1 in absurd (omega arith)
  steps_of stepped.Again p q old new f j s = absurd f
  steps_of stepped.NoMemory p q old new f j s = s
  steps_of stepped.RingFull p q old new f j s = s

  -- no port changed before the first was looked at
  pub unchanged : (ports : List (LaneEnd W O)) → Unchanged ports ports
  unchanged ports = record {
    count = refl;
    rests = λ c d h. ((refl, refl), (refl, refl, refl));
  }

  -- a port of which no book changed stands in its place again
  pub rested : (old ports : List (LaneEnd W O)) (lane : ℕ) (p q : LaneEnd W O) → Unchanged old ports → lane < length ports → p ≡ get_or ports lane p → SamePort p q → SameBooks p q → Unchanged old (set ports lane q)
  rested old ports lane p q un within is same books = record {
    count = length-set ports lane q ∙ un.count;
    rests = λ c d h. dite (ℕ_discrete c lane)
        (λ e. subst (λ i. Rests (get_or old i d) (get_or (set ports lane q) i d)) (sym e) (here d))
        (λ apart. subst (λ x. Rests (get_or old c d) x) (sym (get_or-set_other ports lane c q d apart)) (un.rests c d h));
  }
    where
      here : (d : LaneEnd W O) → Rests (get_or old lane d) (get_or (set ports lane q) lane d)
      here d =
          let n : length ports ≡ length old = un.count in
          let p0 : LaneEnd W O = get_or old lane d in
          let was : get_or ports lane d ≡ p = same_default ports lane d p within ∙ sym is in
          let before : Rests p0 p = subst (λ x. Rests p0 x) was (un.rests lane d (omega arith)) in
          let after : Rests p0 q = (same_port p0 p q before.0 same, (books.0 ∙ before.1.0, books.1 ∙ before.1.1, books.2 ∙ before.1.2)) in
          subst (λ x. Rests p0 x) (sym (get_or-set_same ports lane q d within)) after

  pub served : (old ports : List (LaneEnd W O)) (lane : ℕ) (p p1 q : LaneEnd W O) (result : Stepped) → HoldNothing old → Unchanged old ports → lane < length ports → p ≡ get_or ports lane p
      → SamePort p p1 → sent_at p1 ≡ sent_at p → HoldsJob p1.held → taken_at p1 ≡ taken_at p ++ held_at p1
      → SamePort p1 q → taken_at q ≡ taken_at p1 → Finishes p1 result q
      → Steps old result (set ports lane q)
  served old ports lane p p1 q result nothing un within is same1 sent1 job taken1 same2 taken2 fin =
      let new : List (LaneEnd W O) = set ports lane q in
      let n : length ports ≡ length old = un.count in
      steps_of result p1 q old new fin job (record {
        count = length-set ports lane q ∙ un.count;
        lane = lane;
        within = omega arith;
        serves = λ d.
            let p0 : LaneEnd W O = get_or old lane d in
            let here : get_or new lane d ≡ q = get_or-set_same ports lane q d within in
            let was : get_or ports lane d ≡ p = same_default ports lane d p within ∙ sym is in
            let rests : Rests p0 p = subst (λ x. Rests p0 x) was (un.rests lane d (omega arith)) in
            let none : held_at p0 ≡ [] = nothing lane d (omega arith) in
            let hand : held_at p0 ++ held_at p1 ≡ held_at p1 = ap (λ l. l ++ held_at p1) none in
            let whole : Serves p0 result q = record {
              same = same_port p0 p1 q (same_port p0 p p1 rests.0 same1) same2;
              new = held_at p1;
              taken = taken2 ∙ taken1 ∙ ap (λ l. l ++ held_at p1) rests.1.0;
              one = (let a = holds_one p1.held job in let b : length (held_at p0) ≡ 0 = ap length none in omega arith);
              ends = ends_of result p0 p1 q (held_at p0 ++ held_at p1) fin job none (sent1 ∙ rests.1.1) hand;
            } in
            subst (λ x. Serves p0 result x) (sym here) whole;
        rests = λ c d h apart.
            let there : get_or new c d ≡ get_or ports c d = get_or-set_other ports lane c q d apart in
            subst (λ x. Rests (get_or old c d) x) (sym there) (un.rests c d h);
        first = λ c d h apart. nothing c d h;
      })

module _ {T : Type 0} (f : T → ℕ) where
  -- two members are no more than all
  pub two_of : (xs : List T) (i c : ℕ) (d e : T) → c ≢ i → i < length xs → c < length xs → f (get_or xs i d) + f (get_or xs c e) ≤ sum_by f xs
  two_of [] i c d e ne h k = absurd (omega (arith, h))
  two_of (x ∷ xs) zero zero d e ne h k = absurd (ne refl)
  two_of (x ∷ xs) zero (suc c) d e ne h k = let b = get_or-le-sum_by f xs c e (omega (arith, k)) in omega (arith, b, sum_by-cons f x xs)
  two_of (x ∷ xs) (suc i) zero d e ne h k = let b = get_or-le-sum_by f xs i d (omega (arith, h)) in omega (arith, b, sum_by-cons f x xs)
  two_of (x ∷ xs) (suc i) (suc c) d e ne h k = let b = two_of xs i c d e (λ q. ne (ap suc q)) (omega (arith, h)) (omega (arith, k)) in omega (arith, b, sum_by-cons f x xs)

  all_zero : (xs : List T) → ((c : ℕ) (d : T) → c < length xs → f (get_or xs c d) ≡ 0) → sum_by f xs ≡ 0
  all_zero [] h = refl
  all_zero (x ∷ xs) h = let a = h 0 x (omega arith) in let b = all_zero xs (λ c d k. h (suc c) d (omega (arith, k))) in omega (arith, a, b, sum_by-cons f x xs)

  -- one member is all, where the others are nothing
  one_of : (xs : List T) (i : ℕ) (d : T) → i < length xs → ((c : ℕ) (d : T) → c < length xs → c ≢ i → f (get_or xs c d) ≡ 0) → sum_by f xs ≡ f (get_or xs i d)
  one_of [] i d h others = absurd (omega (arith, h))
  one_of (x ∷ xs) zero d h others = let b = all_zero xs (λ c e k. others (suc c) e (omega (arith, k)) (λ q. omega (arith, q))) in omega (arith, b, sum_by-cons f x xs)
  one_of (x ∷ xs) (suc i) d h others =
      let a = others 0 x (omega arith) (λ q. omega (arith, q)) in
      let b = one_of xs i d (omega (arith, h)) (λ c e k ne. others (suc c) e (omega (arith, k)) (λ q. ne (omega (arith, q)))) in omega (arith, a, b, sum_by-cons f x xs)

  -- the same sum of members that weigh the same
  same_sum : (xs ys : List T) → length ys ≡ length xs → ((c : ℕ) (d : T) → c < length xs → f (get_or ys c d) ≡ f (get_or xs c d)) → sum_by f ys ≡ sum_by f xs
  same_sum [] [] n h = refl
  same_sum [] (y ∷ ys) n h = absurd (omega (arith, n))
  same_sum (x ∷ xs) [] n h = absurd (omega (arith, n))
  same_sum (x ∷ xs) (y ∷ ys) n h = let a = h 0 x (omega arith) in let b = same_sum xs ys (omega (arith, n)) (λ c d k. h (suc c) d (omega (arith, k))) in omega (arith, a, b, sum_by-cons f x xs, sum_by-cons f y ys)

pub same_map : {T U : Type 0} (f : T → U) (xs ys : List T) → length ys ≡ length xs → ((c : ℕ) (d : T) → c < length xs → f (get_or ys c d) ≡ f (get_or xs c d)) → map f ys ≡ map f xs
same_map f [] [] n h = refl
same_map f [] (y ∷ ys) n h = absurd (omega (arith, n))
same_map f (x ∷ xs) [] n h = absurd (omega (arith, n))
same_map f (x ∷ xs) (y ∷ ys) n h = let a = h 0 x (omega arith) in let b = same_map f xs ys (omega (arith, n)) (λ c d k. h (suc c) d (omega (arith, k))) in λ i. a i ∷ b i

pub nothing_is : {T : Type 0} (xs : List T) → length xs ≡ 0 → xs ≡ []
nothing_is [] e = refl
nothing_is (x ∷ xs) e = absurd (omega (arith, e))

most_held : {W O : Type 0} (h : Held W O) → length (held_in h) ≤ 1
most_held held.Nothing = omega arith
most_held (held.Job job) = omega arith
most_held (held.Done done) = omega arith

module _ {W O : Type 0} where
  held_ends : (result : Stepped) (p q : LaneEnd W O) → Finishes p result q → length (held_at p) ≡ 1 → Ends (held_at p ++ []) p result q
  held_ends stepped.Answered p q f one = (f.0 ∙ ap (λ l. sent_at p ++ l) (sym (append-nil (held_at p))), f.1)
  held_ends stepped.Idle p q f one = let e : length (held_at p) ≡ 0 = ap length f.1 in absurd (omega (arith, e, one))
  held_ends stepped.Again p q f one = absurd f
  held_ends stepped.NoMemory p q f one = (f.0.1, f.0.2 ∙ sym (append-nil (held_at p)), f.2, job_alone p.held f.1)
  held_ends stepped.RingFull p q f one = (f.0.1, f.0.2 ∙ sym (append-nil (held_at p)), f.1)

  held_steps : (result : Stepped) (p q : LaneEnd W O) (old new : List (LaneEnd W O)) → Finishes p result q → length (held_at p) ≡ 1 → ServesOne old result new → Steps old result new
  held_steps stepped.Answered p q old new f one s = s
  held_steps stepped.Idle p q old new f one s = let e : length (held_at p) ≡ 0 = ap length f.1 in absurd (omega (arith, e, one))
  held_steps stepped.Again p q old new f one s = absurd f
  held_steps stepped.NoMemory p q old new f one s = s
  held_steps stepped.RingFull p q old new f one s = s

  -- what is held is tried again, and is the whole step
  pub served_held : (ports : List (LaneEnd W O)) (lane : ℕ) (p q : LaneEnd W O) (result : Stepped) → lane < length ports → p ≡ get_or ports lane p → Holds ports lane → sum_by (λ p. length (held_at p)) ports ≤ 1
      → SamePort p q → taken_at q ≡ taken_at p → Finishes p result q → Steps ports result (set ports lane q)
  served_held ports lane p q result within is holds most same taken fin =
      let one : length (held_at p) ≡ 1 = ap (λ (x : LaneEnd W O). length (held_at x)) is ∙ holds p in
      held_steps result p q ports (set ports lane q) fin one (record {
        count = length-set ports lane q;
        lane = lane;
        within = within;
        serves = λ d.
            let here : get_or (set ports lane q) lane d ≡ q = get_or-set_same ports lane q d within in
            let was : get_or ports lane d ≡ p = same_default ports lane d p within ∙ sym is in
            let whole : Serves p result q = record {
              same = same;
              new = [];
              taken = taken ∙ sym (append-nil (taken_at p));
              one = omega (arith, one);
              ends = held_ends result p q fin one;
            } in
            subst (λ x. Serves (get_or ports lane d) result x) (sym here) (subst (λ x. Serves x result q) (sym was) whole);
        rests = λ c d h apart.
            let there : get_or (set ports lane q) c d ≡ get_or ports c d = get_or-set_other ports lane c q d apart in
            subst (λ x. Rests (get_or ports c d) x) (sym there) (still (get_or ports c d));
        first = λ c d h apart. nothing_is (held_at (get_or ports c d))
            (let b = two_of (λ (x : LaneEnd W O). length (held_at x)) ports lane c d d apart within h in let o = holds d in omega (arith, b, o, most));
      })
    where
      still : (x : LaneEnd W O) → Rests x x
      still x = ((refl, refl), (refl, refl, refl))

  link_same : (p q : LaneEnd W O) → SamePort p q → port_link q ≡ port_link p
  link_same p q s = s.0

  serves_links : (old new : List (LaneEnd W O)) (result : Stepped) → ServesOne old result new → port_links new ≡ port_links old
  serves_links old new result s = same_map (λ (p : LaneEnd W O). port_link p) old new s.count (λ c d h. dite (ℕ_discrete c s.lane)
      (λ (e : c ≡ s.lane). subst (λ k. port_link (get_or new k d) ≡ port_link (get_or old k d)) (sym e) (link_same (get_or old s.lane d) (get_or new s.lane d) (s.serves d).same))
      (λ ne. link_same (get_or old c d) (get_or new c d) (s.rests c d h ne).0))

  unchanged_links : (old new : List (LaneEnd W O)) → Unchanged old new → port_links new ≡ port_links old
  unchanged_links old new u = same_map (λ (p : LaneEnd W O). port_link p) old new u.count (λ c d h. link_same (get_or old c d) (get_or new c d) (u.rests c d h).0)

  -- a step leaves the end the same
  pub steps_links : (result : Stepped) (old new : List (LaneEnd W O)) → Steps old result new → port_links new ≡ port_links old
  steps_links stepped.Answered old new s = serves_links old new stepped.Answered s
  steps_links stepped.Idle old new s = unchanged_links old new s.1
  steps_links stepped.Again old new s = unchanged_links old new s.1
  steps_links stepped.NoMemory old new s = serves_links old new stepped.NoMemory s
  steps_links stepped.RingFull old new s = serves_links old new stepped.RingFull s

  -- what is held for the lane that was served is all that is held
  served_all : (old new : List (LaneEnd W O)) (result : Stepped) (d : LaneEnd W O) (s : ServesOne old result new) → sum_by (λ p. length (held_at p)) new ≡ length (held_at (get_or new s.lane d))
  served_all old new result d s =
      one_of (λ (p : LaneEnd W O). length (held_at p)) new s.lane d (let w = s.within in let n = s.count in omega (arith, w, n))
      (λ c e h ne. let k : c < length old = (let n = s.count in omega (arith, n, h)) in
      ap length ((s.rests c e k ne).1.2 ∙ s.first c e k ne))

  serves_one : (old new : List (LaneEnd W O)) (result : Stepped) → ServesOne old result new → sum_by (λ p. length (held_at p)) new ≤ 1
  serves_one [] new result s = let w = s.within in absurd (omega (arith, w))
  serves_one (x ∷ xs) new result s =
      let all = served_all (x ∷ xs) new result x s in let most = most_held (get_or new s.lane x).held in omega (arith, all, most)

  unchanged_one : (old new : List (LaneEnd W O)) → Unchanged old new → sum_by (λ p. length (held_at p)) old ≤ 1 → sum_by (λ p. length (held_at p)) new ≤ 1
  unchanged_one old new u most = let e = same_sum (λ (p : LaneEnd W O). length (held_at p)) old new u.count (λ c d h. ap length (u.rests c d h).1.2) in omega (arith, e, most)

  unchanged_free : (old new : List (LaneEnd W O)) → HoldNothing old → Unchanged old new → sum_by (λ p. length (held_at p)) new ≡ 0
  unchanged_free old new nothing u =
      all_zero (λ (p : LaneEnd W O). length (held_at p)) new (λ c d h. let k : c < length old = (let n = u.count in omega (arith, n, h)) in ap length ((u.rests c d k).1.2 ∙ nothing c d k))

  -- and leaves it holding at most one
  pub steps_one : (result : Stepped) (old new : List (LaneEnd W O)) → Steps old result new → sum_by (λ p. length (held_at p)) old ≤ 1 → sum_by (λ p. length (held_at p)) new ≤ 1
  steps_one stepped.Answered old new s most = serves_one old new stepped.Answered s
  steps_one stepped.Idle old new s most = unchanged_one old new s.1 most
  steps_one stepped.Again old new s most = unchanged_one old new s.1 most
  steps_one stepped.NoMemory old new s most = serves_one old new stepped.NoMemory s
  steps_one stepped.RingFull old new s most = serves_one old new stepped.RingFull s

  -- where it leaves nothing held, all hold nothing
  pub steps_free : (result : Stepped) (old new : List (LaneEnd W O)) → Steps old result new → keeps result ≡ false → sum_by (λ p. length (held_at p)) new ≡ 0
  steps_free stepped.Answered [] new s frees = let w = s.within in absurd (omega (arith, w))
  steps_free stepped.Answered (x ∷ xs) new s frees =
      let all = served_all (x ∷ xs) new stepped.Answered x s in let none = ap length (s.serves x).ends.1 in omega (arith, all, none)
  steps_free stepped.Idle old new s frees = unchanged_free old new s.0 s.1
  steps_free stepped.Again old new s frees = unchanged_free old new s.0 s.1
  steps_free stepped.NoMemory old new s frees = absurd (true≢false frees)
  steps_free stepped.RingFull old new s frees = absurd (true≢false frees)

  pub steps_length : (result : Stepped) (old new : List (LaneEnd W O)) → Steps old result new → length new ≡ length old
  steps_length stepped.Answered old new s = s.count
  steps_length stepped.Idle old new s = s.1.count
  steps_length stepped.Again old new s = s.1.count
  steps_length stepped.NoMemory old new s = s.count
  steps_length stepped.RingFull old new s = s.count

  -- one lane more for which nothing is held
  pub none_held : (ports : List (LaneEnd W O)) (lane : ℕ) (p : LaneEnd W O) → ((k : ℕ) (d : LaneEnd W O) → k < lane → held_at (get_or ports k d) ≡ []) → lane < length ports → p ≡ get_or ports lane p → p.held ≡ held.Nothing
      → (k : ℕ) (d : LaneEnd W O) → k < lane + 1 → held_at (get_or ports k d) ≡ []
  none_held ports lane p before inside is nothing k d below = dite (ℕ_discrete k lane)
      (λ (e : k ≡ lane). ap (λ j. held_at (get_or ports j d)) e ∙ ap (λ (x : LaneEnd W O). held_at x) (same_default ports lane d p inside ∙ sym is) ∙ ap (λ h. held_in h) nothing)
      (λ ne. before k d (omega (arith, below, ne)))
