-- What a line makes of what stands between the lines.
use Rattle.std.proofs.Common.{◌≡◌, ◌<◌, ℕ, zero, suc, Bool, true, false, List, [], ◌∷◌, ◌++◌, Option, Some, None, length, take, slice_get, slice_set, if◌then◌else◌, ◌||◌, refl, sym, ap, ◌∙◌, arith, append_assoc, subst}
use Rattle.std.specs.Prelude.{bytes_eq, nat_le}
use Rattle.std.proofs.lemmas.Bool.Decides.{nat_tests}
use Rattle.std.proofs.lemmas.List.{take_all, length-take}
use Rattle.desk_requests.specs.Line.{Line}
use Rattle.desk_serving.specs.Owed.{Lane, Queue, due, due_to, due_to_name, unhanded, AreBehind, AreHanded, AreBooked, Stands}
use Rattle.desk_requests.specs.State.{AreDistinct, with_lane, with_one, callers, names_with_lanes, in_force, is_closed, requests}
use Rattle.desk_wire.specs.Reading.{Reading}
use Rattle.desk_wire.specs.Reports.{Report}
use Rattle.desk_serving.specs.Script.{of_client}
use Rattle.desk_requests.specs.Due.{answer, answers}
use Rattle.feel_value.specs.Distinct.{is_among}
use Rattle.desk_serving.proofs.Owing.{of_client-append, due-whole, stripped, length-unhanded}
use Rattle.desk_requests.proofs.Names.{same_name, name_itself, or_true, not_among_at}
use Rattle.desk_requests.proofs.Callers.{stranger, with_lane-take, distinct-push, IsStranger}

-- ## The lanes' books

pub booked_same : (names : List (List ℕ)) (lanes new : List Queue) (earlier later : List (Reading Line)) → unhanded new ≡ unhanded lanes → AreBooked names (unhanded lanes) earlier
    → ((m : List ℕ) → is_among names m ≡ true → (requests m later ≡ requests m earlier) × (is_closed m later ≡ is_closed m earlier)) → AreBooked names (unhanded new) later
booked_same [] [] [] earlier later e b h = tt
booked_same [] [] (x ∷ new) earlier later e b h = cc
booked_same [] (l ∷ lanes) [] earlier later e b h = cc
booked_same [] (l ∷ lanes) (x ∷ new) earlier later e b h =
    let rest : unhanded new ≡ unhanded lanes = cc in
    let first : stripped x ≡ stripped l = cc in
    let put : x.put ≡ l.put = ap (λ (y : Lane). y.put) first in let closed : x.closed ≡ l.closed = ap (λ (y : Lane). y.closed) first in
    (put ∙ b.0, closed ∙ b.1, booked_same [] lanes new earlier later rest b.2 h)
booked_same (n ∷ names) [] new earlier later e b h = absurd b
booked_same (n ∷ names) (l ∷ lanes) [] earlier later e b h = cc
booked_same (n ∷ names) (l ∷ lanes) (x ∷ new) earlier later e b h =
    let rest : unhanded new ≡ unhanded lanes = cc in
    let first : stripped x ≡ stripped l = cc in
    let put : x.put ≡ l.put = ap (λ (y : Lane). y.put) first in let closed : x.closed ≡ l.closed = ap (λ (y : Lane). y.closed) first in
    let mine = h n (rw (name_itself n) refl) in
    (put ∙ (b.0 ∙ sym mine.0), closed ∙ (b.1 ∙ sym mine.1), booked_same names lanes new earlier later rest b.2 (λ m among. h m (rw among (or_true (bytes_eq m n)))))

pub booked_at : (names : List (List ℕ)) (lanes : List Queue) (earlier : List (Reading Line)) (c : ℕ) (n : List ℕ) (lane : Queue) → AreBooked names (unhanded lanes) earlier
    → slice_get names c ≡ Some n → slice_get lanes c ≡ Some lane → (lane.put ≡ requests n earlier) × (lane.closed ≡ is_closed n earlier)
booked_at [] lanes earlier c n lane b at la = cc
booked_at (m ∷ names) [] earlier c n lane b at la = absurd b
booked_at (m ∷ names) (l ∷ lanes) earlier zero n lane b at la =
    let is : m ≡ n = cc in let same : l ≡ lane = cc in
    subst (λ y. (y.put ≡ requests n earlier) × (y.closed ≡ is_closed n earlier)) same (subst (λ k. (l.put ≡ requests k earlier) × (l.closed ≡ is_closed k earlier)) is (b.0, b.1))
booked_at (m ∷ names) (l ∷ lanes) earlier (suc c) n lane b at la = booked_at names lanes earlier c n lane b.2 at la

-- one more name has a lane
pub booked-name : (names : List (List ℕ)) (lanes : List Queue) (earlier : List (Reading Line)) (n : List ℕ) → AreBooked names (unhanded lanes) earlier → length names < length lanes → IsStranger n earlier
    → AreBooked (names ++ n ∷ []) (unhanded lanes) earlier
booked-name [] [] earlier n b lt s = absurd (omega (arith, lt))
booked-name [] (l ∷ lanes) earlier n b lt s = (b.0 ∙ sym s.0, b.1 ∙ sym s.1, b.2)
booked-name (m ∷ names) [] earlier n b lt s = absurd b
booked-name (m ∷ names) (l ∷ lanes) earlier n b lt s = (b.0, b.1, booked-name names lanes earlier n b.2 (omega (arith, lt)) s)

-- one lane changed so that it is booked by more lines, and no other name has more by these
pub booked-set : (names : List (List ℕ)) (lanes new : List Queue) (earlier later : List (Reading Line)) (c : ℕ) (n : List ℕ) (lane : Queue) → AreDistinct names → AreBooked names (unhanded lanes) earlier
    → slice_get names c ≡ Some n → unhanded new ≡ unhanded (slice_set lanes c lane)
    → lane.put ≡ requests n later → lane.closed ≡ is_closed n later
    → ((m : List ℕ) → bytes_eq n m ≡ false → (requests m later ≡ requests m earlier) × (is_closed m later ≡ is_closed m earlier)) → AreBooked names (unhanded new) later
booked-set [] lanes new earlier later c n lane dis b at e put closed others = cc
booked-set (k ∷ names) [] new earlier later c n lane dis b at e put closed others = absurd b
booked-set (k ∷ names) (l ∷ lanes) [] earlier later zero n lane dis b at e put closed others = cc
booked-set (k ∷ names) (l ∷ lanes) [] earlier later (suc c) n lane dis b at e put closed others = cc
booked-set (k ∷ names) (l ∷ lanes) (x ∷ new) earlier later zero n lane dis b at e put closed others =
    let rest : unhanded new ≡ unhanded lanes = cc in
    let first : stripped x ≡ stripped lane = cc in
    let is : n ≡ k = cc in (
      ap (λ (y : Lane). y.put) first ∙ put ∙ ap (λ m. requests m later) is,
      ap (λ (y : Lane). y.closed) first ∙ closed ∙ ap (λ m. is_closed m later) is,
      booked_same names lanes new earlier later rest b.2 (λ m among. others m (apart m (bytes_eq n m) refl among is)),
    )
  where
    apart : (m : List ℕ) (t : Bool) → bytes_eq n m ≡ t → is_among names m ≡ true → n ≡ k → bytes_eq n m ≡ false
    apart m true s among is =
        let same : m ≡ k = sym (same_name n m s) ∙ is in
        let there : is_among names k ≡ true = subst (λ j. is_among names j ≡ true) same among in
        let wrong : true ≡ false = sym there ∙ dis.0 in cc
    apart m false s among is = s
booked-set (k ∷ names) (l ∷ lanes) (x ∷ new) earlier later (suc c) n lane dis b at e put closed others =
    let rest : unhanded new ≡ unhanded (slice_set lanes c lane) = cc in
    let first : stripped x ≡ stripped l = cc in
    let far : bytes_eq n k ≡ false = not_among_at k n names c dis.0 at in
    let other = others k far in (
      ap (λ (y : Lane). y.put) first ∙ (b.0 ∙ sym other.0),
      ap (λ (y : Lane). y.closed) first ∙ (b.1 ∙ sym other.1),
      booked-set names lanes new earlier later c n lane dis.1 b.2 at rest put closed others,
    )

-- a name is owed nothing where it has made no request
pub due_to_quiet : (m : List ℕ) (names : List (List ℕ)) (lanes : List Queue) (earlier : List (Reading Line)) → AreBehind lanes → AreBooked names (unhanded lanes) earlier → requests m earlier ≡ []
    → due_to_name m names lanes ≡ []
due_to_quiet m [] lanes earlier f b q = refl
due_to_quiet m (n ∷ names) [] earlier f b q = refl
due_to_quiet m (n ∷ names) (l ∷ lanes) earlier f b q = at (bytes_eq n m) refl (due_to_quiet m names lanes earlier f.1 b.2 q)
  where
    at : (t : Bool) → bytes_eq n m ≡ t → due_to_name m names lanes ≡ [] → (if t then due n l else due_to_name m names lanes) ≡ []
    at true e rest = due-whole n l (f.0 (b.0 ∙ subst (λ k. requests k earlier ≡ []) (sym (same_name n m e)) q))
    at false e rest = rest

either_way : (b : Bool) (es : List Report) → (if b then es else es) ≡ es
either_way true es = refl
either_way false es = refl

due_to_more : (m n : List ℕ) (names : List (List ℕ)) (lanes : List Queue) (earlier : List (Reading Line)) → AreBehind lanes → AreBooked names (unhanded lanes) earlier
    → due_to_name m (names ++ n ∷ []) lanes ≡ due_to_name m names lanes
due_to_more m n [] [] earlier f b = refl
due_to_more m n [] (l ∷ lanes) earlier f b = rw (due-whole n l (f.0 b.0)) (either_way (bytes_eq n m) [])
due_to_more m n (k ∷ names) [] earlier f b = refl
due_to_more m n (k ∷ names) (l ∷ lanes) earlier f b = ap (λ (t : List Report). if bytes_eq k m then due k l else t) (due_to_more m n names lanes earlier f.1 b.2)

-- ## What stands between the lines

-- some of what was owed is handed out
pub stands_handed : (named earlier : List (Reading Line)) (names : List (List ℕ)) (model : Option (List ℕ)) (lanes new : List Queue) (said more : List Report)
    → Stands named earlier names model lanes said → AreHanded names lanes new more → Stands named earlier names model new (said ++ more)
stands_handed named earlier names model lanes new said more s h =
    let len : length new ≡ length lanes = length-unhanded new lanes h.lanes in
    record {
      names = s.names ∙ ap (λ k. names_with_lanes k named) (sym len);
      distinct = s.distinct;
      model = s.model;
      booked = booked_same names lanes new earlier earlier h.lanes s.booked (λ m among. (refl, refl));
      owed = λ who. ap (λ t. t ++ due_to who names new) (of_client-append who said more) ∙ append_assoc (of_client who said) (of_client who more) (due_to who names new)
          ∙ ap (λ t. of_client who said ++ t) (h.owed who) ∙ s.owed who ∙ ap (λ k. of_client who (answers k earlier)) (sym len);
    }

-- The line was answered: what is owed and said is what is due.
pub stands_answered : (reading : Reading Line) (earlier : List (Reading Line)) (names : List (List ℕ)) (model model' : Option (List ℕ)) (lanes new : List Queue) (said more : List Report) (e : Report)
    → Stands (reading ∷ earlier) earlier names model lanes said → answer (length lanes) earlier reading ≡ e ∷ []
    → ((who : Option (List ℕ)) → of_client who more ++ due_to who names new ≡ due_to who names lanes ++ of_client who (e ∷ []))
    → length new ≡ length lanes → model' ≡ in_force (reading ∷ earlier) → AreBooked names (unhanded new) (reading ∷ earlier)
    → Stands (reading ∷ earlier) (reading ∷ earlier) names model' new (said ++ more)
stands_answered reading earlier names model model' lanes new said more e s is owed len force booked = record {
  names = s.names ∙ ap (λ k. names_with_lanes k (reading ∷ earlier)) (sym len);
  distinct = s.distinct;
  model = force;
  booked = booked;
  owed = λ who. ap (λ t. t ++ due_to who names new) (of_client-append who said more) ∙ append_assoc (of_client who said) (of_client who more) (due_to who names new)
      ∙ ap (λ t. of_client who said ++ t) (owed who) ∙ sym (append_assoc (of_client who said) (due_to who names lanes) (of_client who (e ∷ [])))
      ∙ ap (λ t. t ++ of_client who (e ∷ [])) (s.owed who)
      ∙ ap (λ t. of_client who (answers (length lanes) earlier) ++ of_client who t) (sym is)
      ∙ sym (of_client-append who (answers (length lanes) earlier) (answer (length lanes) earlier reading))
      ∙ ap (λ k. of_client who (answers k (reading ∷ earlier))) (sym len);
}

-- The line's name got a lane, if there was one.
named_at : (n : List ℕ) (reading : Reading Line) (earlier : List (Reading Line)) (names : List (List ℕ)) (model : Option (List ℕ)) (lanes : List Queue) (said : List Report) (b c : Bool)
    → AreBehind lanes → Stands earlier earlier names model lanes said → is_among names n ≡ b → nat_le (length lanes) (length names) ≡ c
    → with_lane (length lanes) n names ≡ names_with_lanes (length lanes) (reading ∷ earlier)
    → Stands (reading ∷ earlier) earlier (if b || c then names else names ++ n ∷ []) model lanes said
named_at n reading earlier names model lanes said true c f s eb ec same =
    let now : with_lane (length lanes) n names ≡ names = rw eb refl in
    record { names = sym now ∙ same; distinct = s.distinct; model = s.model; booked = s.booked; owed = s.owed }
named_at n reading earlier names model lanes said false true f s eb ec same =
    let now : with_lane (length lanes) n names ≡ names = rw (eb, ec) refl in
    record { names = sym now ∙ same; distinct = s.distinct; model = s.model; booked = s.booked; owed = s.owed }
named_at n reading earlier names model lanes said false false f s eb ec same =
    let now : with_lane (length lanes) n names ≡ names ++ n ∷ [] = rw (eb, ec) refl in
    let room : length names < length lanes = grind (arith, nat_tests) in
    let size : length names ≡ length (take (length lanes) (callers earlier)) = ap length s.names in
    let all : take (length lanes) (callers earlier) ≡ callers earlier = take_all (length lanes) (callers earlier) (omega (arith, length-take (length lanes) (callers earlier))) in
    let new : is_among (callers earlier) n ≡ false = ap (λ ns. is_among ns n) (sym all ∙ sym s.names) ∙ eb in
    record {
      names = sym now ∙ same;
      distinct = distinct-push names n s.distinct eb;
      model = s.model;
      booked = booked-name names lanes earlier n s.booked (omega (arith, room)) (stranger n earlier new);
      owed = elim [ None ↦ s.owed None | Some m ↦ ap (λ (t : List Report). of_client (Some m) said ++ t) (due_to_more m n names lanes earlier f s.booked) ∙ s.owed (Some m) ];
    }

pub stands_named : (n : List ℕ) (reading : Reading Line) (earlier : List (Reading Line)) (names names' : List (List ℕ)) (model : Option (List ℕ)) (lanes : List Queue) (said : List Report)
    → AreBehind lanes → Stands earlier earlier names model lanes said → callers (reading ∷ earlier) ≡ with_one n (callers earlier) → names' ≡ with_lane (length lanes) n names
    → Stands (reading ∷ earlier) earlier names' model lanes said
stands_named n reading earlier names names' model lanes said f s cs is =
    let same : with_lane (length lanes) n names ≡ names_with_lanes (length lanes) (reading ∷ earlier) =
    ap (with_lane (length lanes) n) s.names ∙ (with_lane-take (length lanes) n (callers earlier) ∙ ap (take (length lanes)) (sym cs)) in
    subst (λ ms. Stands (reading ∷ earlier) earlier ms model lanes said) (sym is)
    (named_at n reading earlier names model lanes said (is_among names n) (nat_le (length lanes) (length names)) f s refl refl same)
