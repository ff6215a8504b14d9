-- What one lane comes to, once all its ends are in one thread.
use Rattle.std.proofs.Common.{◌≡◌, ℕ, ◌+◌, ◌≤◌, All, List, [], ◌++◌, length, Some, ap, sym, ◌∙◌, subst, append_assoc, arith}
use Rattle.std.specs.Prelude.{IsPermutation, Contains}
use Rattle.std.proofs.lemmas.List.Sorted.{IsPermutation-trans, IsPermutation-sym, IsPermutation-append_left, IsPermutation-append_right, IsPermutation-append_comm, length_permutation}
use lib.ListN.{length-append}
use Rattle.std.specs.declared.alloc.Global.{Global}
use Rattle.rtrb.specs.declared.consumer.Consumer.{Consumer}
use Rattle.rtrb.specs.declared.AnyItems.{AnyItems}
use Rattle.box_core.specs.Answer.{Ticketed}
use Rattle.box_core.specs.Mail.{Mail, open_in}
use Rattle.lanes.specs.Books.{ticket_of, AreApart}
use Rattle.lanes.specs.Ends.{LaneEnd}
use Rattle.lanes.specs.declared.book.Book.{Book}
use Rattle.lanes.specs.Joined.{received_of, Joins}
use Rattle.lanes.specs.Settling.{taken_by, sent_by, answers_by, jobs_by}
use Rattle.lanes.specs.Polls.{TakenIn}
use Rattle.lanes.specs.Settling.{AllKept}
use Rattle.lanes.proofs.Accounting.{Fits, Credits}
use Rattle.lanes.proofs.Joining.{taken_parts}
use Rattle.lanes.proofs.Once.{once_each}
use Rattle.lanes.proofs.Settlement.{kept_all, all_are_open, open_is_left}

module _ {W R O : Type 0} (request : W → R) (result_of : R → O) where
  -- there is room for what waits
  pub room_left : (put : List (Ticketed W)) (mail : Mail W O) (ports : List (LaneEnd W O)) (rings : List (Consumer (Ticketed W) Global AnyItems)) (v w : Book (Ticketed W)) (answers jobs left0 left1 : List (Ticketed W)) (capacity : ℕ)
      → Fits request result_of put mail → Credits request result_of put mail (received_of rings) → v.put ≡ put → v.taken ≡ [] → Joins ports rings v w answers jobs
      → left0 ≡ [] → left1 ≡ left0 ++ jobs → length mail.outstanding ≤ capacity → length left1 + length w.put ≤ capacity + length w.taken
  room_left put mail ports rings v w answers jobs left0 left1 capacity f c put_is fresh h empty left_is room =
      let left_length : length left1 ≡ length jobs = ap length (left_is ∙ ap (λ l. l ++ jobs) empty) in
      let put_length : length w.put ≡ length put = ap length (ap (λ (b : Book (Ticketed W)). b.put) h.view ∙ put_is) in
      let taken_length : length w.taken ≡ length h.joined = ap length (ap (λ (b : Book (Ticketed W)). b.taken) h.view ∙ ap (λ l. l ++ h.joined) fresh) in
      let moved = length_permutation h.joined (taken_by ports) h.moved in
      let arrived = length_permutation (received_of rings ++ answers) (sent_by ports ++ answers_by ports) h.arrived in
      let held = length_permutation jobs (jobs_by ports) h.held in
      let parts = length_permutation (taken_by ports) (sent_by ports ++ (answers_by ports ++ jobs_by ports)) (taken_parts ports) in
      let n = f.count in let few = c.few in
      omega (
        arith,
        left_length,
        put_length,
        taken_length,
        moved,
        arrived,
        held,
        parts,
        n,
        few,
        room,
        length-append (received_of rings) answers,
        length-append (sent_by ports) (answers_by ports),
        length-append (sent_by ports) (answers_by ports ++ jobs_by ports),
        length-append (answers_by ports) (jobs_by ports),
      )

  pub record Lane (put : List (Ticketed W)) (mail mail' : Mail W O) (came : List (Ticketed W)) (ports : List (LaneEnd W O)) (answers waiting left : List (Ticketed W)) : Type 0 where
    pub carried : IsPermutation put (waiting ++ taken_by ports)
    pub apart : AreApart ticket_of (waiting ++ taken_by ports)
    pub kept : AllKept request result_of mail answers mail'
    pub fits : Fits request result_of put mail'
    pub left_is : IsPermutation left (jobs_by ports ++ waiting)
    pub once : IsPermutation put ((came ++ answers) ++ left)
    pub unanswered : All (λ job. open_in mail' job.ticket ≡ Some job.work) left
    pub all_left : (ticket : ℕ) (work : W) → open_in mail' ticket ≡ Some work → Contains left (record { ticket = ticket; work = work })

  pub lane : (put : List (Ticketed W)) (mail mail' : Mail W O) (ports : List (LaneEnd W O)) (rings : List (Consumer (Ticketed W) Global AnyItems)) (v w : Book (Ticketed W)) (answers jobs left0 left1 left2 waiting : List (Ticketed W))
      → Fits request result_of put mail → Credits request result_of put mail (received_of rings) → v.put ≡ put → v.taken ≡ [] → Joins ports rings v w answers jobs → TakenIn request result_of mail answers mail'
      → left0 ≡ [] → left1 ≡ left0 ++ jobs → left2 ≡ left1 ++ waiting → IsPermutation w.put (w.taken ++ waiting)
      → Lane put mail mail' (received_of rings) ports answers waiting left2
  lane put mail mail' ports rings v w answers jobs left0 left1 left2 waiting f c put_is fresh h taken empty left1_is left2_is rest =
      let came : List (Ticketed W) = received_of rings in
      let P : w.put ≡ put = ap (λ (b : Book (Ticketed W)). b.put) h.view ∙ put_is in
      let T : w.taken ≡ h.joined = ap (λ (b : Book (Ticketed W)). b.taken) h.view ∙ ap (λ l. l ++ h.joined) fresh in
      let left_is : left2 ≡ jobs ++ waiting = left2_is ∙ ap (λ l. l ++ waiting) (left1_is ∙ ap (λ l. l ++ jobs) empty) in
      let whole : IsPermutation put (h.joined ++ waiting) = subst (λ l. IsPermutation put (l ++ waiting)) T (subst (λ l. IsPermutation l (w.taken ++ waiting)) P rest) in
      let all : IsPermutation put (taken_by ports ++ waiting) = IsPermutation-trans put (h.joined ++ waiting) (taken_by ports ++ waiting) whole (IsPermutation-append_left waiting h.joined (taken_by ports) h.moved) in
      let S : List (Ticketed W) = sent_by ports in let A : List (Ticketed W) = answers_by ports in let J : List (Ticketed W) = jobs_by ports in
      let split : IsPermutation put ((S ++ (A ++ J)) ++ waiting) = IsPermutation-trans put (taken_by ports ++ waiting) ((S ++ (A ++ J)) ++ waiting) all (IsPermutation-append_left waiting (taken_by ports) (S ++ (A ++ J)) (taken_parts ports)) in
      let split' : IsPermutation put ((S ++ A) ++ (J ++ waiting)) = regroup S A J waiting put split in
      let one : IsPermutation ((S ++ A) ++ (J ++ waiting)) ((came ++ answers) ++ (J ++ waiting)) = IsPermutation-append_left (J ++ waiting) (S ++ A) (came ++ answers) (IsPermutation-sym (came ++ answers) (S ++ A) h.arrived) in
      let two : IsPermutation ((came ++ answers) ++ (J ++ waiting)) ((came ++ answers) ++ (jobs ++ waiting)) = IsPermutation-append_right (came ++ answers) (J ++ waiting) (jobs ++ waiting) (IsPermutation-append_left waiting J jobs (IsPermutation-sym jobs J h.held)) in
      let once0 : IsPermutation put ((came ++ answers) ++ (jobs ++ waiting)) = IsPermutation-trans put ((S ++ A) ++ (J ++ waiting)) ((came ++ answers) ++ (jobs ++ waiting)) split' (IsPermutation-trans ((S ++ A) ++ (J ++ waiting)) ((came ++ answers) ++ (J ++ waiting)) ((came ++ answers) ++ (jobs ++ waiting)) one two) in
      let once : IsPermutation put ((came ++ answers) ++ left2) = subst (λ l. IsPermutation put ((came ++ answers) ++ l)) (sym left_is) once0 in
      let ends = kept_all request result_of put mail mail' came answers left2 f c (subst (λ l. IsPermutation put l) (append_assoc came answers left2) once) taken in
      let swapped : IsPermutation put ((answers ++ came) ++ left2) = IsPermutation-trans put ((came ++ answers) ++ left2) ((answers ++ came) ++ left2) once (IsPermutation-append_left left2 (came ++ answers) (answers ++ came) (IsPermutation-append_comm came answers)) in
      let carried : IsPermutation put (waiting ++ taken_by ports) = IsPermutation-trans put (taken_by ports ++ waiting) (waiting ++ taken_by ports) all (IsPermutation-append_comm (taken_by ports) waiting) in
      record {
        carried = carried;
        apart = once_each ticket_of put (waiting ++ taken_by ports) f.numbered carried;
        kept = ends.kept;
        fits = ends.fits;
        left_is = subst (λ l. IsPermutation l (J ++ waiting)) (sym left_is) (IsPermutation-append_left waiting jobs J h.held);
        once = once;
        unanswered = all_are_open request result_of put mail' (answers ++ came) left2 ends.fits ends.credits swapped;
        all_left = open_is_left request result_of put mail' (answers ++ came) left2 ends.fits ends.credits swapped;
      }
    where
      regroup : (S A J rest put : List (Ticketed W)) → IsPermutation put ((S ++ (A ++ J)) ++ rest) → IsPermutation put ((S ++ A) ++ (J ++ rest))
      regroup S A J rest put p = simp append_assoc (simp append_assoc at p)
