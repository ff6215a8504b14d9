use Rattle.std.proofs.Common.{◌≡◌, ℕ, zero, suc, List, [], ◌∷◌, ◌++◌, length, take, drop, refl, sym, ap, ◌∙◌, subst, map, arith}
use Rattle.lanes.specs.Clients.{client_links}
use Rattle.lanes.specs.Links.{AreOfOneCall}
use Rattle.lanes.specs.Workers.{worker_links}
use Rattle.lanes.proofs.Making.{same_ends}
use Rattle.test_lanes.proofs.tests.settled_after_threads.Goals as goal

written_back : {T : Type 0} (new old : List T) (n : ℕ) → length new ≡ length old → n ≡ length old → take n (new ++ drop (length new) old) ≡ new
written_back [] [] zero e f = refl
written_back [] [] (suc n) e f = absurd (omega (arith, f))
written_back [] (y ∷ ys) n e f = absurd (omega (arith, e))
written_back (x ∷ xs) [] n e f = absurd (omega (arith, e))
written_back (x ∷ xs) (y ∷ ys) zero e f = absurd (omega (arith, f))
written_back (x ∷ xs) (y ∷ ys) (suc n) e f = ap (λ l. x ∷ l) (written_back xs ys n (omega (arith, e)) (omega (arith, f)))

pub settle-requires : goal.settle-requires
settle-requires g c =
    let old = c.seen_by.new.workers in let new = c.work_off_all.new.workers in
    let lent = c.as_mut_slice.ensures.value in
    let many : length new ≡ length old.items = c.work_off_all.ensures.count ∙ ap length lent in
    let all : old.len ≡ length old.items = omega (arith, old.ok.0) in
    let workers = ap (map worker_links) (written_back new old.items old.len many all) ∙ same_ends c.as_mut_slice.result.now new c.work_off_all.ensures ∙ ap (map worker_links) lent ∙ c.seen_by.ensures.workers in
    subst (λ l. AreOfOneCall l (map worker_links (take old.len (new ++ drop (length new) old.items)))) (sym c.seen_by.ensures.clients)
    (subst (λ l. AreOfOneCall (map client_links c.in_ok-clients.clients.items) l) (sym workers) c.in_ok-clients.ensures)
