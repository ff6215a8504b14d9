use Rattle.crossbeam_deque.specs.Handles.{worker_view}
use Rattle.std.proofs.Common.{◌∙◌, ◌∷◌, [], ◌++◌, length, append-nil, append_assoc, IsPermutation, ap, sym, refl, subst, arith, rules, length-append}
use Rattle.lanes.specs.Books.{ticket_of, book}
use Rattle.lanes.proofs.Carried.{leaves_at, finds_at}
use Rattle.lanes.proofs.ending.pop_rest.Goals as goal

pub pop_as-requires-clause-fifo : goal.pop_as-requires-clause-fifo
pop_as-requires-clause-fifo g c = λ _. leaves_at ticket_of _ _ (c.loop-job.invariant.same.2 ∙ c.requires.owner.0)

pub pop_as-requires-clause-empty : goal.pop_as-requires-clause-empty
pop_as-requires-clause-empty g c = finds_at ticket_of _ _ (c.loop-job.invariant.same.2 ∙ c.requires.owner.0)

pub loop-job-init : goal.loop-job-init
loop-job-init g c =
    let v = worker_view c.args.owner.now in
    record {
      same = (refl, refl, refl, omega arith);
      popped = ([], sym (append-nil c.args.left.now.items), ap (λ n. book v.live n v.put v.taken) c.requires.owner.2 ∙ ap (λ l. book v.live 0 v.put l) (sym (append-nil v.taken)));
      room = c.requires.room;
    }

pub returns-clause-put : goal.returns-clause-put
returns-clause-put g c = ap (λ b. b.put) (c.in_default.ensures.rule.0 ∙ c.loop-job.invariant.popped.2)

pub returns-clause-rest : goal.returns-clause-rest
returns-clause-rest g c =
    let popped = c.loop-job.invariant.popped in
    (popped.0, popped.1, subst (λ b. IsPermutation b.put b.taken) popped.2 (c.in_default.ensures.rule.1 (ap (λ b. b.out) popped.2)))

pub loop-job-preserved : goal.loop-job-preserved
loop-job-preserved g c =
    let inv = c.loop-job.invariant in let first = worker_view c.args.owner.now in let rule = c.in-Some.ensures.rule in let pushed = c.push_reserved.ensures in
    let view = rule.0 ∙ ap (λ b. book b.live b.out b.put (b.taken ++ c.in-Some.job ∷ [])) inv.popped.2 in
    let put = ap (λ b. length b.put) rule.0 in let taken = ap (λ b. length b.taken) rule.0 in let more = length-append (worker_view c.loop-job.owner).taken (c.in-Some.job ∷ []) in
    record {
      same = search rules;
      popped = (
        inv.popped.0 ++ c.in-Some.job ∷ [],
        pushed.items ∙ ap (λ l. l ++ c.in-Some.job ∷ []) inv.popped.1 ∙ append_assoc c.args.left.now.items inv.popped.0 (c.in-Some.job ∷ []),
        view ∙ ap (λ l. book first.live 0 first.put l) (append_assoc first.taken inv.popped.0 (c.in-Some.job ∷ [])),
      );
      room = omega (arith, inv.room, pushed.len, pushed.capacity, put, taken, more);
    }
