use Rattle.std.proofs.lemmas.Result.{err_from_is_err_and}
use Rattle.std.proofs.Common.{ap, ◌∙◌, arith, length, vec_len, ◌≡◌}
use Rattle.crossbeam_deque.specs.Handles.{worker_view, worker_deque}
use Rattle.lanes.specs.Joined.{received_of}
use Rattle.lanes.proofs.Beginning.{fits_new, credits_new}
use Rattle.lanes.proofs.Making.{links_length}
use Rattle.lanes.proofs.open.open_lane.Goals as goal

pub invariant_of-result : goal.invariant_of-result
invariant_of-result g c =
    let made = c.in_ok-rings.ensures in let view = made.owner.2 in let put = ap (λ b. b.put) view in
    let owner = c.open_ports.new.owner in let mailbox = c.in_ok-mailbox.mailbox in let rings = c.in_ok-rings.rings in
    let fits = fits_new g.W.Work.request g.W.Work.result_of (worker_view owner).put mailbox c.args.capacity put c.in_ok-mailbox.ensures in
    let credits = credits_new g.W.Work.request g.W.Work.result_of (worker_view owner).put mailbox (received_of rings.items) c.args.capacity put c.in_ok-mailbox.ensures made.rings.1 in
    ((made.owner.0, made.owner.1), ((ap (λ b. b.out) view, ap (λ b. b.taken) view), (fits.numbered, (fits.count, (fits.works, (fits.running, (fits.due, (credits.credited, (credits.accounted, (credits.few, tt))))))))))

pub returns-clause-new : goal.returns-clause-new
returns-clause-new g c = (ap (λ b. b.put) c.in_ok-rings.ensures.owner.2, c.in_ok-rings.ensures.rings.1, c.in_ok-mailbox.ensures)

pub returns-clause-links : goal.returns-clause-links
returns-clause-links g c =
    let made = c.in_ok-rings.ensures in let rings = c.in_ok-rings.rings in
    let many : length rings.items ≡ vec_len c.args.crew.now = omega (arith, made.rings.0, rings.ok.0) in
    (links_length (worker_deque c.open_ports.new.owner) rings.items ∙ many, made.links)

pub returns-in_err-mailbox-clause-new : goal.returns-in_err-mailbox-clause-new
returns-in_err-mailbox-clause-new g c = rw (err_from_is_err_and c.from_residual.result c.from_residual.ensures.1).1 tt

pub returns-in_err-mailbox-clause-links : goal.returns-in_err-mailbox-clause-links
returns-in_err-mailbox-clause-links g c = rw (err_from_is_err_and c.from_residual.result c.from_residual.ensures.1).1 tt

pub returns-in_err-mailbox-clause-idle : goal.returns-in_err-mailbox-clause-idle
returns-in_err-mailbox-clause-idle g c = rw (err_from_is_err_and c.from_residual.result c.from_residual.ensures.1).1 tt

pub returns-in_err-owner-clause-new : goal.returns-in_err-owner-clause-new
returns-in_err-owner-clause-new g c = rw (err_from_is_err_and c.from_residual-in_err-owner.result c.from_residual-in_err-owner.ensures.1).1 tt

pub returns-in_err-owner-clause-links : goal.returns-in_err-owner-clause-links
returns-in_err-owner-clause-links g c = rw (err_from_is_err_and c.from_residual-in_err-owner.result c.from_residual-in_err-owner.ensures.1).1 tt

pub returns-in_err-owner-clause-idle : goal.returns-in_err-owner-clause-idle
returns-in_err-owner-clause-idle g c = rw (err_from_is_err_and c.from_residual-in_err-owner.result c.from_residual-in_err-owner.ensures.1).1 tt

pub returns-in_err-rings-clause-new : goal.returns-in_err-rings-clause-new
returns-in_err-rings-clause-new g c = rw (err_from_is_err_and c.from_residual-in_err-rings.result c.from_residual-in_err-rings.ensures.1).1 tt

pub returns-in_err-rings-clause-links : goal.returns-in_err-rings-clause-links
returns-in_err-rings-clause-links g c = rw (err_from_is_err_and c.from_residual-in_err-rings.result c.from_residual-in_err-rings.ensures.1).1 tt

pub returns-in_err-rings-clause-idle : goal.returns-in_err-rings-clause-idle
returns-in_err-rings-clause-idle g c = rw (err_from_is_err_and c.from_residual-in_err-rings.result c.from_residual-in_err-rings.ensures.1).1 tt
