use Rattle.std.proofs.lemmas.Result.{err_from_is_err_and}
use Rattle.std.proofs.Common.{◌≡◌, ◌<◌, map, length, set, refl, sym, ap, ◌∙◌, subst, arith, rules, get_or-set_other}
use Rattle.crossbeam_deque.specs.Handles.{worker_deque}
use Rattle.lanes.specs.Identities.{add_each, links_of}
use Rattle.lanes.specs.Workers.{ports_of, worker_links}
use Rattle.lanes.specs.Joined.{received_of}
use Rattle.lanes.proofs.Making.{add_empty, few_at, received_snoc, crew_linked, crew_idle}
use Rattle.lanes.proofs.open.open_ports.Goals as goal

pub loop-index-init : goal.loop-index-init
loop-index-init g c =
    record {
      owner = c.requires.owner;
      links = subst (λ l. map worker_links c.args.crew.now.items ≡ add_each (map worker_links c.args.crew.now.items) (links_of (worker_deque c.args.owner.now) l)) (sym c.in_ok-rings.ensures.items) (add_empty (map worker_links c.args.crew.now.items));
      rings = (c.in_ok-rings.ensures.len, ap (λ l. received_of l) c.in_ok-rings.ensures.items, c.in_ok-rings.ensures.exact ∙ c.len.ensures);
      crew = refl;
      few = λ k d h le. few_at c.args.crew.now.items 64 c.requires.few k d (omega (arith, h, c.args.crew.now.ok.0));
      idle = λ i. i;
    }

pub add-requires-clause-few : goal.add-requires-clause-few
add-requires-clause-few g c =
    let inv = c.loop-index.invariant in let w = c.index_mut.result.now in
    let f = inv.few c.loop-index.index w (omega (arith, c.loop-index-test.true, c.len-index-end.ensures, inv.crew)) (omega arith) in
    let e = ap (λ x. length (ports_of x)) c.index_mut.ensures.value in
    omega (arith, f, e)

pub loop-index-preserved : goal.loop-index-preserved
loop-index-preserved g c =
    let inv = c.loop-index.invariant in let opened = c.in_ok-port.ensures in let added = c.in_ok-add.ensures in let pushed = c.push_reserved.ensures in
    let inside : c.loop-index.index < length c.loop-index.crew.items = omega (arith, c.loop-index-test.true, c.len-index-end.ensures, inv.crew, c.loop-index.crew.ok.0) in
    record {
      owner = search rules;
      links = subst (λ l. map worker_links (set c.loop-index.crew.items c.loop-index.index c.add.new.self) ≡ add_each (map worker_links c.args.crew.now.items) (links_of (worker_deque c.open_port.new.owner) l)) (sym pushed.items)
          (crew_linked c.loop-index.crew.items c.args.crew.now.items (worker_deque c.loop-index.owner) (worker_deque c.open_port.new.owner) c.loop-index.rings.items c.in_ok-port.ring c.loop-index.index c.index_mut.result.now c.add.new.self c.in_ok-port.port
          inv.links opened.same.0 (omega (arith, inv.rings.0, c.loop-index.rings.ok.0)) inside (omega (arith, inv.crew, c.loop-index.crew.ok.0, c.args.crew.now.ok.0)) c.index_mut.ensures.value added opened.link);
      rings = (search rules, ap (λ l. received_of l) pushed.items ∙ received_snoc c.loop-index.rings.items c.in_ok-port.ring inv.rings.1 opened.fresh.2, pushed.capacity ∙ inv.rings.2);
      crew = inv.crew;
      few = λ k d h le. subst (λ w. length (ports_of w) < 64) (sym (get_or-set_other c.loop-index.crew.items c.loop-index.index k c.add.new.self d (λ e. omega (arith, e, le)))) (inv.few k d h (omega (arith, le)));
      idle = λ i. crew_idle c.loop-index.crew.items c.loop-index.index c.index_mut.result.now c.add.new.self c.in_ok-port.port (inv.idle i) inside c.index_mut.ensures.value added (opened.fresh.0, opened.fresh.1);
    }

pub returns-in_err-rings-clause-owner : goal.returns-in_err-rings-clause-owner
returns-in_err-rings-clause-owner g c = rw (err_from_is_err_and c.from_residual.result c.from_residual.ensures.1).1 tt

pub returns-in_err-rings-clause-links : goal.returns-in_err-rings-clause-links
returns-in_err-rings-clause-links g c = rw (err_from_is_err_and c.from_residual.result c.from_residual.ensures.1).1 tt

pub returns-in_err-rings-clause-rings : goal.returns-in_err-rings-clause-rings
returns-in_err-rings-clause-rings g c = rw (err_from_is_err_and c.from_residual.result c.from_residual.ensures.1).1 tt

pub returns-in_err-rings-clause-idle : goal.returns-in_err-rings-clause-idle
returns-in_err-rings-clause-idle g c = rw (err_from_is_err_and c.from_residual.result c.from_residual.ensures.1).1 tt

pub returns-in_err-port-clause-owner : goal.returns-in_err-port-clause-owner
returns-in_err-port-clause-owner g c = rw (err_from_is_err_and c.from_residual-in_err-port.result c.from_residual-in_err-port.ensures.1).1 tt

pub returns-in_err-port-clause-links : goal.returns-in_err-port-clause-links
returns-in_err-port-clause-links g c = rw (err_from_is_err_and c.from_residual-in_err-port.result c.from_residual-in_err-port.ensures.1).1 tt

pub returns-in_err-port-clause-rings : goal.returns-in_err-port-clause-rings
returns-in_err-port-clause-rings g c = rw (err_from_is_err_and c.from_residual-in_err-port.result c.from_residual-in_err-port.ensures.1).1 tt

pub returns-in_err-port-clause-idle : goal.returns-in_err-port-clause-idle
returns-in_err-port-clause-idle g c = rw (err_from_is_err_and c.from_residual-in_err-port.result c.from_residual-in_err-port.ensures.1).1 tt

pub returns-in_err-add-clause-owner : goal.returns-in_err-add-clause-owner
returns-in_err-add-clause-owner g c = rw (err_from_is_err_and c.from_residual-in_err-add.result c.from_residual-in_err-add.ensures.1).1 tt

pub returns-in_err-add-clause-links : goal.returns-in_err-add-clause-links
returns-in_err-add-clause-links g c = rw (err_from_is_err_and c.from_residual-in_err-add.result c.from_residual-in_err-add.ensures.1).1 tt

pub returns-in_err-add-clause-rings : goal.returns-in_err-add-clause-rings
returns-in_err-add-clause-rings g c = rw (err_from_is_err_and c.from_residual-in_err-add.result c.from_residual-in_err-add.ensures.1).1 tt

pub returns-in_err-add-clause-idle : goal.returns-in_err-add-clause-idle
returns-in_err-add-clause-idle g c = rw (err_from_is_err_and c.from_residual-in_err-add.result c.from_residual-in_err-add.ensures.1).1 tt
