use Rattle.std.proofs.Common.{◌≡◌, [], map, length, set, refl, sym, ap, ◌∙◌, subst, arith, rules, get_or-set_other}
use Rattle.lanes.specs.Identities.{add_each}
use Rattle.lanes.specs.Workers.{ports_of}
use Rattle.lanes.proofs.Making.{add_empty, column_taken}
use Rattle.lanes.proofs.settling.take_column.Goals as goal

pub loop-index-init : goal.loop-index-init
loop-index-init g c =
    let none : length c.args.column.now.items ≡ 0 = ap length c.requires.empty in
    record {
      taken = subst (λ l. map ports_of c.args.workers.now.items ≡ add_each (map ports_of c.args.workers.now.items) l) (sym c.requires.empty) (add_empty (map ports_of c.args.workers.now.items));
      column = (omega (arith, none, c.args.column.now.ok.0), refl);
      workers = refl;
      ports = λ k d h le. c.requires.ports k d (omega (arith, h, c.args.workers.now.ok.0));
    }

pub unreachable-requires : goal.unreachable-requires
unreachable-requires g c =
    let inv = c.loop-index.invariant in
    inv.ports c.loop-index.index c.index_mut.result.now (omega (arith, c.loop-index-test.true, c.len-index-end.ensures, inv.workers)) (omega arith) (ap (λ w. ports_of w) (sym c.index_mut.ensures.value) ∙ c.in_default.ensures.none.0)

pub loop-index-preserved : goal.loop-index-preserved
loop-index-preserved g c =
    let inv = c.loop-index.invariant in let pushed = c.push_reserved.ensures in
    record {
      taken = subst (λ l. map ports_of c.args.workers.now.items ≡ add_each (map ports_of (set c.loop-index.workers.items c.loop-index.index c.remove.new.self)) l) (sym pushed.items)
          (column_taken c.args.workers.now.items c.loop-index.workers.items c.loop-index.column.items c.loop-index.index c.index_mut.result.now c.remove.new.self c.in-Some.port
          inv.taken (omega (arith, inv.column.0, c.loop-index.column.ok.0)) (omega (arith, c.loop-index-test.true, c.len-index-end.ensures, inv.workers, c.loop-index.workers.ok.0)) c.index_mut.ensures.value c.in-Some.ensures.some);
      column = (search rules, pushed.capacity ∙ inv.column.1);
      workers = inv.workers;
      ports = λ k d h le. subst (λ w. ports_of w ≡ [] → ⊥) (sym (get_or-set_other c.loop-index.workers.items c.loop-index.index k c.remove.new.self d (λ e. omega (arith, e, le)))) (inv.ports k d h (omega (arith, le)));
    }
