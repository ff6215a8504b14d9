use Rattle.std.proofs.Common.{◌∙◌, ◌≤◌, sym, ap, take, arith, length}
use Rattle.std.proofs.lemmas.List.{length_push, get_or-set_same, get_or-set_other}
use Rattle.feel_eval.specs.Listed.{listed_of}
use Rattle.feel_eval.proofs.Positions.{listed_less, last_within, listed_before}
use Rattle.feel_eval.proofs.listed.Listed.cut.Goals as goal

pub index_mut-requires : goal.index_mut-requires
index_mut-requires c =
    let within = last_within c.loop-self.self-inside.scope.now c.pop.new.self.items c.in-Some.binding c.loop-self.self-inside.slots.items (rw c.in-Some.ensures.items at c.loop-self.invariant.listed) in
    omega (arith, within, c.loop-self.self-inside.slots.ok.0)

pub loop-self-preserved-in-Some : goal.loop-self-preserved-in-Some
loop-self-preserved-in-Some c =
    let ns = c.loop-self.self-inside.scope.now in
    let xs = c.pop.new.self.items in
    let x = c.in-Some.binding in
    let slots = c.loop-self.self-inside.slots.items in
    let before = rw c.in-Some.ensures.items at c.loop-self.invariant.listed in
    let shorter : c.args.len ≤ length xs = omega (arith, ap length c.in-Some.ensures.items, length_push xs x) in
    record {
      within = shorter;
      scope = c.loop-self.invariant.scope;
      listed = listed_less ns xs x slots _ before (get_or-set_same slots x.position x.hidden 0 (last_within ns xs x slots before)) (λ j apart. get_or-set_other slots x.position j x.hidden 0 (λ e. apart (sym e)));
      kept = sym (listed_before ns c.args.len xs x shorter) ∙ ap (λ ys. take c.args.len (listed_of ns ys)) (sym c.in-Some.ensures.items) ∙ c.loop-self.invariant.kept;
    }
