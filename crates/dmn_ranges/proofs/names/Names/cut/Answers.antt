use Rattle.std.proofs.Common.{◌∙◌, ◌≤◌, sym, ap, take, arith, length}
use Rattle.std.proofs.lemmas.List.{length_push}
use Rattle.feel_eval.specs.Index.{place_in}
use Rattle.feel_eval.proofs.Index.{bound_less, last_is_there}
use Rattle.dmn_ranges.specs.Names.{scope_of, name_of, no_value, hidden_of}
use Rattle.dmn_ranges.proofs.Naming.{scope_before}
use Rattle.dmn_ranges.proofs.names.Names.cut.Goals as goal

pub uncover-requires : goal.uncover-requires
uncover-requires c = last_is_there name_of no_value hidden_of c.pop.new.self.items c.in-Some.binding (place_in c.loop-self.self-inside.places) (rw c.in-Some.ensures.items at c.loop-self.invariant.indexed)

pub loop-self-preserved-in-Some : goal.loop-self-preserved-in-Some
loop-self-preserved-in-Some c =
    let xs = c.pop.new.self.items in
    let x = c.in-Some.binding in
    let shorter : c.args.len ≤ length xs = omega (arith, ap length c.in-Some.ensures.items, length_push xs x) in
    record {
      within = shorter;
      indexed = bound_less name_of no_value hidden_of xs x (place_in c.loop-self.self-inside.places) (place_in c.uncover.new.places) (rw c.in-Some.ensures.items at c.loop-self.invariant.indexed) c.uncover.ensures;
      kept = sym (scope_before c.args.len xs x shorter) ∙ ap (λ ys. take c.args.len (scope_of ys)) (sym c.in-Some.ensures.items) ∙ c.loop-self.invariant.kept;
    }
