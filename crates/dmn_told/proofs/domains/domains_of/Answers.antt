use Rattle.std.proofs.Common.{◌∙◌, ℕ, ◌+◌, ◌++◌, List, [], ◌∷◌, Bor, map, take, get_or, length, sym, ap, subst}
use Rattle.std.proofs.lemmas.List.{map_more, length_push}
use Rattle.dmn_form.specs.Model.{Name}
use Rattle.dmn_ranges.specs.declared.range.ParameterRange.{ParameterRange}
use Rattle.dmn_told.specs.Covered.{AreCovered}
use Rattle.dmn_told.proofs.Covering.{covered_more}
use Rattle.dmn_told.proofs.domains.domains_of.Goals as goal

pub loop-name-preserved : goal.loop-name-preserved
loop-name-preserved c =
    let ds = c.args.domains.now in
    let names = c.args.names.now in
    let i = c.loop-name.name-index in
    let old = c.loop-name.ranges.items in
    let range = c.in_ok-range.range in
    let d : Bor (List ℕ) = record { ref_ptr = (0, 0); now = [] } in
    let name : Name = (get_or names i d).now in
    let so_far : List Name = map (λ (x : Bor (List ℕ)). x.now) (take i names) in
    let more = map_more (λ (x : Bor (List ℕ)). x.now) names i d c.loop-name-test.true in
    let pushed = c.in_ok-push.ensures.items in
    let covered : AreCovered ds (so_far ++ name ∷ []) (old ++ range ∷ []) = covered_more ds so_far old name range c.loop-name.invariant.covered c.in_ok-range.ensures in
    record {
      covered = subst (λ (ns : List Name). AreCovered ds ns c.push.new.self.items) (sym more) (subst (λ (rs : List ParameterRange). AreCovered ds (so_far ++ name ∷ []) rs) (sym pushed) covered);
      count = ap length pushed ∙ length_push old range ∙ ap (λ (k : ℕ). k + 1) c.loop-name.invariant.count;
    }
