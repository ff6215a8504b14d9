use Rattle.std.proofs.Common.{◌<◌, ℕ, List, length, get_or, subst, sym, ap, ◌∙◌, MatchBool}
use Rattle.dmn_graph.specs.Needs.{needs_view, needs_of}
use Rattle.dmn_graph.specs.WalkState.{HasMet, IsUnlisted}
use Rattle.dmn_graph.proofs.WalkSteps.{in_at, read_at}
use Rattle.dmn_graph.proofs.walk.Walk.pass.Goals as goal

pub needed_by-requires : goal.needed_by-requires
needed_by-requires c =
    subst (λ (p : ℕ). p < length c.args.needs.now) (sym (read_at c.args.self.now.found.items c.args.next c.index-place.result.now c.requires.next c.index-place.ensures))
    (c.requires.places (get_or c.args.self.now.found.items c.args.next 0) (in_at c.args.self.now.found.items c.args.next 0 c.requires.next))

pub returns : goal.returns
returns c =
    subst (λ (qs : List ℕ). MatchBool c.in_ok-is_met.is_met (HasMet c.args.self.now qs c.meet_all.new.self) (IsUnlisted c.args.self.now qs))
    (c.needed_by.ensures ∙ ap (λ (p : ℕ). needs_of (needs_view c.args.needs.now) p) (read_at c.args.self.now.found.items c.args.next c.index-place.result.now c.requires.next c.index-place.ensures))
    c.in_ok-is_met.ensures
