use Rattle.std.proofs.Common.{refl, not, sym, ap, ◌∙◌}
use Rattle.dmn_graph.specs.WalkState.{has_place}
use Rattle.dmn_graph.proofs.WalkSteps.{from_not, met_new, met_again}
use Rattle.dmn_graph.proofs.walk.Walk.meet.Goals as goal

pub returns-in_ok-push : goal.returns-in_ok-push
returns-in_ok-push c =
    met_new c.args.self.now (record { through = c.args.self.now.through; given = c.args.self.now.given; seen = c.insert.new.self; found = c.push.new.self }) c.args.place c.requires
    (sym c.if-is_given.ensures) (sym c.if-not-is_listed.ensures) (from_not c.in_ok-insert.field-0 (has_place c.args.self.now.seen c.args.place) c.in_ok-insert.ensures.added ∙ ap not c.if-branch.true) refl refl c.in_ok-insert.ensures.updates.0 c.in_ok-push.ensures.items

pub returns-else-branch : goal.returns-else-branch
returns-else-branch c =
    met_again c.args.self.now (record { through = c.args.self.now.through; given = c.args.self.now.given; seen = c.insert.new.self; found = c.args.self.now.found }) c.args.place c.requires
    (from_not c.in_ok-insert.field-0 (has_place c.args.self.now.seen c.args.place) c.in_ok-insert.ensures.added ∙ ap not c.if-branch.false) refl refl c.in_ok-insert.ensures.updates.0 refl
