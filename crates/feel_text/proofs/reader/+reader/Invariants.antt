-- Each call goes to a smaller limit, or to a tighter line at the same one.
use Rattle.std.proofs.Common.{◌≡◌, ◌≤◌, ◌+◌, ◌-◌, ◌*◌, length}
use Rattle.feel_text.specs.Token.{views}
use Rattle.feel_text.specs.View.{view, exprs_of}
use Rattle.feel_text.specs.Expr.{none, more}
use Rattle.std.specs.Prelude.{map}
use Rattle.feel_text.specs.Grammar.{rank}
use Rattle.feel_text.specs.Reading.{read_at, steps_at, joined, members_at}
use Rattle.feel_text.proofs.reader.+reader.Given as goal

abbrev pub decreases-read : goal.decreases-read
decreases-read l = 32 * l.limit

abbrev pub decreases-read_line : goal.decreases-read_line
decreases-read_line l = 32 * l.inner + (31 - 2 * rank l.line)

abbrev pub decreases-chain : goal.decreases-chain
decreases-chain l = 32 * l.inner + (30 - 2 * rank l.line)

abbrev pub decreases-steps : goal.decreases-steps
decreases-steps l = 32 * l.inner + 9

abbrev pub decreases-step : goal.decreases-step
decreases-step l = 32 * l.inner + 1

abbrev pub decreases-negation : goal.decreases-negation
decreases-negation l = 32 * l.inner + 18

abbrev pub decreases-primary : goal.decreases-primary
decreases-primary l = 32 * l.inner + 14

abbrev pub decreases-closed : goal.decreases-closed
decreases-closed l = 32 * l.inner + 10

-- what is still read gives what is read in all
abbrev pub invariant-steps-loop : goal.invariant-steps-loop
invariant-steps-loop l = record {
  so_far : steps_at (l.inner + 1 - l.counter) (read_at l.inner) l.inner l.line (view l.expr.value) l.depth (views l.rest) ≡ steps_at (l.inner + 1) (read_at l.inner) l.inner l.line (view l.fn.first.value) l.fn.first_depth (views l.fn.tokens);
  deep : l.depth ≤ l.inner + 1;
}

abbrev pub decreases-whole : goal.decreases-whole
decreases-whole l = 32 * l.inner + 30

abbrev pub decreases-conditional : goal.decreases-conditional
decreases-conditional l = 32 * l.inner + 29

abbrev pub decreases-branches : goal.decreases-branches
decreases-branches l = 32 * l.inner + 28

abbrev pub decreases-then_branch : goal.decreases-then_branch
decreases-then_branch l = 32 * l.inner + 1

abbrev pub decreases-else_branch : goal.decreases-else_branch
decreases-else_branch l = 32 * l.inner + 1

abbrev pub decreases-comparison : goal.decreases-comparison
decreases-comparison l = 32 * l.inner + 24

abbrev pub decreases-compared : goal.decreases-compared
decreases-compared l = 32 * l.inner + 23

abbrev pub decreases-between : goal.decreases-between
decreases-between l = 32 * l.inner + 22

abbrev pub decreases-bounds : goal.decreases-bounds
decreases-bounds l = 32 * l.inner + 21

abbrev pub decreases-high_bound : goal.decreases-high_bound
decreases-high_bound l = 32 * l.inner + 1

abbrev pub decreases-path : goal.decreases-path
decreases-path l = 32 * l.inner + 16

abbrev pub decreases-named : goal.decreases-named
decreases-named l = 32 * l.inner + 13

abbrev pub decreases-modulo : goal.decreases-modulo
decreases-modulo l = 32 * l.inner + 12

abbrev pub decreases-negated : goal.decreases-negated
decreases-negated l = 32 * l.inner + 12

abbrev pub decreases-group : goal.decreases-group
decreases-group l = 32 * l.inner + 12

abbrev pub decreases-list : goal.decreases-list
decreases-list l = 32 * l.inner + 12

abbrev pub decreases-listed : goal.decreases-listed
decreases-listed l = 32 * l.inner + 11

abbrev pub decreases-members : goal.decreases-members
decreases-members l = 32 * l.inner + 10

-- the members so far before those still to be read are all of them
abbrev pub invariant-members-loop : goal.invariant-members-loop
invariant-members-loop l = record {
  so_far : joined (exprs_of (map view l.members.items)) l.deepest (members_at (length l.fn.tokens - l.counter) (read_at l.inner) (views l.rest)) ≡ joined (more (view l.fn.first.value) none) l.fn.first_depth (members_at (length (views l.fn.tokens)) (read_at l.inner) (views l.fn.tokens));
  deep : l.deepest ≤ l.inner;
}
