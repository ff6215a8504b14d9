-- What the loop over the steps of a chain leaves open.
use Rattle.std.proofs.Common.{◌≡◌, ◌<◌, ◌≤◌, List, [], ◌∷◌, ◌++◌, length, map, Some, subst, ap, sym, ◌∙◌, arith}
use Rattle.std.proofs.lemmas.Result.{err_from_is_err_and}
use Rattle.feel_text.specs.Token.{views}
use Rattle.feel_text.specs.View.{view, exprs_of}
use Rattle.feel_text.specs.Expr.{none, more}
use Rattle.feel_text.proofs.Members as members
use Rattle.feel_text.proofs.Members.{ends_bracket, ends_comma, push_seen}
use Rattle.feel_text.specs.Reading.{read_at, before_more}
use Rattle.feel_text.specs.Parts.{step_at}
use Rattle.feel_text.proofs.Steps.{ends_other, ends_fault, goes_on, ends_last}
use Rattle.feel_text.specs.declared.line.Line.{Line}
use Rattle.feel_text.specs.Gives.{Fails}
use Rattle.feel_text.specs.declared.expr.Tree as exprs
use Rattle.feel_text.proofs.Forms.{conditional_found, branches_fail, between_found, bounds_fail, modulo_found}
use Rattle.feel_text.proofs.reader.+reader.Goals as goal

pub steps-returns-in_default-clause-found : goal.steps-returns-in_default-clause-found
steps-returns-in_default-clause-found t c =
    ends_other c.args.inner c.loop.counter (read_at c.args.inner) c.args.line (view c.loop.expr.value) c.loop.depth (views c.loop.rest.now) _ c.loop-test.true (sym c.in_default.ensures) c.loop.invariant.so_far

pub steps-returns-in_err-tree-clause-found : goal.steps-returns-in_err-tree-clause-found
steps-returns-in_err-tree-clause-found t c =
    let p = err_from_is_err_and c.from_residual.result c.from_residual.ensures.1 in
    let fails = subst (λ (l : Line). Fails c.in_err-tree.field-0.0 (step_at c.in-Some.operator (read_at c.args.inner l) c.args.inner (view c.loop.expr.value) c.loop.depth (views c.in-Some.after.now))) c.tighter.ensures c.in_err-tree.ensures.found in
    rw (p.1, p.2) (ends_fault c.in_err-tree.field-0.0 c.args.inner c.loop.counter (read_at c.args.inner) c.args.line (view c.loop.expr.value) c.loop.depth (views c.loop.rest.now) (views c.in-Some.after.now)
    c.in-Some.operator _ c.loop-test.true (sym c.in-Some.ensures) fails c.loop.invariant.so_far)

pub steps-loop-preserved : goal.steps-loop-preserved
steps-loop-preserved t c =
    let step = subst (λ (l : Line). step_at c.in-Some.operator (read_at c.args.inner l) c.args.inner (view c.loop.expr.value) c.loop.depth (views c.in-Some.after.now) ≡ Some (view c.in_ok-tree.tree.value, c.in_ok-tree.tree_depth, views c.in_ok-tree.after.now)) c.tighter.ensures c.in_ok-tree.ensures.found in
    record {
      so_far = goes_on c.args.inner c.loop.counter (read_at c.args.inner) c.args.line (view c.loop.expr.value) c.loop.depth (views c.loop.rest.now) (views c.in-Some.after.now) c.in-Some.operator
          (view c.in_ok-tree.tree.value) c.in_ok-tree.tree_depth (views c.in_ok-tree.after.now) _ c.loop-test.true (sym c.in-Some.ensures) step c.loop.invariant.so_far;
      deep = c.in_ok-tree.ensures.depth;
    }

pub steps-returns-clause-found : goal.steps-returns-clause-found
steps-returns-clause-found t c =
    ends_last c.args.inner c.loop.counter (read_at c.args.inner) c.args.line (view c.loop.expr.value) c.loop.depth (views c.loop.rest.now) _ c.loop-test.false c.loop.invariant.so_far

-- ---- the members of a list

pub members-returns-in-Some-clause-found : goal.members-returns-in-Some-clause-found
members-returns-in-Some-clause-found t c =
    let lt : c.loop.counter < length c.args.tokens.now = omega arith in
    ends_bracket (length c.args.tokens.now) c.loop.counter (read_at c.args.inner) (exprs_of (map view c.loop.members.items)) c.loop.deepest (views c.loop.rest.now) (views c.in-Some.rest.now) _ lt (sym c.in-Some.ensures) c.loop.invariant.so_far

pub members-returns-in_err-after-clause-found : goal.members-returns-in_err-after-clause-found
members-returns-in_err-after-clause-found t c =
    let p = err_from_is_err_and c.from_residual-in_err-after.result c.from_residual-in_err-after.ensures.1 in
    let lt : c.loop.counter < length c.args.tokens.now = omega arith in
    rw (p.1, p.2) (ends_comma c.in_err-after.field-0.0 (length c.args.tokens.now) c.loop.counter (read_at c.args.inner) (exprs_of (map view c.loop.members.items)) c.loop.deepest (views c.loop.rest.now) _ lt (sym c.in_default.ensures) c.in_err-after.ensures c.loop.invariant.so_far)

pub members-returns-in_err-member-clause-found : goal.members-returns-in_err-member-clause-found
members-returns-in_err-member-clause-found t c =
    let p = err_from_is_err_and c.from_residual-in_err-member.result c.from_residual-in_err-member.ensures.1 in
    let lt : c.loop.counter < length c.args.tokens.now = omega arith in
    rw (p.1, p.2) (members.ends_fault c.in_err-member.field-0.0 (length c.args.tokens.now) c.loop.counter (read_at c.args.inner) (exprs_of (map view c.loop.members.items)) c.loop.deepest (views c.loop.rest.now) (views c.in_ok-after.after.now) _ lt (sym c.in_default.ensures) c.in_ok-after.ensures c.in_err-member.ensures.found c.loop.invariant.so_far)

pub members-loop-preserved : goal.members-loop-preserved
members-loop-preserved t c =
    let lt : c.loop.counter < length c.args.tokens.now = omega arith in
    let on = members.goes_on (length c.args.tokens.now) c.loop.counter (read_at c.args.inner) (exprs_of (map view c.loop.members.items)) c.loop.deepest (views c.loop.rest.now) (views c.in_ok-after.after.now) (views c.in_ok-member.after.now)
    (view c.in_ok-member.member.value) c.in_ok-member.depth _ lt (sym c.in_default.ensures) c.in_ok-after.ensures c.in_ok-member.ensures.found c.loop.invariant.so_far in
    let items : c.push-in-loop.new.self.items ≡ c.loop.members.items ++ c.in_ok-member.member.value ∷ [] = c.in_ok-push-2.ensures.items ∙ ap (λ (m : exprs.Tree). c.loop.members.items ++ m ∷ []) c.into_inner-in-loop.ensures in
    let seen : exprs_of (map view c.push-in-loop.new.self.items) ≡ before_more (exprs_of (map view c.loop.members.items)) (more (view c.in_ok-member.member.value) none) =
    ap (λ (xs : List exprs.Tree). exprs_of (map view xs)) items ∙ push_seen c.loop.members.items c.in_ok-member.member.value in
    record {
      so_far = rw (seen, c.max-deepest.ensures) on;
      deep = let d = c.in_ok-member.ensures.depth in omega (arith, c.max-deepest.ensures);
    }

pub members-returns-clause-found : goal.members-returns-clause-found
members-returns-clause-found t c =
    let le : length c.args.tokens.now ≤ c.loop.counter = omega arith in
    members.ends_last (length c.args.tokens.now) c.loop.counter (read_at c.args.inner) (exprs_of (map view c.loop.members.items)) c.loop.deepest (views c.loop.rest.now) _ le c.loop.invariant.so_far

-- ---- forms of several parts

pub conditional-returns-clause-found : goal.conditional-returns-clause-found
conditional-returns-clause-found t c =
    rw (c.in_ok-tree.ensures, c.max.ensures)
    (conditional_found (read_at c.args.inner) (views c.args.tokens.now) _ _ _ _ _ _ _ c.in_ok-test.ensures.found c.in_ok-yes.ensures.found)

pub conditional-returns-in_err-yes-clause-found : goal.conditional-returns-in_err-yes-clause-found
conditional-returns-in_err-yes-clause-found t c =
    let p = err_from_is_err_and c.from_residual-in_err-yes.result c.from_residual-in_err-yes.ensures.1 in
    rw (p.1, p.2) (branches_fail c.in_err-yes.field-0.0 (read_at c.args.inner) (views c.args.tokens.now) _ _ _ c.in_ok-test.ensures.found c.in_err-yes.ensures.found)

pub between-returns-in_err-low-clause-found : goal.between-returns-in_err-low-clause-found
between-returns-in_err-low-clause-found t c =
    let p = err_from_is_err_and c.from_residual.result c.from_residual.ensures.1 in
    rw (p.1, p.2) (bounds_fail c.in_err-low.field-0.0 (read_at c.args.inner) c.args.inner (view c.args.left.value) c.args.depth (views c.args.tokens.now) c.if-depth-inner.false c.in_err-low.ensures.found)

pub between-returns-clause-found : goal.between-returns-clause-found
between-returns-clause-found t c =
    rw (c.in_ok-tree.ensures, c.max.ensures)
    (between_found (read_at c.args.inner) c.args.inner (view c.args.left.value) c.args.depth (views c.args.tokens.now) _ _ _ _ c.if-depth-inner.false c.in_ok-low.ensures.found)

pub modulo-returns-clause-found : goal.modulo-returns-clause-found
modulo-returns-clause-found t c =
    rw (c.in_ok-tree.ensures, c.max.ensures)
    (modulo_found (read_at c.args.inner) (views c.args.tokens.now) _ _ _ _ _ _ _ c.in_ok-left.ensures.found c.in_ok-rest.ensures c.in_ok-right.ensures.found)
