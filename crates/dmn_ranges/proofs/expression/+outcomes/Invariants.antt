use Rattle.std.proofs.Common.{◌≡◌, drop, None}
use Rattle.feel_text.specs.View.{views}
use Rattle.dmn_ranges.specs.Folds.{IsNearIf}
use Rattle.dmn_ranges.specs.Steps.{members_folded, members_parts, no_parts}
use Rattle.dmn_ranges.proofs.expression.+outcomes.Given as goal

abbrev pub invariant-members-loop-expr : goal.invariant-members-loop-expr
invariant-members-loop-expr l = members_parts no_parts (views l.exprs) l.names ≡ members_parts l.parts (views (drop l.expr-index l.exprs)) l.names

abbrev pub invariant-members_folded-loop-expr : goal.invariant-members_folded-loop-expr
invariant-members_folded-loop-expr l = record {
  told : members_folded l.function None (views l.exprs) l.names ≡ members_folded l.function l.folded (views (drop l.expr-index l.exprs)) l.names;
  near : IsNearIf l.expr-index l.folded;
}
