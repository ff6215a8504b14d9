-- The expression that a `Tree` of the code stands for.
use Rattle.std.specs.Prelude.{List, [], ◌∷◌, map, string_bytes}
use Rattle.feel_text.specs.Expr.{Expr, Exprs, none, more}
use Rattle.feel_text.specs.Expr as expr
use Rattle.feel_text.specs.Constants.{expr_of_constant}
use Rattle.feel_text.specs.declared.expr.Tree.{fold-Tree}
use Rattle.feel_text.specs.declared.expr.Tree as code
use Rattle.feel_text.specs.declared.expr.Tree.TheOpen.{Tree-F}

abbrev pub exprs_of : List Expr → Exprs
exprs_of [] = none
exprs_of (e ∷ es) = more e (exprs_of es)

-- one level, with each expression inside already seen
abbrev pub view_step : Tree-F Expr → Expr
view_step (Tree-F.Constant d) = expr_of_constant d
view_step (Tree-F.Number n) = expr.Number n
view_step (Tree-F.Name r) = expr.Name r.name
view_step (Tree-F.Group e) = expr.Group e.value
view_step (Tree-F.List es) = expr.Members (exprs_of es.items)
view_step (Tree-F.Call f e) = expr.Call f e.value
view_step (Tree-F.Modulo a b) = expr.Modulo a.value b.value
view_step (Tree-F.Not e) = expr.Not e.value
view_step (Tree-F.Negate e) = expr.Negate e.value
view_step (Tree-F.Path e s) = expr.Path e.value (string_bytes s)
view_step (Tree-F.Binary op a b) = expr.Binary op a.value b.value
view_step (Tree-F.Between a b c) = expr.Between a.value b.value c.value
view_step (Tree-F.If a b c) = expr.If a.value b.value c.value

abbrev pub view : code.Tree → Expr
view = fold-Tree Expr view_step

abbrev pub views : List code.Tree → Exprs
views es = exprs_of (map view es)
