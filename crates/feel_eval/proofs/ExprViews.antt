-- A `Tree` of the code, variant by variant.
use Rattle.std.proofs.Common.{◌≡◌, ◌∙◌, sym, ap, ℕ, ◌+◌, ◌<◌, List, length, get_or, drop, String, Global, string_bytes, rules}
use Rattle.std.specs.Global.{Box}
use Rattle.std.proofs.lemmas.List.{at_drop_more}
use Rattle.feel_text.specs.Expr as expr
use Rattle.feel_text.specs.Expr.{more}
use Rattle.feel_text.specs.View.{view, views}
use Rattle.feel_text.specs.declared.expr.Tree.{Tree, Path, the_lemmas}

-- the expressions from one on are that one and the later ones
pub exprs_from : (xs : List Tree) (i : ℕ) (x : Tree) → x ≡ get_or xs i x → i < length xs → views (drop i xs) ≡ more (view x) (views (drop (i + 1) xs))
exprs_from xs i x e h = at_drop_more views xs i x h ∙ ap (λ (y : Tree). more (view y) (views (drop (i + 1) xs))) (sym e)

pub view-Path : (b : Box Tree) (s : String Global) → view (Path b s) ≡ expr.Path (view b.value) (string_bytes s)
view-Path b s = search (rules, the_lemmas)
