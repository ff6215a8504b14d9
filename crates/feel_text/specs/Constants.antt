-- The literal that a value which is ready stands for.
use Rattle.std.specs.Prelude.{ℤ, pos, negsuc, Bool, true, false}
use Rattle.feel_value.specs.Datum.{Datum, null, boolean, number, text, list, context}
use Rattle.feel_text.specs.Expr as expr
use Rattle.feel_text.specs.Expr.{Expr}

abbrev pub is_natural : ℤ → Bool
is_natural (pos n) = true
is_natural (negsuc n) = false

-- whether some literal has this value, but for its range
abbrev pub is_constant : Datum → Bool
is_constant null = true
is_constant (boolean b) = true
is_constant (number z) = is_natural z
is_constant (text s) = true
is_constant (list ds) = false
is_constant (context es) = false

abbrev pub expr_of_number : ℤ → Expr
expr_of_number (pos n) = expr.Number n
expr_of_number (negsuc n) = expr.Null

-- what is no constant stands for nothing that counts
abbrev pub expr_of_constant : Datum → Expr
expr_of_constant null = expr.Null
expr_of_constant (boolean b) = expr.Boolean b
expr_of_constant (number z) = expr_of_number z
expr_of_constant (text s) = expr.Text s
expr_of_constant (list ds) = expr.Null
expr_of_constant (context es) = expr.Null
