-- What an expression means: its value under a finite map from names to values, or that a limit is broken.
use Rattle.std.specs.Prelude.{ℕ, ℤ, pos, ◌+ℤ◌, ◌-ℤ◌, ◌*ℤ◌, neg_ℤ, int_lt, unsigned_abs, length, Bool, true, false, List, [], ◌∷◌, Option, Some, None, unwrap_or, bytes_eq, nat_eq, if◌then◌else◌}
use Rattle.std.specs.Int.{int_div_euclid}
use Rattle.feel_value.specs.Datum.{Datum, null, boolean, number, text, list, context, Items, no_items, item, members_of, value_at}
use Rattle.feel_value.specs.Outcome.{held}
use Rattle.feel_value.specs.declared.feel.Outcome.{Outcome}
use Rattle.feel_value.specs.declared.feel.Outcome.TheVariants.{Is, Limit}
use Rattle.feel_value.specs.Logic.{is_yes, and_of, or_of, not_of, truth_of, truth_datum}
use Rattle.feel_value.specs.Comparison.{equal, less}
use Rattle.feel_text.specs.declared.expr.Operator.{Operator}
use Rattle.feel_text.specs.declared.expr.Operator.TheVariants as operator
use Rattle.feel_text.specs.declared.expr.Function.{Function}
use Rattle.feel_text.specs.declared.expr.Function.TheVariants as function
use Rattle.feel_text.specs.Expr as expr
use Rattle.feel_text.specs.Expr.{Expr, Exprs, none, more}

-- a list of names with values, of which the last binding of a name counts
abbrev pub Bindings : Type 0
Bindings = List (List ℕ × Datum)

abbrev pub first_some : Option Datum → Option Datum → Option Datum
first_some None o = o
first_some (Some d) o = Some d

abbrev pub bound : List ℕ → Bindings → Option Datum
bound name [] = None
bound name (b ∷ bs) = first_some (bound name bs) (if bytes_eq name b.0 then Some b.1 else None)

-- goes on with a value, unless a limit is broken
abbrev pub with_value : Outcome → (Datum → Outcome) → Outcome
with_value (Is d) f = f d
with_value Limit f = Limit

abbrev pub with_values : Outcome → Outcome → (Datum → Datum → Outcome) → Outcome
with_values (Is d) (Is e) f = f d e
with_values (Is d) Limit f = Limit
with_values Limit o f = Limit

-- of two numbers; null where an operand is none
abbrev pub arithmetic : (ℤ → ℤ → ℤ) → Datum → Datum → Datum
arithmetic f (number x) (number y) = number (f x y)
arithmetic f d e = null

-- of one number; null where the operand is none
abbrev pub of_number : (ℤ → Datum) → Datum → Datum
of_number f (number x) = f x
of_number f d = null

abbrev pub is_zero : ℤ → Bool
is_zero z = nat_eq (unsigned_abs z) 0

-- the greatest whole number that is at most the quotient of x by y, which is that of -x by -y
abbrev pub floor_quotient : ℤ → ℤ → ℤ
floor_quotient x y = if int_lt y (pos 0) then int_div_euclid (neg_ℤ x) (neg_ℤ y) else int_div_euclid x y

-- x - y * floor(x / y); null where y is 0
abbrev pub modulo : ℤ → ℤ → Datum
modulo x y = if is_zero y then null else number (x -ℤ (y *ℤ floor_quotient x y))

abbrev pub modulo_of : Datum → Datum → Datum
modulo_of (number x) (number y) = modulo x y
modulo_of d e = null

-- of the numbers of a list that isn't empty; null for anything else
abbrev pub folded : (ℤ → ℤ → ℤ) → ℤ → Items → Datum
folded f x no_items = number x
folded f x (item (number y) ds) = folded f (f x y) ds
folded f x (item d ds) = null

abbrev pub fold_of : (ℤ → ℤ → ℤ) → Datum → Datum
fold_of f (list (item (number x) ds)) = folded f x ds
fold_of f d = null

abbrev pub least : ℤ → ℤ → ℤ
least x y = if int_lt y x then y else x

abbrev pub greatest : ℤ → ℤ → ℤ
greatest x y = if int_lt x y then y else x

abbrev pub absolute : ℤ → Datum
absolute x = number (pos (unsigned_abs x))

abbrev pub count_of : Datum → Datum
count_of (list ds) = number (pos (length (members_of ds)))
count_of d = null

abbrev pub call_of : Function → Datum → Datum
call_of function.Abs d = of_number absolute d
call_of function.Sum d = fold_of (λ x y. x +ℤ y) d
call_of function.Min d = fold_of least d
call_of function.Max d = fold_of greatest d
call_of function.Count d = count_of d

-- The entry of a context, null where it has none; of a list the list of its members' paths; otherwise null.
abbrev mutual
  pub path_of : List ℕ → Datum → Datum
  path_of name (context es) = unwrap_or (value_at name es) null
  path_of name (list ds) = list (paths_of name ds)
  path_of name d = null

  pub paths_of : List ℕ → Items → Items
  paths_of name no_items = no_items
  paths_of name (item d ds) = item (path_of name d) (paths_of name ds)

abbrev pub operation : Operator → Datum → Datum → Datum
operation operator.Or d e = truth_datum (or_of (truth_of d) (truth_of e))
operation operator.And d e = truth_datum (and_of (truth_of d) (truth_of e))
operation operator.Equal d e = truth_datum (equal d e)
operation operator.NotEqual d e = truth_datum (not_of (equal d e))
operation operator.Less d e = truth_datum (less d e)
operation operator.LessEqual d e = truth_datum (not_of (less e d))
operation operator.Greater d e = truth_datum (less e d)
operation operator.GreaterEqual d e = truth_datum (not_of (less d e))
operation operator.Add d e = arithmetic (λ x y. x +ℤ y) d e
operation operator.Subtract d e = arithmetic (λ x y. x -ℤ y) d e
operation operator.Multiply d e = arithmetic (λ x y. x *ℤ y) d e

-- `x >= low and x <= high`
abbrev pub between_of : Datum → Datum → Datum → Datum
between_of d low high = truth_datum (and_of (not_of (less d low)) (not_of (less high d)))

abbrev pub choice : Bool → Outcome → Outcome → Outcome
choice true a b = a
choice false a b = b

-- a member, and the members after it
abbrev pub member_before : Outcome → Option Items → Option Items
member_before (Is d) (Some ds) = Some (item d ds)
member_before (Is d) None = None
member_before Limit ds = None

abbrev pub list_held : Option Items → Outcome
list_held None = Limit
list_held (Some ds) = held (list ds)

-- Every part is evaluated but the branch of an `if` that isn't taken. Each value that is formed is held against the limits.
abbrev mutual
  pub den : Expr → Bindings → Outcome
  den expr.Null m = Is null
  den (expr.Boolean b) m = Is (boolean b)
  den (expr.Number n) m = held (number (pos n))
  den (expr.Text bytes) m = Is (text bytes)
  den (expr.Name name) m = Is (unwrap_or (bound name m) null)
  den (expr.Group e) m = den e m
  den (expr.Members es) m = list_held (dens es m)
  den (expr.Call f e) m = with_value (den e m) (λ d. held (call_of f d))
  den (expr.Modulo a b) m = with_values (den a m) (den b m) (λ d e. held (modulo_of d e))
  den (expr.Not e) m = with_value (den e m) (λ d. Is (truth_datum (not_of (truth_of d))))
  den (expr.Negate e) m = with_value (den e m) (λ d. held (of_number (λ x. number (pos 0 -ℤ x)) d))
  den (expr.Path e name) m = with_value (den e m) (λ d. held (path_of name d))
  den (expr.Binary op a b) m = with_values (den a m) (den b m) (λ d e. held (operation op d e))
  den (expr.Between e low high) m = with_value (den e m) (λ d. with_values (den low m) (den high m) (λ l h. Is (between_of d l h)))
  den (expr.If test a b) m = with_value (den test m) (λ d. choice (is_yes (truth_of d)) (den a m) (den b m))

  pub dens : Exprs → Bindings → Option Items
  dens none m = Some no_items
  dens (more e es) m = member_before (den e m) (dens es m)
