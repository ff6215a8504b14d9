-- What is spelled as an expression holds no `..`, and closes each bracket that it opens. So no interval begins an expression.
use Rattle.std.proofs.Common.{◌≡◌, ℕ, zero, suc, Bool, true, false, List, [], ◌∷◌, ◌++◌, Some, None, refl, sym, ap, ◌∙◌, append_assoc}
use Rattle.std.specs.Prelude.{IfSome}
use Rattle.feel_text.specs.declared.token.Word.TheVariants as word
use Rattle.feel_text.specs.declared.token.Sign.{Sign}
use Rattle.feel_text.specs.declared.token.Sign.TheVariants as sign
use Rattle.feel_text.specs.declared.expr.Operator.{Operator}
use Rattle.feel_text.specs.declared.expr.Operator.TheVariants as operator
use Rattle.feel_text.specs.declared.line.Line.TheVariants as line
use Rattle.feel_text.specs.Token.{Token, Name, Keyword, Symbol}
use Rattle.feel_text.specs.Expr as expr
use Rattle.feel_text.specs.Expr.{Expr, Exprs, none, more}
use Rattle.feel_text.specs.Grammar.{token_of, in_parens}
use Rattle.feel_text.specs.Reading.{Read, read_at}
use Rattle.feel_text.specs.Tests.{Opens, closed_low, open_low, turned_low}
use Rattle.feel_text.proofs.Spelling.{spelling, others}
use Rattle.feel_text.proofs.Found.{IsRead, closing, read_sound}

-- Whether a `..` comes before a bracket is closed in which k more are open.
abbrev dotted : ℕ → List Token → Bool
dotted k [] = false
dotted k (Symbol sign.DotDot ∷ ts) = true
dotted k (Symbol sign.OpenParen ∷ ts) = dotted (suc k) ts
dotted k (Symbol sign.OpenBracket ∷ ts) = dotted (suc k) ts
dotted zero (Symbol sign.CloseParen ∷ ts) = false
dotted zero (Symbol sign.CloseBracket ∷ ts) = false
dotted (suc k) (Symbol sign.CloseParen ∷ ts) = dotted k ts
dotted (suc k) (Symbol sign.CloseBracket ∷ ts) = dotted k ts
dotted k (t ∷ ts) = dotted k ts

-- these tokens don't matter to it
abbrev Passes : List Token → Type 0
Passes ts = (k : ℕ) (us : List Token) → dotted k (ts ++ us) ≡ dotted k us

pass_both : (xs ys : List Token) → Passes xs → Passes ys → Passes (xs ++ ys)
pass_both xs ys p q k us = ap (λ (w : List Token). dotted k w) (append_assoc xs ys us) ∙ p k (ys ++ us) ∙ q k us

pass_parens : (ts : List Token) → Passes ts → Passes (in_parens ts)
pass_parens ts p k us = ap (λ (w : List Token). dotted (suc k) w) (closing ts us (Symbol sign.CloseParen)) ∙ p (suc k) (Symbol sign.CloseParen ∷ us)

pass_operator : (op : Operator) (ts : List Token) → Passes ts → Passes (token_of op ∷ ts)
pass_operator operator.Or ts p k us = p k us
pass_operator operator.And ts p k us = p k us
pass_operator operator.Equal ts p k us = p k us
pass_operator operator.NotEqual ts p k us = p k us
pass_operator operator.Less ts p k us = p k us
pass_operator operator.LessEqual ts p k us = p k us
pass_operator operator.Greater ts p k us = p k us
pass_operator operator.GreaterEqual ts p k us = p k us
pass_operator operator.Add ts p k us = p k us
pass_operator operator.Subtract ts p k us = p k us
pass_operator operator.Multiply ts p k us = p k us

mutual
  passes : (e : Expr) → Passes (spelling e)
  passes expr.Null k us = refl
  passes (expr.Boolean b) k us = refl
  passes (expr.Number n) k us = refl
  passes (expr.Text bytes) k us = refl
  passes (expr.Name name) k us = refl
  passes (expr.Group e) k us = pass_parens (spelling e) (passes e) k us
  passes (expr.Members none) k us = refl
  passes (expr.Members (more e es)) k us =
      ap (λ (w : List Token). dotted (suc k) w) (append_assoc (spelling e) (others es ++ Symbol sign.CloseBracket ∷ []) us)
      ∙ passes e (suc k) ((others es ++ Symbol sign.CloseBracket ∷ []) ++ us)
      ∙ ap (λ (w : List Token). dotted (suc k) w) (closing (others es) us (Symbol sign.CloseBracket))
      ∙ all_pass es (suc k) (Symbol sign.CloseBracket ∷ us)
  passes (expr.Call f e) k us = pass_parens (spelling e) (passes e) k us
  passes (expr.Modulo a b) k us =
      pass_parens (spelling a ++ Symbol sign.Comma ∷ spelling b) (pass_both (spelling a) (Symbol sign.Comma ∷ spelling b) (passes a) (passes b)) k us
  passes (expr.Not e) k us = pass_parens (spelling e) (passes e) k us
  passes (expr.Negate e) k us = passes e k us
  passes (expr.Path e name) k us = pass_both (spelling e) (Symbol sign.Dot ∷ Name name ∷ []) (passes e) (λ n ws. refl) k us
  passes (expr.Binary op a b) k us = pass_both (spelling a) (token_of op ∷ spelling b) (passes a) (pass_operator op (spelling b) (passes b)) k us
  passes (expr.Between e low high) k us =
      pass_both (spelling e) (Keyword word.Between ∷ (spelling low ++ Keyword word.And ∷ spelling high)) (passes e) (pass_both (spelling low) (Keyword word.And ∷ spelling high) (passes low) (passes high)) k us
  passes (expr.If test a b) k us =
      pass_both (spelling test) (Keyword word.Then ∷ (spelling a ++ Keyword word.Else ∷ spelling b)) (passes test) (pass_both (spelling a) (Keyword word.Else ∷ spelling b) (passes a) (passes b)) k us

  all_pass : (es : Exprs) → Passes (others es)
  all_pass none k us = refl
  all_pass (more e es) k us = pass_both (spelling e) (others es) (passes e) (all_pass es) k us

-- whether the tokens begin as an interval does: with a `]`, or with a bracket in which a `..` comes
abbrev begins_interval : List Token → Bool
begins_interval (Symbol sign.OpenParen ∷ ts) = dotted 0 ts
begins_interval (Symbol sign.OpenBracket ∷ ts) = dotted 0 ts
begins_interval (Symbol sign.CloseBracket ∷ ts) = true
begins_interval ts = false

-- so does no expression, by its leftmost part
abbrev Never : List Token → Type 0
Never ts = (us : List Token) → begins_interval (ts ++ us) ≡ false

never_more : (xs ys : List Token) → Never xs → Never (xs ++ ys)
never_more xs ys h us = ap begins_interval (append_assoc xs ys us) ∙ h (ys ++ us)

never : (e : Expr) → Never (spelling e)
never expr.Null us = refl
never (expr.Boolean b) us = refl
never (expr.Number n) us = refl
never (expr.Text bytes) us = refl
never (expr.Name name) us = refl
never (expr.Group e) us = ap (λ (w : List Token). dotted 0 w) (closing (spelling e) us (Symbol sign.CloseParen)) ∙ passes e 0 (Symbol sign.CloseParen ∷ us)
never (expr.Members none) us = refl
never (expr.Members (more e es)) us =
    ap (λ (w : List Token). dotted 0 w) (append_assoc (spelling e) (others es ++ Symbol sign.CloseBracket ∷ []) us)
    ∙ passes e 0 ((others es ++ Symbol sign.CloseBracket ∷ []) ++ us)
    ∙ ap (λ (w : List Token). dotted 0 w) (closing (others es) us (Symbol sign.CloseBracket))
    ∙ all_pass es 0 (Symbol sign.CloseBracket ∷ us)
never (expr.Call f e) us = refl
never (expr.Modulo a b) us = refl
never (expr.Not e) us = refl
never (expr.Negate e) us = refl
never (expr.Path e name) us = never_more (spelling e) (Symbol sign.Dot ∷ Name name ∷ []) (never e) us
never (expr.Binary op a b) us = never_more (spelling a) (token_of op ∷ spelling b) (never a) us
never (expr.Between e low high) us = never_more (spelling e) (Keyword word.Between ∷ (spelling low ++ Keyword word.And ∷ spelling high)) (never e) us
never (expr.If test a b) us = refl

unread : (ts : List Token) (r : Read) → IfSome r (IsRead 64 line.Whole ts) → begins_interval ts ≡ true → r ≡ None
unread ts None h b = refl
unread ts (Some x) h b =
    let f : ◌≡◌ {A = Bool} true false = sym b ∙ ap begins_interval h.text ∙ never x.0 x.2 in
    absurd cc

interval_begins : (s : Sign) (closed : Bool) (e : Expr) (us : List Token) → Opens s closed → begins_interval (Symbol s ∷ (spelling e ++ Symbol sign.DotDot ∷ us)) ≡ true
interval_begins s closed e us closed_low = passes e 0 (Symbol sign.DotDot ∷ us)
interval_begins s closed e us open_low = passes e 0 (Symbol sign.DotDot ∷ us)
interval_begins s closed e us turned_low = refl

-- Where an interval begins, no expression is read.
pub interval_unread : (s : Sign) (closed : Bool) (e : Expr) (us : List Token) → Opens s closed → read_at 64 line.Whole (Symbol s ∷ (spelling e ++ Symbol sign.DotDot ∷ us)) ≡ None
interval_unread s closed e us o =
    unread (Symbol s ∷ (spelling e ++ Symbol sign.DotDot ∷ us)) (read_at 64 line.Whole (Symbol s ∷ (spelling e ++ Symbol sign.DotDot ∷ us)))
    (read_sound 64 line.Whole (Symbol s ∷ (spelling e ++ Symbol sign.DotDot ∷ us))) (interval_begins s closed e us o)
