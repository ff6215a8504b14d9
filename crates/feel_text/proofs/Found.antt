-- What is read is spelled by the tokens that it took.
use Rattle.std.proofs.Common.{◌≡◌, ◌≤◌, ◌+◌, ℕ, zero, suc, max, Bool, true, false, List, [], ◌∷◌, ◌++◌, length, Option, Some, None, refl, sym, ap, subst, ◌∙◌, append_assoc, arith}
use Rattle.std.specs.Prelude.{codes, IfSome, nat_le, bytes_eq, if◌then◌else◌}
use Rattle.std.proofs.lemmas.Bool.{leb-true}
use Rattle.feel_text.specs.declared.token.Word.TheVariants as word
use Rattle.feel_text.specs.declared.token.Sign.TheVariants as sign
use Rattle.feel_text.specs.declared.expr.Operator.{Operator}
use Rattle.feel_text.specs.declared.expr.Operator.TheVariants as operator
use Rattle.feel_text.specs.declared.expr.Function.{Function}
use Rattle.feel_text.specs.Token.{Token, Number, Text, Name, Keyword, Symbol}
use Rattle.feel_text.specs.Expr as expr
use Rattle.feel_text.specs.Expr.{Expr, Exprs, none, more, depth, deepest}
use Rattle.feel_text.specs.declared.line.Line.{Line}
use Rattle.feel_text.specs.declared.line.Line.TheVariants as line
use Rattle.feel_text.specs.Grammar.{rank, line_of, left_of, token_of, name_of, tighter}
use Rattle.feel_text.specs.Reading.{Reader, choose, operator_at, function_of, after_open, after_close, after_comma, after_then, after_else, after_and, closed_at, members_at, listed_at, list_at, modulo_at, call_at, named_at, negated_at, group_at, primary_at, paths_at, path_at, negation_at, steps_at, chain_at, between_at, compared_by, compared_at, comparison_at, conditional_at, whole_at, line_at, read_at, product_at, sum_at, compare_at, conjunction_at, disjunction_at}
use Rattle.feel_value.specs.Found.{◌>>=◌}
use Rattle.feel_text.proofs.Spelling.{spelling, others, home, Parts, AllParts, Stands}
use Rattle.std.proofs.lemmas.Slice.Eq.{bytes_eq-Decides}
use Rattle.std.proofs.lemmas.Option.{IfSome_then}

pub if_bind : {A B : Type 0} (o : Option A) (f : A → Option B) (P : A → Type 0) (Q : B → Type 0) → IfSome o P → ((x : A) → P x → IfSome (f x) Q) → IfSome (o >>= f) Q
if_bind (Some x) f P Q h g = g x h
if_bind None f P Q h g = tt

pub if_chosen : {A B : Type 0} (o : Option A) (b : Option B) (f : A → Option B) (P : A → Type 0) (Q : B → Type 0) → IfSome o P → IfSome b Q → ((x : A) → P x → IfSome (f x) Q) → IfSome (choose o b f) Q
if_chosen (Some x) b f P Q h k g = g x h
if_chosen None b f P Q h k g = k

pub if_test : {B : Type 0} (b : Bool) (o : Option B) (Q : B → Type 0) → (b ≡ true → IfSome o Q) → IfSome (if b then o else None) Q
if_test true o Q h = h refl
if_test false o Q h = tt

-- what was read from ts on a line: the tokens that it took, and its depth
pub record IsRead (n : ℕ) (l : Line) (ts : List Token) (x : Expr × ℕ × List Token) : Type 0 where
  pub text : ts ≡ spelling x.0 ++ x.2
  pub stands : Stands l x.0
  pub deep : x.1 ≡ depth x.0
  pub within : x.1 ≤ n

abbrev pub Sound : ℕ → (Line → Reader) → Type 0
Sound n inner = (l : Line) (ts : List Token) → IfSome (inner l ts) (IsRead n l ts)

-- the same with a parenthesis after it
pub record IsClosed (n : ℕ) (ts : List Token) (x : Expr × ℕ × List Token) : Type 0 where
  pub text : ts ≡ spelling x.0 ++ Symbol sign.CloseParen ∷ x.2
  pub parts : Parts x.0
  pub deep : x.1 ≡ depth x.0
  pub within : x.1 ≤ n

after_close_is : (ts : List Token) → IfSome (after_close ts) (λ us. ts ≡ Symbol sign.CloseParen ∷ us)
after_close_is (Symbol sign.CloseParen ∷ ts) = refl
after_close_is ts = tt

closed_sound : (n : ℕ) (inner : Line → Reader) → Sound n inner → (ts : List Token) → IfSome (closed_at inner ts) (IsClosed n ts)
unfolding closed_at
closed_sound n inner h ts =
    if_bind (inner line.Whole ts) _ (IsRead n line.Whole ts) (IsClosed n ts) (h line.Whole ts) (λ x p.
    if_bind (after_close x.2) _ (λ us. x.2 ≡ Symbol sign.CloseParen ∷ us) (IsClosed n ts) (after_close_is x.2) (λ us q.
    record { text = p.text ∙ ap (λ (w : List Token). spelling x.0 ++ w) q; parts = p.stands.parts; deep = p.deep; within = p.within }))

-- what was read from ts beyond a depth of n, whatever the line
abbrev Whole : ℕ → List Token → Expr × ℕ × List Token → Type 0
Whole n ts x = IsRead n line.Whole ts x

whole : (n : ℕ) (ts : List Token) (x : Expr × ℕ × List Token) → ts ≡ spelling x.0 ++ x.2 → Parts x.0 → x.1 ≡ depth x.0 → x.1 ≤ n → IsRead n line.Whole ts x
whole n ts x t p d w = record { text = t; stands = record { within = omega arith; parts = p }; deep = d; within = w }

-- the tokens of parentheses, with what comes after them
pub closing : (s rest : List Token) (t : Token) → (s ++ t ∷ []) ++ rest ≡ s ++ t ∷ rest
closing s rest t = append_assoc s (t ∷ []) rest

group_sound : (n : ℕ) (inner : Line → Reader) → Sound n inner → (ts : List Token) → IfSome (group_at inner ts) (IsRead (suc n) line.Primary (Symbol sign.OpenParen ∷ ts))
unfolding group_at
group_sound n inner h ts =
    if_bind (closed_at inner ts) _ (IsClosed n ts) _ (closed_sound n inner h ts) (λ x p. record {
      text = ap (λ (w : List Token). Symbol sign.OpenParen ∷ w) (p.text ∙ sym (closing (spelling x.0) x.2 (Symbol sign.CloseParen)));
      stands = record { within = omega arith; parts = p.parts };
      deep = ap (λ (k : ℕ). 1 + k) p.deep;
      within = let w = p.within in omega arith;
    })

call_sound : (n : ℕ) (inner : Line → Reader) → Sound n inner → (f : Function) (ts : List Token) → IfSome (call_at (Some f) inner ts) (IsRead (suc n) line.Primary (Name (name_of f) ∷ Symbol sign.OpenParen ∷ ts))
unfolding call_at
call_sound n inner h f ts =
    if_bind (closed_at inner ts) _ (IsClosed n ts) _ (closed_sound n inner h ts) (λ x p. record {
      text = ap (λ (w : List Token). Name (name_of f) ∷ Symbol sign.OpenParen ∷ w) (p.text ∙ sym (closing (spelling x.0) x.2 (Symbol sign.CloseParen)));
      stands = record { within = omega arith; parts = p.parts };
      deep = ap (λ (k : ℕ). 1 + k) p.deep;
      within = let w = p.within in omega arith;
    })

after_comma_is : (ts : List Token) → IfSome (after_comma ts) (λ us. ts ≡ Symbol sign.Comma ∷ us)
after_comma_is (Symbol sign.Comma ∷ ts) = refl
after_comma_is ts = tt

after_open_is : (ts : List Token) → IfSome (after_open ts) (λ us. ts ≡ Symbol sign.OpenParen ∷ us)
after_open_is (Symbol sign.OpenParen ∷ ts) = refl
after_open_is ts = tt

after_then_is : (ts : List Token) → IfSome (after_then ts) (λ us. ts ≡ Keyword word.Then ∷ us)
after_then_is (Keyword word.Then ∷ ts) = refl
after_then_is ts = tt

after_else_is : (ts : List Token) → IfSome (after_else ts) (λ us. ts ≡ Keyword word.Else ∷ us)
after_else_is (Keyword word.Else ∷ ts) = refl
after_else_is ts = tt

after_and_is : (ts : List Token) → IfSome (after_and ts) (λ us. ts ≡ Keyword word.And ∷ us)
after_and_is (Keyword word.And ∷ ts) = refl
after_and_is ts = tt

-- ---- calls

modulo_sound : (n : ℕ) (inner : Line → Reader) → Sound n inner → (ts : List Token) → IfSome (modulo_at inner ts) (IsRead (suc n) line.Primary (Name (codes "modulo") ∷ Symbol sign.OpenParen ∷ ts))
unfolding modulo_at
modulo_sound n inner h ts =
    if_bind (inner line.Whole ts) _ (IsRead n line.Whole ts) _ (h line.Whole ts) (λ a p.
    if_bind (after_comma a.2) _ (λ us. a.2 ≡ Symbol sign.Comma ∷ us) _ (after_comma_is a.2) (λ us q.
    if_bind (closed_at inner us) _ (IsClosed n us) _ (closed_sound n inner h us) (λ b r. record {
      text = ap (λ (w : List Token). Name (codes "modulo") ∷ Symbol sign.OpenParen ∷ w)
          (p.text ∙ ap (λ (w : List Token). spelling a.0 ++ w) (q ∙ ap (λ (w : List Token). Symbol sign.Comma ∷ w) r.text)
          ∙ sym (append_assoc (spelling a.0) (Symbol sign.Comma ∷ spelling b.0) (Symbol sign.CloseParen ∷ b.2))
          ∙ sym (closing (spelling a.0 ++ Symbol sign.Comma ∷ spelling b.0) b.2 (Symbol sign.CloseParen)));
      stands = record { within = omega arith; parts = (p.stands.parts, r.parts) };
      deep = let e = p.deep in let f = r.deep in cc;
      within = let w = p.within in let v = r.within in omega arith;
    })))

negated_sound : (n : ℕ) (inner : Line → Reader) → Sound n inner → (ts : List Token) → IfSome (negated_at inner ts) (IsRead (suc n) line.Primary (Keyword word.Not ∷ ts))
unfolding negated_at
negated_sound n inner h ts =
    if_bind (after_open ts) _ (λ us. ts ≡ Symbol sign.OpenParen ∷ us) _ (after_open_is ts) (λ us q.
    if_bind (closed_at inner us) _ (IsClosed n us) _ (closed_sound n inner h us) (λ x p. record {
      text = ap (λ (w : List Token). Keyword word.Not ∷ w) (q ∙ ap (λ (w : List Token). Symbol sign.OpenParen ∷ w) (p.text ∙ sym (closing (spelling x.0) x.2 (Symbol sign.CloseParen))));
      stands = record { within = omega arith; parts = p.parts };
      deep = ap (λ (k : ℕ). 1 + k) p.deep;
      within = let w = p.within in omega arith;
    }))

call_any : (n : ℕ) (inner : Line → Reader) → Sound n inner → (name : List ℕ) (o : Option Function) (ts : List Token) → IfSome o (λ f. name ≡ name_of f) → IfSome (call_at o inner ts) (IsRead (suc n) line.Primary (Name name ∷ Symbol sign.OpenParen ∷ ts))
unfolding call_at
call_any n inner h name None ts e = tt
call_any n inner h name (Some f) ts e = subst (λ (w : List ℕ). IfSome (call_at (Some f) inner ts) (IsRead (suc n) line.Primary (Name w ∷ Symbol sign.OpenParen ∷ ts))) (sym e) (call_sound n inner h f ts)

-- ---- lists

-- further members, and the bracket after them
record IsMore (n : ℕ) (ts : List Token) (x : Exprs × ℕ × List Token) : Type 0 where
  pub text : ts ≡ others x.0 ++ Symbol sign.CloseBracket ∷ x.2
  pub parts : AllParts x.0
  pub deep : x.1 ≡ deepest x.0
  pub within : x.1 ≤ n

members_sound : (k n : ℕ) (inner : Line → Reader) → Sound n inner → (ts : List Token) → IfSome (members_at k inner ts) (IsMore n ts)
unfolding members_at
members_sound zero n inner h ts = tt
members_sound (suc k) n inner h (Symbol sign.CloseBracket ∷ ts) = record { text = refl; parts = tt; deep = refl; within = omega arith }
members_sound (suc k) n inner h (Symbol sign.Comma ∷ ts) =
    if_bind (inner line.Whole ts) _ (IsRead n line.Whole ts) _ (h line.Whole ts) (λ x p.
    if_bind (members_at k inner x.2) _ (IsMore n x.2) _ (members_sound k n inner h x.2) (λ xs q. record {
      text = ap (λ (w : List Token). Symbol sign.Comma ∷ w)
          (p.text ∙ ap (λ (w : List Token). spelling x.0 ++ w) q.text ∙ sym (append_assoc (spelling x.0) (others xs.0) (Symbol sign.CloseBracket ∷ xs.2)));
      parts = (p.stands.parts, q.parts);
      deep = let e = p.deep in let f = q.deep in cc;
      within = let w = p.within in let v = q.within in omega arith;
    }))
members_sound (suc k) n inner h ts = tt

first_member : (n : ℕ) (inner : Line → Reader) → Sound n inner → (ts : List Token)
    → IfSome (listed_at inner ts) (IsRead (suc n) line.Primary (Symbol sign.OpenBracket ∷ ts))
unfolding listed_at
first_member n inner h ts =
    if_bind (inner line.Whole ts) _ (IsRead n line.Whole ts) _ (h line.Whole ts) (λ x p.
    if_bind (members_at (length x.2) inner x.2) _ (IsMore n x.2) _ (members_sound (length x.2) n inner h x.2) (λ xs q. record {
      text = ap (λ (w : List Token). Symbol sign.OpenBracket ∷ w)
          (p.text ∙ ap (λ (w : List Token). spelling x.0 ++ w) (q.text ∙ sym (closing (others xs.0) xs.2 (Symbol sign.CloseBracket)))
          ∙ sym (append_assoc (spelling x.0) (others xs.0 ++ Symbol sign.CloseBracket ∷ []) xs.2));
      stands = record { within = omega arith; parts = (p.stands.parts, q.parts) };
      deep = let e = p.deep in let f = q.deep in cc;
      within = let w = p.within in let v = q.within in omega arith;
    }))

list_sound : (n : ℕ) (inner : Line → Reader) → Sound n inner → (ts : List Token) → IfSome (list_at inner ts) (IsRead (suc n) line.Primary (Symbol sign.OpenBracket ∷ ts))
unfolding list_at
list_sound n inner h (Symbol sign.CloseBracket ∷ ts) = record { text = refl; stands = record { within = omega arith; parts = tt }; deep = refl; within = omega arith }
list_sound n inner h ts = first_member n inner h ts

-- ---- names and primaries

if_else : {B : Type 0} (b : Bool) (o r : Option B) (Q : B → Type 0) → (b ≡ true → IfSome o Q) → IfSome r Q → IfSome (if b then o else r) Q
if_else true o r Q h k = h refl
if_else false o r Q h k = k

function_is : (name : List ℕ) → IfSome (function_of name) (λ f. name ≡ name_of f)
function_is name =
    if_else (bytes_eq name (codes "abs")) _ _ _ ((bytes_eq-Decides name (codes "abs")).0) (
    if_else (bytes_eq name (codes "sum")) _ _ _ ((bytes_eq-Decides name (codes "sum")).0) (
    if_else (bytes_eq name (codes "min")) _ _ _ ((bytes_eq-Decides name (codes "min")).0) (
    if_else (bytes_eq name (codes "max")) _ _ _ ((bytes_eq-Decides name (codes "max")).0) (
    if_else (bytes_eq name (codes "count")) _ _ _ ((bytes_eq-Decides name (codes "count")).0) tt))))

-- a primary that is one token
abbrev Leaf : Expr → Type 0
Leaf e = (home e ≡ line.Primary) × Parts e × (depth e ≡ 1)

leaf : (n : ℕ) (e : Expr) (ts rest : List Token) → ts ≡ spelling e ++ rest → Leaf e → IsRead (suc n) line.Primary ts (e, 1, rest)
leaf n e ts rest t f = record {
  text = t;
  stands = record { within = rw f.0 (omega arith); parts = f.1 };
  deep = sym f.2;
  within = omega arith;
}

called : (n : ℕ) (inner : Line → Reader) → Sound n inner → (name : List ℕ) (ts : List Token)
    → IfSome (if bytes_eq name (codes "modulo") then modulo_at inner ts else call_at (function_of name) inner ts) (IsRead (suc n) line.Primary (Name name ∷ Symbol sign.OpenParen ∷ ts))
called n inner h name ts =
    if_else (bytes_eq name (codes "modulo")) _ _ _
    (λ e. subst (λ (w : List ℕ). IfSome (modulo_at inner ts) (IsRead (suc n) line.Primary (Name w ∷ Symbol sign.OpenParen ∷ ts))) (sym ((bytes_eq-Decides name (codes "modulo")).0 e)) (modulo_sound n inner h ts))
    (call_any n inner h name (function_of name) ts (function_is name))

named_sound : (n : ℕ) (inner : Line → Reader) → Sound n inner → (name : List ℕ) (ts : List Token) → IfSome (named_at name inner ts) (IsRead (suc n) line.Primary (Name name ∷ ts))
unfolding named_at
named_sound n inner h name (Symbol sign.OpenParen ∷ ts) = called n inner h name ts
named_sound n inner h name ts = leaf n (expr.Name name) (Name name ∷ ts) ts refl (refl, tt, refl)

primary_sound : (n : ℕ) (inner : Line → Reader) → Sound n inner → (ts : List Token) → IfSome (primary_at inner ts) (IsRead (suc n) line.Primary ts)
unfolding primary_at
primary_sound n inner h (Number k ∷ ts) = leaf n (expr.Number k) (Number k ∷ ts) ts refl (refl, tt, refl)
primary_sound n inner h (Text bytes ∷ ts) = leaf n (expr.Text bytes) (Text bytes ∷ ts) ts refl (refl, tt, refl)
primary_sound n inner h (Name name ∷ ts) = named_sound n inner h name ts
primary_sound n inner h (Keyword word.Null ∷ ts) = leaf n expr.Null (Keyword word.Null ∷ ts) ts refl (refl, tt, refl)
primary_sound n inner h (Keyword word.True ∷ ts) = leaf n (expr.Boolean true) (Keyword word.True ∷ ts) ts refl (refl, tt, refl)
primary_sound n inner h (Keyword word.False ∷ ts) = leaf n (expr.Boolean false) (Keyword word.False ∷ ts) ts refl (refl, tt, refl)
primary_sound n inner h (Keyword word.Not ∷ ts) = negated_sound n inner h ts
primary_sound n inner h (Symbol sign.OpenParen ∷ ts) = group_sound n inner h ts
primary_sound n inner h (Symbol sign.OpenBracket ∷ ts) = list_sound n inner h ts
primary_sound n inner h ts = tt

-- ---- paths and negations

looser : (n : ℕ) (l k : Line) (ts : List Token) (x : Expr × ℕ × List Token) → rank l ≤ rank k → IsRead n k ts x → IsRead n l ts x
looser n l k ts x le p = record {
  text = p.text;
  stands = record { within = let w = p.stands.within in omega arith; parts = p.stands.parts };
  deep = p.deep;
  within = p.within;
}

paths_sound : (k n : ℕ) (us : List Token) (e : Expr) (d : ℕ) (ts : List Token) → IsRead (suc n) line.Path us (e, d, ts) → IfSome (paths_at k n e d ts) (IsRead (suc n) line.Path us)
unfolding paths_at
paths_sound zero n us e d ts p = tt
paths_sound (suc k) n us e d (Symbol sign.Dot ∷ Name name ∷ ts) p =
    if_test (nat_le d n) _ _ (λ le. paths_sound k n us (expr.Path e name) (1 + d) ts (record {
      text = p.text ∙ sym (append_assoc (spelling e) (Symbol sign.Dot ∷ Name name ∷ []) ts);
      stands = record { within = omega arith; parts = (p.stands.within, p.stands.parts) };
      deep = ap (λ (j : ℕ). 1 + j) p.deep;
      within = let w = leb-true d n le in omega arith;
    }))
paths_sound (suc k) n us e d (Symbol sign.Dot ∷ ts) p = tt
paths_sound (suc k) n us e d ts p = p

path_sound : (n : ℕ) (inner : Line → Reader) → Sound n inner → (ts : List Token) → IfSome (path_at inner n ts) (IsRead (suc n) line.Path ts)
unfolding path_at
path_sound n inner h ts =
    if_bind (primary_at inner ts) _ (IsRead (suc n) line.Primary ts) _ (primary_sound n inner h ts) (λ x p.
    paths_sound (suc n) n ts x.0 x.1 x.2 (looser (suc n) line.Path line.Primary ts x (omega arith) p))

path_up : (n : ℕ) (inner : Line → Reader) → Sound n inner → (ts : List Token) → IfSome (path_at inner n ts) (IsRead (suc n) line.Negation ts)
path_up n inner h ts = IfSome_then (path_at inner n ts) (path_sound n inner h ts) (λ x p. looser (suc n) line.Negation line.Path ts x (omega arith) p)

negation_sound : (n : ℕ) (inner : Line → Reader) → Sound n inner → (ts : List Token) → IfSome (negation_at inner n ts) (IsRead (suc n) line.Negation ts)
unfolding negation_at
negation_sound n inner h (Symbol sign.Minus ∷ ts) =
    if_bind (inner line.Negation ts) _ (IsRead n line.Negation ts) _ (h line.Negation ts) (λ x p. record {
      text = ap (λ (w : List Token). Symbol sign.Minus ∷ w) p.text;
      stands = record { within = omega arith; parts = (p.stands.within, p.stands.parts) };
      deep = ap (λ (j : ℕ). 1 + j) p.deep;
      within = let w = p.within in omega arith;
    })
negation_sound n inner h ts = path_up n inner h ts

-- ---- chains

-- what a token is, where it is an operator of a line
abbrev IsOperator : Line → Token → Operator → Type 0
IsOperator l t op = (t ≡ token_of op) × (line_of op ≡ l)

operator_is : (l : Line) (t : Token) → IfSome (operator_at l t) (IsOperator l t)
operator_is line.Disjunction (Keyword word.Or) = (refl, refl)
operator_is line.Conjunction (Keyword word.And) = (refl, refl)
operator_is line.Comparison (Symbol sign.Equal) = (refl, refl)
operator_is line.Comparison (Symbol sign.NotEqual) = (refl, refl)
operator_is line.Comparison (Symbol sign.Less) = (refl, refl)
operator_is line.Comparison (Symbol sign.LessEqual) = (refl, refl)
operator_is line.Comparison (Symbol sign.Greater) = (refl, refl)
operator_is line.Comparison (Symbol sign.GreaterEqual) = (refl, refl)
operator_is line.Sum (Symbol sign.Plus) = (refl, refl)
operator_is line.Sum (Symbol sign.Minus) = (refl, refl)
operator_is line.Product (Symbol sign.Star) = (refl, refl)
operator_is l t = tt

-- a line whose steps group to the left
abbrev pub IsChain : Line → Type 0
IsChain l = (op : Operator) → line_of op ≡ l → left_of op ≡ l

step_read : (n : ℕ) (l : Line) (us : List Token) (e : Expr) (d : ℕ) (t : Token) (ts : List Token) (op : Operator) (x : Expr × ℕ × List Token)
    → left_of op ≡ l → IsOperator l t op → IsRead (suc n) l us (e, d, t ∷ ts) → d ≤ n → IsRead n (tighter l) ts x
    → IsRead (suc n) l us (expr.Binary op e x.0, 1 + max d x.1, x.2)
step_read n l us e d t ts op x chain is p le q =
    record {
      text = p.text ∙ ap (λ (w : List Token). spelling e ++ w) (ap (λ (v : Token). v ∷ ts) is.0 ∙ ap (λ (w : List Token). token_of op ∷ w) q.text)
          ∙ sym (append_assoc (spelling e) (token_of op ∷ spelling x.0) x.2);
      stands = record {
        within = rw is.1 (omega arith);
        parts = (rw chain p.stands.within, p.stands.parts, rw is.1 q.stands.within, q.stands.parts);
      };
      deep = let a = p.deep in let b = q.deep in cc;
      within = let w = q.within in omega arith;
    }

steps_sound : (k n : ℕ) (inner : Line → Reader) → Sound n inner → (l : Line) → IsChain l → (us : List Token) (e : Expr) (d : ℕ) (ts : List Token)
    → IsRead (suc n) l us (e, d, ts) → IfSome (steps_at k inner n l e d ts) (IsRead (suc n) l us)
unfolding steps_at
steps_sound zero n inner h l chain us e d ts p = tt
steps_sound (suc k) n inner h l chain us e d [] p = p
steps_sound (suc k) n inner h l chain us e d (t ∷ ts) p =
    if_chosen (operator_at l t) _ _ (IsOperator l t) _ (operator_is l t) p (λ op is.
    if_test (nat_le d n) _ _ (λ le.
    if_bind (inner (tighter l) ts) _ (IsRead n (tighter l) ts) _ (h (tighter l) ts) (λ x q.
    steps_sound k n inner h l chain us (expr.Binary op e x.0) (1 + max d x.1) x.2
    (step_read n l us e d t ts op x (chain op is.1) is p (leb-true d n le) q))))

chain_sound : (n : ℕ) (inner : Line → Reader) → Sound n inner → (l : Line) → IsChain l → rank l ≤ rank (tighter l)
    → (first : Reader) → ((ts : List Token) → IfSome (first ts) (IsRead (suc n) (tighter l) ts)) → (ts : List Token) → IfSome (chain_at first inner n l ts) (IsRead (suc n) l ts)
unfolding chain_at
chain_sound n inner h l chain le first f ts =
    if_bind (first ts) _ (IsRead (suc n) (tighter l) ts) _ (f ts) (λ x p.
    steps_sound (suc n) n inner h l chain ts x.0 x.1 x.2 (looser (suc n) l (tighter l) ts x le p))

chain_disjunction : IsChain line.Disjunction
chain_disjunction operator.Or e = refl
chain_disjunction op e = absurd cc

chain_conjunction : IsChain line.Conjunction
chain_conjunction operator.And e = refl
chain_conjunction op e = absurd cc

chain_sum : IsChain line.Sum
chain_sum operator.Add e = refl
chain_sum operator.Subtract e = refl
chain_sum op e = absurd cc

chain_product : IsChain line.Product
chain_product operator.Multiply e = refl
chain_product op e = absurd cc

pub chains : IsChain line.Disjunction × IsChain line.Conjunction × IsChain line.Sum × IsChain line.Product
chains = (chain_disjunction, chain_conjunction, chain_sum, chain_product)

-- ---- comparisons and conditionals

pub comparison_left : (op : Operator) → line_of op ≡ line.Comparison → left_of op ≡ line.Sum
comparison_left operator.Or e = absurd cc
comparison_left operator.And e = absurd cc
comparison_left operator.Equal e = refl
comparison_left operator.NotEqual e = refl
comparison_left operator.Less e = refl
comparison_left operator.LessEqual e = refl
comparison_left operator.Greater e = refl
comparison_left operator.GreaterEqual e = refl
comparison_left operator.Add e = refl
comparison_left operator.Subtract e = refl
comparison_left operator.Multiply e = absurd cc

between_sound : (n : ℕ) (inner : Line → Reader) → Sound n inner → (us : List Token) (e : Expr) (d : ℕ) (ts : List Token)
    → IsRead (suc n) line.Sum us (e, d, Keyword word.Between ∷ ts) → IfSome (between_at inner n e d ts) (IsRead (suc n) line.Comparison us)
unfolding between_at
between_sound n inner h us e d ts p =
    if_test (nat_le d n) _ _ (λ le.
    if_bind (inner line.Sum ts) _ (IsRead n line.Sum ts) _ (h line.Sum ts) (λ a q.
    if_bind (after_and a.2) _ (λ vs. a.2 ≡ Keyword word.And ∷ vs) _ (after_and_is a.2) (λ vs r.
    if_bind (inner line.Sum vs) _ (IsRead n line.Sum vs) _ (h line.Sum vs) (λ b s. record {
      text = p.text ∙ ap (λ (w : List Token). spelling e ++ Keyword word.Between ∷ w)
          (q.text ∙ ap (λ (w : List Token). spelling a.0 ++ w) (r ∙ ap (λ (w : List Token). Keyword word.And ∷ w) s.text)
          ∙ sym (append_assoc (spelling a.0) (Keyword word.And ∷ spelling b.0) b.2))
          ∙ sym (append_assoc (spelling e) (Keyword word.Between ∷ (spelling a.0 ++ Keyword word.And ∷ spelling b.0)) b.2);
      stands = record {
        within = omega arith;
        parts = (p.stands.within, p.stands.parts, q.stands.within, q.stands.parts, s.stands.within, s.stands.parts);
      };
      deep = let f = p.deep in let g = q.deep in let k = s.deep in cc;
      within = let w = q.within in let v = s.within in let u = leb-true d n le in omega arith;
    }))))

compared_sound : (n : ℕ) (inner : Line → Reader) → Sound n inner → (us : List Token) (e : Expr) (d : ℕ) (t : Token) (ts : List Token) (op : Operator)
    → IsOperator line.Comparison t op → IsRead (suc n) line.Sum us (e, d, t ∷ ts) → IfSome (compared_by op inner n e d ts) (IsRead (suc n) line.Comparison us)
unfolding compared_by
compared_sound n inner h us e d t ts op is p =
    if_test (nat_le d n) _ _ (λ le.
    if_bind (inner line.Sum ts) _ (IsRead n line.Sum ts) _ (h line.Sum ts) (λ x q. record {
      text = p.text ∙ ap (λ (w : List Token). spelling e ++ w) (ap (λ (v : Token). v ∷ ts) is.0 ∙ ap (λ (w : List Token). token_of op ∷ w) q.text)
          ∙ sym (append_assoc (spelling e) (token_of op ∷ spelling x.0) x.2);
      stands = record {
        within = rw is.1 (omega arith);
        parts = (rw (comparison_left op is.1) p.stands.within, p.stands.parts, rw is.1 q.stands.within, q.stands.parts);
      };
      deep = let a = p.deep in let b = q.deep in cc;
      within = let w = q.within in let u = leb-true d n le in omega arith;
    }))

compare_any : (n : ℕ) (inner : Line → Reader) → Sound n inner → (us : List Token) (e : Expr) (d : ℕ) (t : Token) (ts : List Token)
    → IsRead (suc n) line.Sum us (e, d, t ∷ ts)
    → IfSome (choose (operator_at line.Comparison t) (Some (e, d, t ∷ ts)) (λ op. compared_by op inner n e d ts)) (IsRead (suc n) line.Comparison us)
compare_any n inner h us e d t ts p =
    if_chosen (operator_at line.Comparison t) _ _ (IsOperator line.Comparison t) _ (operator_is line.Comparison t)
    (looser (suc n) line.Comparison line.Sum us (e, d, t ∷ ts) (omega arith) p)
    (λ op is. compared_sound n inner h us e d t ts op is p)

compares_sound : (n : ℕ) (inner : Line → Reader) → Sound n inner → (us : List Token) (e : Expr) (d : ℕ) (ts : List Token)
    → IsRead (suc n) line.Sum us (e, d, ts) → IfSome (compared_at inner n e d ts) (IsRead (suc n) line.Comparison us)
unfolding compared_at
compares_sound n inner h us e d (Keyword word.Between ∷ ts) p = between_sound n inner h us e d ts p
compares_sound n inner h us e d (t ∷ ts) p = compare_any n inner h us e d t ts p
compares_sound n inner h us e d [] p = looser (suc n) line.Comparison line.Sum us (e, d, []) (omega arith) p

comparison_sound : (n : ℕ) (inner : Line → Reader) → Sound n inner → (first : Reader) → ((ts : List Token) → IfSome (first ts) (IsRead (suc n) line.Sum ts))
    → (ts : List Token) → IfSome (comparison_at first inner n ts) (IsRead (suc n) line.Comparison ts)
unfolding comparison_at
comparison_sound n inner h first f ts =
    if_bind (first ts) _ (IsRead (suc n) line.Sum ts) _ (f ts) (λ x p. compares_sound n inner h ts x.0 x.1 x.2 p)

conditional_sound : (n : ℕ) (inner : Line → Reader) → Sound n inner → (ts : List Token) → IfSome (conditional_at inner ts) (IsRead (suc n) line.Whole (Keyword word.If ∷ ts))
unfolding conditional_at
conditional_sound n inner h ts =
    if_bind (inner line.Whole ts) _ (IsRead n line.Whole ts) _ (h line.Whole ts) (λ a p.
    if_bind (after_then a.2) _ (λ us. a.2 ≡ Keyword word.Then ∷ us) _ (after_then_is a.2) (λ us p'.
    if_bind (inner line.Whole us) _ (IsRead n line.Whole us) _ (h line.Whole us) (λ b q.
    if_bind (after_else b.2) _ (λ vs. b.2 ≡ Keyword word.Else ∷ vs) _ (after_else_is b.2) (λ vs q'.
    if_bind (inner line.Whole vs) _ (IsRead n line.Whole vs) _ (h line.Whole vs) (λ c r. record {
      text = ap (λ (w : List Token). Keyword word.If ∷ w) (p.text ∙ ap (λ (w : List Token). spelling a.0 ++ w)
          (p' ∙ ap (λ (w : List Token). Keyword word.Then ∷ w)
          (q.text ∙ ap (λ (w : List Token). spelling b.0 ++ w) (q' ∙ ap (λ (w : List Token). Keyword word.Else ∷ w) r.text)
          ∙ sym (append_assoc (spelling b.0) (Keyword word.Else ∷ spelling c.0) c.2)))
          ∙ sym (append_assoc (spelling a.0) (Keyword word.Then ∷ (spelling b.0 ++ Keyword word.Else ∷ spelling c.0)) c.2));
      stands = record { within = omega arith; parts = (p.stands.parts, q.stands.parts, r.stands.parts) };
      deep = let f = p.deep in let g = q.deep in let k = r.deep in cc;
      within = let w = p.within in let v = q.within in let u = r.within in omega arith;
    })))))

whole_up : (n : ℕ) (first : Reader) → ((ts : List Token) → IfSome (first ts) (IsRead (suc n) line.Disjunction ts)) → (ts : List Token) → IfSome (first ts) (IsRead (suc n) line.Whole ts)
whole_up n first f ts = IfSome_then (first ts) (f ts) (λ x p. looser (suc n) line.Whole line.Disjunction ts x (omega arith) p)

whole_sound : (n : ℕ) (inner : Line → Reader) → Sound n inner → (first : Reader) → ((ts : List Token) → IfSome (first ts) (IsRead (suc n) line.Disjunction ts))
    → (ts : List Token) → IfSome (whole_at first inner ts) (IsRead (suc n) line.Whole ts)
unfolding whole_at
whole_sound n inner h first f (Keyword word.If ∷ ts) = conditional_sound n inner h ts
whole_sound n inner h first f ts = whole_up n first f ts

-- ---- every line

product_sound : (n : ℕ) (inner : Line → Reader) → Sound n inner → (ts : List Token) → IfSome (product_at inner n ts) (IsRead (suc n) line.Product ts)
product_sound n inner h = chain_sound n inner h line.Product chain_product (omega arith) (negation_at inner n) (negation_sound n inner h)

sum_sound : (n : ℕ) (inner : Line → Reader) → Sound n inner → (ts : List Token) → IfSome (sum_at inner n ts) (IsRead (suc n) line.Sum ts)
sum_sound n inner h = chain_sound n inner h line.Sum chain_sum (omega arith) (product_at inner n) (product_sound n inner h)

compare_sound : (n : ℕ) (inner : Line → Reader) → Sound n inner → (ts : List Token) → IfSome (compare_at inner n ts) (IsRead (suc n) line.Comparison ts)
compare_sound n inner h = comparison_sound n inner h (sum_at inner n) (sum_sound n inner h)

conjunction_sound : (n : ℕ) (inner : Line → Reader) → Sound n inner → (ts : List Token) → IfSome (conjunction_at inner n ts) (IsRead (suc n) line.Conjunction ts)
conjunction_sound n inner h = chain_sound n inner h line.Conjunction chain_conjunction (omega arith) (compare_at inner n) (compare_sound n inner h)

disjunction_sound : (n : ℕ) (inner : Line → Reader) → Sound n inner → (ts : List Token) → IfSome (disjunction_at inner n ts) (IsRead (suc n) line.Disjunction ts)
disjunction_sound n inner h = chain_sound n inner h line.Disjunction chain_disjunction (omega arith) (conjunction_at inner n) (conjunction_sound n inner h)

line_sound : (n : ℕ) (inner : Line → Reader) → Sound n inner → Sound (suc n) (line_at inner n)
unfolding line_at
line_sound n inner h line.Whole ts = whole_sound n inner h (disjunction_at inner n) (disjunction_sound n inner h) ts
line_sound n inner h line.Disjunction ts = disjunction_sound n inner h ts
line_sound n inner h line.Conjunction ts = conjunction_sound n inner h ts
line_sound n inner h line.Comparison ts = compare_sound n inner h ts
line_sound n inner h line.Sum ts = sum_sound n inner h ts
line_sound n inner h line.Product ts = product_sound n inner h ts
line_sound n inner h line.Negation ts = negation_sound n inner h ts
line_sound n inner h line.Path ts = path_sound n inner h ts
line_sound n inner h line.Primary ts = primary_sound n inner h ts

-- What is read on a line is spelled by the tokens that it took, and is no deeper than the limit.
pub read_sound : (n : ℕ) → Sound n (read_at n)
unfolding read_at
read_sound zero l ts = tt
read_sound (suc n) l ts = line_sound n (read_at n) (read_sound n) l ts
