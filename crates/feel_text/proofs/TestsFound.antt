-- The unary tests that are read are spelled by the tokens.
use Rattle.std.proofs.Common.{◌≡◌, ◌≤◌, ℕ, zero, suc, Bool, List, [], ◌∷◌, ◌++◌, length, Option, Some, None, refl, sym, ap, subst, ◌∙◌, append_assoc, arith}
use Rattle.std.specs.Prelude.{IfSome}
use Rattle.std.proofs.lemmas.List.{append-nil}
use Rattle.feel_text.specs.declared.token.Word.TheVariants as word
use Rattle.feel_text.specs.declared.token.Sign.{Sign}
use Rattle.feel_text.specs.declared.token.Sign.TheVariants as sign
use Rattle.feel_text.specs.declared.line.Line.{Line}
use Rattle.feel_text.specs.declared.line.Line.TheVariants as line
use Rattle.feel_text.specs.Token.{Token, Keyword, Symbol}
use Rattle.feel_text.specs.Expr.{Expr, depth}
use Rattle.feel_text.specs.Grammar.{Reads}
use Rattle.feel_text.specs.Reading.{after_open, after_close, after_comma, read_at}
use Rattle.feel_value.specs.Found.{◌>>=◌}
use Rattle.feel_text.specs.Tests.{Bound, Below, AtMost, Above, AtLeast, Test, Compares, Interval, Equals, Tests, Any, OneOf, NoneOf, ReadsTest, ReadsList, ReadsNot, ReadsTests, ReadsSum, Opens, Closes, bound_sign}
use Rattle.feel_text.specs.Tests as rule
use Rattle.feel_text.specs.TestReading.{bound_of, low_end_of, high_end_of, after_dots, high_end_at, interval_at, compares_at, plain_at, test_at, list_at, all_read, one_of_at, none_of_at, after_not}
use Rattle.feel_text.proofs.Spelling.{spelling}
use Rattle.feel_text.proofs.Found.{IsRead, closing, read_sound, if_bind, if_chosen}
use Rattle.feel_text.proofs.Rules.{stands_by_rules}

-- what was read from ts: the tokens that it took
pub record IsTested (ts : List Token) (x : Test × List Token) : Type 0 where
  pub tokens : List Token
  pub text : ts ≡ tokens ++ x.1
  pub reads : ReadsTest tokens x.0

reads_of : (l : Line) (ts : List Token) (x : Expr × ℕ × List Token) → IsRead 64 l ts x → Reads l (spelling x.0) x.0 × (depth x.0 ≤ 64)
reads_of l ts x p = (stands_by_rules l x.0 p.stands, let a = p.deep in let b = p.within in omega arith)

-- ---- one test

compares_sound : (bound : Bound) (ts : List Token) → IfSome (compares_at bound ts) (IsTested (Symbol (bound_sign bound) ∷ ts))
unfolding compares_at
compares_sound bound ts =
    if_bind (read_at 64 line.Sum ts) _ (IsRead 64 line.Sum ts) _ (read_sound 64 line.Sum ts) (λ x p. record {
      tokens = Symbol (bound_sign bound) ∷ spelling x.0;
      text = ap (λ (w : List Token). Symbol (bound_sign bound) ∷ w) p.text;
      reads = rule.compares bound (spelling x.0) x.0 (reads_of line.Sum ts x p);
    })

after_dots_is : (ts : List Token) → IfSome (after_dots ts) (λ us. ts ≡ Symbol sign.DotDot ∷ us)
after_dots_is (Symbol sign.DotDot ∷ ts) = refl
after_dots_is ts = tt

low_end_is : (t : Token) → IfSome (low_end_of t) (λ closed. (s : Sign) × (t ≡ Symbol s) × Opens s closed)
low_end_is (Symbol sign.OpenBracket) = (sign.OpenBracket, refl, rule.closed_low)
low_end_is (Symbol sign.OpenParen) = (sign.OpenParen, refl, rule.open_low)
low_end_is (Symbol sign.CloseBracket) = (sign.CloseBracket, refl, rule.turned_low)
low_end_is t = tt

high_end_is : (t : Token) → IfSome (high_end_of t) (λ closed. (s : Sign) × (t ≡ Symbol s) × Closes s closed)
high_end_is (Symbol sign.CloseBracket) = (sign.CloseBracket, refl, rule.closed_high)
high_end_is (Symbol sign.CloseParen) = (sign.CloseParen, refl, rule.open_high)
high_end_is (Symbol sign.OpenBracket) = (sign.OpenBracket, refl, rule.turned_high)
high_end_is t = tt

-- the sign that ends an interval, and the tokens after it
pub record IsHighEnd (ts : List Token) (x : Bool × List Token) : Type 0 where
  pub end : Sign
  pub text : ts ≡ Symbol end ∷ x.1
  pub closes : Closes end x.0

high_end_found : (ts : List Token) → IfSome (high_end_at ts) (IsHighEnd ts)
unfolding high_end_at
high_end_found [] = tt
high_end_found (t ∷ ts) =
    if_bind (high_end_of t) _ (λ closed. (s : Sign) × (t ≡ Symbol s) × Closes s closed) _ (high_end_is t) (λ closed p. record {
      end = p.0;
      text = ap (λ (w : Token). w ∷ ts) p.1;
      closes = p.2;
    })

interval_text : (t : Token) (s e : Sign) (low high : List Token) (ts us vs ws rest : List Token) → t ≡ Symbol s → ts ≡ low ++ us → us ≡ Symbol sign.DotDot ∷ vs → vs ≡ high ++ ws → ws ≡ Symbol e ∷ rest
    → (t ∷ ts) ≡ (Symbol s ∷ (low ++ Symbol sign.DotDot ∷ (high ++ Symbol e ∷ []))) ++ rest
interval_text t s e low high ts us vs ws rest a b c d f =
    rw (a, b, c, d, f, append_assoc low (Symbol sign.DotDot ∷ (high ++ Symbol e ∷ [])) rest, closing high rest (Symbol e)) refl

interval_sound : (t : Token) (ts : List Token) → IfSome (interval_at t ts) (IsTested (t ∷ ts))
unfolding interval_at
interval_sound t ts =
    if_bind (low_end_of t) _ (λ closed. (s : Sign) × (t ≡ Symbol s) × Opens s closed) _ (low_end_is t) (λ closed o.
    if_bind (read_at 64 line.Sum ts) _ (IsRead 64 line.Sum ts) _ (read_sound 64 line.Sum ts) (λ low p.
    if_bind (after_dots low.2) _ (λ us. low.2 ≡ Symbol sign.DotDot ∷ us) _ (after_dots_is low.2) (λ us dots.
    if_bind (read_at 64 line.Sum us) _ (IsRead 64 line.Sum us) _ (read_sound 64 line.Sum us) (λ high q.
    if_bind (high_end_at high.2) _ (IsHighEnd high.2) _ (high_end_found high.2) (λ end f. record {
      tokens = Symbol o.0 ∷ (spelling low.0 ++ Symbol sign.DotDot ∷ (spelling high.0 ++ Symbol f.end ∷ []));
      text = interval_text t o.0 f.end (spelling low.0) (spelling high.0) ts low.2 us high.2 end.1 o.1 p.text dots q.text f.text;
      reads = rule.interval o.0 f.end closed end.0 (spelling low.0) (spelling high.0) low.0 high.0 o.2 f.closes (reads_of line.Sum ts low p) (reads_of line.Sum us high q);
    })))))

plain_sound : (t : Token) (ts : List Token) → IfSome (plain_at t ts) (IsTested (t ∷ ts))
unfolding plain_at
plain_sound t ts =
    if_chosen (read_at 64 line.Whole (t ∷ ts)) (interval_at t ts) _ (IsRead 64 line.Whole (t ∷ ts)) (IsTested (t ∷ ts)) (read_sound 64 line.Whole (t ∷ ts)) (interval_sound t ts) (λ x p. record {
      tokens = spelling x.0;
      text = p.text;
      reads = rule.equals (spelling x.0) x.0 (reads_of line.Whole (t ∷ ts) x p);
    })

bound_is : (t : Token) → IfSome (bound_of t) (λ bound. t ≡ Symbol (bound_sign bound))
bound_is (Symbol sign.Less) = refl
bound_is (Symbol sign.LessEqual) = refl
bound_is (Symbol sign.Greater) = refl
bound_is (Symbol sign.GreaterEqual) = refl
bound_is t = tt

compares_first : (t : Token) (bound : Bound) (ts : List Token) → t ≡ Symbol (bound_sign bound) → IfSome (compares_at bound ts) (IsTested (t ∷ ts))
compares_first t bound ts is = subst (λ (u : Token). IfSome (compares_at bound ts) (IsTested (u ∷ ts))) (sym is) (compares_sound bound ts)

test_sound : (ts : List Token) → IfSome (test_at ts) (IsTested ts)
unfolding test_at
test_sound [] = tt
test_sound (t ∷ ts) =
    if_chosen (bound_of t) (plain_at t ts) _ (λ bound. t ≡ Symbol (bound_sign bound)) (IsTested (t ∷ ts)) (bound_is t) (plain_sound t ts) (λ bound is. compares_first t bound ts is)

-- ---- lists of tests

pub record IsListed (ts : List Token) (x : List Test × List Token) : Type 0 where
  pub tokens : List Token
  pub text : ts ≡ tokens ++ x.1
  pub reads : ReadsList tokens x.0

after_comma_is : (ts : List Token) → IfSome (after_comma ts) (λ us. ts ≡ Symbol sign.Comma ∷ us)
after_comma_is (Symbol sign.Comma ∷ ts) = refl
after_comma_is ts = tt

list_sound : (k : ℕ) (ts : List Token) → IfSome (list_at k ts) (IsListed ts)
unfolding list_at
list_sound zero ts = tt
list_sound (suc k) ts =
    if_bind (test_at ts) _ (IsTested ts) _ (test_sound ts) (λ x p.
    if_chosen (after_comma x.1) _ _ (λ us. x.1 ≡ Symbol sign.Comma ∷ us) (IsListed ts) (after_comma_is x.1)
    (record { tokens = p.tokens; text = p.text; reads = rule.last_test p.tokens x.0 p.reads })
    (λ us comma. if_bind (list_at k us) _ (IsListed us) (IsListed ts) (list_sound k us) (λ y q. record {
      tokens = p.tokens ++ Symbol sign.Comma ∷ q.tokens;
      text = p.text ∙ ap (λ (w : List Token). p.tokens ++ w) (comma ∙ ap (λ (w : List Token). Symbol sign.Comma ∷ w) q.text) ∙ sym (append_assoc p.tokens (Symbol sign.Comma ∷ q.tokens) y.1);
      reads = rule.next_test p.tokens q.tokens x.0 y.0 p.reads q.reads;
    })))

-- ---- whole tests

pub if_then : {B : Type 0} (o : Option B) (P Q : B → Type 0) → IfSome o P → ((b : B) → P b → Q b) → IfSome o Q
if_then (Some b) P Q h f = f b h
if_then None P Q h f = tt

all_read_is : {A : Type 0} (ts : List Token) (a : A) → IfSome (all_read ts a) (λ b. (ts ≡ []) × (b ≡ a))
all_read_is [] a = (refl, refl)
all_read_is (t ∷ ts) a = tt

-- the tests are these, and the tokens are this list of them
abbrev pub IsOneOf : List Token → Tests → Type 0
IsOneOf ts t = (tests : List Test) × (t ≡ OneOf tests) × ReadsList ts tests

pub one_of_sound : (ts : List Token) → IfSome (one_of_at ts) (IsOneOf ts)
unfolding one_of_at
one_of_sound ts =
    if_bind (list_at (length ts) ts) _ (IsListed ts) _ (list_sound (length ts) ts) (λ x p.
    if_then (all_read x.1 (OneOf x.0)) (λ b. (x.1 ≡ []) × (b ≡ OneOf x.0)) (IsOneOf ts) (all_read_is x.1 (OneOf x.0)) (λ b q.
    (x.0, q.1, subst (λ (w : List Token). ReadsList w x.0) (sym (p.text ∙ ap (λ (w : List Token). p.tokens ++ w) q.0 ∙ append-nil p.tokens)) p.reads)))

-- the tokens after `not (` are a list of tests and a parenthesis
abbrev pub IsNoneOf : List Token → Tests → Type 0
IsNoneOf us t = (tests : List Test) × (t ≡ NoneOf tests) × ReadsNot (Keyword word.Not ∷ Symbol sign.OpenParen ∷ us) tests

after_close_is : (ts : List Token) → IfSome (after_close ts) (λ us. ts ≡ Symbol sign.CloseParen ∷ us)
after_close_is (Symbol sign.CloseParen ∷ ts) = refl
after_close_is ts = tt

pub none_of_sound : (us : List Token) → IfSome (none_of_at us) (IsNoneOf us)
unfolding none_of_at
none_of_sound us =
    if_bind (list_at (length us) us) _ (IsListed us) _ (list_sound (length us) us) (λ x p.
    if_bind (after_close x.1) _ (λ vs. x.1 ≡ Symbol sign.CloseParen ∷ vs) _ (after_close_is x.1) (λ vs close.
    if_then (all_read vs (NoneOf x.0)) (λ b. (vs ≡ []) × (b ≡ NoneOf x.0)) (IsNoneOf us) (all_read_is vs (NoneOf x.0)) (λ b q.
    (x.0, q.1, (p.tokens, p.reads, ap (λ (w : List Token). Keyword word.Not ∷ Symbol sign.OpenParen ∷ w) (p.text ∙ ap (λ (w : List Token). p.tokens ++ w) (close ∙ ap (λ (w : List Token). Symbol sign.CloseParen ∷ w) q.0)))))))

after_open_is : (ts : List Token) → IfSome (after_open ts) (λ us. ts ≡ Symbol sign.OpenParen ∷ us)
after_open_is (Symbol sign.OpenParen ∷ ts) = refl
after_open_is ts = tt

after_not_is : (ts : List Token) → IfSome (after_not ts) (λ us. ts ≡ Keyword word.Not ∷ Symbol sign.OpenParen ∷ us)
after_not_is (Keyword word.Not ∷ ts) =
    if_then (after_open ts) (λ us. ts ≡ Symbol sign.OpenParen ∷ us) _ (after_open_is ts) (λ us e. ap (λ (w : List Token). Keyword word.Not ∷ w) e)
after_not_is ts = tt

-- the tokens are a `not` of a list as a whole
abbrev pub IsWholeNot : List Token → Tests → Type 0
IsWholeNot ts t = (tests : List Test) × (t ≡ NoneOf tests) × ReadsNot ts tests

pub not_sound : (ts : List Token) → IfSome (after_not ts >>= none_of_at) (IsWholeNot ts)
not_sound ts =
    if_bind (after_not ts) none_of_at (λ us. ts ≡ Keyword word.Not ∷ Symbol sign.OpenParen ∷ us) (IsWholeNot ts) (after_not_is ts) (λ us is.
    if_then (none_of_at us) (IsNoneOf us) (IsWholeNot ts) (none_of_sound us) (λ t p. (p.0, p.1, subst (λ (w : List Token). ReadsNot w p.0) (sym is) p.2)))
