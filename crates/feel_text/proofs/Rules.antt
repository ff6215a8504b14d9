-- The rules of the grammar read the one list of tokens that spells an expression, and no other.
use Rattle.std.proofs.Common.{◌≡◌, List, refl, arith}
use Rattle.feel_text.specs.Token.{Token}
use Rattle.feel_text.specs.Expr as expr
use Rattle.feel_text.specs.Expr.{Expr, Exprs, none, more}
use Rattle.feel_text.specs.declared.line.Line.{Line}
use Rattle.feel_text.specs.declared.line.Line.TheVariants as line
use Rattle.feel_text.specs.Grammar as rule
use Rattle.feel_text.specs.Grammar.{rank, line_of, left_of, right_of, token_of, name_of, constant_of, in_parens, tighter, Reads, ReadsMore}
use Rattle.feel_text.proofs.Spelling.{spelling, others, home, Parts, AllParts, Stands}

abbrev mutual
  pub by_rules : (e : Expr) → Parts e → Reads (home e) (spelling e) e
  by_rules expr.Null p = rule.null
  by_rules (expr.Boolean b) p = rule.constant b
  by_rules (expr.Number n) p = rule.number n
  by_rules (expr.Text bytes) p = rule.text bytes
  by_rules (expr.Name name) p = rule.name name
  by_rules (expr.Group e) p = rule.group (spelling e) e (rule.tighter_line line.Whole (home e) (spelling e) e (omega arith) (by_rules e p))
  by_rules (expr.Members none) p = rule.empty_list
  by_rules (expr.Members (more e es)) p = rule.members (spelling e) (others es) e es (rule.tighter_line line.Whole (home e) (spelling e) e (omega arith) (by_rules e p.0)) (more_by_rules es p.1)
  by_rules (expr.Call f e) p = rule.call f (spelling e) e (rule.tighter_line line.Whole (home e) (spelling e) e (omega arith) (by_rules e p))
  by_rules (expr.Modulo a b) p = rule.modulo (spelling a) (spelling b) a b (rule.tighter_line line.Whole (home a) (spelling a) a (omega arith) (by_rules a p.0)) (rule.tighter_line line.Whole (home b) (spelling b) b (omega arith) (by_rules b p.1))
  by_rules (expr.Not e) p = rule.negated (spelling e) e (rule.tighter_line line.Whole (home e) (spelling e) e (omega arith) (by_rules e p))
  by_rules (expr.Negate e) p = rule.negation (spelling e) e (rule.tighter_line line.Negation (home e) (spelling e) e p.0 (by_rules e p.1))
  by_rules (expr.Path e name) p = rule.path (spelling e) e name (rule.tighter_line line.Path (home e) (spelling e) e p.0 (by_rules e p.1))
  by_rules (expr.Binary op a b) p = rule.binary op (spelling a) (spelling b) a b (rule.tighter_line (left_of op) (home a) (spelling a) a p.0 (by_rules a p.1)) (rule.tighter_line (right_of op) (home b) (spelling b) b p.2 (by_rules b p.3))
  by_rules (expr.Between a b c) p = rule.between (spelling a) (spelling b) (spelling c) a b c (rule.tighter_line line.Sum (home a) (spelling a) a p.0 (by_rules a p.1)) (rule.tighter_line line.Sum (home b) (spelling b) b p.2 (by_rules b p.3)) (rule.tighter_line line.Sum (home c) (spelling c) c p.4 (by_rules c p.5))
  by_rules (expr.If a b c) p = rule.conditional (spelling a) (spelling b) (spelling c) a b c (rule.tighter_line line.Whole (home a) (spelling a) a (omega arith) (by_rules a p.0)) (rule.tighter_line line.Whole (home b) (spelling b) b (omega arith) (by_rules b p.1)) (rule.tighter_line line.Whole (home c) (spelling c) c (omega arith) (by_rules c p.2))

  pub more_by_rules : (es : Exprs) → AllParts es → ReadsMore (others es) es
  more_by_rules none p = rule.no_more
  more_by_rules (more e es) p = rule.one_more (spelling e) (others es) e es (rule.tighter_line line.Whole (home e) (spelling e) e (omega arith) (by_rules e p.0)) (more_by_rules es p.1)

pub stands_by_rules : (l : Line) (e : Expr) → Stands l e → Reads l (spelling e) e
stands_by_rules l e s = rule.tighter_line l (home e) (spelling e) e s.within (by_rules e s.parts)

-- what the rules read
pub record IsSpelled (l : Line) (ts : List Token) (e : Expr) : Type 0 where
  pub text : ts ≡ spelling e
  pub stands : Stands l e

mutual
  pub is_spelled : (l : Line) (ts : List Token) (e : Expr) → Reads l ts e → IsSpelled l ts e
  is_spelled l ts e (rule.tighter_line _ k _ _ le r) =
      let p = is_spelled k ts e r in
      record { text = p.text; stands = record { within = let w = p.stands.within in omega arith; parts = p.stands.parts } }
  is_spelled l ts e (rule.conditional xs ys zs a b c p q r) =
      let f = is_spelled line.Whole xs a p in let g = is_spelled line.Whole ys b q in let h = is_spelled line.Whole zs c r in
      record { text = rw (f.text, g.text, h.text) refl; stands = record { within = omega arith; parts = (f.stands.parts, g.stands.parts, h.stands.parts) } }
  is_spelled l ts e (rule.binary op xs ys a b p q) =
      let f = is_spelled (left_of op) xs a p in let g = is_spelled (right_of op) ys b q in
      record { text = rw (f.text, g.text) refl; stands = record { within = omega arith; parts = (f.stands.within, f.stands.parts, g.stands.within, g.stands.parts) } }
  is_spelled l ts e (rule.between xs ys zs a b c p q r) =
      let f = is_spelled line.Sum xs a p in let g = is_spelled line.Sum ys b q in let h = is_spelled line.Sum zs c r in
      record { text = rw (f.text, g.text, h.text) refl; stands = record { within = omega arith; parts = (f.stands.within, f.stands.parts, g.stands.within, g.stands.parts, h.stands.within, h.stands.parts) } }
  is_spelled l ts e (rule.negation us a p) =
      let f = is_spelled line.Negation us a p in
      record { text = rw f.text refl; stands = record { within = omega arith; parts = (f.stands.within, f.stands.parts) } }
  is_spelled l ts e (rule.path us a name p) =
      let f = is_spelled line.Path us a p in
      record { text = rw f.text refl; stands = record { within = omega arith; parts = (f.stands.within, f.stands.parts) } }
  is_spelled l ts e (rule.number n) = record { text = refl; stands = record { within = omega arith; parts = tt } }
  is_spelled l ts e (rule.text bytes) = record { text = refl; stands = record { within = omega arith; parts = tt } }
  is_spelled l ts e (rule.constant b) = record { text = refl; stands = record { within = omega arith; parts = tt } }
  is_spelled l ts e rule.null = record { text = refl; stands = record { within = omega arith; parts = tt } }
  is_spelled l ts e (rule.name n) = record { text = refl; stands = record { within = omega arith; parts = tt } }
  is_spelled l ts e (rule.call f us a p) =
      let q = is_spelled line.Whole us a p in
      record { text = rw q.text refl; stands = record { within = omega arith; parts = q.stands.parts } }
  is_spelled l ts e (rule.modulo xs ys a b p q) =
      let f = is_spelled line.Whole xs a p in let g = is_spelled line.Whole ys b q in
      record { text = rw (f.text, g.text) refl; stands = record { within = omega arith; parts = (f.stands.parts, g.stands.parts) } }
  is_spelled l ts e (rule.negated us a p) =
      let q = is_spelled line.Whole us a p in
      record { text = rw q.text refl; stands = record { within = omega arith; parts = q.stands.parts } }
  is_spelled l ts e (rule.group us a p) =
      let q = is_spelled line.Whole us a p in
      record { text = rw q.text refl; stands = record { within = omega arith; parts = q.stands.parts } }
  is_spelled l ts e rule.empty_list = record { text = refl; stands = record { within = omega arith; parts = tt } }
  is_spelled l ts e (rule.members us vs a es p q) =
      let f = is_spelled line.Whole us a p in let g = are_spelled vs es q in
      record { text = rw (f.text, g.0) refl; stands = record { within = omega arith; parts = (f.stands.parts, g.1) } }

  pub are_spelled : (ts : List Token) (es : Exprs) → ReadsMore ts es → (ts ≡ others es) × AllParts es
  are_spelled ts es rule.no_more = (refl, tt)
  are_spelled ts es (rule.one_more us vs e fs p q) =
      let f = is_spelled line.Whole us e p in let g = are_spelled vs fs q in
      (rw (f.text, g.0) refl, (f.stands.parts, g.1))
