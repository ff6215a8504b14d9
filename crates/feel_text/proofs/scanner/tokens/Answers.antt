use Rattle.std.specs.Prelude.{Result, Err}
use Rattle.std.proofs.Common.{rules, ◌≡◌, ◌++◌, ◌∷◌, [], List, ℕ, true, false, Some, length, drop, sym, ap, subst, ◌∙◌, append-nil}
use Rattle.std.specs.Str.{IsUtf8}
use Rattle.std.proofs.lemmas.Result.{err_from_is_err_and}
use Rattle.feel_text.specs.Lexical.{IsCut, is_blank}
use Rattle.feel_text.specs.Scanning.{token_at}
use Rattle.feel_text.specs.Token.{views}
use Rattle.feel_text.specs.Token as token
use Rattle.feel_text.proofs.Runs.{after_first}
use Rattle.feel_text.proofs.Cuts.{blank_ascii, blank_before, blank_after, token_before, token_after, token_shorter, err_none, views_push, end_found, end_only}
use Rattle.feel_text.proofs.scanner.tokens.Goals as goal

same_err : {T E : Type 0} {e f : E} → ◌≡◌ {A = Result T E} (Err e) (Err f) → e ≡ f
same_err h = cc

pub range_from-rest-requires : goal.range_from-rest-requires
range_from-rest-requires c =
    let first : c.loop-first.rest.now ≡ c.in-Some.first.now ∷ c.in-Some.field-0-1.now = sym c.as_bytes.ensures.value ∙ c.in-Some.ensures.cases.0 in
    let blank : is_blank c.in-Some.first.now ≡ true = sym c.is_blank.ensures ∙ c.if-is_blank.true in
    let utf8 : IsUtf8 c.loop-first.rest.now = subst (λ (w : List ℕ). IsUtf8 w) c.as_bytes.ensures.value c.as_bytes.ensures.utf8 in
    λ _. after_first c.loop-first.rest.now c.in-Some.field-0-1.now c.in-Some.first.now utf8 first (blank_ascii c.in-Some.first.now blank)

pub loop-first-preserved-then-is_blank : goal.loop-first-preserved-then-is_blank
loop-first-preserved-then-is_blank c =
    let first : c.loop-first.rest.now ≡ c.in-Some.first.now ∷ c.in-Some.field-0-1.now = sym c.as_bytes.ensures.value ∙ c.in-Some.ensures.cases.0 in
    let blank : is_blank c.in-Some.first.now ≡ true = sym c.is_blank.ensures ∙ c.if-is_blank.true in
    let left : c.range_from-rest.result.now ≡ c.in-Some.field-0-1.now = c.range_from-rest.ensures.value ∙ ap (λ (w : List ℕ). drop 1 w) first in
    record {
      utf8 = c.range_from-rest.utf8;
      found = λ ts cut. c.loop-first.invariant.found ts (subst (λ (w : List ℕ). IsCut w ts) (sym first) (blank_before c.in-Some.first.now c.in-Some.field-0-1.now blank ts (subst (λ (w : List ℕ). IsCut w ts) left cut)));
      only = λ us cut. let p = c.loop-first.invariant.only us cut in
          (p.0, p.1, subst (λ (w : List ℕ). IsCut w p.0) (sym left) (blank_after c.in-Some.first.now c.in-Some.field-0-1.now blank p.0 (subst (λ (w : List ℕ). IsCut w p.0) first p.2)));
    }

pub returns-in_err-token-clause-none : goal.returns-in_err-token-clause-none
returns-in_err-token-clause-none c =
    let first : c.loop-first.rest.now ≡ c.in-Some.first.now ∷ c.in-Some.field-0-1.now = sym c.as_bytes.ensures.value ∙ c.in-Some.ensures.cases.0 in
    let other : is_blank c.in-Some.first.now ≡ false = sym c.is_blank.ensures ∙ c.if-is_blank.false in
    let p = err_from_is_err_and c.from_residual.result c.from_residual.ensures.1 in
    rw (p.1, p.2) (λ is us cut. let q = c.loop-first.invariant.only us cut in err_none c.in_err-token.field-0.0 c.loop-first.rest.now c.in-Some.first.now c.in-Some.field-0-1.now first other c.in_err-token.ensures (same_err is) q.0 q.2)

pub loop-first-smaller : goal.loop-first-smaller
loop-first-smaller c =
    token_shorter c.loop-first.rest.now (token.view c.in_ok-token.token) c.in_ok-token.after.now c.in_ok-token.ensures

pub loop-first-preserved : goal.loop-first-preserved
loop-first-preserved c =
    let first : c.loop-first.rest.now ≡ c.in-Some.first.now ∷ c.in-Some.field-0-1.now = sym c.as_bytes.ensures.value ∙ c.in-Some.ensures.cases.0 in
    let other : is_blank c.in-Some.first.now ≡ false = sym c.is_blank.ensures ∙ c.if-is_blank.false in
    let known : token_at c.loop-first.rest.now ≡ Some (token.view c.in_ok-token.token, c.in_ok-token.after.now) = c.in_ok-token.ensures in
    let items : c.push.new.self.items ≡ c.loop-first.tokens.items ++ c.in_ok-token.token ∷ [] = c.in_ok-push.ensures.items in
    let seen : (ts : List token.Token) → views c.push.new.self.items ++ ts ≡ views c.loop-first.tokens.items ++ token.view c.in_ok-token.token ∷ ts = λ ts. rw items (views_push c.loop-first.tokens.items c.in_ok-token.token ts) in
    record {
      utf8 = search rules;
      found = λ ts cut. subst (λ (w : List token.Token). IsCut c.args.text.now w) (sym (seen ts)) (c.loop-first.invariant.found (token.view c.in_ok-token.token ∷ ts) (token_before c.loop-first.rest.now (token.view c.in_ok-token.token) c.in_ok-token.after.now ts known cut));
      only = λ us cut. let p = c.loop-first.invariant.only us cut in
          let q = token_after c.in-Some.first.now c.in-Some.field-0-1.now (token.view c.in_ok-token.token) c.in_ok-token.after.now other (ap token_at (sym first) ∙ known) p.0 (subst (λ (w : List ℕ). IsCut w p.0) first p.2) in
          (q.0, p.1 ∙ ap (λ (w : List token.Token). views c.loop-first.tokens.items ++ w) q.1 ∙ sym (seen q.0), q.2);
    }

pub returns-clause-found : goal.returns-clause-found
returns-clause-found c =
    let none : length c.loop-first.rest.now ≡ 0 = ap (λ (w : List ℕ). length w) (sym c.as_bytes.ensures.value) ∙ c.in_default.ensures.cases in
    subst (λ (w : List token.Token). IsCut c.args.text.now w) (append-nil (views c.loop-first.tokens.items)) (c.loop-first.invariant.found [] (end_found c.loop-first.rest.now none))

pub returns-clause-only : goal.returns-clause-only
returns-clause-only c =
    let none : length c.loop-first.rest.now ≡ 0 = ap (λ (w : List ℕ). length w) (sym c.as_bytes.ensures.value) ∙ c.in_default.ensures.cases in
    λ us cut. let p = c.loop-first.invariant.only us cut in
    let q = end_only c.loop-first.rest.now p.0 none p.2 in
    p.1 ∙ ap (λ (w : List token.Token). views c.loop-first.tokens.items ++ w) q ∙ append-nil (views c.loop-first.tokens.items)
