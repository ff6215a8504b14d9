use Rattle.std.proofs.Common.{◌≡◌, ◌∙◌, ◌==◌, ◌∷◌, ℕ, Bool, true, List, [], length, vec_len, Option, option_map, arith, refl, ap}
use denote.Ref.{Bor}
use Rattle.serde_json.specs.Data.{Data}
use Rattle.serde_json.specs.View.{view}
use Rattle.desk_lines.specs.Lines.{lines_of}
use Rattle.dmn_form.specs.ModelView.{model_view}
use Rattle.dmn_told.specs.declared.domains.Domain.{Domain}
use Rattle.desk_checking.specs.DomainsView.{domain_views, name_views}
use Rattle.desk_checking.proofs.Telling.{lawful_due}
use Rattle.desk_checking.proofs.model_check.short_verdict.Goals as goal

no_items : {X : Type 0} (xs : List X) → length xs ≡ 0 → xs ≡ []
no_items [] e = refl
no_items (x ∷ xs) e = let wrong : ⊥ = grind arith in absurd wrong

empty_by : (b : Bool) (n : ℕ) → b ≡ (n == 0) → b ≡ true → n ≡ 0
empty_by b n e t = grind arith

pub returns-then-not-is_empty : goal.returns-then-not-is_empty
returns-then-not-is_empty c = λ d lawful short is same form.
    let beside : Option Data = option_map (λ v. view v.now) c.args.beside in
    c.in_ok-refusal.ensures c.args.options d (model_view c.args.model.now) beside (lines_of c.args.requests.now) lawful short form
    (ap (λ (ns : List (Option (Bor (List ℕ)))). name_views ns) c.deref.ensures.value ∙ c.in_ok-declared.ensures.refused)

pub returns : goal.returns
returns c = λ d lawful short is same form.
    let m = model_view c.args.model.now in
    let beside : Option Data = option_map (λ v. view v.now) c.args.beside in
    let all = c.in_ok-declared.declared.refused in
    let refused = all.items in
    let empty : length refused ≡ 0 = omega (arith, empty_by c.is_empty.result (vec_len all) c.is_empty.ensures c.if-not-is_empty.false, all.ok.0) in
    lawful_due c.args.options d m beside (name_views refused) (lines_of c.args.requests.now) c.in_ok-verdict.verdict lawful short form c.in_ok-declared.ensures.refused
    (ap (λ (ns : List (Option (Bor (List ℕ)))). name_views ns) (no_items refused empty)) c.in_ok-verdict.ensures.lawful
    (c.in_ok-verdict.ensures.tells d beside lawful is same form (ap (λ (ds : List Domain). domain_views ds) c.deref-2.ensures.value ∙ c.in_ok-declared.ensures.domains))
