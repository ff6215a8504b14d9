use Rattle.std.proofs.Common.{◌≡◌, List, [], ◌∷◌, refl, sym, ap, ◌∙◌, Bool, true, false, ◌&&◌, Some}
use denote.Ref.{Bor}
use Rattle.std.specs.List.{zip, list_all}
use Rattle.feel_value.specs.Datum.{Datum as Feel}
use Rattle.feel_text.specs.Tests.{Tests}
use Rattle.std.specs.Slice.Iter.{iter_rest}
use Rattle.std.specs.Iterator.Adapters.{zip_first, zip_second}
use Rattle.std.proofs.lemmas.Slice.Zip.{Zip-more}
use Rattle.feel_text.specs.Satisfied.{satisfied}
use Rattle.feel_value.specs.Found.{each, ◌>>=◌}
use Rattle.dmn_table.specs.Hits.{is_satisfied}
use Rattle.dmn_table.specs.Parts.{rule_view}
use Rattle.dmn_table.proofs.Unbroken.{at_miss}
use Rattle.dmn_table.proofs.ZipEnd.{at_zip_end}
use Rattle.dmn_table.proofs.hits.is_matched.Goals as goal

and_true : (b : Bool) → (b && true) ≡ b
and_true true = refl
and_true false = refl

zip_none : {A B : Type 0} (xs : List A) → zip {X = B} xs [] ≡ []
zip_none [] = refl
zip_none (x ∷ xs) = refl

pub returns : goal.returns
returns c =
    let m = c.args.env.now in
    let hit = c.loop-tests.hit in
    sym (c.loop-tests.invariant
    ∙ ap (λ ps. each (λ p. is_satisfied (satisfied p.0 p.1 m)) ps >>= λ answers. Some (hit && list_all (λ yes. yes) answers))
    (at_zip_end (λ xs ys. zip xs ys) [] (λ ys. refl) (λ xs. zip_none xs) c.loop-tests.tests-iterator c.next.new.self c.in-None.ensures.steps)
    ∙ ap Some (and_true hit))

pub returns-in-No : goal.returns-in-No
returns-in-No c =
    let p : Bor Tests × Bor Feel = (c.in-Some.tests, c.in-Some.value) in
    let more = Zip-more c.loop-tests.tests-iterator c.next.new.self (Some p) p refl c.in-Some.ensures.steps in
    at_miss c.args.env.now c.args.values.now (rule_view c.args.rule.now) c.loop-tests.hit c.in-Some.tests.now c.in-Some.value.now
    (iter_rest (zip_first c.next.new.self)) (iter_rest (zip_first c.loop-tests.tests-iterator))
    (iter_rest (zip_second c.next.new.self)) (iter_rest (zip_second c.loop-tests.tests-iterator))
    (c.requires c.if-keeps_limits.true) c.loop-tests.invariant more.0 more.1 (sym c.in-No.is ∙ c.in_ok-holds.ensures)
