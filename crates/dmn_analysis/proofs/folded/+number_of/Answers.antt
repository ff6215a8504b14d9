use Rattle.std.proofs.Common.{◌≡◌, subst, rules, pos, IfSome, FitsSigned, of_z, to_z, w64}
use Rattle.std.proofs.lemmas.Int.{to_z-of_z}
use Rattle.feel_value.specs.Datum.{number}
use Rattle.feel_value.specs.Outcome.{held}
use Rattle.feel_value.specs.declared.feel.Outcome.TheVariants.{Is}
use Rattle.feel_text.specs.Meaning.{operation}
use Rattle.feel_text.specs.declared.expr.Operator.TheVariants as operator
use Rattle.feel_text.specs.Expr as expr
use Rattle.feel_text.specs.View.{view}
use Rattle.feel_text.specs.declared.expr.Tree.{the_lemmas}
use Rattle.dmn_analysis.proofs.Folding.{IsNumber, opposite, worked_out}
use Rattle.dmn_analysis.proofs.folded.+number_of.Goals as goal

pub returns-in-Group-clause-some : goal.returns-in-Group-clause-some
returns-in-Group-clause-some t c =
    let shown : expr.Group (view c.deref.result.now) ≡ view c.args.expr.now = search (rules, the_lemmas) in
    subst (IsNumber c.number_of.result) shown c.number_of.ensures.some

pub returns-in-Some-clause-some : goal.returns-in-Some-clause-some
returns-in-Some-clause-some t c =
    let inner = view c.deref-in-Negate.result.now in
    let fits : FitsSigned w64 c.in-Some.n = search rules in
    let shown : expr.Negate inner ≡ view c.args.expr.now = search (rules, the_lemmas) in
    subst (IsNumber c.operated.result) shown (opposite inner c.in-Some.n c.operated.result c.in-Some.ensures.some
    (subst (λ y. IfSome c.operated.result (λ z. held (operation operator.Subtract (number (pos 0)) (number y)) ≡ Is (number z))) (to_z-of_z w64 c.in-Some.n fits) c.operated.ensures.some))

pub returns-in-Some-number_of-2-clause-some : goal.returns-in-Some-number_of-2-clause-some
returns-in-Some-number_of-2-clause-some t c =
    let fits_x : FitsSigned w64 c.in-Some-number_of.x = search rules in
    let fits_y : FitsSigned w64 c.in-Some-number_of-2.y = search rules in
    let op = c.in-Binary.operator in
    let left = view c.deref-in-Binary.result.now in
    let right = view c.deref-in-Binary-2.result.now in
    let shown : expr.Binary op left right ≡ view c.args.expr.now = search (rules, the_lemmas) in
    subst (IsNumber c.operated-in-Binary.result) shown
    (worked_out op left right c.in-Some-number_of.x c.in-Some-number_of-2.y c.operated-in-Binary.result c.in-Some-number_of.ensures.some c.in-Some-number_of-2.ensures.some
    (subst (λ y. IfSome c.operated-in-Binary.result (λ z. held (operation op (number c.in-Some-number_of.x) (number y)) ≡ Is (number z))) (to_z-of_z w64 c.in-Some-number_of-2.y fits_y)
    (subst (λ x. IfSome c.operated-in-Binary.result (λ z. held (operation op (number x) (number (to_z w64 (of_z w64 c.in-Some-number_of-2.y)))) ≡ Is (number z))) (to_z-of_z w64 c.in-Some-number_of.x fits_x) c.operated-in-Binary.ensures.some)))
