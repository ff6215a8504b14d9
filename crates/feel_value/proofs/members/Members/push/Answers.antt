use Rattle.std.proofs.Common.{◌≡◌, ◌∙◌, sym, ap, subst, map, ◌++◌, [], ◌∷◌, List}
use Rattle.std.proofs.lemmas.List.{map-append}
use Rattle.feel_value.specs.Datum.{Datum, list, items_of}
use Rattle.feel_value.specs.Limits.{is_value}
use Rattle.feel_value.specs.Sizes.{IsList}
use Rattle.feel_value.specs.View.{datum_of}
use Rattle.feel_value.proofs.Growth.{list_kept, list_grown}
use Rattle.feel_value.proofs.members.Members.push.Goals as goal

pub returns-in_default-clause-fits : goal.returns-in_default-clause-fits
returns-in_default-clause-fits c =
    let d = c.args.value in
    c.in_default.ensures.within ∙ list_kept (map datum_of c.self.inside.values.items) d c.self.inside.size c.self.invariant c.grown.ensures.lawful
    ∙ ap (λ (xs : List Datum). is_value (list (items_of (xs ++ d ∷ [])))) c.self.view_is

pub invariant_of-self-2 : goal.invariant_of-self-2
invariant_of-self-2 c =
    let d = c.args.value in
    let ds = map datum_of c.self.inside.values.items in
    let fits = sym (list_kept ds d c.self.inside.size c.self.invariant c.grown.ensures.lawful) ∙ sym c.in-Some.ensures.within in
    let taken : map datum_of c.push.new.self.items ≡ ds ++ d ∷ [] =
    ap (map datum_of) c.in_ok-push.ensures.items ∙ map-append datum_of c.self.inside.values.items (c.into_value.result ∷ []) ∙ ap (λ x. ds ++ x ∷ []) c.into_value.ensures.same in
    subst (λ xs. IsList xs c.in-Some.size) (sym taken) (list_grown ds d c.self.inside.size c.in-Some.size c.self.invariant fits c.in-Some.ensures.size)

pub returns-clause-fits : goal.returns-clause-fits
returns-clause-fits c =
    let d = c.args.value in
    c.in-Some.ensures.within ∙ list_kept (map datum_of c.self.inside.values.items) d c.self.inside.size c.self.invariant c.grown.ensures.lawful
    ∙ ap (λ (xs : List Datum). is_value (list (items_of (xs ++ d ∷ [])))) c.self.view_is
