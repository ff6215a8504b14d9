use Rattle.std.proofs.Common.{◌≡◌, ℕ, ◌∙◌, sym, ap, subst, map, ◌++◌, [], ◌∷◌, List}
use Rattle.std.specs.Arc.{arc_str_bytes}
use Rattle.std.proofs.lemmas.List.{map-append}
use Rattle.feel_value.specs.Datum.{Datum, context, entries_of}
use Rattle.feel_value.specs.Limits.{keeps_limits}
use Rattle.feel_value.specs.Sizes.{IsContext}
use Rattle.feel_value.specs.View.{named}
use Rattle.feel_value.proofs.Growth.{context_kept, context_grown}
use Rattle.feel_value.proofs.context_entries.ContextEntries.push.Goals as goal

pub returns-in_default-clause-fits : goal.returns-in_default-clause-fits
returns-in_default-clause-fits c =
    let d = c.args.value in
    let name = arc_str_bytes c.args.name in
    c.in_default.ensures.within ∙ context_kept (map named c.self.inside.entries.items) name d c.self.inside.size c.self.invariant c.grown.ensures.lawful
    ∙ ap (λ (xs : List (List ℕ × Datum)). keeps_limits (context (entries_of (xs ++ (name, d) ∷ [])))) c.self.view_is

pub invariant_of-self-2 : goal.invariant_of-self-2
invariant_of-self-2 c =
    let d = c.args.value in
    let name = arc_str_bytes c.args.name in
    let es = map named c.self.inside.entries.items in
    let fits = sym (context_kept es name d c.self.inside.size c.self.invariant c.grown.ensures.lawful) ∙ sym c.in-Some.ensures.within in
    let taken : map named c.push.new.self.items ≡ es ++ (name, d) ∷ [] =
    ap (map named) c.in_ok-push.ensures.items ∙ map-append named c.self.inside.entries.items ((c.args.name, c.into_value.result) ∷ [])
    ∙ ap (λ x. es ++ (name, x) ∷ []) c.into_value.ensures.same in
    subst (λ xs. IsContext xs c.in-Some.size) (sym taken) (context_grown es name d c.self.inside.size c.in-Some.size c.self.invariant c.grown.ensures.lawful fits c.in-Some.ensures.size)

pub returns-clause-fits : goal.returns-clause-fits
returns-clause-fits c =
    let d = c.args.value in
    let name = arc_str_bytes c.args.name in
    c.in-Some.ensures.within ∙ context_kept (map named c.self.inside.entries.items) name d c.self.inside.size c.self.invariant c.grown.ensures.lawful
    ∙ ap (λ (xs : List (List ℕ × Datum)). keeps_limits (context (entries_of (xs ++ (name, d) ∷ [])))) c.self.view_is
