use Rattle.std.proofs.Common.{◌≡◌, ◌∙◌, ◌<◌, ◌+◌, [], ◌∷◌, ◌++◌, List, sym, ap, Some, length, set, arith}
use Rattle.std.proofs.lemmas.List.{get_or-set_same, get_or-set_other, get_or_default}
use Rattle.feel_text.specs.Meaning.{Bindings}
use Rattle.feel_text.specs.Places.{last_place}
use Rattle.feel_text.proofs.Needed.{last_within}
use Rattle.feel_eval.specs.Listed.{listed_of}
use Rattle.feel_eval.specs.declared.listed.Placed.{Placed}
use Rattle.feel_eval.proofs.Positions.{listed_more, view_more}
use Rattle.feel_eval.proofs.listed.Listed.bind.Goals as goal

pub index-hidden-requires : goal.index-hidden-requires
index-hidden-requires c =
    let scope = c.self.inside.scope.now in
    let within : c.in-Some.position < length scope = last_within c.args.name.now scope c.in-Some.position (sym c.in-Some.ensures) in
    omega (arith, within, c.len.ensures.number, c.in_ok-make_room.ensures.count, c.make_room.new.slots.ok.0)

pub index_mut-requires : goal.index_mut-requires
index_mut-requires c =
    let scope = c.self.inside.scope.now in
    let within : c.in-Some.position < length scope = last_within c.args.name.now scope c.in-Some.position (sym c.in-Some.ensures) in
    omega (arith, within, c.len.ensures.number, c.in_ok-make_room.ensures.count, c.make_room.new.slots.ok.0)

pub overflow_add-self : goal.overflow_add-self
overflow_add-self c =
    let scope = c.self.inside.scope.now in
    let within : c.in-Some.position < length scope = last_within c.args.name.now scope c.in-Some.position (sym c.in-Some.ensures) in
    omega (arith, within, c.len.ensures.number, c.len.ensures.small)

pub invariant_of-self-2 : goal.invariant_of-self-2
invariant_of-self-2 c =
    let scope = c.self.inside.scope.now in
    let p = c.in-Some.position in
    let xs : List Placed = c.self.inside.bindings.items in
    let made = c.make_room.new.slots.items in
    let x : Placed = record { value = c.args.value; position = p; hidden = c.index-hidden.result.now } in
    let here : last_place c.args.name.now scope ≡ Some p = sym c.in-Some.ensures in
    let within : p < length scope = last_within c.args.name.now scope p here in
    let inside : p < length made = omega (arith, within, c.len.ensures.number, c.in_ok-make_room.ensures.count) in
    let number : c.len-count.result + 1 ≡ length xs + 1 = omega (arith, c.len-count.ensures, c.self.inside.bindings.ok.0) in
    rw (c.in_ok-push.ensures.items, c.in_ok-make_room.ensures.items) (listed_more scope xs x c.self.inside.slots.items (set made p (c.len-count.result + 1)) c.args.name.now c.self.invariant
    (omega (arith, c.if-count-ge-MOST_BINDINGS.false, c.len-count.ensures, c.self.inside.bindings.ok.0)) here
    (c.index-hidden.ensures ∙ get_or_default made p c.index-hidden.result.now 0 inside ∙ c.in_ok-make_room.ensures.same p)
    (get_or-set_same made p (c.len-count.result + 1) 0 inside ∙ number)
    (λ j apart. get_or-set_other made p j (c.len-count.result + 1) 0 (λ e. apart (sym e)) ∙ c.in_ok-make_room.ensures.same j))

pub returns : goal.returns
returns c =
    let scope = c.self.inside.scope.now in
    let xs : List Placed = c.self.inside.bindings.items in
    let x : Placed = record { value = c.args.value; position = c.in-Some.position; hidden = c.index-hidden.result.now } in
    ap (listed_of scope) (c.in_ok-push.ensures.items ∙ ap (λ (ys : List Placed). ys ++ x ∷ []) c.in_ok-make_room.ensures.items)
    ∙ view_more scope xs x c.args.name.now (sym c.in-Some.ensures)
    ∙ ap (λ (ys : Bindings). ys ++ (c.args.name.now, c.args.value) ∷ []) c.self.view_is
