use Rattle.std.proofs.Common.{◌≡◌, ◌<◌, ◌≤◌, ℕ, List, length, Bor, slice_set, arith, ◌∙◌, ap, sym, refl}
use Rattle.serde_json.specs.declared.value.Value.{Value}
use Rattle.std.proofs.lemmas.List.{get_or_default}
use Rattle.serde_json.specs.Data.{put}
use Rattle.serde_json.specs.View.{view}
use Rattle.json_reader.specs.Members.{members_of}
use Rattle.json_reader.proofs.Putting.{put_behind, put_less, put_equal, put_greater}
use Rattle.json_reader.proofs.members.put_member.Goals as goal

pub loop-place-init : goal.loop-place-init
loop-place-init c = (refl, refl)

pub returns-in-Less : goal.returns-in-Less
returns-in-Less c =
    let inside : c.loop-place.place < length c.loop-place.members.items = omega (arith, ap (λ v. length v) c.loop-place.invariant.0) in
    ap members_of c.in_ok-insert-in-Less.ensures.items
    ∙ put_less c.args.key c.args.value c.loop-place.members.items c.loop-place.place c.index.result.now inside c.index.ensures c.in-Less.ensures
    ∙ sym c.loop-place.invariant.1 ∙ ap (λ l. put c.args.key.now (view c.args.value) (members_of l)) c.loop-place.invariant.0

pub returns-in-Equal : goal.returns-in-Equal
returns-in-Equal c =
    let inside : c.loop-place.place < length c.loop-place.members.items = omega (arith, ap (λ v. length v) c.loop-place.invariant.0) in
    let same : c.index_mut.result.now ≡ c.index.result.now = c.index_mut.ensures.value ∙ get_or_default c.loop-place.members.items c.loop-place.place c.index_mut.result.now c.index.result.now inside ∙ sym c.index.ensures in
    ap (λ (m : Bor (List ℕ) × Value). members_of (slice_set c.loop-place.members.items c.loop-place.place (m.0, c.args.value))) same
    ∙ put_equal c.args.key c.args.value c.loop-place.members.items c.loop-place.place c.index.result.now inside c.index.ensures c.in-Equal.ensures
    ∙ sym c.loop-place.invariant.1 ∙ ap (λ l. put c.args.key.now (view c.args.value) (members_of l)) c.loop-place.invariant.0

pub loop-place-preserved : goal.loop-place-preserved
loop-place-preserved c =
    let inside : c.loop-place.place < length c.loop-place.members.items = omega (arith, ap (λ v. length v) c.loop-place.invariant.0) in (
      c.loop-place.invariant.0,
      c.loop-place.invariant.1 ∙ put_greater c.args.key c.args.value c.loop-place.members.items c.loop-place.place c.index.result.now inside c.index.ensures c.in-Greater.ensures,
    )

pub returns : goal.returns
returns c =
    let past : length c.loop-place.members.items ≤ c.loop-place.place = omega (arith, ap (λ v. length v) c.loop-place.invariant.0) in
    ap members_of c.in_ok-push.ensures.items ∙ put_behind c.args.key c.args.value c.loop-place.members.items c.loop-place.place past
    ∙ sym c.loop-place.invariant.1 ∙ ap (λ l. put c.args.key.now (view c.args.value) (members_of l)) c.loop-place.invariant.0
