use Rattle.std.proofs.Common.{◌≡◌, ◌∙◌, sym, ap, subst, inr, true, false, is_some}
use Rattle.std.specs.BTreeSet.{contains_text}
use Rattle.std.specs.Prelude.{string_bytes}
use Rattle.serde_json.specs.Find.{get, get_member}
use Rattle.serde_json.specs.View.{members_view, view}
use Rattle.serde_json.proofs.Views.{view-Object}
use Rattle.dmn_plan.specs.Request.{value_under}
use Rattle.desk_requests.proofs.Taken.{AreLeft, all_looked_at, one_more_member}
use Rattle.desk_requests.proofs.services.have_values.Goals as goal

pub loop-key-init : goal.loop-key-init
loop-key-init c = λ k among.
    inr (ap (λ v. get k (view v)) c.in-Object.is ∙ ap (get k) (view-Object c.in-Object.members)
    ∙ ap (λ es. get_member k (members_view es)) (sym (c.into_iter-key-iterator.ensures.into_iter_gives ∙ c.iter-key-items.ensures.rest)))

pub loop-key-preserved-then-not-contains : goal.loop-key-preserved-then-not-contains
loop-key-preserved-then-not-contains c =
    let names = c.args.names.now in
    let inputs = view c.args.inputs.now in
    one_more_member names inputs (string_bytes c.in-Some.key.now) (view c.in-Some._member.now) (members_view c.next.new.self)
    (subst (λ it. AreLeft names inputs (members_view it)) c.in-Some.ensures.steps c.loop-key.invariant)
    (λ among. let no : false ≡ true = c.if-not-contains.ensures ∙ ap (contains_text names) c.as_str.ensures.value ∙ among in cc)

pub loop-key-preserved : goal.loop-key-preserved
loop-key-preserved c =
    let names = c.args.names.now in
    let inputs = view c.args.inputs.now in
    one_more_member names inputs (string_bytes c.in-Some.key.now) (view c.in-Some._member.now) (members_view c.next.new.self)
    (subst (λ it. AreLeft names inputs (members_view it)) c.in-Some.ensures.steps c.loop-key.invariant)
    (λ among. ap (λ s. is_some (value_under (get s inputs))) (sym c.as_str-in-loop-key.ensures.value) ∙ sym c.in_ok-has_value.ensures ∙ c.if-not-branch.false)

pub returns-clause-all : goal.returns-clause-all
returns-clause-all c = λ yes. record {
  of_object = (members_view c.in-Object.members.entries, ap view c.in-Object.is ∙ view-Object c.in-Object.members);
  each = λ k among. all_looked_at (view c.args.inputs.now) k (subst (λ it. AreLeft c.args.names.now (view c.args.inputs.now) (members_view it)) c.in-None.ensures.steps.0 c.loop-key.invariant k among);
}
