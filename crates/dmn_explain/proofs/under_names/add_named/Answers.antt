use Rattle.std.proofs.Common.{ap, ◌∙◌, List, ℕ, string_bytes}
use Rattle.json.specs.Print.{quoted}
use Rattle.serde_json.specs.View.{view, members_view}
use Rattle.json_writer.specs.Bounded.{longer}
use Rattle.dmn_explain.specs.ByName.{each_member, json_among}
use Rattle.json_writer.proofs.Longer.{member_more}
use Rattle.dmn_explain.proofs.under_names.add_named.Goals as goal

pub loop-name-preserved : goal.loop-name-preserved
loop-name-preserved c =
    let ds = c.args.values.now in
    let named = c.in_ok-add_quoted.ensures ∙ ap (λ (n : List ℕ). longer c.add_comma.new.text (quoted n)) c.as_str.ensures.value in
    member_more _ c.loop-name.text c.add_comma.new.text c.add_quoted.new.self c.push-in-loop-name.new.self c.add_among.new.text c.loop-name.later _ (string_bytes c.in-Some.name.now) (json_among ds (view c.in-Some.place.now))
    (each_member (json_among ds) (members_view c.next.new.self)) c.loop-name.invariant (ap (λ ms. each_member (json_among ds) (members_view ms)) c.in-Some.ensures.steps) c.in_ok-add_comma.ensures
    named c.in_ok-push-2.ensures c.in_ok-add_among.ensures
