use Rattle.std.proofs.Common.{◌≡◌, ap, sym, ◌∙◌, List, ℕ, true, Option, None, Some}
use Rattle.std.specs.Arc.{arc_str_bytes}
use Rattle.std.specs.Prelude.{codes}
use Rattle.serde_json.specs.Written.{members_text}
use Rattle.feel_value.specs.Datum.{Datum}
use Rattle.feel_text.specs.Meaning.{Bindings}
use Rattle.feel_text.specs.Needed.{found_at, bindings_from}
use Rattle.dmn_logic.specs.LogicView.{logic_view}
use Rattle.json_writer.specs.Bounded.{longer}
use Rattle.dmn_explain.specs.Explanation.{how_under}
use Rattle.dmn_explain.specs.Text.{name_text, valued_text}
use Rattle.dmn_explain.proofs.Pieces.{named_added_by}
use Rattle.dmn_explain.proofs.decisions.add_decided.Goals as goal

pub returns-in_default : goal.returns-in_default
returns-in_default c =
    let t1 = c.add_name.new.text in
    let t2 = c.add_valued.new.text in
    let none : None ≡ bindings_from c.args.found.now c.args.item.now.named = sym c.in_default.is ∙ c.over_scope.ensures in
    named_added_by c.args.text.now t1 t2 c.push.new.self (arc_str_bytes c.args.item.now.name) (codes "value") (found_at c.args.found.now c.args.place)
    (how_under c.args.with_misses (bindings_from c.args.found.now c.args.item.now.named) (logic_view c.args.logic.now))
    (c.in_ok-add_name.ensures ∙ ap (λ (n : List ℕ). longer c.args.text.now (name_text n)) c.as_str.ensures.value)
    (c.in_ok-add_valued.ensures ∙ ap (λ (o : Option Datum). longer t1 (valued_text true (codes "value") o)) c.value_at.ensures)
    (c.in_ok-push.ensures ∙ ap (λ (o : Option Bindings). longer t2 (members_text true (how_under c.args.with_misses o (logic_view c.args.logic.now)))) none)

pub returns : goal.returns
returns c =
    let t1 = c.add_name.new.text in
    let t2 = c.add_valued.new.text in
    let some : Some c.in-Some.env ≡ bindings_from c.args.found.now c.args.item.now.named = sym c.in-Some.is ∙ c.over_scope.ensures in
    named_added_by c.args.text.now t1 t2 c.add_how.new.text (arc_str_bytes c.args.item.now.name) (codes "value") (found_at c.args.found.now c.args.place)
    (how_under c.args.with_misses (bindings_from c.args.found.now c.args.item.now.named) (logic_view c.args.logic.now))
    (c.in_ok-add_name.ensures ∙ ap (λ (n : List ℕ). longer c.args.text.now (name_text n)) c.as_str.ensures.value)
    (c.in_ok-add_valued.ensures ∙ ap (λ (o : Option Datum). longer t1 (valued_text true (codes "value") o)) c.value_at.ensures)
    (c.in_ok-add_how.ensures.text ∙ ap (λ (o : Option Bindings). longer t2 (members_text true (how_under c.args.with_misses o (logic_view c.args.logic.now)))) some)
