use Rattle.std.proofs.Common.{ap, ◌∙◌, List, ℕ, true, Option}
use Rattle.std.specs.Arc.{arc_str_bytes}
use Rattle.std.specs.Prelude.{codes}
use Rattle.serde_json.specs.Data.{no_members}
use Rattle.feel_value.specs.Datum.{Datum}
use Rattle.feel_text.specs.Needed.{found_at}
use Rattle.json_writer.specs.Bounded.{longer}
use Rattle.dmn_explain.specs.Text.{name_text, valued_text}
use Rattle.dmn_explain.proofs.Pieces.{named_added_by}
use Rattle.dmn_explain.proofs.decisions.add_given.Goals as goal

pub returns : goal.returns
returns c =
    let t1 = c.add_name.new.text in
    named_added_by c.args.text.now t1 c.add_valued.new.text c.push.new.self (arc_str_bytes c.args.item.now.name) (codes "given") (found_at c.args.found.now c.args.place) no_members
    (c.in_ok-add_name.ensures ∙ ap (λ (n : List ℕ). longer c.args.text.now (name_text n)) c.as_str.ensures.value)
    (c.in_ok-add_valued.ensures ∙ ap (λ (o : Option Datum). longer t1 (valued_text true (codes "given") o)) c.value_at.ensures)
    c.in_ok-push.ensures
