use Rattle.std.proofs.Common.{◌≡◌, ◌∙◌, ℕ, Err, Vec, Global, Option, option_map, ap}
use Rattle.serde_json.specs.Data.{Data}
use Rattle.serde_json.specs.View.{view}
use Rattle.desk_lines.specs.Lines.{lines_of}
use Rattle.dmn_plan.specs.ReadModel.{read_model}
use Rattle.desk_checking.proofs.Telling.{due_of, faulty_due, no_syntax}
use Rattle.desk_checking.proofs.model_check.check_form.Goals as goal

pub returns-in_ok-text-in_default : goal.returns-in_ok-text-in_default
returns-in_ok-text-in_default c =
    let d = view c.args.json.now in
    let f = c.in-Err.fault in
    let read : read_model d ≡ Err f = due_of (read_model d) f c.in-Err.ensures.err c.in_default.not-Memory in
    let beside : Option Data = option_map (λ v. view v.now) c.args.beside in
    faulty_due c.args.options d beside (lines_of c.args.requests.now) f c.faulty.result read c.faulty.ensures.fault c.faulty.ensures.refused
    (ap (λ (v : Vec ℕ Global). v.items) c.faulty.ensures.text ∙ c.in_ok-text-in_default.ensures d beside c.requires (λ e. no_syntax d (rw e at read)))
