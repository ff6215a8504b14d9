use Rattle.std.proofs.Common.{◌≡◌, ◌∙◌, ◌||◌, ◌++◌, ap, arith, refl, true, false, length}
use Rattle.std.specs.Prelude.{nat_lt}
use Rattle.std.proofs.lemmas.Bool.Decides.{nat_tests}
use Rattle.std.specs.List.{flat_map}
use Rattle.desk_lines.specs.Lines.{ended}
use Rattle.desk_checking.specs.Looking.{told_so_far}
use Rattle.desk_checking.specs.TableTold.{table_lines}
use Rattle.desk_checking.specs.TablesTold.{most_told, text_of}
use Rattle.desk_checking.specs.TablesView.{placed_view}
use Rattle.desk_checking.proofs.Lookings.{asked_of, looked_of, step_full, step_room}
use Rattle.desk_checking.proofs.tables.Telling.look_at.Goals as goal

pub returns-then-len-gt-MOST_TOLD : goal.returns-then-len-gt-MOST_TOLD
returns-then-len-gt-MOST_TOLD c =
    let old = c.args.self.now in
    let l = looked_of (placed_view c.args.placed.now) c.args.which.decision c.args.which.number c.in_ok-comes.comes c.in_ok-answers.answers 0 c.in_ok-undecided.undecided c.in_ok-answers.ensures in
    let full : nat_lt most_told (length old.text.items) ≡ true = grind (arith, nat_tests, c.if-len-gt-MOST_TOLD.true, c.len.ensures) in
    record { looked = l; is = refl; numbered = refl; asked = asked_of c.args.inputs.now c.args.which.decision c.args.which.number c.in_ok-comes.comes c.in_ok-comes.ensures; refused = ap (λ b. old.is_refused || b) c.are_refused-is_refused.ensures; told = step_full (told_so_far old) (text_of l) full }

pub returns : goal.returns
returns c =
    let old = c.args.self.now in
    let l = looked_of (placed_view c.args.placed.now) c.args.which.decision c.args.which.number c.in_ok-comes.comes c.in_ok-answers.answers c.steps-steps.result c.in_ok-undecided.undecided c.in_ok-answers.ensures in
    let room : nat_lt most_told (length old.text.items) ≡ false = grind (arith, nat_tests, c.if-len-gt-MOST_TOLD.false, c.len.ensures) in
    record {
      looked = l;
      is = refl;
      numbered = refl;
      asked = asked_of c.args.inputs.now c.args.which.decision c.args.which.number c.in_ok-comes.comes c.in_ok-comes.ensures;
      refused = ap (λ b. old.is_refused || b) c.are_refused-is_refused.ensures;
      told = step_room (told_so_far old) (text_of l) _ room
          (c.in_ok-add_table.ensures
          ∙ ap (λ p. old.text.items ++ flat_map ended (table_lines p c.in_ok-answers.answers c.steps-steps.result c.in_ok-undecided.undecided)) (c.as_str.ensures.value ∙ c.in_ok-pointer.ensures));
    }
