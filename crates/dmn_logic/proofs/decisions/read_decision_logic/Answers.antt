use Rattle.std.proofs.Common.{map}
use Rattle.dmn_form.specs.ModelView.{decision_view}
use Rattle.dmn_logic.specs.declared.reading.Reading.TheVariants.{Found, Refused, Unread}
use Rattle.dmn_logic.proofs.Told.{reading_tells}
use Rattle.dmn_logic.proofs.decisions.read_decision_logic.Goals as goal

pub returns-in-Found-clause-read : goal.returns-in-Found-clause-read
returns-in-Found-clause-read c = (reading_tells (map decision_view c.args.decisions.now) c.in_ok-logics.field-0 (Found c.in-Found.logics) c.in_ok-logics.ensures c.in-Found.is).2

pub returns-in-Found-clause-texts : goal.returns-in-Found-clause-texts
returns-in-Found-clause-texts c = (reading_tells (map decision_view c.args.decisions.now) c.in_ok-logics.field-0 (Found c.in-Found.logics) c.in_ok-logics.ensures c.in-Found.is).0

pub returns-in-Found-clause-tables : goal.returns-in-Found-clause-tables
returns-in-Found-clause-tables c = (reading_tells (map decision_view c.args.decisions.now) c.in_ok-logics.field-0 (Found c.in-Found.logics) c.in_ok-logics.ensures c.in-Found.is).1

pub returns-in-Refused-clause-err : goal.returns-in-Refused-clause-err
returns-in-Refused-clause-err c = reading_tells (map decision_view c.args.decisions.now) c.in_ok-logics.field-0 Refused c.in_ok-logics.ensures c.in-Refused.is

pub returns-in-Unread-clause-err : goal.returns-in-Unread-clause-err
returns-in-Unread-clause-err c = reading_tells (map decision_view c.args.decisions.now) c.in_ok-logics.field-0 Unread c.in_ok-logics.ensures c.in-Unread.is
