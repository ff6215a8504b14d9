use Rattle.std.proofs.Common.{◌≡◌, ◌∙◌, ap, arith, false, map, rules, subst, true}
use Rattle.desk_ranges.specs.Gives.{written_name}
use Rattle.dmn_logic.specs.LogicView.{logic_view}
use Rattle.desk_checking.specs.ComesView.{IsFrom}
use Rattle.desk_checking.specs.Tables.{logic_tables, tables_of}
use Rattle.desk_checking.specs.TablesTold.{IsWithin, TellsTables}
use Rattle.desk_checking.proofs.ComingTo.{tells_within}
use Rattle.desk_checking.proofs.Lawful.{told, untold}
use Rattle.desk_checking.proofs.model_check.tables_if.Goals as goal

pub returns-then-not-options : goal.returns-then-not-options
returns-then-not-options c = λ m read.
    let off : c.args.options.tables ≡ false = first_of (cc, search rules, grind arith) in
    untold c.args.options.tables c.args.options.strict (IsWithin m c.args.domains.now (map written_name c.args.services.now)) (tables_of m) c.none.result.text.items c.none.result.are_refused off c.none.ensures.text

pub returns : goal.returns
returns c = λ m read.
    let on : c.args.options.tables ≡ true = first_of (cc, search rules, grind arith) in
    let domains = c.args.domains.now in
    let names = map written_name c.args.services.now in
    let inputs = c.in_ok-inputs.inputs in
    let tables = c.in_ok-told.told in
    let logics = ap (λ ls. map (λ l. logic_view l.now) ls) c.deref.ensures.value ∙ c.in_ok-logics.ensures m read in
    told c.args.options.tables c.args.options.strict (IsWithin m domains names) (tables_of m) tables.text.items tables.are_refused on
    (tells_within c.args.plan.now m domains names inputs (tables_of m) tables.text.items tables.are_refused read c.in_ok-inputs.ensures.comes c.in_ok-inputs.ensures.unknown
    (subst (λ bs. TellsTables (IsFrom inputs bs) (logic_tables 0 bs) tables.text.items tables.are_refused) logics c.in_ok-told.ensures))
