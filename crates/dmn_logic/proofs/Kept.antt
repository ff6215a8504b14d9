-- Decisions whose logic is read keep their names and what they need.
use Rattle.std.proofs.Common.{◌≡◌, List, map, ap, Option, None, Some}
use Rattle.feel_text.specs.Expr.{Expr}
use Rattle.feel_value.specs.Found.{◌>>=◌}
use Rattle.dmn_table.specs.Table.{Table}
use Rattle.dmn_form.specs.Model.{Name, Decision}
use Rattle.dmn_form.specs.Draft.{Written}
use Rattle.dmn_logic.specs.LogicView.{Read}
use Rattle.dmn_logic.specs.ReadLogic.{read_logic, read_decision, read_decisions}
use Rattle.dmn_logic.proofs.Unread.{each_same}

-- its name, and what it needs
abbrev pub head_of : {E T : Type 0} → Decision E T → Name × List Name
head_of d = (d.name, d.needs)

head_in : (o : Option Read) (d : Written) (e : Decision Expr Table) → (o >>= λ logic. Some (record { name = d.name; needs = d.needs; logic = logic })) ≡ Some e → head_of e ≡ head_of d
head_in None d e h = cc
head_in (Some b) d e h =
    let same : e ≡ record { name = d.name; needs = d.needs; logic = b } = cc in ap head_of same

pub head_kept : (d : Written) (e : Decision Expr Table) → read_decision d ≡ Some e → head_of e ≡ head_of d
head_kept d e h = head_in (read_logic d.logic) d e h

pub heads_kept : (ds : List Written) (es : List (Decision Expr Table)) → read_decisions ds ≡ Some es → map head_of es ≡ map head_of ds
heads_kept ds es h = each_same read_decision head_of head_of head_kept ds es h
