-- What may cross threads.
use denote.Param.Send.{IsSend, IsSync, sendable, view_send, view_sync}
use denote.Param.SendFields.{declared_send, declared_sync}
use Rattle.std.proofs.Crossing.{crosses, Vec-send, Vec-sync, Arc-send, Arc-sync}
use Rattle.std.proofs.MapsCrossing as maps
use Rattle.std.proofs.option.Option.TheSendSync as option
use Rattle.feel_text.proofs.expr.Operator.TheSendSync as operator
use Rattle.feel_text.proofs.expr.Function.TheSendSync as function
use Rattle.feel_text.proofs.unary.Bound.TheSendSync as bound
use Rattle.dmn_table.proofs.hit_policy.HitPolicy.TheSendSync as policy
use Rattle.feel_value.proofs.Crossing.{Text-send, Text-sync, Value-send, Value-sync, Feel-send, Feel-sync}
use Rattle.feel_text.proofs.expr.Tree.TheLaws.TheKnot as TreeKnot
use Rattle.feel_value.specs.contracts.feel.Feel as Feel
use Rattle.feel_text.specs.contracts.constant.Constant as Constant
use Rattle.feel_text.specs.contracts.constant.Constant.TheInside as ConstantInside
use Rattle.feel_text.specs.contracts.expression.Expr as Expr
use Rattle.feel_text.specs.contracts.name.Name as Name
use Rattle.feel_text.specs.contracts.name.Name.TheInside as NameInside
use Rattle.feel_text.specs.contracts.needs.Need as Need
use Rattle.feel_text.specs.contracts.needs.Needs as Needs
use Rattle.feel_text.specs.contracts.needs.Needs.TheInside as NeedsInside
use Rattle.feel_text.specs.contracts.reference.Reference as Reference
use Rattle.feel_text.specs.contracts.input_entry.Tests as Tests
use Rattle.feel_text.proofs.class.Class.TheSendSync as class
use Rattle.feel_text.proofs.ready.Span.TheSendSync as span
use Rattle.table_classes.specs.contracts.classes.ClassRules as ClassRules
use Rattle.table_classes.specs.contracts.classes.ColumnClasses as ColumnClasses
use Rattle.dmn_table.specs.contracts.table.Output as Output
use Rattle.dmn_table.specs.contracts.table.Rule as Rule
use Rattle.dmn_table.specs.contracts.table.Table as Table
use Rattle.dmn_table.specs.contracts.table.Table.TheInside as TableInside
use denote.Param.SendFields.{as_row_send, as_row_sync}
use Rattle.dmn_logic.specs.contracts.logic.Logic as Logic
use Rattle.dmn_logic.proofs.logic.Logic.TheLaws.TheKnot as LogicKnot
use Rattle.dmn_service.specs.contracts.plan.Item as Item
use Rattle.dmn_service.proofs.plan.ServicePlan.TheSendSync as service
use Rattle.dmn_plan.specs.contracts.plan.Plan as Plan
use Rattle.dmn_plan.specs.contracts.plan.Plan.TheInside as PlanInside
use Rattle.dmn_plan.specs.contracts.task.Task as Task
use Rattle.dmn_plan.specs.contracts.task.Task.TheInside as TaskInside
use denote.RattleType.{RattleType}
use Rattle.model_marks.specs.declared.mark.Catalog.{Ghosts}
use Rattle.model_marks.proofs.mark.Mark.TheSendSync as mark

pub ConstantInside-send : IsSend ConstantInside.the_row
ConstantInside-send = declared_send ConstantInside.the_type (Feel-send, tt)

pub Constant-send : IsSend Constant.the_row
Constant-send = view_send _ _ _ _ _ ConstantInside-send

pub NameInside-send : IsSend NameInside.the_row
NameInside-send = declared_send NameInside.the_type (maps.String-send, ((search (sendable, crosses) depth 20), tt))

pub Name-send : IsSend Name.the_row
Name-send = view_send _ _ _ _ _ NameInside-send

pub Reference-send : IsSend Reference.the_row
Reference-send = declared_send Reference.the_type (Name-send, ((search (sendable, crosses) depth 20), tt))

pub Expr-send : IsSend Expr.the_row
Expr-send = search (Constant-send, Reference-send, operator.the_field_send, function.the_field_send, crosses, TreeKnot.crosses, sendable) depth 60 fits 20000

pub Tests-send : IsSend Tests.the_row
Tests-send = search (Constant-send, Reference-send, Value-send, Vec-send, span.the_field_send, operator.the_field_send, function.the_field_send, bound.the_field_send, crosses, TreeKnot.crosses, sendable) depth 60 fits 20000

pub Output-send : IsSend Output.the_row
Output-send = declared_send Output.the_type (Text-send, (Vec-send Feel.the_row Feel-send, (option.the_send Expr.the_row Expr-send, tt)))

pub Rule-send : IsSend Rule.the_row
Rule-send = declared_send Rule.the_type (Vec-send Tests.the_row Tests-send, (Vec-send Expr.the_row Expr-send, tt))

pub ClassRules-send : IsSend ClassRules.the_row
ClassRules-send = declared_send ClassRules.the_type (class.the_send, ((search (Vec-send, sendable, crosses) depth 20), tt))

pub ColumnClasses-send : IsSend ColumnClasses.the_row
ColumnClasses-send = declared_send ColumnClasses.the_type ((search (Vec-send, sendable, crosses) depth 20), (Vec-send ClassRules.the_row ClassRules-send, tt))

pub TableInside-send : IsSend TableInside.the_row
TableInside-send = declared_send TableInside.the_type (policy.the_send, (Vec-send Expr.the_row Expr-send, (Vec-send Output.the_row Output-send, (Vec-send Rule.the_row Rule-send, ((search (sendable, crosses) depth 20), (option.the_send _ (Vec-send ColumnClasses.the_row ColumnClasses-send), tt))))))

pub Table-send : IsSend Table.the_row
Table-send = view_send _ _ _ _ _ TableInside-send

pub ConstantInside-sync : IsSync ConstantInside.the_row
ConstantInside-sync = declared_sync ConstantInside.the_type (Feel-sync, tt)

pub Constant-sync : IsSync Constant.the_row
Constant-sync = view_sync _ _ _ _ _ ConstantInside-sync

pub NameInside-sync : IsSync NameInside.the_row
NameInside-sync = declared_sync NameInside.the_type (maps.String-sync, ((search (sendable, crosses) depth 20), tt))

pub Name-sync : IsSync Name.the_row
Name-sync = view_sync _ _ _ _ _ NameInside-sync

pub Reference-sync : IsSync Reference.the_row
Reference-sync = declared_sync Reference.the_type (Name-sync, ((search (sendable, crosses) depth 20), tt))

pub Expr-sync : IsSync Expr.the_row
Expr-sync = search (Constant-sync, Reference-sync, operator.the_field_sync, function.the_field_sync, crosses, TreeKnot.crosses, sendable) depth 60 fits 20000

pub Tests-sync : IsSync Tests.the_row
Tests-sync = search (Constant-sync, Reference-sync, Value-sync, Vec-sync, span.the_field_sync, operator.the_field_sync, function.the_field_sync, bound.the_field_sync, crosses, TreeKnot.crosses, sendable) depth 60 fits 20000

pub Output-sync : IsSync Output.the_row
Output-sync = declared_sync Output.the_type (Text-sync, (Vec-sync Feel.the_row Feel-sync, (option.the_sync Expr.the_row Expr-sync, tt)))

pub Rule-sync : IsSync Rule.the_row
Rule-sync = declared_sync Rule.the_type (Vec-sync Tests.the_row Tests-sync, (Vec-sync Expr.the_row Expr-sync, tt))

pub ClassRules-sync : IsSync ClassRules.the_row
ClassRules-sync = declared_sync ClassRules.the_type (class.the_sync, ((search (Vec-sync, sendable, crosses) depth 20), tt))

pub ColumnClasses-sync : IsSync ColumnClasses.the_row
ColumnClasses-sync = declared_sync ColumnClasses.the_type ((search (Vec-sync, sendable, crosses) depth 20), (Vec-sync ClassRules.the_row ClassRules-sync, tt))

pub TableInside-sync : IsSync TableInside.the_row
TableInside-sync = declared_sync TableInside.the_type (policy.the_sync, (Vec-sync Expr.the_row Expr-sync, (Vec-sync Output.the_row Output-sync, (Vec-sync Rule.the_row Rule-sync, ((search (sendable, crosses) depth 20), (option.the_sync _ (Vec-sync ColumnClasses.the_row ColumnClasses-sync), tt))))))

pub Table-sync : IsSync Table.the_row
Table-sync = view_sync _ _ _ _ _ TableInside-sync

pub Logic-send : IsSend Logic.the_row
Logic-send = search (Text-send, Expr-send, Table-send, crosses, LogicKnot.crosses, sendable) depth 60 fits 20000

pub Need-send : IsSend Need.the_row
Need-send = declared_send Need.the_type (Name-send, ((search (sendable, crosses) depth 20), tt))

pub NeedsInside-send : IsSend NeedsInside.the_row
NeedsInside-send = declared_send NeedsInside.the_type (Vec-send Need.the_row Need-send, ((search (Vec-send, sendable, crosses, as_row_send) depth 20 fits 20000), ((search (sendable, crosses) depth 20), tt)))

pub Needs-send : IsSend Needs.the_row
Needs-send = view_send _ _ _ _ _ NeedsInside-send

pub Item-send : IsSend Item.the_row
Item-send = declared_send Item.the_type (Text-send, (search (sendable, crosses) depth 20, (Needs-send, (Needs-send, (option.the_send Logic.the_row Logic-send, tt)))))

pub PlanInside-send : IsSend PlanInside.the_row
PlanInside-send = declared_send PlanInside.the_type (maps.String-send, (Vec-send Item.the_row Item-send, ((search (maps.BTreeMap-send, maps.String-send, service.the_send, as_row_send) depth 20 fits 20000), tt)))

pub Plan-send : IsSend Plan.the_row
Plan-send = view_send _ _ _ _ _ PlanInside-send

pub Logic-sync : IsSync Logic.the_row
Logic-sync = search (Text-sync, Expr-sync, Table-sync, crosses, LogicKnot.crosses, sendable) depth 60 fits 20000

pub Need-sync : IsSync Need.the_row
Need-sync = declared_sync Need.the_type (Name-sync, ((search (sendable, crosses) depth 20), tt))

pub NeedsInside-sync : IsSync NeedsInside.the_row
NeedsInside-sync = declared_sync NeedsInside.the_type (Vec-sync Need.the_row Need-sync, ((search (Vec-sync, sendable, crosses, as_row_sync) depth 20 fits 20000), ((search (sendable, crosses) depth 20), tt)))

pub Needs-sync : IsSync Needs.the_row
Needs-sync = view_sync _ _ _ _ _ NeedsInside-sync

pub Item-sync : IsSync Item.the_row
Item-sync = declared_sync Item.the_type (Text-sync, (search (sendable, crosses) depth 20, (Needs-sync, (Needs-sync, (option.the_sync Logic.the_row Logic-sync, tt)))))

pub PlanInside-sync : IsSync PlanInside.the_row
PlanInside-sync = declared_sync PlanInside.the_type (maps.String-sync, (Vec-sync Item.the_row Item-sync, ((search (maps.BTreeMap-sync, maps.String-sync, service.the_sync, as_row_sync) depth 20 fits 20000), tt)))

pub Plan-sync : IsSync Plan.the_row
Plan-sync = view_sync _ _ _ _ _ PlanInside-sync

pub Task-send : (C : RattleType) (G : Ghosts C.Denot) → IsSend (Task.the_row C G)
Task-send C G = view_send _ _ _ _ _ (declared_send (TaskInside.the_type C G) (Arc-send Plan.the_row Plan-send Plan-sync, (maps.String-send, (Vec-send Feel.the_row Feel-send, (option.the_send _ (mark.the_send C G), tt)))))

pub Task-sync : (C : RattleType) (G : Ghosts C.Denot) → IsSync (Task.the_row C G)
Task-sync C G = view_sync _ _ _ _ _ (declared_sync (TaskInside.the_type C G) (Arc-sync Plan.the_row Plan-send Plan-sync, (maps.String-sync, (Vec-sync Feel.the_row Feel-sync, (option.the_sync _ (mark.the_sync C G), tt)))))
