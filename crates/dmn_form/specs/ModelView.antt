-- The model, as written, that the code's model stands for.
use Rattle.std.specs.Prelude.{List, map, Vec, string_bytes, Option, codes}
use Rattle.std.specs.declared.alloc.Global.{Global}
use Rattle.serde_json.specs.Data.{Data}
use Rattle.serde_json.specs.Find.{get}
use Rattle.dmn_form.specs.Model.{Service}
use Rattle.dmn_form.specs.Draft.{Logic, Draft, Written, list_of, logic_of, decision_of, service_of}
use Rattle.feel_value.specs.Found.{◌>>=◌}
use Rattle.dmn_form.specs.FormView.{texts_view}
use Rattle.dmn_form.specs.LogicView.{logic_view}
use Rattle.dmn_form.specs.declared.written.WrittenDecision as decision
use Rattle.dmn_form.specs.declared.written.WrittenService as service
use Rattle.dmn_form.specs.declared.written.WrittenModel as model

abbrev pub logic_at_view : Data → Option Logic
logic_at_view d = get (codes "expr") d >>= logic_of

abbrev pub decision_view : decision.WrittenDecision → Written
decision_view d = record { name = string_bytes d.name; needs = texts_view d.needs; logic = logic_view d.logic }

abbrev pub decisions_view : Vec decision.WrittenDecision Global → List Written
decisions_view v = map decision_view v.items

abbrev pub decisions_at_view : Data → Option (List Written)
decisions_at_view d = get (codes "decisions") d >>= list_of decision_of

abbrev pub service_view : service.WrittenService → Service
service_view s = record {
  name = string_bytes s.name;
  outputs = texts_view s.outputs;
  encapsulated = texts_view s.encapsulated;
  input_decisions = texts_view s.input_decisions;
  input_data = texts_view s.input_data;
}

abbrev pub services_view : Vec service.WrittenService Global → List Service
services_view v = map service_view v.items

abbrev pub services_at_view : Data → Option (List Service)
services_at_view d = get (codes "services") d >>= list_of service_of

abbrev pub model_view : model.WrittenModel → Draft
model_view m = record { inputs = texts_view m.inputs; decisions = decisions_view m.decisions; services = services_view m.services }
