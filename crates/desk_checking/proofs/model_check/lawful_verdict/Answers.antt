use Rattle.std.proofs.Common.{◌∙◌, ◌++◌, ℕ, List, ap, append_assoc, map, subst, sym, ◌&&◌}
use Rattle.std.specs.List.{flat_map}
use Rattle.serde_json.specs.Written.{compact_text}
use Rattle.desk_lines.specs.Lines.{ended}
use Rattle.feel_text.specs.Expr.{Expr}
use Rattle.dmn_table.specs.Table.{Table}
use Rattle.desk_ranges.specs.Gives.{written_name}
use Rattle.dmn_form.specs.Model.{Model, Name}
use Rattle.dmn_form.specs.ModelView.{model_view}
use Rattle.dmn_form.specs.declared.written.WrittenService.{WrittenService}
use Rattle.dmn_plan.specs.ReadModel.{read_model}
use Rattle.desk_checking.specs.GivesTold.{GivesIf, looks_at_services, service_names}
use Rattle.desk_checking.specs.Tables.{tables_of}
use Rattle.desk_checking.specs.TablesTold.{IsWithin, TellsIf}
use Rattle.desk_checking.specs.Told.{lawful_line, refusal_lines}
use Rattle.desk_checking.proofs.Lawful.{read_whole, services_named}
use Rattle.desk_checking.proofs.model_check.lawful_verdict.Goals as goal

pub returns-clause-tells : goal.returns-clause-tells
returns-clause-tells c = λ d beside lawful is same form declared.
    let m = model_view c.args.model.now in
    let line = ended (lawful_line m) in
    let told = flat_map ended (refusal_lines c.in_ok-refusals.refusals.first.items c.in_ok-refusals.refusals.count) in
    let found = read_whole (read_model d) lawful in
    let options = c.args.options in
    let domains = c.args.domains.now in
    let gives = c.in_ok-gives.gives in
    let given = c.deref-2.result.now in
    let tables = c.in_ok-tables.tables in
    let table_text = c.deref-4.result.now in
    let Can : List ℕ → List Name → List ℕ → Type 0 = λ model names text. GivesIf (looks_at_services options) options.strict_null model domains names text (options.strict_null && gives.can_fail) in
    let Told : Model Expr Table → List Name → List ℕ → Type 0 =
    λ whole names s. TellsIf options.tables options.strict (IsWithin whole domains names) (tables_of whole) s (options.tables && (options.strict && tables.are_refused)) in
    let named = ap (λ (ss : List WrittenService). map written_name ss) c.deref.ensures.value ∙ services_named c.args.model.now.services.items in
    let looked_at = ap (λ (ss : List WrittenService). map written_name ss) c.deref-3.ensures.value ∙ services_named c.args.model.now.services.items in
    record {
      model = m;
      form = form;
      lawful = found.0;
      read = found.1;
      domains = domains;
      declared = declared;
      gives = given;
      can = subst (λ text. Can (compact_text d) (service_names m) text) (sym c.deref-2.ensures.value) (subst (λ names. Can (compact_text d) names gives.text.items) named (subst (λ model. Can model (map written_name c.deref.result.now) gives.text.items) is c.in_ok-gives.ensures));
      tables = table_text;
      told = subst (λ s. Told found.0 (service_names m) s) (sym c.deref-4.ensures.value) (subst (λ names. Told found.0 names tables.text.items) looked_at (c.in_ok-tables.ensures found.0 (same ∙ found.1)));
      count = c.in_ok-refusals.refusals.count;
      are = c.in_ok-refusals.ensures d lawful is;
      is =
          c.in_ok-add_refusals.ensures
          ∙ ap (λ s. s ++ told)
          (c.in_ok-extend_from_slice-2.ensures.items
          ∙ ap (λ s. s ++ table_text) (c.in_ok-extend_from_slice.ensures.items ∙ ap (λ s. s ++ given) (c.in_ok-add_model.ensures ∙ ap (λ s. s ++ line) c.new-text.ensures.items)))
          ∙ append_assoc (line ++ given) table_text told ∙ append_assoc line given (table_text ++ told);
    }
