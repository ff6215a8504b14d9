use Rattle.std.proofs.Common.{◌≡◌, length, arith, rules, ap, sym, ◌∙◌, subst, ◌++◌, ◌+◌, [], ◌∷◌, List, ℕ, true, false, drop, Option, OnOk, refl}
use Rattle.std.specs.Arc.{arc_str_bytes}
use Rattle.std.specs.Prelude.{codes}
use Rattle.std.proofs.lemmas.List.{take_all}
use Rattle.serde_json.specs.Data.{array, object, no_members}
use Rattle.serde_json.specs.Written.{compact_text, items_text, members_text}
use Rattle.feel_value.specs.Datum.{Datum}
use Rattle.feel_value.specs.Found.{value_of}
use Rattle.feel_text.specs.Meaning.{Bindings}
use Rattle.dmn_table.specs.Table.{Table}
use Rattle.dmn_form.specs.Model.{context, table}
use Rattle.dmn_logic.specs.Boxed.{boxed}
use Rattle.dmn_logic.specs.LogicView.{logic_view, members_view, entries_view}
use Rattle.dmn_logic.specs.declared.logic.Logic.{Table as TableOf, the_lemmas}
use Rattle.dmn_logic.proofs.Boxes.{Named, logic_view-Context, bind_turn}
use Rattle.dmn_explain.specs.How.{how, table_told, told_as, members_told, entries_told, named_as}
use Rattle.dmn_explain.specs.Text.{valued_text, entries_text, result_text}
use Rattle.json_writer.specs.Bounded.{longer}
use Rattle.json_writer.proofs.Longer.{Text, stopped}
use Rattle.dmn_explain.proofs.Pieces.{member_ended_by, told_added_by, named_added_by, entries_added_by, entries_begun}
use Rattle.dmn_explain.proofs.Telling.{context_with_added, member_told, member_more, member_last, members_ended, entry_more, entry_last}
use Rattle.dmn_explain.proofs.boxed.+add_how.Goals as goal
use Rattle.dmn_explain.proofs.boxed.+add_how.Goals.{add_how-in-Ok, add_how-in-Err}

pub add_told-returns-clause-text : goal.add_told-returns-clause-text
add_told-returns-clause-text t c =
    let b = logic_view c.args.logic.now in
    let m = c.args.env.now in
    let t1 = c.push.new.self in
    let t2 = c.add_valued.new.text in
    let t3 = c.add_how.new.text in
    let o : Option Datum = value_of (boxed b m) in
    told_added_by c.args.text.now t1 t2 t3 o (how c.args.with_misses b m) c.in_ok-push.ensures
    (c.in_ok-add_valued.ensures ∙ ap (λ (p : Option Datum). longer t1 (valued_text false (codes "value") p)) (c.value.ensures ∙ ap value_of c.in_ok-outcome.ensures.value))
    (c.in_ok-add_how.ensures.text ∙ ap (λ (e : Bindings). longer t2 (members_text true (how c.args.with_misses b e))) c.in_ok-outcome.ensures.same)

pub add_entry-returns-clause-text : goal.add_entry-returns-clause-text
add_entry-returns-clause-text t c =
    let b = logic_view c.args.logic.now in
    let m = c.args.env.now in
    let t1 = c.add_name.new.text in
    let t2 = c.add_valued.new.text in
    let t3 = c.add_how.new.text in
    let o : Option Datum = value_of (boxed b m) in
    named_added_by c.args.text.now t1 t2 t3 c.args.name.now (codes "value") o (how c.args.with_misses b m) c.in_ok-add_name.ensures
    (c.in_ok-add_valued.ensures ∙ ap (λ (p : Option Datum). longer t1 (valued_text true (codes "value") p)) (c.value.ensures ∙ ap value_of c.in_ok-outcome.ensures.value))
    (c.in_ok-add_how.ensures.text ∙ ap (λ (e : Bindings). longer t2 (members_text true (how c.args.with_misses b e))) c.in_ok-outcome.ensures.same)

pub add_list-returns-clause-text : goal.add_list-returns-clause-text
add_list-returns-clause-text t c =
    member_ended_by c.args.text.now c.add_key.new.text c.add_members.new.text c.push.new.self true (codes "members")
    (array (members_told c.args.with_misses (members_view c.args.members.now) c.args.env.now)) c.in_ok-add_key.ensures c.in_ok-add_members.ensures.text c.in_ok-push.ensures

pub add_members-loop-member-preserved : goal.add_members-loop-member-preserved
add_members-loop-member-preserved t c =
    let m = c.args.env.now in
    let x = c.member-item.result in
    let t1 = c.add_comma.new.text in
    let t2 = c.add_told.new.text in
    let same = c.loop-member.invariant.same in record {
      same = c.in_ok-add_told.ensures.same ∙ same;
      text = member_more c.args.with_misses (longer c.args.text.now (compact_text (array (members_told c.args.with_misses (members_view c.args.members.now) m)))) c.loop-member.text t1 t2 c.loop-member.later m c.loop-member.member-index
          c.in_ok-add_comma.ensures c.args.members.now x c.loop-member.invariant.text c.member-item.is c.loop-member-test.true
          (c.in_ok-add_told.ensures.text ∙ ap (λ (e : Bindings). longer t1 (compact_text (member_told c.args.with_misses x e))) same)
          c.in-Is.field-0 (sym c.in-Is.is ∙ c.in_ok-add_told.ensures.value ∙ ap (boxed (logic_view x)) same);
    }

pub add_members-returns-in_default-clause-text : goal.add_members-returns-in_default-clause-text
add_members-returns-in_default-clause-text t c =
    let m = c.args.env.now in
    let x = c.member-item.result in
    let t1 = c.add_comma.new.text in
    let t2 = c.add_told.new.text in
    let same = c.loop-member.invariant.same in
    member_last c.args.with_misses (longer c.args.text.now (compact_text (array (members_told c.args.with_misses (members_view c.args.members.now) m)))) c.loop-member.text t1 t2 c.loop-member.later m c.loop-member.member-index
    c.in_ok-add_comma.ensures c.args.members.now x c.loop-member.invariant.text c.member-item.is c.loop-member-test.true
    (c.in_ok-add_told.ensures.text ∙ ap (λ (e : Bindings). longer t1 (compact_text (member_told c.args.with_misses x e))) same)
    c.push-in_default.new.self (sym c.in_default.is ∙ c.in_ok-add_told.ensures.value ∙ ap (boxed (logic_view x)) same) c.in_ok-push-2.ensures

pub add_members-returns-clause-text : goal.add_members-returns-clause-text
add_members-returns-clause-text t c =
    members_ended c.args.with_misses (longer c.args.text.now (compact_text (array (members_told c.args.with_misses (members_view c.args.members.now) c.args.env.now)))) c.loop-member.text c.push-2.new.self c.loop-member.later
    c.args.env.now c.args.members.now c.loop-member.member-index c.loop-member.invariant.text c.loop-member-test.false c.in_ok-push-3.ensures

pub add_entries-loop-name-preserved : goal.add_entries-loop-name-preserved
add_entries-loop-name-preserved t c =
    let m = c.loop-name.env in
    let x = c.loop-name-item.result in
    let i = c.loop-name.name-index in
    let entries = c.args.entries.now in
    let d : Datum = c.in-Is.value in
    let t1 = c.add_comma.new.text in
    let t2 = c.add_entry.new.text in
    let outcome = sym c.in-Is.is ∙ c.in_ok-value.ensures.value in
    let named = c.as_str-in-loop-name.ensures.value in
    let next : c.bind_lent.new.self ≡ m ++ (arc_str_bytes x.0, d) ∷ [] =
    c.in_ok-bind_lent.ensures ∙ ap (λ (e : Bindings). e ++ (c.as_str-in-loop-name.result.now, d) ∷ []) c.in_ok-value.ensures.same ∙ ap (λ (n : List ℕ). m ++ (n, d) ∷ []) named in record {
      bound = bind_turn _ c.args.env.now m c.add_entry.new.env c.bind_lent.new.self entries i x c.as_str-in-loop-name.result.now d
          c.loop-name.invariant.bound c.loop-name-item.is c.loop-name-test.true outcome c.in_ok-value.ensures.same c.in_ok-bind_lent.ensures named;
      text = ap (λ (e : Bindings). longer t2 (items_text true (entries_told c.args.with_misses (entries_view (drop (i + 1) entries)) e))) next
          ∙ entry_more c.args.with_misses (longer c.args.text.now (entries_text (entries_told c.args.with_misses (entries_view entries) c.args.env.now))) c.loop-name.text t1 t2 c.loop-name.later m i
          c.in_ok-add_comma.ensures entries x c.loop-name.invariant.text c.loop-name-item.is c.loop-name-test.true
          (c.in_ok-value.ensures.text ∙ ap (λ (n : List ℕ). longer t1 (compact_text (named_as n (value_of (boxed (logic_view x.1) m)) (how c.args.with_misses (logic_view x.1) m)))) c.as_str.ensures.value)
          d outcome;
    }

pub add_how-returns-in-Context-clause-text : goal.add_how-returns-in-Context-clause-text
add_how-returns-in-Context-clause-text t c =
    let same = ap (λ (es : List Named). context (entries_view es)) c.deref-in-Context.ensures.value ∙ sym (ap logic_view c.in-Context.is ∙ logic_view-Context c.in-Context.entries) in
    subst (λ l. OnOk c.add_context.result (c.add_context.new.text ≡ longer c.args.text.now (members_text true (how c.args.with_misses l c.args.env.now)))) same c.add_context.ensures.text

pub add_how-returns-after-add_entries-clause-text : goal.add_how-returns-after-add_entries-clause-text
add_how-returns-after-add_entries-clause-text t c =
    let m = c.args.env.now in
    let t0 = c.args.text.now in
    let t1 = c.add_entries.new.text in
    let whole = longer t0 (members_text true (how c.args.with_misses (logic_view c.args.logic.now) m)) in
    let after = c.add_entries.new.env in
    elim c.match-add_entries.branch [
      | add_how-in-Ok w ↦
          let rest = longer t1 (result_text c.args.with_misses w.in-Ok.all (logic_view c.in-ContextWith.last.value) after) in
          let same : longer t1 (result_text c.args.with_misses w.in-Ok.all (logic_view w.deref-in-Ok.result.now) after) ≡ whole =
          ap (λ l. longer t1 (result_text c.args.with_misses w.in-Ok.all (logic_view l) after)) w.deref-in-Ok.ensures
          ∙ context_with_added c.args.with_misses t0 t1 rest w.in-Ok.all c.args.logic.now c.in-ContextWith.entries c.deref-in-ContextWith.result.now c.in-ContextWith.last m after
          c.in-ContextWith.is c.deref-in-ContextWith.ensures.value w.in-Ok.ensures.text w.in-Ok.ensures.bound refl in
          subst (λ r. OnOk r (c.match-add_entries.text ≡ whole)) (sym w.added-is)
          (subst (λ (s : Text). OnOk w.add_result-added.result (s ≡ whole)) (sym w.text-is)
          (subst (λ (s : Text). OnOk w.add_result-added.result (w.add_result-added.new.text ≡ s)) same w.add_result-added.ensures.text))
      | add_how-in-Err w ↦ subst (λ r. OnOk r (c.match-add_entries.text ≡ whole)) (sym w.added-is) tt
    ]

pub add_members-returns-then-is_long-clause-text : goal.add_members-returns-then-is_long-clause-text
add_members-returns-then-is_long-clause-text t c = stopped c.loop-member.text _ _ (sym c.is_long.ensures ∙ c.if-is_long.true) c.loop-member.invariant.text

pub add_entries-returns-then-is_long-clause-text : goal.add_entries-returns-then-is_long-clause-text
add_entries-returns-then-is_long-clause-text t c = stopped c.loop-name.text _ _ (sym c.is_long.ensures ∙ c.if-is_long.true) c.loop-name.invariant.text

pub add_context-returns-clause-text : goal.add_context-returns-clause-text
add_context-returns-clause-text t c =
    entries_added_by c.args.text.now c.add_entries-all.new.text c.push.new.self (entries_told c.args.with_misses (entries_view c.args.entries.now) c.args.env.now) no_members c.in_ok-all.ensures.text c.in_ok-push.ensures

pub add_entries-loop-name-init : goal.add_entries-loop-name-init
add_entries-loop-name-init t c = record {
  bound = (take_all (length c.args.env.now) c.args.env.now (omega arith), refl);
  text = entries_begun c.args.text.now c.add_key.new.text c.push.new.self (entries_told c.args.with_misses (entries_view c.args.entries.now) c.args.env.now) c.in_ok-add_key.ensures c.in_ok-push.ensures;
}

pub add_entries-returns-in_default-clause-text : goal.add_entries-returns-in_default-clause-text
add_entries-returns-in_default-clause-text t c =
    let m = c.loop-name.env in
    let x = c.loop-name-item.result in
    let entries = c.args.entries.now in
    let t1 = c.add_comma.new.text in
    entry_last c.args.with_misses (longer c.args.text.now (entries_text (entries_told c.args.with_misses (entries_view entries) c.args.env.now))) c.loop-name.text t1 c.add_entry.new.text c.loop-name.later m c.loop-name.name-index
    c.in_ok-add_comma.ensures entries x c.loop-name.invariant.text c.loop-name-item.is c.loop-name-test.true
    (c.in_ok-value.ensures.text ∙ ap (λ (n : List ℕ). longer t1 (compact_text (named_as n (value_of (boxed (logic_view x.1) m)) (how c.args.with_misses (logic_view x.1) m)))) c.as_str.ensures.value)
    c.push-in_default.new.self (sym c.in_default.is ∙ c.in_ok-value.ensures.value) c.in_ok-push-2.ensures

seen_table : (x : Table) → logic_view (TableOf x) ≡ table x
seen_table x = search (rules, the_lemmas)

pub add_how-returns-in_ok-push-in-Table-clause-text : goal.add_how-returns-in_ok-push-in-Table-clause-text
add_how-returns-in_ok-push-in-Table-clause-text t c =
    let m = c.args.env.now in
    let x = c.in-Table.table in
    member_ended_by c.args.text.now c.add_key.new.text c.add_table.new.text c.push-in-Table.new.self true (codes "table") (object (table_told c.args.with_misses x m)) c.in_ok-add_key-in-Table.ensures c.in_ok-add_table-in-Table.ensures
    c.in_ok-push-in-Table.ensures ∙ ap (λ l. longer c.args.text.now (members_text true (how c.args.with_misses l m))) (sym (ap logic_view c.in-Table.is ∙ seen_table x))

pub add_result-returns-clause-text : goal.add_result-returns-clause-text
add_result-returns-clause-text t c =
    let b = logic_view c.args.last.now in
    let m = c.args.env.now in
    member_ended_by c.args.text.now c.add_key.new.text c.add_told.new.text c.push-2.new.self true (codes "result") (told_as (value_of (boxed b m)) (how c.args.with_misses b m)) c.in_ok-add_key.ensures
    c.in_ok-add_told.ensures.text c.in_ok-push-2.ensures ∙ ap (λ all. longer c.args.text.now (result_text c.args.with_misses all b m)) (sym c.if-not-all.false)
