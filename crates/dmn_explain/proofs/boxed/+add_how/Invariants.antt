use Rattle.std.proofs.Common.{◌≡◌, drop, take, length}
use Rattle.serde_json.specs.Data.{array}
use Rattle.serde_json.specs.Written.{compact_text, items_text}
use Rattle.dmn_logic.specs.Boxed.{entry_values}
use Rattle.dmn_logic.specs.Bound.{bound_behind}
use Rattle.dmn_logic.specs.LogicView.{members_view, entries_view}
use Rattle.json_writer.specs.Bounded.{longer}
use Rattle.dmn_explain.specs.How.{members_told, entries_told}
use Rattle.dmn_explain.specs.Text.{entries_text}
use Rattle.dmn_explain.proofs.boxed.+add_how.Given as goal

abbrev pub invariant-add_members-loop-member : goal.invariant-add_members-loop-member
invariant-add_members-loop-member l = record {
  same : l.env ≡ l.fn.env;
  text : longer l.text (items_text l.later (members_told l.with_misses (members_view (drop l.member-index l.members)) l.fn.env)) ≡ longer l.fn.text (compact_text (array (members_told l.with_misses (members_view l.members) l.fn.env)));
}

abbrev pub invariant-add_entries-loop-name : goal.invariant-add_entries-loop-name
invariant-add_entries-loop-name l = record {
  bound : (take (length l.fn.env) l.env ≡ l.fn.env) × (bound_behind l.fn.env (entry_values (entries_view l.entries) l.fn.env) ≡ bound_behind l.env (entry_values (entries_view (drop l.name-index l.entries)) l.env));
  text : longer l.text (items_text l.later (entries_told l.with_misses (entries_view (drop l.name-index l.entries)) l.env)) ≡ longer l.fn.text (entries_text (entries_told l.with_misses (entries_view l.entries) l.fn.env));
}
