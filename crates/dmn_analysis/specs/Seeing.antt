-- Internal: no public contract cites these words. The constants that were seen in the tests of a column.
use Rattle.std.specs.Prelude.{ℕ, List, [], ◌∷◌, ◌++◌, map, Bool, true, false, ◌||◌, Option, None, Some, option_map}
use Rattle.std.specs.Arc.{arc_str_bytes}
use Rattle.std.specs.List.{flat_map, list_any}
use Rattle.std.specs.declared.alloc.Global.{Global}
use Rattle.std.specs.declared.sync.ArcStr.{ArcStr}
use denote.Ref.{Bor}
use Rattle.feel_value.specs.Datum.{Datum, null, boolean, number, text}
use Rattle.feel_text.specs.Expr.{Expr}
use Rattle.feel_text.specs.Tests.{Tests}
use Rattle.dmn_analysis.specs.Constant.{is_sum}
use Rattle.dmn_analysis.specs.Kinds.{Kinds, is_list, is_null, is_text, is_truth, text_in}
use Rattle.dmn_analysis.specs.declared.kinds.Seen.{Seen}

abbrev pub is_null_value : Datum → Bool
is_null_value null = true
is_null_value d = false

abbrev pub is_truth_value : Datum → Bool
is_truth_value (boolean b) = true
is_truth_value d = false

abbrev pub is_whole_value : Datum → Bool
is_whole_value (number z) = true
is_whole_value d = false

abbrev pub value_words : Datum → List (List ℕ)
value_words (text s) = s ∷ []
value_words d = []

abbrev pub words_of : Option (Bor (ArcStr Global)) → List (List ℕ)
words_of None = []
words_of (Some t) = arc_str_bytes t.now ∷ []

abbrev pub entry_view : Option (Bor Tests) → Option Tests
entry_view entry = option_map (λ (t : Bor Tests). t.now) entry

abbrev pub seen_kinds : Seen → Kinds
seen_kinds s = record { null = s.null; truths = s.truths; numbers = s.numbers; lists = s.parted; words = map arc_str_bytes s.texts.items; by_order = s.has_order }

-- the kinds of these constants and of those behind them
abbrev pub with_kinds : Kinds → Kinds → Kinds
with_kinds j k = record {
  null = j.null || k.null;
  truths = j.truths || k.truths;
  numbers = j.numbers || k.numbers;
  lists = j.lists || k.lists;
  words = j.words ++ k.words;
  by_order = j.by_order || k.by_order;
}

-- these words behind
abbrev pub with_words : Kinds → List (List ℕ) → Kinds
with_words k words = record { null = k.null; truths = k.truths; numbers = k.numbers; lists = k.lists; words = k.words ++ words; by_order = k.by_order }

-- the kind of an expression, which is a bound of an order or isn't
abbrev pub kinds_in : Bool → Expr → Kinds
kinds_in true e = record { null = is_null e; truths = is_truth e; numbers = is_sum e; lists = is_list e; words = text_in e; by_order = is_text e }
kinds_in false e = record { null = is_null e; truths = is_truth e; numbers = is_sum e; lists = is_list e; words = text_in e; by_order = false }

-- the kinds of expressions that no order compares with
abbrev pub kinds_among : List Expr → Kinds
kinds_among es = record {
  null = list_any is_null es;
  truths = list_any is_truth es;
  numbers = list_any is_sum es;
  lists = list_any is_list es;
  words = flat_map text_in es;
  by_order = false;
}
