-- The members of a list and the entries of a context, as they are told one after another.
use Rattle.std.proofs.Common.{◌≡◌, ℕ, ◌+◌, ◌<◌, ◌≤◌, Bool, true, false, List, refl, Vec, Box, Global, if◌then◌else◌, [], ◌∷◌, ◌++◌, length, get_or, drop, sym, ap, ◌∙◌, Option, None, Some}
use Rattle.std.specs.Arc.{arc_str_bytes}
use Rattle.std.proofs.lemmas.List.{at_drop_more, drop_all}
use Rattle.std.specs.Prelude.{codes}
use Rattle.std.specs.Option.{is_none}
use Rattle.std.proofs.lemmas.Option.{same_Some}
use Rattle.serde_json.specs.Data.{Data, item, Members, no_members}
use Rattle.serde_json.specs.Data.{member as member_of}
use Rattle.serde_json.specs.Written.{comma_if, compact_text, items_text, members_text}
use Rattle.feel_value.specs.Datum.{Datum}
use Rattle.feel_value.specs.Found.{value_of}
use Rattle.feel_value.specs.declared.feel.Outcome.{Outcome}
use Rattle.feel_value.specs.declared.feel.Outcome.TheVariants.{Is, Limit}
use Rattle.feel_text.specs.Expr.{Expr}
use Rattle.feel_text.specs.Meaning.{Bindings}
use Rattle.dmn_table.specs.Table.{Table}
use Rattle.dmn_form.specs.Model.{Boxed, member, entry, context_with}
use Rattle.dmn_logic.specs.Boxed.{boxed, entry_values}
use Rattle.dmn_logic.specs.Bound.{bound_behind}
use Rattle.dmn_logic.specs.LogicView.{logic_view, members_view, entries_view}
use Rattle.dmn_logic.specs.declared.logic.Logic.{Logic, ContextWith}
use Rattle.dmn_logic.proofs.Boxes.{Named, entries_step, logic_view-ContextWith}
use Rattle.json_writer.specs.Bounded.{longer}
use Rattle.json_writer.proofs.Longer.{Text}
use Rattle.dmn_explain.specs.How.{items_from, members_from, told_as, named_as, how, members_told, entries_told}
use Rattle.dmn_explain.specs.Text.{entries_text, result_text}
use Rattle.dmn_explain.proofs.Pieces.{row_more, row_ended, entries_added_by}

-- a member as it is told
abbrev pub member_told : Bool → Logic → Bindings → Data
member_told w x m = told_as (value_of (boxed (logic_view x) m)) (how w (logic_view x) m)

abbrev pub entry_told : Bool → Named → Bindings → Data
entry_told w x m = named_as (arc_str_bytes x.0) (value_of (boxed (logic_view x.1) m)) (how w (logic_view x.1) m)

members_here : (w : Bool) (m : Bindings) (xs : List Logic) (i : ℕ) (x : Logic) (o : Outcome) → x ≡ get_or xs i x → i < length xs → o ≡ boxed (logic_view x) m
    → members_told w (members_view (drop i xs)) m ≡ item (member_told w x m) (items_from (λ (d : Datum). members_told w (members_view (drop (i + 1) xs)) m) (value_of o))
members_here w m xs i x o e h b =
    at_drop_more (λ (ys : List Logic). members_told w (members_view ys) m) xs i x h
    ∙ ap (λ (y : Logic). members_told w (member (logic_view y) (members_view (drop (i + 1) xs))) m) (sym e)
    ∙ ap (λ p. item (member_told w x m) (items_from (λ (d : Datum). members_told w (members_view (drop (i + 1) xs)) m) (value_of p))) (sym b)

entries_from : (w : Bool) (m : Bindings) (xs : List Named) (i : ℕ) (x : Named) (o : Outcome) → x ≡ get_or xs i x → i < length xs → o ≡ boxed (logic_view x.1) m
    → entries_told w (entries_view (drop i xs)) m
    ≡ item (entry_told w x m) (items_from (λ (d : Datum). entries_told w (entries_view (drop (i + 1) xs)) (m ++ (arc_str_bytes x.0, d) ∷ [])) (value_of o))
entries_from w m xs i x o e h b =
    at_drop_more (λ (ys : List Named). entries_told w (entries_view ys) m) xs i x h
    ∙ ap (λ (y : Named). entries_told w (entry (arc_str_bytes y.0) (logic_view y.1) (entries_view (drop (i + 1) xs))) m) (sym e)
    ∙ ap (λ p. item (entry_told w x m) (items_from (λ (d : Datum). entries_told w (entries_view (drop (i + 1) xs)) (m ++ (arc_str_bytes x.0, d) ∷ [])) (value_of p))) (sym b)

module _ (w : Bool) (whole t t1 t2 : Text) (later : Bool) (m : Bindings) (i : ℕ) (comma : t1 ≡ longer t (comma_if later)) where
  module _ (xs : List Logic) (x : Logic) (before : longer t (items_text later (members_told w (members_view (drop i xs)) m)) ≡ whole) (here : x ≡ get_or xs i x) (more : i < length xs)
      (added : t2 ≡ longer t1 (compact_text (member_told w x m))) where
    -- one member more, and then the rest
    pub member_more : (d : Datum) → Is d ≡ boxed (logic_view x) m → longer t2 (items_text true (members_told w (members_view (drop (i + 1) xs)) m)) ≡ whole
    member_more d b = row_more whole t t1 t2 later _ _ _ before (members_here w m xs i x (Is d) here more b) comma added

    -- a member that breaks a limit is the last
    pub member_last : (t3 : Text) → Limit ≡ boxed (logic_view x) m → t3 ≡ longer t2 (93 ∷ []) → t3 ≡ whole
    member_last t3 b end = end ∙ row_more whole t t1 t2 later _ _ _ before (members_here w m xs i x Limit here more b) comma added

  module _ (xs : List Named) (x : Named) (before : longer t (items_text later (entries_told w (entries_view (drop i xs)) m)) ≡ whole) (here : x ≡ get_or xs i x) (more : i < length xs)
      (added : t2 ≡ longer t1 (compact_text (entry_told w x m))) where
    pub entry_more : (d : Datum) → Is d ≡ boxed (logic_view x.1) m → longer t2 (items_text true (entries_told w (entries_view (drop (i + 1) xs)) (m ++ (arc_str_bytes x.0, d) ∷ []))) ≡ whole
    entry_more d b = row_more whole t t1 t2 later _ _ _ before (entries_from w m xs i x (Is d) here more b) comma added

    pub entry_last : (t3 : Text) → Limit ≡ boxed (logic_view x.1) m → t3 ≡ longer t2 (93 ∷ []) → t3 ≡ whole
    entry_last t3 b end = end ∙ row_more whole t t1 t2 later _ _ _ before (entries_from w m xs i x Limit here more b) comma added

pub members_ended : (w : Bool) (whole t t1 : Text) (later : Bool) (m : Bindings) (xs : List Logic) (i : ℕ) → longer t (items_text later (members_told w (members_view (drop i xs)) m)) ≡ whole
    → length xs ≤ i → t1 ≡ longer t (93 ∷ []) → t1 ≡ whole
members_ended w whole t t1 later m xs i before end added =
    row_ended whole t t1 later _ before (ap (λ (ys : List Logic). members_told w (members_view ys) m) (drop_all i xs end)) added

pub entries_ended : (w : Bool) (whole t t1 : Text) (later : Bool) (m : Bindings) (xs : List Named) (i : ℕ) → longer t (items_text later (entries_told w (entries_view (drop i xs)) m)) ≡ whole
    → length xs ≤ i → t1 ≡ longer t (93 ∷ []) → t1 ≡ whole
entries_ended w whole t t1 later m xs i before end added =
    row_ended whole t t1 later _ before (ap (λ (ys : List Named). entries_told w (entries_view ys) m) (drop_all i xs end)) added

-- no more is bound where an entry breaks a limit
pub none_bound : (outer m : Bindings) (xs : List Named) (i : ℕ) (x : Named) (whole : Option Bindings) → whole ≡ bound_behind m (entry_values (entries_view (drop i xs)) m)
    → x ≡ get_or xs i x → i < length xs → Limit ≡ boxed (logic_view x.1) m → whole ≡ None
none_bound outer m xs i x whole before here more b = before ∙ ap (bound_behind m) (entries_step m xs i x Limit here more b)

-- ---- a context with a result

abbrev result_told : Bool → Boxed Expr Table → Bindings → Option Bindings → Members
result_told w b m o = members_from (λ ds. member_of (codes "result") (told_as (value_of (boxed b (m ++ ds))) (how w b (m ++ ds))) no_members) o

behind_entries : (w : Bool) (all : Bool) (b : Boxed Expr Table) (m after : Bindings) (o : Option Bindings) → bound_behind m o ≡ (if all then Some after else None) → members_text true (result_told w b m o) ≡ result_text w all b after
behind_entries w true b m after None e = cc
behind_entries w true b m after (Some ds) e =
    ap (λ (n : Bindings). members_text true (member_of (codes "result") (told_as (value_of (boxed b n)) (how w b n)) no_members)) (same_Some (m ++ ds) after e)
behind_entries w false b m after None e = refl
behind_entries w false b m after (Some ds) e = cc

-- of a long text it doesn't matter what else were written
behind_long : (t1 : Text) (xs ys : List ℕ) → (is_none t1 ≡ false → xs ≡ ys) → longer t1 xs ≡ longer t1 ys
behind_long None xs ys h = refl
behind_long (Some text) xs ys h = ap (λ l. longer (Some text) l) (h refl)

-- what is written for a context with a result, whose entries stand in v
pub context_with_added : (w : Bool) (t t1 t2 : Text) (all : Bool) (logic : Logic) (v : Vec Named Global) (es : List Named) (b : Box Logic Global) (m after : Bindings) → logic ≡ ContextWith v b → es ≡ v.items
    → t1 ≡ longer t (entries_text (entries_told w (entries_view es) m)) → (is_none t1 ≡ false → bound_behind m (entry_values (entries_view es) m) ≡ (if all then Some after else None))
    → t2 ≡ longer t1 (result_text w all (logic_view b.value) after) → t2 ≡ longer t (members_text true (how w (logic_view logic) m))
context_with_added w t t1 t2 all logic v es b m after is same entries bound rest =
    entries_added_by t t1 t2 (entries_told w (entries_view es) m) (result_told w (logic_view b.value) m (entry_values (entries_view es) m)) entries
    (rest ∙ sym (behind_long t1 _ _ (λ h. behind_entries w all (logic_view b.value) m after (entry_values (entries_view es) m) (bound h))))
    ∙ ap (λ (xs : List Named). longer t (members_text true (how w (context_with (entries_view xs) (logic_view b.value)) m))) same
    ∙ ap (λ l. longer t (members_text true (how w l m))) (sym (ap logic_view is ∙ logic_view-ContextWith v b))
