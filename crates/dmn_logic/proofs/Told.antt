-- What reading the logic of decisions tells of it as it is written.
use Rattle.std.proofs.Common.{◌≡◌, ℕ, List, [], ◌∷◌, ◌++◌, map, refl, sym, ap, ap₂, ◌∙◌, subst, Bool, true, false, ◌||◌, Option, None, Some, option_map, Vec, Global}
use Rattle.std.specs.List.{list_any}
use Rattle.std.specs.Option.{is_none}
use Rattle.std.proofs.lemmas.List.Folds.{list_any-append}
use Rattle.feel_text.specs.Expr.{Expr}
use Rattle.feel_text.specs.Readings.{expr_of}
use Rattle.feel_value.specs.Found.{◌>>=◌}
use Rattle.dmn_table.specs.Table.{Table}
use Rattle.dmn_form.specs.Model.{Name, expression, table, list, context, context_with, Members, no_members, member, members_of, Entries, no_entries, entry, entries_of, Decision}
use Rattle.dmn_form.specs.Draft.{WrittenTable, Logic, Written}
use Rattle.dmn_logic.specs.Parts.{texts_in, member_texts, entry_texts, tables_in, member_tables, entry_tables}
use Rattle.dmn_logic.specs.Faults.{has_no_expression, is_unread_table, is_unread, has_unread_text, is_refused, has_refused_table}
use Rattle.dmn_logic.specs.LogicView.{Read, logic_view}
use Rattle.dmn_logic.specs.declared.logic.Logic as code
use Rattle.dmn_logic.specs.ReadLogic.{read_logic, read_members, read_entries, read_decisions, read_table}
use Rattle.dmn_logic.specs.Reading.{mapped, both, unless_unread, context_of, table_reading, logic_reading, members_reading, entries_reading, decisions_reading}
use Rattle.dmn_logic.specs.declared.reading.Reading.{Reading}
use Rattle.dmn_logic.specs.declared.reading.Reading.TheVariants.{Found, Refused, Unread}
use Rattle.dmn_logic.proofs.Tables.{Tells, table_tells}

-- ---- parts put together

mapped_tells : {X Y : Type 0} (f : X → Y) (p : Reading X) (u r : Bool) (o : Option X) → Tells p u r o → Tells (mapped f p) u r (option_map f o)
mapped_tells f (Found x) u r o t = (t.0, t.1, ap (option_map f) t.2)
mapped_tells f Refused u r o t = t
mapped_tells f Unread u r o t = t

or_true : (a b : Bool) → b ≡ true → (a || b) ≡ true
or_true true b e = refl
or_true false b e = e

both_tells : {X Y Z : Type 0} (f : X → Y → Z) (p : Reading X) (q : Reading Y) (u v r s : Bool) (o : Option X) (n : Option Y) → Tells p u r o → Tells q v s n
    → Tells (both f p q) (u || v) (r || s) (o >>= λ x. n >>= λ y. Some (f x y))
both_tells f (Found x) (Found y) u v r s o n t w =
    (ap₂ (λ a b. a || b) t.0 w.0, ap₂ (λ a b. a || b) t.1 w.1, ap₂ (λ a b. a >>= λ x. b >>= λ y. Some (f x y)) t.2 w.2)
both_tells f (Found x) Refused u v r s o n t w = (ap₂ (λ a b. a || b) t.0 w.0, or_true r s w.1)
both_tells f (Found x) Unread u v r s o n t w = or_true u v w
both_tells f Refused (Found y) u v r s o n t w = (ap₂ (λ a b. a || b) t.0 w.0, ap (λ a. a || s) t.1)
both_tells f Refused Refused u v r s o n t w = (ap₂ (λ a b. a || b) t.0 w.0, ap (λ a. a || s) t.1)
both_tells f Refused Unread u v r s o n t w = or_true u v w
both_tells f Unread q u v r s o n t w = ap (λ a. a || v) t

same_tells : {X : Type 0} (p q : Reading X) (u v r s : Bool) (o n : Option X) → p ≡ q → u ≡ v → r ≡ s → o ≡ n → Tells p u r o → Tells q v s n
same_tells p q u v r s o n a b c d t =
    subst (λ m. Tells q v s m) d (subst (λ b. Tells q v b o) c (subst (λ b. Tells q b r o) b (subst (λ k. Tells k u r o) a t)))

-- ---- lists of texts and tables put together

shuffled : (a b c d : Bool) → ((a || c) || (b || d)) ≡ ((a || b) || (c || d))
shuffled true b c d = refl
shuffled false true true d = refl
shuffled false true false d = refl
shuffled false false c d = refl

unread_of_two : (xs ys : List (List ℕ)) (ts us : List WrittenTable)
    → ((has_no_expression xs || list_any is_unread_table ts) || (has_no_expression ys || list_any is_unread_table us)) ≡ (has_no_expression (xs ++ ys) || list_any is_unread_table (ts ++ us))
unread_of_two xs ys ts us =
    shuffled (has_no_expression xs) (has_no_expression ys) (list_any is_unread_table ts) (list_any is_unread_table us)
    ∙ sym (ap₂ (λ a b. a || b) (list_any-append (λ s. is_none (expr_of s)) xs ys) (list_any-append is_unread_table ts us))

refused_of_two : (ts us : List WrittenTable) → (list_any is_refused ts || list_any is_refused us) ≡ list_any is_refused (ts ++ us)
refused_of_two ts us = sym (list_any-append is_refused ts us)

or_false : (b : Bool) → b ≡ (b || false)
or_false true = refl
or_false false = refl

-- ---- members and entries as they are put together

listed : (p : Reading (List Read)) → mapped list (mapped members_of p) ≡ mapped (λ cs. list (members_of cs)) p
listed (Found cs) = refl
listed Refused = refl
listed Unread = refl

in_context : (p : Reading (List (Name × Read))) → mapped context (mapped entries_of p) ≡ mapped (λ fs. context (entries_of fs)) p
in_context (Found fs) = refl
in_context Refused = refl
in_context Unread = refl

with_result : (p : Reading (List (Name × Read))) (q : Reading Read) → both context_with (mapped entries_of p) q ≡ both context_of p q
with_result (Found fs) q = refl
with_result Refused (Found c) = refl
with_result Refused Refused = refl
with_result Refused Unread = refl
with_result Unread q = refl

member_in_front : (p : Reading Read) (q : Reading (List Read)) → both member p (mapped members_of q) ≡ mapped members_of (both (λ c cs. c ∷ cs) p q)
member_in_front (Found c) (Found cs) = refl
member_in_front (Found c) Refused = refl
member_in_front (Found c) Unread = refl
member_in_front Refused (Found cs) = refl
member_in_front Refused Refused = refl
member_in_front Refused Unread = refl
member_in_front Unread q = refl

entry_in_front : (n : Name) (p : Reading Read) (q : Reading (List (Name × Read)))
    → both (entry n) p (mapped entries_of q) ≡ mapped entries_of (both (λ e fs. e ∷ fs) (mapped (λ c. (n, c)) p) q)
entry_in_front n (Found c) (Found fs) = refl
entry_in_front n (Found c) Refused = refl
entry_in_front n (Found c) Unread = refl
entry_in_front n Refused (Found fs) = refl
entry_in_front n Refused Refused = refl
entry_in_front n Refused Unread = refl
entry_in_front n Unread q = refl

abbrev pub expressed : Expr → Read
expressed e = expression e

expression_tells : (o : Option Expr) → Tells (unless_unread o (λ e. Found (expressed e))) ((is_none o || false) || false) false (option_map expressed o)
expression_tells None = refl
expression_tells (Some e) = (refl, refl, refl)

-- ---- boxed expressions

mutual
  pub logic_tells : (b : Logic) → Tells (logic_reading b) (is_unread b) (list_any is_refused (tables_in b)) (read_logic b)
  logic_tells (expression s) = expression_tells (expr_of s)
  logic_tells (table t) =
      same_tells _ _ _ _ _ _ _ _ refl (or_false (is_unread_table t)) (or_false (is_refused t)) refl (mapped_tells table (table_reading t) (is_unread_table t) (is_refused t) (read_table t) (table_tells t))
  logic_tells (list bs) =
      same_tells _ _ _ _ _ _ _ _ (listed (members_reading bs)) refl refl refl
      (mapped_tells list (mapped members_of (members_reading bs)) (is_unread (list bs)) (list_any is_refused (tables_in (list bs))) (read_members bs) (members_tell bs))
  logic_tells (context es) =
      same_tells _ _ _ _ _ _ _ _ (in_context (entries_reading es)) refl refl refl
      (mapped_tells context (mapped entries_of (entries_reading es)) (is_unread (context es)) (list_any is_refused (tables_in (context es))) (read_entries es) (entries_tell es))
  logic_tells (context_with es b) =
      same_tells _ _ _ _ _ _ _ _ (with_result (entries_reading es) (logic_reading b)) (unread_of_two (entry_texts es) (texts_in b) (entry_tables es) (tables_in b))
      (refused_of_two (entry_tables es) (tables_in b)) refl
      (both_tells context_with (mapped entries_of (entries_reading es)) (logic_reading b) _ _ _ _ (read_entries es) (read_logic b) (entries_tell es) (logic_tells b))

  members_tell : (bs : Members (List ℕ) WrittenTable)
      → Tells (mapped members_of (members_reading bs)) (has_no_expression (member_texts bs) || list_any is_unread_table (member_tables bs)) (list_any is_refused (member_tables bs)) (read_members bs)
  members_tell no_members = (refl, refl, refl)
  members_tell (member b bs) =
      same_tells _ _ _ _ _ _ _ _ (member_in_front (logic_reading b) (members_reading bs)) (unread_of_two (texts_in b) (member_texts bs) (tables_in b) (member_tables bs))
      (refused_of_two (tables_in b) (member_tables bs)) refl
      (both_tells member (logic_reading b) (mapped members_of (members_reading bs)) _ _ _ _ (read_logic b) (read_members bs) (logic_tells b) (members_tell bs))

  entries_tell : (es : Entries (List ℕ) WrittenTable)
      → Tells (mapped entries_of (entries_reading es)) (has_no_expression (entry_texts es) || list_any is_unread_table (entry_tables es)) (list_any is_refused (entry_tables es)) (read_entries es)
  entries_tell no_entries = (refl, refl, refl)
  entries_tell (entry n b es) =
      same_tells _ _ _ _ _ _ _ _ (entry_in_front n (logic_reading b) (entries_reading es)) (unread_of_two (texts_in b) (entry_texts es) (tables_in b) (entry_tables es))
      (refused_of_two (tables_in b) (entry_tables es)) refl
      (both_tells (entry n) (logic_reading b) (mapped entries_of (entries_reading es)) _ _ _ _ (read_logic b) (read_entries es) (logic_tells b) (entries_tell es))

-- ---- decisions

logic_in_front : (d : Written) (o : Option Read) (n : Option (List (Decision Expr Table)))
    → (o >>= λ x. option_map (map (λ y. y.logic)) n >>= λ ys. Some (x ∷ ys))
    ≡ option_map (map (λ y. y.logic)) ((o >>= λ logic. Some (record { name = d.name; needs = d.needs; logic = logic })) >>= λ y. n >>= λ ys. Some (y ∷ ys))
logic_in_front d None n = refl
logic_in_front d (Some x) None = refl
logic_in_front d (Some x) (Some ys) = refl

pub decisions_tell : (ds : List Written) → Tells (decisions_reading ds) (has_unread_text ds) (has_refused_table ds) (option_map (map (λ d. d.logic)) (read_decisions ds))
decisions_tell [] = (refl, refl, refl)
decisions_tell (d ∷ ds) =
    same_tells _ _ _ _ _ _ _ _ refl refl refl (logic_in_front d (read_logic d.logic) (read_decisions ds))
    (both_tells (λ c cs. c ∷ cs) (logic_reading d.logic) (decisions_reading ds) (is_unread d.logic) (has_unread_text ds) (list_any is_refused (tables_in d.logic)) (has_refused_table ds)
    (read_logic d.logic) (option_map (map (λ y. y.logic)) (read_decisions ds)) (logic_tells d.logic) (decisions_tell ds))

abbrev pub logics_view : Vec code.Logic Global → List Read
logics_view v = map logic_view v.items

-- the same of what the code has read
pub reading_tells : (ds : List Written) (r s : Reading (Vec code.Logic Global)) → mapped logics_view r ≡ decisions_reading ds → r ≡ s
    → Tells (mapped logics_view s) (has_unread_text ds) (has_refused_table ds) (option_map (map (λ d. d.logic)) (read_decisions ds))
reading_tells ds r s read is =
    subst (λ q. Tells q (has_unread_text ds) (has_refused_table ds) (option_map (map (λ d. d.logic)) (read_decisions ds))) (sym read ∙ ap (mapped logics_view) is) (decisions_tell ds)
