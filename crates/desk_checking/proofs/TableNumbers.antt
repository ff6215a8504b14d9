-- Which table of which decision each is.
use Rattle.std.proofs.Common.{◌≡◌, ◌∙◌, ◌+◌, ◌-◌, ◌<◌, ◌≤◌, ℕ, suc, List, [], ◌∷◌, ◌++◌, append_assoc, append-nil, arith, length, map, Option, Some, refl, sym, ap}
use Rattle.std.specs.Prelude.{⊤}
use Rattle.std.specs.List.{slice_get}
use Rattle.std.proofs.lemmas.List.{length-map}
use Rattle.feel_text.specs.Expr.{Expr}
use Rattle.dmn_table.specs.Table.{Table}
use Rattle.dmn_form.specs.Model.{Boxed}
use Rattle.dmn_graph.specs.Reach.{Each}
use Rattle.desk_checking.specs.ComesView.{IsAsked, IsFrom, IsTableAt, logic_numbers, number_of, number_view, number_views, numbers_from}
use Rattle.desk_checking.specs.Tables.{Placed, decision_place, logic_tables, tables_in}
use Rattle.desk_checking.specs.TablesTold.{Looked}
use Rattle.desk_checking.specs.TablesView.{placed_view, placed_views}
use Rattle.desk_checking.specs.declared.decision_inputs.DecisionInputs.{DecisionInputs}
use Rattle.desk_checking.specs.declared.walk.PlacedTable.{PlacedTable}
use Rattle.desk_checking.specs.declared.walk.TableNumber.{TableNumber}

-- ---- numbers, one after another

one_left : (k n : ℕ) → k < n → n - k ≡ suc (n - (k + 1))
one_left k n h = omega (arith, h)

none_left : (k n : ℕ) → n ≤ k → n - k ≡ 0
none_left k n h = omega (arith, h)

pub numbers_begin : (old : List (ℕ × ℕ)) (d n : ℕ) → old ++ numbers_from d 0 (n - 0) ≡ old ++ numbers_from d 0 n
numbers_begin old d n = let e : n - 0 ≡ n = omega arith in ap (λ k. old ++ numbers_from d 0 k) e

pub numbers_turn : (old new whole : List (ℕ × ℕ)) (d k n : ℕ) → old ++ numbers_from d k (n - k) ≡ whole → k < n → new ≡ old ++ (d, k) ∷ [] → new ++ numbers_from d (k + 1) (n - (k + 1)) ≡ whole
numbers_turn old new whole d k n before more is =
    ap (λ xs. xs ++ numbers_from d (k + 1) (n - (k + 1))) is ∙ append_assoc old ((d, k) ∷ []) (numbers_from d (k + 1) (n - (k + 1)))
    ∙ ap (λ j. old ++ numbers_from d k j) (sym (one_left k n more)) ∙ before

pub numbers_end : (cur whole : List (ℕ × ℕ)) (d k n : ℕ) → cur ++ numbers_from d k (n - k) ≡ whole → n ≤ k → cur ≡ whole
numbers_end cur whole d k n before done = sym (append-nil cur) ∙ ap (λ j. cur ++ numbers_from d k j) (sym (none_left k n done)) ∙ before

-- ---- tables and their numbers, side by side

abbrev pub AreTablesAt : List (Boxed Expr Table) → List Placed → List (ℕ × ℕ) → Type 0
AreTablesAt bs [] [] = ⊤
AreTablesAt bs [] (n ∷ ns) = ⊥
AreTablesAt bs (p ∷ ps) [] = ⊥
AreTablesAt bs (p ∷ ps) (n ∷ ns) = IsTableAt bs p n × AreTablesAt bs ps ns

joined : (bs : List (Boxed Expr Table)) (ps qs : List Placed) (ns ms : List (ℕ × ℕ)) → AreTablesAt bs ps ns → AreTablesAt bs qs ms → AreTablesAt bs (ps ++ qs) (ns ++ ms)
joined bs [] qs [] ms first rest = rest
joined bs [] qs (n ∷ ns) ms first rest = absurd first
joined bs (p ∷ ps) qs [] ms first rest = absurd first
joined bs (p ∷ ps) qs (n ∷ ns) ms first rest = (first.0, joined bs ps qs ns ms first.1 rest)

no_more : (k : ℕ) → k ≡ k + 0
no_more k = omega arith

shifted : (k j : ℕ) → k + suc j ≡ (k + 1) + j
shifted k j = omega arith

from_none : (j : ℕ) → j ≡ 0 + j
from_none j = omega arith

-- the tables of a logic from a number on
along : (bs : List (Boxed Expr Table)) (d : ℕ) (b : Boxed Expr Table) → slice_get bs d ≡ Some b → (ts : List Placed) (k : ℕ) → ((j : ℕ) → slice_get ts j ≡ slice_get (tables_in (decision_place d) b) (k + j)) → AreTablesAt bs ts (numbers_from d k (length ts))
along bs d b there [] k same = tt
along bs d b there (t ∷ ts) k same =
    let whole = tables_in (decision_place d) b in
    (record { logic = b; there = there; table = ap (slice_get whole) (no_more k) ∙ sym (same 0) }, along bs d b there ts (k + 1) (λ j. same (suc j) ∙ ap (slice_get whole) (shifted k j)))

-- those of all logics from an index on
each_along : (bs cs : List (Boxed Expr Table)) (i : ℕ) → ((j : ℕ) → slice_get cs j ≡ slice_get bs (i + j)) → AreTablesAt bs (logic_tables i cs) (logic_numbers i cs)
each_along bs [] i same = tt
each_along bs (c ∷ cs) i same =
    let whole = tables_in (decision_place i) c in
    joined bs whole (logic_tables (i + 1) cs) (numbers_from i 0 (length whole)) (logic_numbers (i + 1) cs)
    (along bs i c (ap (slice_get bs) (no_more i) ∙ sym (same 0)) whole 0 (λ j. ap (slice_get whole) (from_none j))) (each_along bs cs (i + 1) (λ j. same (suc j) ∙ ap (slice_get bs) (shifted i j)))

pub tables_at : (bs : List (Boxed Expr Table)) → AreTablesAt bs (logic_tables 0 bs) (logic_numbers 0 bs)
tables_at bs = each_along bs bs 0 (λ j. ap (slice_get bs) (from_none j))

-- there are as many of both
count_by : (bs : List (Boxed Expr Table)) (ps : List Placed) (ns : List (ℕ × ℕ)) → AreTablesAt bs ps ns → length ns ≡ length ps
count_by bs [] [] at = refl
count_by bs [] (n ∷ ns) at = absurd at
count_by bs (p ∷ ps) [] at = absurd at
count_by bs (p ∷ ps) (n ∷ ns) at = ap suc (count_by bs ps ns at.1)

pub as_many : (ts : List PlacedTable) (ns : List TableNumber) (bs : List (Boxed Expr Table)) → placed_views ts ≡ logic_tables 0 bs → number_views ns ≡ logic_numbers 0 bs → length ns ≡ length ts
as_many ts ns bs placed numbered =
    sym (length-map ns number_view) ∙ ap length numbered ∙ count_by bs (logic_tables 0 bs) (logic_numbers 0 bs) (tables_at bs) ∙ sym (ap length placed) ∙ length-map ts placed_view

pub each_from : (c : Option DecisionInputs) (bs : List (Boxed Expr Table)) (ls : List Looked) → AreTablesAt bs (map (λ (l : Looked). l.placed) ls) (map number_of ls) → Each (IsAsked c) ls → Each (IsFrom c bs) ls
each_from c bs [] at asked = tt
each_from c bs (l ∷ ls) at asked = (record { logic = at.0.logic; there = at.0.there; table = at.0.table; comes = asked.0 }, each_from c bs ls at.1 asked.1)
