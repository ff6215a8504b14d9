-- Tables that are told one after another.
use Rattle.std.proofs.Common.{◌≡◌, ◌∙◌, ◌+◌, ◌≤◌, ℕ, zero, suc, Option, None, Some, IfSome, option_map, Vec, List, [], ◌∷◌, ◌++◌, append_assoc, append-nil, arith, Bool, true, false, ◌||◌, codes, decimal, if◌then◌else◌, length, map, refl, sym, ap, subst, ◌<◌}
use Rattle.std.specs.Prelude.{nat_lt}
use Rattle.std.specs.List.{flat_map, list_any}
use Rattle.std.proofs.lemmas.List.{length-append, map-append}
use Rattle.std.proofs.lemmas.List.Folds.{list_any-append}
use Rattle.json.specs.Print.{escape_byte, quoted}
use Rattle.feel_text.specs.Expr.{Expr}
use Rattle.desk_lines.specs.Lines.{ended}
use Rattle.dmn_form.specs.Model.{Boxed}
use Rattle.dmn_graph.specs.Reach.{Each}
use Rattle.dmn_table.specs.Table.{Table}
use Rattle.desk_checking.proofs.TableNumbers.{AreTablesAt, each_from, tables_at}
use Rattle.desk_checking.specs.ComesView.{AsksTableIf, IsAsked, IsFrom, logic_numbers, number_of}
use Rattle.desk_checking.specs.Looking.{IsTold, IsTurn, step, told_from, told_so_far, untold_lines}
use Rattle.desk_checking.specs.Tables.{Placed, logic_tables}
use Rattle.desk_checking.specs.TablesTold.{Looked, TellsTables, most_told, refuses, text_of, told_behind, untold_line}
use Rattle.desk_checking.specs.Answering.{IsFound}
use Rattle.desk_checking.specs.declared.answers.Answers.{Answers}
use Rattle.desk_checking.specs.declared.undecided.Undecided.{Undecided}
use Rattle.std.specs.declared.alloc.Global.{Global}
use Rattle.dmn_analysis.specs.declared.asked.Asked.{Asked}
use Rattle.desk_checking.specs.declared.decision_inputs.DecisionInputs.{DecisionInputs}
use Rattle.desk_checking.specs.declared.tables.Telling.{Telling}

untold_shape : (t n : List ℕ) → ((t ++ codes "{\"table\":null,\"more\":") ++ n) ++ codes "}\n"
    ≡ t ++ (ended (123 ∷ (quoted (codes "table") ++ 58 ∷ (codes "null" ++ 44 ∷ (quoted (codes "more") ++ 58 ∷ (n ++ 125 ∷ []))))) ++ [])
unfolding escape_byte
untold_shape t n = simp append_assoc

pub untold_pieces : (t : List ℕ) (n : ℕ) → 0 < n → ((t ++ codes "{\"table\":null,\"more\":") ++ decimal n) ++ codes "}\n" ≡ t ++ flat_map ended (untold_lines n)
untold_pieces t zero h = absurd (omega arith)
untold_pieces t (suc n) h = untold_shape t (decimal (suc n))

-- one table more
told_more : (s : List ℕ × ℕ) (ts : List (List ℕ)) (t : List ℕ) → told_from s (ts ++ t ∷ []) ≡ step (told_from s ts) t
told_more s [] t = refl
told_more s (u ∷ ts) t = told_more (step s u) ts t

or_none : (b : Bool) → (b || false) ≡ b
or_none true = refl
or_none false = refl

pub none_told : (c : Option DecisionInputs) (t : Telling) → t.text.items ≡ [] → t.untold ≡ 0 → t.is_refused ≡ false → IsTold c [] [] t
none_told c t text untold unrefused =
    record { looked = []; each = refl; numbered = refl; asked = tt; refused = unrefused; told = ap (λ s. (s, t.untold)) text ∙ ap (λ n. ([], n)) untold }

asked_more : (c : Option DecisionInputs) (ls : List Looked) (l : Looked) → Each (IsAsked c) ls → IsAsked c l → Each (IsAsked c) (ls ++ l ∷ [])
asked_more c [] l each asked = (asked, tt)
asked_more c (x ∷ ls) l each asked = (each.0, asked_more c ls l each.1 asked)

pub turned : (c : Option DecisionInputs) (ps : List Placed) (ns : List (ℕ × ℕ)) (p : Placed) (n : ℕ × ℕ) (old new : Telling) → IsTold c ps ns old → IsTurn c p n old new → IsTold c (ps ++ p ∷ []) (ns ++ n ∷ []) new
turned c ps ns p n old new told turn =
    let l = turn.looked in
    record {
      looked = told.looked ++ l ∷ [];
      each = map-append (λ (x : Looked). x.placed) told.looked (l ∷ []) ∙ ap (λ xs. xs ++ l.placed ∷ []) told.each ∙ ap (λ (x : Placed). ps ++ x ∷ []) turn.is;
      numbered = map-append number_of told.looked (l ∷ []) ∙ ap (λ xs. xs ++ number_of l ∷ []) told.numbered ∙ ap (λ (x : ℕ × ℕ). ns ++ x ∷ []) turn.numbered;
      asked = asked_more c told.looked l told.asked turn.asked;
      refused = turn.refused ∙ ap (λ b. b || refuses l) told.refused ∙ ap (λ b. list_any refuses told.looked || b) (sym (or_none (refuses l))) ∙ sym (list_any-append refuses told.looked (l ∷ []));
      told = turn.told ∙ ap (λ s. step s (text_of l)) told.told ∙ sym (ap (told_from ([], 0)) (map-append text_of told.looked (l ∷ [])) ∙ told_more ([], 0) (map text_of told.looked) (text_of l));
    }

-- a table with what is found of it, to which this comes
abbrev pub looked_of : (p : Placed) (decision number : ℕ) (comes : Option (Vec Asked Global)) (a : Answers) (steps : ℕ) (undecided : Undecided) → IsFound p.table (option_map (λ v. v.items) comes) a → Looked
looked_of p decision number comes a steps undecided are =
    record { placed = p; decision = decision; number = number; comes = option_map (λ v. v.items) comes; answers = a; are = are; steps = steps; undecided = undecided }

pub asked_of : (c : Option DecisionInputs) (decision number : ℕ) (comes : Option (Vec Asked Global)) → IfSome comes (λ v. AsksTableIf c decision number v.items) → IfSome (option_map (λ v. v.items) comes) (AsksTableIf c decision number)
asked_of c decision number None asks = tt
asked_of c decision number (Some v) asks = asks

-- ---- the whole text

chosen : {X : Type 0} (b c : Bool) (x y : X) → b ≡ c → (if b then x else y) ≡ (if c then x else y)
chosen b c x y e = ap (λ t. if t then x else y) e

-- once it is full
full : (t : List ℕ) (n : ℕ) (ts : List (List ℕ)) → nat_lt most_told (length t) ≡ true → told_from (t, n) ts ≡ (t, n + length ts)
full t n [] h = ap (λ k. (t, k)) (omega arith)
full t n (u ∷ ts) h =
    ap (λ s. told_from s ts) (chosen (nat_lt most_told (length t)) true (t, n + 1) (t ++ u, n) h) ∙ full t (n + 1) ts h ∙ ap (λ k. (t, k)) (omega arith)

abbrev finished : List ℕ × ℕ → List ℕ
finished s = s.0 ++ flat_map ended (untold_lines s.1)

the_next : (n : ℕ) → 1 + n ≡ suc n
the_next n = omega arith

whole_by : (b : Bool) (t u : List ℕ) (ts : List (List ℕ)) → nat_lt most_told (length t) ≡ b → ((v : List ℕ) → finished (told_from (v, 0) ts) ≡ v ++ told_behind (length v) ts)
    → finished (told_from (t, 0) (u ∷ ts)) ≡ t ++ told_behind (length t) (u ∷ ts)
whole_by true t u ts h rest =
    ap (λ s. finished (told_from s ts)) (chosen (nat_lt most_told (length t)) true (t, 1) (t ++ u, 0) h) ∙ ap finished (full t 1 ts h)
    ∙ ap (λ n. t ++ flat_map ended (untold_lines n)) (the_next (length ts)) ∙ ap (λ s. t ++ s) (append-nil (ended (untold_line (suc (length ts)))))
    ∙ ap (λ s. t ++ s) (sym (chosen (nat_lt most_told (length t)) true (ended (untold_line (suc (length ts)))) (u ++ told_behind (length t + length u) ts) h))
whole_by false t u ts h rest =
    ap (λ s. finished (told_from s ts)) (chosen (nat_lt most_told (length t)) false (t, 1) (t ++ u, 0) h) ∙ rest (t ++ u)
    ∙ append_assoc t u (told_behind (length (t ++ u)) ts) ∙ ap (λ n. t ++ (u ++ told_behind n ts)) (length-append t u)
    ∙ ap (λ s. t ++ s) (sym (chosen (nat_lt most_told (length t)) false (ended (untold_line (suc (length ts)))) (u ++ told_behind (length t + length u) ts) h))

whole : (t : List ℕ) (ts : List (List ℕ)) → finished (told_from (t, 0) ts) ≡ t ++ told_behind (length t) ts
whole t [] = refl
whole t (u ∷ ts) = whole_by (nat_lt most_told (length t)) t u ts refl (λ v. whole v ts)

pub tells_tables : (c : Option DecisionInputs) (bs : List (Boxed Expr Table)) (ps : List Placed) (ns : List (ℕ × ℕ)) (t : Telling) (text : List ℕ) (are_refused : Bool) → ps ≡ logic_tables 0 bs → ns ≡ logic_numbers 0 bs → IsTold c ps ns t
    → text ≡ t.text.items ++ flat_map ended (untold_lines t.untold) → are_refused ≡ t.is_refused → TellsTables (IsFrom c bs) (logic_tables 0 bs) text are_refused
tells_tables c bs ps ns t text are_refused same numbered told is refused = record {
  looked = told.looked;
  each = told.each ∙ same;
  are = each_from c bs told.looked
      (subst (λ xs. AreTablesAt bs xs (map number_of told.looked)) (sym (told.each ∙ same)) (subst (λ xs. AreTablesAt bs (logic_tables 0 bs) xs) (sym (told.numbered ∙ numbered)) (tables_at bs))) told.asked;
  told = is ∙ ap finished told.told ∙ whole [] (map text_of told.looked);
  refused = refused ∙ told.refused;
}

-- at most one table more isn't told
by_full : (b : Bool) (s : List ℕ × ℕ) (t : List ℕ) → nat_lt most_told (length s.0) ≡ b → (step s t).1 ≤ s.1 + 1
by_full true s t h = omega (arith, ap (λ (r : List ℕ × ℕ). r.1) (chosen (nat_lt most_told (length s.0)) true (s.0, s.1 + 1) (s.0 ++ t, s.1) h))
by_full false s t h = omega (arith, ap (λ (r : List ℕ × ℕ). r.1) (chosen (nat_lt most_told (length s.0)) false (s.0, s.1 + 1) (s.0 ++ t, s.1) h))

pub one_at_most : (c : Option DecisionInputs) (p : Placed) (n : ℕ × ℕ) (old new : Telling) → IsTurn c p n old new → new.untold ≤ old.untold + 1
one_at_most c p n old new turn =
    subst (λ n. n ≤ old.untold + 1) (sym (ap (λ (r : List ℕ × ℕ). r.1) turn.told)) (by_full (nat_lt most_told (length old.text.items)) (told_so_far old) (text_of turn.looked) refl)

pub step_full : (s : List ℕ × ℕ) (t : List ℕ) → nat_lt most_told (length s.0) ≡ true → (s.0, s.1 + 1) ≡ step s t
step_full s t h = sym (chosen (nat_lt most_told (length s.0)) true (s.0, s.1 + 1) (s.0 ++ t, s.1) h)

pub step_room : (s : List ℕ × ℕ) (t u : List ℕ) → nat_lt most_told (length s.0) ≡ false → u ≡ s.0 ++ t → (u, s.1) ≡ step s t
step_room s t u h e = ap (λ v. (v, s.1)) e ∙ sym (chosen (nat_lt most_told (length s.0)) false (s.0, s.1 + 1) (s.0 ++ t, s.1) h)
