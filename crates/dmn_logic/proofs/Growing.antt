-- The members of a boxed list and the entries of a boxed context, counted as they are collected.
use Rattle.std.proofs.Common.{◌≡◌, ℕ, ◌+◌, ◌<◌, List, [], ◌∷◌, ◌++◌, length, get_or, take, drop, refl, sym, ap, ◌∙◌, Option, None, Some, false, if◌then◌else◌}
use Rattle.std.specs.Arc.{arc_str_bytes}
use Rattle.feel_value.specs.Datum as datum
use Rattle.feel_value.specs.Datum.{Datum, items_of, entries_of}
use Rattle.feel_value.specs.Limits.{is_value, keeps_limits}
use Rattle.feel_value.specs.Outcome.{held}
use Rattle.feel_value.specs.declared.feel.Outcome.{Outcome}
use Rattle.feel_value.specs.declared.feel.Outcome.TheVariants.{Is, Limit}
use Rattle.feel_value.proofs.Room.{behind, behind-append, too_much}
use Rattle.feel_value.proofs.ContextRoom.{too_many_entries}
use Rattle.feel_text.specs.Meaning.{Bindings}
use Rattle.feel_value.specs.Found.{outcome_from}
use Rattle.dmn_table.proofs.Each.{after}
use Rattle.dmn_logic.specs.Boxed.{boxed, member_values, entry_values}
use Rattle.dmn_logic.specs.LogicView.{logic_view, members_view, entries_view}
use Rattle.dmn_logic.specs.declared.logic.Logic.{Logic}
use Rattle.dmn_logic.proofs.Boxes.{Named, members_step, entries_step, after-more, kept_in_front}

-- the outcome of the list of these members
abbrev pub list_from : Option (List Datum) → Outcome
list_from = outcome_from (λ ds. held (datum.list (items_of ds)))

-- members that are too many for a value leave no list, whatever comes behind them
pub too_many : (ms : List Datum) (o : Option (List Datum)) → is_value (datum.list (items_of ms)) ≡ false → list_from (after ms o) ≡ Limit
too_many ms None h = refl
too_many ms (Some ds) h =
    ap (λ xs. held (datum.list xs)) (behind-append ms ds) ∙ ap (λ b. if b then Is (datum.list (behind ms (items_of ds))) else Limit) (too_much ms (items_of ds) h)

-- one member more, whose value is d
pub one_taken : (m : Bindings) (ms : List Datum) (d : Datum) (xs : List Logic) (i : ℕ) (x : Logic) → x ≡ get_or xs i x → i < length xs → Is d ≡ boxed (logic_view x) m
    → after ms (member_values (members_view (drop i xs)) m) ≡ after (ms ++ d ∷ []) (member_values (members_view (drop (i + 1) xs)) m)
one_taken m ms d xs i x e h b = ap (after ms) (members_step m xs i x (Is d) e h b) ∙ after-more ms d (member_values (members_view (drop (i + 1) xs)) m)

-- the outcome of the context of these entries
abbrev pub context_from : Option (List (List ℕ × Datum)) → Outcome
context_from = outcome_from (λ ds. held (datum.context (entries_of ds)))

-- entries that are too many for a value leave no context, whatever comes behind them
pub too_many_named : (ps : List (List ℕ × Datum)) (o : Option (List (List ℕ × Datum))) → keeps_limits (datum.context (entries_of ps)) ≡ false → context_from (after ps o) ≡ Limit
too_many_named ps None h = refl
too_many_named ps (Some ds) h = ap (λ b. if b then Is (datum.context (entries_of (ps ++ ds))) else Limit) (too_many_entries ps ds h)

-- one entry more, whose value is d
pub one_named : (m : Bindings) (ps : List (List ℕ × Datum)) (d : Datum) (xs : List Named) (i : ℕ) (x : Named) → x ≡ get_or xs i x → i < length xs → Is d ≡ boxed (logic_view x.1) m
    → after ps (entry_values (entries_view (drop i xs)) m)
    ≡ after (ps ++ (arc_str_bytes x.0, d) ∷ []) (entry_values (entries_view (drop (i + 1) xs)) (m ++ (arc_str_bytes x.0, d) ∷ []))
one_named m ps d xs i x e h b =
    let pair : List ℕ × Datum = (arc_str_bytes x.0, d) in
    ap (after ps) (entries_step m xs i x (Is d) e h b) ∙ after-more ps pair (entry_values (entries_view (drop (i + 1) xs)) (m ++ pair ∷ []))

-- one turn of the loop over the entries of a context
pub entry_turn : (whole : Outcome) (outer m0 m1 m2 : Bindings) (ps qs : List (List ℕ × Datum)) (xs : List Named) (i : ℕ) (x : Named) (key name : List ℕ) (d e : Datum)
    → (take (length outer) m0 ≡ outer) × (whole ≡ context_from (after ps (entry_values (entries_view (drop i xs)) m0)))
    → x ≡ get_or xs i x → i < length xs → Is d ≡ boxed (logic_view x.1) m0 → m1 ≡ m0 → m2 ≡ m1 ++ (name, d) ∷ [] → name ≡ arc_str_bytes x.0
    → key ≡ arc_str_bytes x.0 → e ≡ d → qs ≡ ps ++ (key, e) ∷ []
    → (take (length outer) m2 ≡ outer) × (whole ≡ context_from (after qs (entry_values (entries_view (drop (i + 1) xs)) m2)))
entry_turn whole outer m0 m1 m2 ps qs xs i x key name d e before here more outcome kept bound named keyed copied pushed =
    let pair : List ℕ × Datum = (arc_str_bytes x.0, d) in
    let paired : qs ≡ ps ++ pair ∷ [] = pushed ∙ ap (λ k. ps ++ (k, e) ∷ []) keyed ∙ ap (λ z. ps ++ (arc_str_bytes x.0, z) ∷ []) copied in
    let next : m2 ≡ m0 ++ pair ∷ [] = bound ∙ ap (λ m. m ++ (name, d) ∷ []) kept ∙ ap (λ n. m0 ++ (n, d) ∷ []) named in (
      ap (take (length outer)) next ∙ kept_in_front outer m0 (pair ∷ []) before.0,
      before.1 ∙ ap context_from (one_named m0 ps d xs i x here more outcome)
          ∙ ap (λ zs. context_from (after zs (entry_values (entries_view (drop (i + 1) xs)) (m0 ++ pair ∷ [])))) (sym paired)
          ∙ ap (λ m. context_from (after qs (entry_values (entries_view (drop (i + 1) xs)) m))) (sym next),
    )
