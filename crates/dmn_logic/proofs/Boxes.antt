-- Boxed expressions, one member or one entry at a time.
use Rattle.std.proofs.Common.{◌≡◌, ℕ, ◌+◌, ◌<◌, List, [], ◌∷◌, ◌++◌, map, length, get_or, take, drop, refl, sym, ap, ◌∙◌, append_assoc, Vec, Box, Global, rules, Option, None, Some, arith}
use Rattle.std.specs.Arc.{arc_str_bytes}
use Rattle.std.specs.declared.sync.ArcStr.{ArcStr}
use Rattle.std.proofs.lemmas.List.{at_drop_more}
use Rattle.std.proofs.lemmas.Grind.{common_steps}
use Rattle.feel_value.specs.Datum.{Datum}
use Rattle.feel_value.specs.declared.feel.Outcome.{Outcome}
use Rattle.feel_value.specs.declared.feel.Outcome.TheVariants.{Is, Limit}
use Rattle.feel_text.specs.Meaning.{Bindings}
use Rattle.feel_value.specs.Found.{value_of, ◌>>=◌, outcome_from}
use Rattle.dmn_table.proofs.Each.{after}
use Rattle.dmn_form.specs.Model.{member, entry, context, context_with, entries_of}
use Rattle.dmn_logic.specs.Boxed.{boxed, member_values, entry_values}
use Rattle.dmn_logic.specs.LogicView.{logic_view, members_view, entries_view, named_view, entry_view}
use Rattle.dmn_logic.specs.Bound.{bound_behind}
use Rattle.dmn_logic.specs.declared.logic.Logic.{Logic, Context, ContextWith, the_lemmas}

pub after-more : {X : Type 0} (vs : List X) (v : X) (o : Option (List X)) → after vs (o >>= λ ds. Some (v ∷ ds)) ≡ after (vs ++ v ∷ []) o
after-more vs v None = refl
after-more vs v (Some ds) = ap Some (sym (append_assoc vs (v ∷ []) ds))

members_from : (xs : List Logic) (i : ℕ) (x : Logic) → x ≡ get_or xs i x → i < length xs
    → members_view (drop i xs) ≡ member (logic_view x) (members_view (drop (i + 1) xs))
members_from xs i x e h = at_drop_more members_view xs i x h ∙ ap (λ (y : Logic). member (logic_view y) (members_view (drop (i + 1) xs))) (sym e)

abbrev pub Named : Type 0
Named = ArcStr Global × Logic

entries_from : (xs : List Named) (i : ℕ) (x : Named) → x ≡ get_or xs i x → i < length xs
    → entries_view (drop i xs) ≡ entry (arc_str_bytes x.0) (logic_view x.1) (entries_view (drop (i + 1) xs))
entries_from xs i x e h = at_drop_more entries_view xs i x h ∙ ap (λ (y : Named). entry (arc_str_bytes y.0) (logic_view y.1) (entries_view (drop (i + 1) xs))) (sym e)

-- the members from the one at i on, by its outcome
pub members_step : (m : Bindings) (xs : List Logic) (i : ℕ) (x : Logic) (o : Outcome) → x ≡ get_or xs i x → i < length xs → o ≡ boxed (logic_view x) m
    → member_values (members_view (drop i xs)) m ≡ (value_of o >>= λ d. member_values (members_view (drop (i + 1) xs)) m >>= λ ds. Some (d ∷ ds))
members_step m xs i x o e h b =
    ap (λ bs. member_values bs m) (members_from xs i x e h)
    ∙ ap (λ p. value_of p >>= λ d. member_values (members_view (drop (i + 1) xs)) m >>= λ ds. Some (d ∷ ds)) (sym b)

-- the entries from the one at i on, by its outcome
pub entries_step : (m : Bindings) (xs : List Named) (i : ℕ) (x : Named) (o : Outcome) → x ≡ get_or xs i x → i < length xs → o ≡ boxed (logic_view x.1) m
    → entry_values (entries_view (drop i xs)) m
    ≡ (value_of o >>= λ d. entry_values (entries_view (drop (i + 1) xs)) (m ++ (arc_str_bytes x.0, d) ∷ []) >>= λ ds. Some ((arc_str_bytes x.0, d) ∷ ds))
entries_step m xs i x o e h b =
    ap (λ es. entry_values es m) (entries_from xs i x e h)
    ∙ ap (λ p. value_of p >>= λ d. entry_values (entries_view (drop (i + 1) xs)) (m ++ (arc_str_bytes x.0, d) ∷ []) >>= λ ds. Some ((arc_str_bytes x.0, d) ∷ ds)) (sym b)

fused : (es : List Named) → map named_view (map (λ e. (e.0, logic_view e.1)) es) ≡ map entry_view es
fused [] = refl
fused (e ∷ es) = ap (λ r. entry_view e ∷ r) (fused es)

context_in : (v : Vec Named Global) → logic_view (Context v) ≡ context (entries_of (map named_view (map (λ e. (e.0, logic_view e.1)) v.items)))
context_in v = search (rules, the_lemmas)

context_with_in : (v : Vec Named Global) (b : Box Logic Global)
    → logic_view (ContextWith v b) ≡ context_with (entries_of (map named_view (map (λ e. (e.0, logic_view e.1)) v.items))) (logic_view b.value)
context_with_in v b = search (rules, the_lemmas)

pub logic_view-Context : (v : Vec Named Global) → logic_view (Context v) ≡ context (entries_view v.items)
logic_view-Context v = context_in v ∙ ap (λ es. context (entries_of es)) (fused v.items)

pub logic_view-ContextWith : (v : Vec Named Global) (b : Box Logic Global) → logic_view (ContextWith v b) ≡ context_with (entries_view v.items) (logic_view b.value)
logic_view-ContextWith v b = context_with_in v b ∙ ap (λ es. context_with (entries_of es) (logic_view b.value)) (fused v.items)

pub kept_in_front : (outer m r : Bindings) → take (length outer) m ≡ outer → take (length outer) (m ++ r) ≡ outer
kept_in_front outer m r e = grind (arith, common_steps)

-- one turn of the loop that binds the entries of a context
pub bind_turn : (whole : Option Bindings) (outer m0 m1 m2 : Bindings) (xs : List Named) (i : ℕ) (x : Named) (name : List ℕ) (d : Datum)
    → (take (length outer) m0 ≡ outer) × (whole ≡ bound_behind m0 (entry_values (entries_view (drop i xs)) m0))
    → x ≡ get_or xs i x → i < length xs → Is d ≡ boxed (logic_view x.1) m0 → m1 ≡ m0 → m2 ≡ m1 ++ (name, d) ∷ [] → name ≡ arc_str_bytes x.0
    → (take (length outer) m2 ≡ outer) × (whole ≡ bound_behind m2 (entry_values (entries_view (drop (i + 1) xs)) m2))
bind_turn whole outer m0 m1 m2 xs i x name d before here more outcome kept bound named =
    let pair : List ℕ × Datum = (arc_str_bytes x.0, d) in
    let next : m2 ≡ m0 ++ pair ∷ [] = bound ∙ ap (λ m. m ++ (name, d) ∷ []) kept ∙ ap (λ n. m0 ++ (n, d) ∷ []) named in (
      ap (take (length outer)) next ∙ kept_in_front outer m0 (pair ∷ []) before.0,
      before.1 ∙ ap (bound_behind m0) (entries_step m0 xs i x (Is d) here more outcome)
          ∙ after-more m0 pair (entry_values (entries_view (drop (i + 1) xs)) (m0 ++ pair ∷ []))
          ∙ ap (λ m. bound_behind m (entry_values (entries_view (drop (i + 1) xs)) m)) (sym next),
    )

-- what comes of a context's result, once its entries are bound
pub from_bound : (f : Bindings → Outcome) (outer m : Bindings) (o : Option (List (List ℕ × Datum))) → bound_behind outer o ≡ Some m → outcome_from (λ ds. f (outer ++ ds)) o ≡ f m
from_bound f outer m None e = cc
from_bound f outer m (Some ds) e = cc

pub from_none : (f : Bindings → Outcome) (outer : Bindings) (o : Option (List (List ℕ × Datum))) → bound_behind outer o ≡ None → outcome_from (λ ds. f (outer ++ ds)) o ≡ Limit
from_none f outer None e = refl
from_none f outer (Some ds) e = cc

-- a context with a result, whose entries stand in v
pub with_result : (logic : Logic) (v : Vec Named Global) (es : List Named) (b : Box Logic Global) (m : Bindings) → logic ≡ ContextWith v b → es ≡ v.items
    → boxed (logic_view logic) m ≡ outcome_from (λ ds. boxed (logic_view b.value) (m ++ ds)) (entry_values (entries_view es) m)
with_result logic v es b m is e =
    ap (λ l. boxed (logic_view l) m) is ∙ ap (λ l. boxed l m) (logic_view-ContextWith v b)
    ∙ ap (λ (xs : List Named). outcome_from (λ ds. boxed (logic_view b.value) (m ++ ds)) (entry_values (entries_view xs) m)) (sym e)
