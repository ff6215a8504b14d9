-- Tables that are found part by part are those of the whole.
use Rattle.std.proofs.Common.{◌≡◌, ◌∙◌, ◌+◌, ◌<◌, ℕ, List, [], ◌∷◌, ◌++◌, append_assoc, length, get_or, drop, sym, ap, Vec, Box, Global, rules}
use Rattle.std.proofs.lemmas.List.{at_drop_more}
use Rattle.dmn_table.specs.Table.{Table}
use Rattle.dmn_logic.specs.LogicView.{entries_view, logic_view, members_view}
use Rattle.dmn_logic.proofs.Boxes.{Named, logic_view-Context, logic_view-ContextWith}
use Rattle.dmn_logic.specs.declared.logic.Logic.{Logic, Table as TableOf, List as ListOf, Context, ContextWith, the_lemmas}
use Rattle.dmn_check.specs.declared.place.Key.TheVariants as key
use Rattle.dmn_check.specs.declared.place.Step.{Step}
use Rattle.dmn_check.specs.declared.place.Step.TheVariants as step
use Rattle.desk_checking.specs.Tables.{Placed, behind, entry_tables, member_tables, tables_in}

-- ---- one level

at_table : (at : List Step) (t : Table) → tables_in at (logic_view (TableOf t)) ≡ record { place = behind at (step.Key key.Table); table = t } ∷ []
at_table at t = search (rules, the_lemmas)

at_list : (at : List Step) (v : Vec Logic Global) → tables_in at (logic_view (ListOf v)) ≡ member_tables (behind at (step.Key key.List)) 0 (members_view v.items)
at_list at v = search (rules, the_lemmas)

at_context : (at : List Step) (v : Vec Named Global) → tables_in at (logic_view (Context v)) ≡ entry_tables (behind at (step.Key key.Context)) 0 (entries_view v.items)
at_context at v = ap (tables_in at) (logic_view-Context v)

at_context_with : (at : List Step) (v : Vec Named Global) (b : Box Logic Global)
    → tables_in at (logic_view (ContextWith v b)) ≡ entry_tables (behind at (step.Key key.Context)) 0 (entries_view v.items) ++ tables_in (behind at (step.Key key.Result)) (logic_view b.value)
at_context_with at v b = ap (tables_in at) (logic_view-ContextWith v b)

-- ---- a walk

-- behind what was found
pub walked_table : (at : List Step) (logic : Logic) (t : Table) (old new : List Placed) → logic ≡ TableOf t → new ≡ old ++ record { place = behind at (step.Key key.Table); table = t } ∷ []
    → new ≡ old ++ tables_in at (logic_view logic)
walked_table at logic t old new is added = added ∙ ap (λ ts. old ++ ts) (sym (ap (λ l. tables_in at (logic_view l)) is ∙ at_table at t))

pub walked_list : (at inner : List Step) (logic : Logic) (v : Vec Logic Global) (bs : List Logic) (old new : List Placed) → logic ≡ ListOf v → bs ≡ v.items → inner ≡ behind at (step.Key key.List)
    → new ≡ old ++ member_tables inner 0 (members_view bs) → new ≡ old ++ tables_in at (logic_view logic)
walked_list at inner logic v bs old new is same place added =
    added ∙ ap (λ p. old ++ member_tables p 0 (members_view bs)) place ∙ ap (λ xs. old ++ member_tables (behind at (step.Key key.List)) 0 (members_view xs)) same
    ∙ ap (λ ts. old ++ ts) (sym (ap (λ l. tables_in at (logic_view l)) is ∙ at_list at v))

pub walked_context : (at : List Step) (logic : Logic) (v : Vec Named Global) (es : List Named) (old new : List Placed) → logic ≡ Context v → es ≡ v.items
    → new ≡ old ++ entry_tables (behind at (step.Key key.Context)) 0 (entries_view es) → new ≡ old ++ tables_in at (logic_view logic)
walked_context at logic v es old new is same added =
    added ∙ ap (λ xs. old ++ entry_tables (behind at (step.Key key.Context)) 0 (entries_view xs)) same
    ∙ ap (λ ts. old ++ ts) (sym (ap (λ l. tables_in at (logic_view l)) is ∙ at_context at v))

pub walked_with : (at inner : List Step) (logic : Logic) (v : Vec Named Global) (b : Box Logic Global) (es : List Named) (last : Logic) (old middle new : List Placed) → logic ≡ ContextWith v b → es ≡ v.items
    → last ≡ b.value → inner ≡ behind at (step.Key key.Result) → middle ≡ old ++ entry_tables (behind at (step.Key key.Context)) 0 (entries_view es) → new ≡ middle ++ tables_in inner (logic_view last)
    → new ≡ old ++ tables_in at (logic_view logic)
walked_with at inner logic v b es last old middle new is same value place first second =
    let entries = entry_tables (behind at (step.Key key.Context)) 0 (entries_view v.items) in
    let result = tables_in (behind at (step.Key key.Result)) (logic_view b.value) in
    second ∙ ap (λ p. middle ++ tables_in p (logic_view last)) place ∙ ap (λ (l : Logic). middle ++ tables_in (behind at (step.Key key.Result)) (logic_view l)) value
    ∙ ap (λ ts. ts ++ result) (first ∙ ap (λ (xs : List Named). old ++ entry_tables (behind at (step.Key key.Context)) 0 (entries_view xs)) same)
    ∙ append_assoc old entries result ∙ ap (λ ts. old ++ ts) (sym (ap (λ l. tables_in at (logic_view l)) is ∙ at_context_with at v b))

-- one turn along an array, of which what is found from an index on is given by a function
pub turn : {X Y : Type 0} (f : ℕ → List X → List Y) (head : ℕ → X → List Y) → ((i : ℕ) (x : X) (xs : List X) → f i (x ∷ xs) ≡ head i x ++ f (i + 1) xs) → (xs : List X) (i : ℕ) (x : X) (old new whole : List Y)
    → old ++ f i (drop i xs) ≡ whole → x ≡ get_or xs i x → i < length xs → new ≡ old ++ head i x → new ++ f (i + 1) (drop (i + 1) xs) ≡ whole
turn f head one xs i x old new whole before here more added =
    ap (λ ts. ts ++ f (i + 1) (drop (i + 1) xs)) added ∙ append_assoc old (head i x) (f (i + 1) (drop (i + 1) xs)) ∙ ap (λ ts. old ++ ts) (sym (one i x (drop (i + 1) xs)))
    ∙ ap (λ y. old ++ f i (y ∷ drop (i + 1) xs)) here ∙ sym (at_drop_more (λ ys. old ++ f i ys) xs i x more) ∙ before
