-- Reading boxed expressions member by member.
use Rattle.std.proofs.Common.{◌≡◌, ℕ, ◌≤◌, List, [], ◌∷◌, map, length, drop, Option, None, Some, option_map, refl, sym, ap, ap₂, ◌∙◌, String, Vec, Box, Global, string_bytes, BTreeMap, rules, Bool, true, false, ◌&&◌, if◌then◌else◌}
use Rattle.std.specs.Prelude.{codes, bytes_eq}
use Rattle.std.proofs.lemmas.List.{drop_all}
use Rattle.serde_json.specs.Data.{Data, member, no_members}
use Rattle.serde_json.specs.View.{view, items_view, members_view}
use Rattle.serde_json.specs.declared.value.Value.{Value, Object}
use Rattle.serde_json.proofs.Views.{view-Object}
use Rattle.dmn_form.specs.Model.{context, context_with, entries_of}
use Rattle.dmn_form.specs.Draft.{Logic, logic_of, text_of, logic_in, members_in, entries_at, entry_at, entry_members}
use Rattle.feel_value.specs.Found.{◌>>=◌}
use Rattle.dmn_form.specs.LogicParts.{logic_under, context_with_of, named_logic}
use Rattle.dmn_form.specs.LogicView.{logic_view, named_view, entry_view, entries_view}
use Rattle.dmn_form.specs.declared.written.WrittenLogic.{WrittenLogic, Context, ContextWith, the_lemmas}
use Rattle.dmn_form.proofs.Readings.{read_after, read_after-all}

-- the members at the end
pub members_end : (whole : Option (List Logic)) (ms : List WrittenLogic) (xs : List Value) (i : ℕ)
    → whole ≡ read_after (map logic_view ms) (members_in (items_view (drop i xs))) → length xs ≤ i → Some (map logic_view ms) ≡ whole
members_end whole ms xs i before h =
    sym (before ∙ ap (λ ys. read_after (map logic_view ms) (members_in (items_view ys))) (drop_all i xs h) ∙ read_after-all (map logic_view ms))

abbrev pub Entry : Type 0
Entry = String Global × Value

-- an object of two members
pub two_members : (all more last : List Entry) (k l : Entry) → all ≡ k ∷ more → more ≡ l ∷ last → last ≡ []
    → members_view all ≡ member (string_bytes k.0) (view k.1) (member (string_bytes l.0) (view l.1) no_members)
two_members all more last k l a b e = ap members_view (a ∙ ap (λ es. k ∷ es) (b ∙ ap (λ es. l ∷ es) e))

fused : (es : List (String Global × WrittenLogic)) → map named_view (map (λ e. (e.0, logic_view e.1)) es) ≡ map entry_view es
fused [] = refl
fused (e ∷ es) = ap (λ r. entry_view e ∷ r) (fused es)

context_in : (v : Vec (String Global × WrittenLogic) Global) → logic_view (Context v) ≡ context (entries_of (map named_view (map (λ e. (e.0, logic_view e.1)) v.items)))
context_in v = search (rules, the_lemmas)

context_with_in : (v : Vec (String Global × WrittenLogic) Global) (b : Box WrittenLogic Global)
    → logic_view (ContextWith v b) ≡ context_with (entries_of (map named_view (map (λ e. (e.0, logic_view e.1)) v.items))) (logic_view b.value)
context_with_in v b = search (rules, the_lemmas)

pub logic_view-Context : (v : Vec (String Global × WrittenLogic) Global) → logic_view (Context v) ≡ context (entries_of (entries_view v))
logic_view-Context v = context_in v ∙ ap (λ es. context (entries_of es)) (fused v.items)

pub logic_view-ContextWith : (v : Vec (String Global × WrittenLogic) Global) (b : Box WrittenLogic Global) → logic_view (ContextWith v b) ≡ context_with (entries_of (entries_view v)) (logic_view b.value)
logic_view-ContextWith v b = context_with_in v b ∙ ap (λ es. context_with (entries_of es) (logic_view b.value)) (fused v.items)

pub context_found : (k : List ℕ) (d : Data) (v : Vec (String Global × WrittenLogic) Global) → k ≡ codes "context" → Some (entries_view v) ≡ entries_at d → Some (logic_view (Context v)) ≡ logic_under k d
context_found k d v e h = ap Some (logic_view-Context v) ∙ ap (λ o. option_map (λ es. context (entries_of es)) o) h ∙ sym (ap (λ k. logic_under k d) e)

-- What an object of two members is, by whether their keys are those asked for.

abbrev pub asked : Bool → Data → Data → Option Logic
asked b d r = if b then context_with_of d r else None

pub pair_form : (all more last : List Entry) (k l : Entry) (kb lb : List ℕ) (b : Bool) → all ≡ k ∷ more → more ≡ l ∷ last → last ≡ []
    → kb ≡ string_bytes k.0 → lb ≡ string_bytes l.0 → b ≡ (bytes_eq kb (codes "context") && bytes_eq lb (codes "result"))
    → logic_in (members_view all) ≡ asked b (view k.1) (view l.1)
pair_form all more last k l kb lb b x y z e f t =
    ap logic_in (two_members all more last k l x y z)
    ∙ ap₂ (λ m n. asked (bytes_eq m (codes "context") && bytes_eq n (codes "result")) (view k.1) (view l.1)) (sym e) (sym f)
    ∙ ap (λ b. asked b (view k.1) (view l.1)) (sym t)

pub other_keys : (whole : Option Logic) (b : Bool) (d r : Data) → whole ≡ asked b d r → b ≡ false → None ≡ whole
other_keys whole b d r w f = sym (w ∙ ap (λ b. asked b d r) f)

pub no_entries : (whole : Option Logic) (b : Bool) (d r : Data) → whole ≡ asked b d r → b ≡ true → None ≡ entries_at d → None ≡ whole
no_entries whole b d r w t e = sym (w ∙ ap (λ b. asked b d r) t ∙ ap (λ o. o >>= λ es. logic_of r >>= λ b. Some (context_with (entries_of es) b)) (sym e))

pub no_result : (whole : Option Logic) (b : Bool) (d r : Data) (es : List (List ℕ × Logic)) → whole ≡ asked b d r → b ≡ true → Some es ≡ entries_at d → None ≡ logic_of r → None ≡ whole
no_result whole b d r es w t e l =
    sym (w ∙ ap (λ b. asked b d r) t ∙ ap (λ o. o >>= λ es. logic_of r >>= λ b. Some (context_with (entries_of es) b)) (sym e)
    ∙ ap (λ o. o >>= λ b. Some (context_with (entries_of es) b)) (sym l))

pub both_found : (whole : Option Logic) (b : Bool) (d r : Data) (v : Vec (String Global × WrittenLogic) Global) (x : Box WrittenLogic Global) → whole ≡ asked b d r → b ≡ true
    → Some (entries_view v) ≡ entries_at d → Some (logic_view x.value) ≡ logic_of r → Some (logic_view (ContextWith v x)) ≡ whole
both_found whole b d r v x w t e l =
    ap Some (logic_view-ContextWith v x)
    ∙ sym (w ∙ ap (λ b. asked b d r) t ∙ ap (λ o. o >>= λ es. logic_of r >>= λ b. Some (context_with (entries_of es) b)) (sym e)
    ∙ ap (λ o. o >>= λ b. Some (context_with (entries_of (entries_view v)) b)) (sym l))

abbrev pub asked_entry : Bool → Data → Data → Option (List ℕ × Logic)
asked_entry b d n = if b then named_logic d n else None

pub entry_form : (json : Value) (m : BTreeMap (String Global) Value) (more last : List Entry) (all : List Entry) (k l : Entry) (kb lb : List ℕ) (b : Bool) → json ≡ Object m → all ≡ m.entries
    → all ≡ k ∷ more → more ≡ l ∷ last → last ≡ [] → kb ≡ string_bytes k.0 → lb ≡ string_bytes l.0
    → b ≡ (bytes_eq kb (codes "expr") && bytes_eq lb (codes "name"))
    → entry_at (view json) ≡ asked_entry b (view k.1) (view l.1)
entry_form json m more last all k l kb lb b j a x y z e f t =
    ap (λ v. entry_at (view v)) j ∙ ap entry_at (view-Object m) ∙ ap (λ es. entry_members (members_view es)) (sym a)
    ∙ ap entry_members (two_members all more last k l x y z)
    ∙ ap₂ (λ m n. asked_entry (bytes_eq m (codes "expr") && bytes_eq n (codes "name")) (view k.1) (view l.1)) (sym e) (sym f)
    ∙ ap (λ b. asked_entry b (view k.1) (view l.1)) (sym t)

pub no_logic : (whole : Option (List ℕ × Logic)) (b : Bool) (d n : Data) → whole ≡ asked_entry b d n → b ≡ true → None ≡ logic_of d → None ≡ whole
no_logic whole b d n w t l = sym (w ∙ ap (λ b. asked_entry b d n) t ∙ ap (λ o. o >>= λ b. text_of n >>= λ name. Some (name, b)) (sym l))

pub logic_named : (whole : Option (List ℕ × Logic)) (b : Bool) (d n : Data) (name : List ℕ) (lo : Logic) → whole ≡ asked_entry b d n → b ≡ true → Some lo ≡ logic_of d → Some name ≡ text_of n → Some (name, lo) ≡ whole
logic_named whole b d n name lo w t l e =
    sym (w ∙ ap (λ b. asked_entry b d n) t ∙ ap (λ o. o >>= λ b. text_of n >>= λ name. Some (name, b)) (sym l) ∙ ap (λ o. o >>= λ name. Some (name, lo)) (sym e))
