-- Texts with a bound, as they grow piece by piece.
use Rattle.std.proofs.Common.{◌≡◌, ℕ, ◌<◌, ◌≤◌, Bool, true, false, List, [], ◌∷◌, ◌++◌, length, append_assoc, length-append, arith, ap, sym, ◌∙◌, refl, ◌⊎◌, inl, inr, Option, None, Some}
use Rattle.std.specs.List.{list_any}
use Rattle.std.specs.Option.{is_none}
use Rattle.std.proofs.lemmas.Bool.Decides.{nat_tests}
use Rattle.json.specs.Print.{quoted}
use Rattle.json.specs.Run.{is_stop}
use Rattle.serde_json.specs.Data.{Data, object, array, Items, no_items, item, Members, no_members, member}
use Rattle.serde_json.specs.Written.{comma_if, compact_text, items_text, members_text}
use Rattle.json_writer.specs.Bounded.{most_bytes, kept_text, longer}
use Rattle.json_writer.proofs.Quoting.{escape_none}

abbrev pub Text : Type 0
Text = Option (List ℕ)

le_or_lt : (m n : ℕ) → (m ≤ n) ⊎ (n < m)
le_or_lt m n = grind arith

kept_short : (text : List ℕ) → length text ≤ most_bytes → kept_text text ≡ Some text
kept_short text h = grind (arith, nat_tests)

kept_long : (text : List ℕ) → most_bytes < length text → kept_text text ≡ None
kept_long text h = grind (arith, nat_tests)

longer-kept : (text piece : List ℕ) → longer (kept_text text) piece ≡ kept_text (text ++ piece)
longer-kept text piece = elim (le_or_lt (length text) most_bytes) [
  | inl h ↦ rw (kept_short text h)
  | inr h ↦ rw (kept_long text h) (sym (kept_long (text ++ piece) (omega (arith, length-append text piece))))
]

-- two pieces are one
pub longer_again : (t : Text) (a b : List ℕ) → longer (longer t a) b ≡ longer t (a ++ b)
longer_again None a b = refl
longer_again (Some text) a b = longer-kept (text ++ a) b ∙ ap kept_text (append_assoc text a b)

-- three pieces are one
pub longer_thrice : (t : Text) (a b c : List ℕ) → longer (longer (longer t a) b) c ≡ longer t (a ++ (b ++ c))
longer_thrice t a b c = longer_again (longer t a) b c ∙ longer_again t a (b ++ c)

-- a long text stays long, so it is what the whole would be
pub stopped : (t whole : Text) (rest : List ℕ) → is_none t ≡ true → longer t rest ≡ whole → t ≡ whole
stopped None whole rest h e = e
stopped (Some text) whole rest h e = let wrong : ⊥ = cc in absurd wrong

-- so whatever else were added
pub stopped_with : (t whole : Text) (rest other : List ℕ) → is_none t ≡ true → longer t rest ≡ whole → longer t other ≡ whole
stopped_with None whole rest other h e = e
stopped_with (Some text) whole rest other h e = let wrong : ⊥ = cc in absurd wrong

pub quoted_added : (t : Text) (s : List ℕ) → list_any is_stop s ≡ false → longer (longer (longer t (34 ∷ [])) s) (34 ∷ []) ≡ longer t (quoted s)
quoted_added t s e = longer_thrice t (34 ∷ []) s (34 ∷ []) ∙ rw (escape_none s e) refl

-- one item more
item_added : (t : Text) (later : Bool) (d : Data) (ds : Items) → longer (longer (longer t (comma_if later)) (compact_text d)) (items_text true ds) ≡ longer t (items_text later (item d ds))
item_added t later d ds = longer_thrice t (comma_if later) (compact_text d) (items_text true ds)

-- In a loop that writes an array: `here` is what is left, and begins with d.
pub row_more : (whole t t1 t2 : Text) (later : Bool) (here : Items) (d : Data) (ds : Items)
    → longer t (items_text later here) ≡ whole → here ≡ item d ds → t1 ≡ longer t (comma_if later) → t2 ≡ longer t1 (compact_text d) → longer t2 (items_text true ds) ≡ whole
row_more whole t t1 t2 later here d ds before is comma added =
    ap (λ s. longer s (items_text true ds)) (added ∙ ap (λ s. longer s (compact_text d)) comma)
    ∙ item_added t later d ds ∙ ap (λ x. longer t (items_text later x)) (sym is) ∙ before

-- nothing is left
pub row_ended : (whole t t1 : Text) (later : Bool) (here : Items) → longer t (items_text later here) ≡ whole → here ≡ no_items → t1 ≡ longer t (93 ∷ []) → t1 ≡ whole
row_ended whole t t1 later here before is added = added ∙ ap (λ x. longer t (items_text later x)) (sym is) ∙ before

-- from the bracket on
pub row_begun : (t t1 : Text) (ds : Items) → t1 ≡ longer t (91 ∷ []) → longer t1 (items_text false ds) ≡ longer t (compact_text (array ds))
row_begun t t1 ds e = ap (λ s. longer s (items_text false ds)) e ∙ longer_again t (91 ∷ []) (items_text false ds)

-- the same of an object
pub object_begun : (t t1 : Text) (ms : Members) → t1 ≡ longer t (123 ∷ []) → longer t1 (members_text false ms) ≡ longer t (compact_text (object ms))
object_begun t t1 ms e = ap (λ s. longer s (members_text false ms)) e ∙ longer_again t (123 ∷ []) (members_text false ms)

-- a comma, a key with its colon, a value and what stands behind it
pub keyed : (t : Text) (comma key value rest : List ℕ) → longer (longer (longer (longer (longer t comma) key) (58 ∷ [])) value) rest ≡ longer t (comma ++ (key ++ 58 ∷ (value ++ rest)))
keyed t comma key value rest =
    longer_thrice (longer (longer t comma) key) (58 ∷ []) value rest ∙ longer_thrice t comma key (58 ∷ (value ++ rest))

pub member_more : (whole t t1 t2 t3 t4 : Text) (later : Bool) (here : Members) (k : List ℕ) (d : Data) (ms : Members)
    → longer t (members_text later here) ≡ whole → here ≡ member k d ms → t1 ≡ longer t (comma_if later) → t2 ≡ longer t1 (quoted k) → t3 ≡ longer t2 (58 ∷ [])
    → t4 ≡ longer t3 (compact_text d) → longer t4 (members_text true ms) ≡ whole
member_more whole t t1 t2 t3 t4 later here k d ms before is comma key colon value =
    ap (λ s. longer s (members_text true ms))
    (value ∙ ap (λ s. longer s (compact_text d)) (colon ∙ ap (λ s. longer s (58 ∷ [])) (key ∙ ap (λ s. longer s (quoted k)) comma)))
    ∙ keyed t (comma_if later) (quoted k) (compact_text d) (members_text true ms)
    ∙ ap (λ x. longer t (members_text later x)) (sym is) ∙ before

pub members_ended : (whole t t1 : Text) (later : Bool) (here : Members) → longer t (members_text later here) ≡ whole → here ≡ no_members → t1 ≡ longer t (125 ∷ []) → t1 ≡ whole
members_ended whole t t1 later here before is added = added ∙ ap (λ x. longer t (members_text later x)) (sym is) ∙ before
