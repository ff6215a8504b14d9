-- The places that are left, member by member.
use Rattle.std.proofs.Common.{◌≡◌, ℕ, ◌+◌, ◌-◌, ◌<◌, max, Bool, true, false, ◌&&◌, nat_le, if◌then◌else◌, Option, Some, None, option_and_then, List, refl, sym, ap, ◌∙◌, arith}
use Rattle.std.proofs.lemmas.Bool.Decides.{nat_tests}
use Rattle.feel_value.specs.Datum.{Datum, list, context, Items, item, Entries, entry}
use Rattle.feel_value.specs.Limits.{nodes, depth, items_nodes, items_depth, entries_nodes, entries_depth, numbers_in_range, items_in_range, entries_in_range}

-- Whether its numbers are in range, it is at most `levels` deep and has at most `places` nodes.
abbrev pub fits : Datum → ℕ → ℕ → Bool
fits d levels places = numbers_in_range d && (nat_le (depth d) levels && nat_le (nodes d) places)

abbrev pub items_fit : Items → ℕ → ℕ → Bool
items_fit ds levels places = items_in_range ds && (nat_le (items_depth ds) levels && nat_le (items_nodes ds) places)

abbrev pub entries_fit : Entries → ℕ → ℕ → Bool
entries_fit es levels places = entries_in_range es && (nat_le (entries_depth es) levels && nat_le (entries_nodes es) places)

-- The places that are left of `places` where it fits.
abbrev pub left_of : Datum → ℕ → ℕ → Option ℕ
left_of d levels places = if fits d levels places then Some (places - nodes d) else None

abbrev pub items_left_of : Items → ℕ → ℕ → Option ℕ
items_left_of ds levels places = if items_fit ds levels places then Some (places - items_nodes ds) else None

abbrev pub entries_left_of : Entries → ℕ → ℕ → Option ℕ
entries_left_of es levels places = if entries_fit es levels places then Some (places - entries_nodes es) else None

le_max : (x y l : ℕ) → nat_le (max x y) l ≡ (nat_le x l && nat_le y l)
le_max x y l = grind (arith, nat_tests)

le_sum : (m n p : ℕ) → nat_le (m + n) p ≡ (nat_le m p && nat_le n (p - m))
le_sum m n p = grind (arith, nat_tests)

less_sum : (m n p : ℕ) → p - (m + n) ≡ p - m - n
less_sum m n p = omega arith

abbrev nothing : ℕ → Option ℕ
nothing q = None

none_after : (o : Option ℕ) → option_and_then nothing o ≡ None
none_after None = refl
none_after (Some x) = refl

abbrev pub rest : Bool → ℕ → ℕ → ℕ → ℕ → Option ℕ
rest a depth nodes levels places = if a && (nat_le depth levels && nat_le nodes places) then Some (places - nodes) else None

tests : (c1 c2 c3 : Bool) (n q : ℕ) → (if c1 && c2 && (c3 && nat_le n q) then Some (q - n) else None) ≡ option_and_then (λ p. if c2 && nat_le n p then Some (p - n) else None) (if c1 && c3 then Some q else None)
tests true true true n q = refl
tests true true false n q = refl
tests true false true n q = refl
tests true false false n q = refl
tests false c2 c3 n q = refl

both : (a1 a2 : Bool) (x y m n levels places : ℕ)
    → rest (a1 && a2) (max x y) (m + n) levels places ≡ option_and_then (λ q. rest a2 y n levels q) (rest a1 x m levels places)
both true true x y m n levels places =
    ap (λ b. if b && nat_le (m + n) places then Some (places - (m + n)) else None) (le_max x y levels)
    ∙ ap (λ b. if nat_le x levels && nat_le y levels && b then Some (places - (m + n)) else None) (le_sum m n places)
    ∙ ap (λ k. if nat_le x levels && nat_le y levels && (nat_le m places && nat_le n (places - m)) then Some k else None) (less_sum m n places)
    ∙ tests (nat_le x levels) (nat_le y levels) (nat_le m places) n (places - m)
both true false x y m n levels places = sym (none_after _)
both false a2 x y m n levels places = refl

-- the places that a list leaves are those that its first member leaves to the others
pub items_left_of-item : (d : Datum) (ds : Items) (levels places : ℕ) → items_left_of (item d ds) levels places ≡ option_and_then (λ q. items_left_of ds levels q) (left_of d levels places)
items_left_of-item d ds levels places = both (numbers_in_range d) (items_in_range ds) (depth d) (items_depth ds) (nodes d) (items_nodes ds) levels places

pub entries_left_of-entry : (n : List ℕ) (d : Datum) (es : Entries) (levels places : ℕ) → entries_left_of (entry n d es) levels places ≡ option_and_then (λ q. entries_left_of es levels q) (left_of d levels places)
entries_left_of-entry n d es levels places = both (numbers_in_range d) (entries_in_range es) (depth d) (entries_depth es) (nodes d) (entries_nodes es) levels places

within_one : (x m levels places : ℕ) → 0 < levels → 0 < places → (nat_le (1 + x) levels && nat_le (1 + m) places) ≡ (nat_le x (levels - 1) && nat_le m (places - 1))
within_one x m levels places h k = grind (arith, nat_tests)

-- a list or a context takes one level and one place
one_in : (a : Bool) (x m levels places : ℕ) → 0 < levels → 0 < places → rest a (1 + x) (1 + m) levels places ≡ rest a x m (levels - 1) (places - 1)
one_in a x m levels places h k =
    ap (λ t. if a && t then Some (places - (1 + m)) else None) (within_one x m levels places h k)
    ∙ ap (λ n. if a && (nat_le x (levels - 1) && nat_le m (places - 1)) then Some n else None) (less_sum 1 m places)

pub left_of-context : (es : Entries) (levels places : ℕ) → 0 < levels → 0 < places → left_of (context es) levels places ≡ entries_left_of es (levels - 1) (places - 1)
left_of-context es levels places h k = one_in (entries_in_range es) (entries_depth es) (entries_nodes es) levels places h k

pub left_of-list : (ds : Items) (levels places : ℕ) → 0 < levels → 0 < places → left_of (list ds) levels places ≡ items_left_of ds (levels - 1) (places - 1)
left_of-list ds levels places h k = one_in (items_in_range ds) (items_depth ds) (items_nodes ds) levels places h k
