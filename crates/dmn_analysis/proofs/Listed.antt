-- Lists of constants.
use Rattle.std.proofs.Common.{◌≡◌, ◌∙◌, refl, sym, ap, subst, ℕ, ℤ, zero, suc, ◌+◌, ◌<◌, ◌≤◌, List, [], ◌∷◌, length, get_or, drop, Bool, true, false, ◌&&◌, ◌||◌, if◌then◌else◌, Some, arith}
use Rattle.std.specs.Prelude.{nat_le}
use Rattle.std.specs.declared.alloc.Global.{Global}
use Rattle.std.specs.declared.sync.ArcStr.{ArcStr}
use Rattle.std.proofs.lemmas.Bool.Decides.{nat_tests}
use Rattle.std.proofs.lemmas.List.{at_drop_more}
use Rattle.feel_value.specs.Comparison.{equal}
use Rattle.feel_value.specs.Datum.{Datum, null, boolean, number, text, list, context, Items, no_items, item}
use Rattle.feel_value.specs.Limits.{depth, in_range, is_value, items_depth, items_distinct, items_in_range, items_nodes, names_distinct, nodes, numbers_in_range}
use Rattle.feel_value.specs.Logic.{decided, is_yes}
use Rattle.feel_value.specs.View.{datum_of}
use Rattle.feel_value.specs.declared.feel.Outcome.{Outcome}
use Rattle.feel_value.specs.declared.feel.Outcome.TheVariants.{Is, Limit}
use Rattle.feel_text.specs.Expr.{Expr, Exprs, Members, more, none}
use Rattle.feel_text.specs.Meaning.{Bindings, den, dens, list_held, member_before}
use Rattle.feel_text.specs.Satisfied.{Told, answer, is_in, is_listed, is_member}
use Rattle.feel_text.specs.View.{view, views}
use Rattle.feel_text.specs.declared.expr.Tree.{Tree}
use Rattle.dmn_analysis.specs.Classes.{is_between, is_number_in, is_of, is_other_text, is_parted, is_same, is_word}
use Rattle.dmn_analysis.specs.Members.{AreKnownMembers, IsKnownMember, are_plain, has_parts, is_plain}
use Rattle.dmn_analysis.specs.declared.class.Class.{Class}
use Rattle.dmn_analysis.specs.declared.class.Class.TheVariants as class

both : (a b : Bool) → (a && b) ≡ true → (a ≡ true) × (b ≡ true)
both true true e = (refl, refl)
both true false e = cc
both false b e = cc

-- ---- plain values are small

one_node : (d : Datum) → is_plain d ≡ true → nodes d ≡ 1
one_node null h = refl
one_node (boolean b) h = refl
one_node (number z) h = refl
one_node (text s) h = refl
one_node (list ds) h = cc
one_node (context es) h = cc

one_deep : (d : Datum) → is_plain d ≡ true → depth d ≡ 1
one_deep null h = refl
one_deep (boolean b) h = refl
one_deep (number z) h = refl
one_deep (text s) h = refl
one_deep (list ds) h = cc
one_deep (context es) h = cc

in_its_range : (d : Datum) → is_plain d ≡ true → numbers_in_range d ≡ true
in_its_range null h = refl
in_its_range (boolean b) h = refl
in_its_range (number z) h = h
in_its_range (text s) h = refl
in_its_range (list ds) h = cc
in_its_range (context es) h = cc

without_names : (d : Datum) → is_plain d ≡ true → names_distinct d ≡ true
without_names null h = refl
without_names (boolean b) h = refl
without_names (number z) h = refl
without_names (text s) h = refl
without_names (list ds) h = cc
without_names (context es) h = cc

two_true : (a b : Bool) → a ≡ true → b ≡ true → (a && b) ≡ true
two_true true true h i = refl
two_true true false h i = cc
two_true false b h i = cc

all_in_range : (ds : Items) → are_plain ds ≡ true → items_in_range ds ≡ true
all_in_range no_items h = refl
all_in_range (item d ds) h = let p = both (is_plain d) (are_plain ds) h in two_true (numbers_in_range d) (items_in_range ds) (in_its_range d p.0) (all_in_range ds p.1)

all_distinct : (ds : Items) → are_plain ds ≡ true → items_distinct ds ≡ true
all_distinct no_items h = refl
all_distinct (item d ds) h = let p = both (is_plain d) (are_plain ds) h in two_true (names_distinct d) (items_distinct ds) (without_names d p.0) (all_distinct ds p.1)

all_flat : (ds : Items) → are_plain ds ≡ true → items_depth ds ≤ 1
all_flat no_items h = omega arith
all_flat (item d ds) h = let p = both (is_plain d) (are_plain ds) h in omega (arith, one_deep d p.0, all_flat ds p.1)

is_small : (ds : Items) → are_plain ds ≡ true → items_nodes ds < 9999 → is_value (list ds) ≡ true
is_small ds h few =
    let deep : nat_le (1 + items_depth ds) 100 ≡ true = grind (arith, nat_tests, all_flat ds h) in
    let large : nat_le (1 + items_nodes ds) 10000 ≡ true = grind (arith, nat_tests, few) in
    two_true (items_in_range ds && (nat_le (1 + items_depth ds) 100 && nat_le (1 + items_nodes ds) 10000)) (items_distinct ds)
    (two_true (items_in_range ds) (nat_le (1 + items_depth ds) 100 && nat_le (1 + items_nodes ds) 10000) (all_in_range ds h) (two_true (nat_le (1 + items_depth ds) 100) (nat_le (1 + items_nodes ds) 10000) deep large))
    (all_distinct ds h)

list_is : (ds : Items) → are_plain ds ≡ true → items_nodes ds < 9999 → list_held (Some ds) ≡ Is (list ds)
list_is ds h few = ap (λ (b : Bool). if b then Is (list ds) else Limit) (is_small ds h few)

-- ---- members

pub none_known : (c : Class) → AreKnownMembers c none 0 false
none_known c = record { values = no_items; means = λ m. refl; plain = refl; count_is = refl; each = λ v of. refl }

pub one_known : (c : Class) (e : Expr) (es : Exprs) (count : ℕ) (same found : Bool) → IsKnownMember c e same → AreKnownMembers c es count found → AreKnownMembers c (more e es) (suc count) (same || found)
one_known c e es count same found one rest = record {
  values = item one.value rest.values;
  means = λ m. ap (λ o. member_before o (dens es m)) (one.means m) ∙ ap (member_before (Is one.value)) (rest.means m);
  plain = two_true (is_plain one.value) (are_plain rest.values) one.plain rest.plain;
  count_is = omega (arith, one_node one.value one.plain, rest.count_is);
  each = λ v of. ap (λ b. b || is_member v rest.values) (one.each v of) ∙ ap (λ b. same || b) (rest.each v of);
}

-- no value but a list is equal to one
not_equal : (v : Datum) (ds : Items) → is_parted v ≡ false → is_yes (equal v (list ds)) ≡ false
not_equal null ds h = refl
not_equal (boolean b) ds h = refl
not_equal (number z) ds h = refl
not_equal (text s) ds h = refl
not_equal (list es) ds h = cc
not_equal (context es) ds h = cc

pub listed_in : (c : Class) (es : Exprs) (count : ℕ) (found : Bool) → AreKnownMembers c es count found → count < 9999 → (v : Datum) (m : Bindings) → is_of c v ≡ true → is_parted v ≡ false
    → answer (den (Members es) m) (λ d. decided (is_in v d)) ≡ Told (decided found)
listed_in c es count found known few v m of plain =
    let fewer : items_nodes known.values < 9999 = subst (λ n. n < 9999) (sym known.count_is) few in
    ap (λ o. answer o (λ d. decided (is_in v d))) (ap list_held (known.means m) ∙ list_is known.values known.plain fewer)
    ∙ ap (λ b. Told (decided (b || is_member v known.values))) (not_equal v known.values plain) ∙ ap (λ b. Told (decided b)) (known.each v of)

-- ---- classes without lists and contexts

same_plain : (d v : Datum) → is_same d v ≡ true → is_parted v ≡ false
same_plain d null h = refl
same_plain d (boolean b) h = refl
same_plain d (number z) h = refl
same_plain d (text s) h = refl
same_plain null (list ds) h = cc
same_plain (boolean b) (list ds) h = cc
same_plain (number z) (list ds) h = cc
same_plain (text s) (list ds) h = cc
same_plain (list es) (list ds) h = cc
same_plain (context es) (list ds) h = cc
same_plain null (context ds) h = cc
same_plain (boolean b) (context ds) h = cc
same_plain (number z) (context ds) h = cc
same_plain (text s) (context ds) h = cc
same_plain (list es) (context ds) h = cc
same_plain (context es) (context ds) h = cc

number_plain : (low high : ℤ) (v : Datum) → is_number_in low high v ≡ true → is_parted v ≡ false
number_plain low high null h = refl
number_plain low high (boolean b) h = refl
number_plain low high (number z) h = refl
number_plain low high (text s) h = refl
number_plain low high (list ds) h = cc
number_plain low high (context es) h = cc

word_plain : (texts : List (ArcStr Global)) (v : Datum) → is_word texts v ≡ true → is_parted v ≡ false
word_plain texts null h = refl
word_plain texts (boolean b) h = refl
word_plain texts (number z) h = refl
word_plain texts (text s) h = refl
word_plain texts (list ds) h = cc
word_plain texts (context es) h = cc

other_plain : (texts : List (ArcStr Global)) (v : Datum) → is_other_text texts v ≡ true → is_parted v ≡ false
other_plain texts null h = refl
other_plain texts (boolean b) h = refl
other_plain texts (number z) h = refl
other_plain texts (text s) h = refl
other_plain texts (list ds) h = cc
other_plain texts (context es) h = cc

between_plain : (texts : List (ArcStr Global)) (from to : ℕ) (v : Datum) → is_between texts from to v ≡ true → is_parted v ≡ false
between_plain texts from to null h = refl
between_plain texts from to (boolean b) h = refl
between_plain texts from to (number z) h = refl
between_plain texts from to (text s) h = refl
between_plain texts from to (list ds) h = cc
between_plain texts from to (context es) h = cc

pub not_parted : (c : Class) (v : Datum) → has_parts c ≡ false → is_of c v ≡ true → is_parted v ≡ false
not_parted (class.One d) v h of = same_plain (datum_of d) v of
not_parted (class.Numbers low high) v h of = number_plain low high v of
not_parted (class.Words texts) v h of = word_plain texts.now v of
not_parted (class.OtherTexts texts) v h of = other_plain texts.now v of
not_parted (class.Between texts from to) v h of = between_plain texts.now from to v of
not_parted class.Parted v h of = cc

-- ---- the members from one on

pub exprs_from : (xs : List Tree) (i : ℕ) (x : Tree) → x ≡ get_or xs i x → i < length xs → views (drop i xs) ≡ more (view x) (views (drop (i + 1) xs))
exprs_from xs i x e h = at_drop_more views xs i x h ∙ ap (λ (y : Tree). more (view y) (views (drop (i + 1) xs))) (sym e)

pub or_assoc : (a b c : Bool) → ((a || b) || c) ≡ (a || (b || c))
or_assoc true b c = refl
or_assoc false b c = refl

pub or_none : (a : Bool) → (a || false) ≡ a
or_none true = refl
or_none false = refl

pub length_from : {X : Type 0} (xs : List X) (i : ℕ) → i < length xs → length (drop i xs) ≡ suc (length (drop (i + 1) xs))
length_from [] i h = absurd (omega (arith, h))
length_from (x ∷ xs) zero h = refl
length_from (x ∷ xs) (suc i) h =
    let next : suc i + 1 ≡ suc (i + 1) = omega arith in
    length_from xs i (omega (arith, h)) ∙ ap (λ k. suc (length (drop k (x ∷ xs)))) (sym next)
