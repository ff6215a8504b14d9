-- The parts of a value are values.
use Rattle.std.proofs.Common.{◌≡◌, ℕ, Bool, true, false, ◌&&◌, max, ◌+◌, nat_le, if◌then◌else◌, Option, Some, List, sym, ap, ap₂, ◌∙◌, arith, bytes_eq}
use Rattle.std.proofs.lemmas.Bool.Decides.{nat_tests}
use Rattle.feel_value.specs.Datum.{Datum, null, boolean, number, text, list, context, Entries, no_entries, entry, value_at, entry_named}
use Rattle.feel_value.specs.Limits.{is_value, nodes, depth, entries_nodes, entries_depth, numbers_in_range, names_distinct, entries_in_range, entries_distinct, names_differ}
use Rattle.feel_value.proofs.Booleans.{both_true}

-- what the four tests of a value say
record Tested (a b : Bool) (x m : ℕ) : Type 0 where
  in_range : a ≡ true
  distinct : b ≡ true
  shallow : nat_le x 100 ≡ true
  small : nat_le m 10000 ≡ true

tested : (a b : Bool) (x m : ℕ) → (a && (nat_le x 100 && nat_le m 10000) && b) ≡ true → Tested a b x m
tested a b x m h =
    let p = both_true (a && (nat_le x 100 && nat_le m 10000)) b h in
    let q = both_true a (nat_le x 100 && nat_le m 10000) p.0 in
    let r = both_true (nat_le x 100) (nat_le m 10000) q.1 in
    record { in_range = q.0; distinct = p.1; shallow = r.0; small = r.1 }

test_of : (a b : Bool) (x m : ℕ) → Tested a b x m → (a && (nat_le x 100 && nat_le m 10000) && b) ≡ true
test_of a b x m f = ap₂ (λ s t. s && t) (ap₂ (λ s t. s && t) f.in_range (ap₂ (λ s t. s && t) f.shallow f.small)) f.distinct

both_le : (x y l : ℕ) → nat_le (max x y) l ≡ true → (nat_le x l ≡ true) × (nat_le y l ≡ true)
both_le x y l h = (grind (arith, nat_tests), grind (arith, nat_tests))

both_parts : (x y l : ℕ) → nat_le (x + y) l ≡ true → (nat_le x l ≡ true) × (nat_le y l ≡ true)
both_parts x y l h = (grind (arith, nat_tests), grind (arith, nat_tests))

found : (b : Bool) (c d : Datum) (o : Option Datum) (P : Datum → Bool) → P c ≡ true → (o ≡ Some d → P d ≡ true) → (if b then Some c else o) ≡ Some d → P d ≡ true
found true c d o P first later e = let same : c ≡ d = cc in ap P (sym same) ∙ first
found false c d o P first later e = later e

-- what holds of all entries holds of the one that is looked up
of_entry : (P : Datum → Bool) (Q : Entries → Bool) → ((m : List ℕ) (c : Datum) (es : Entries) → Q (entry m c es) ≡ true → (P c ≡ true) × (Q es ≡ true))
    → (n : List ℕ) (es : Entries) (d : Datum) → Q es ≡ true → value_at n es ≡ Some d → P d ≡ true
of_entry P Q parts n no_entries d h e = cc
of_entry P Q parts n (entry m c es) d h e =
    let p = parts m c es h in
    found (bytes_eq n m) c d (value_at n es) P p.0 (λ g. of_entry P Q parts n es d p.1 g) e

-- an entry of a value is a value
pub entry_is_value : (n : List ℕ) (es : Entries) (d : Datum) → is_value (context es) ≡ true → value_at n es ≡ Some d → is_value d ≡ true
entry_is_value n es d h e =
    let f = tested (entries_in_range es) (names_differ es && entries_distinct es) (1 + entries_depth es) (1 + entries_nodes es) h in
    test_of (numbers_in_range d) (names_distinct d) (depth d) (nodes d) record {
      in_range = of_entry numbers_in_range entries_in_range (λ m c ds g. both_true (numbers_in_range c) (entries_in_range ds) g) n es d f.in_range e;
      distinct = of_entry names_distinct entries_distinct (λ m c ds g. both_true (names_distinct c) (entries_distinct ds) g) n es d (both_true (names_differ es) (entries_distinct es) f.distinct).1 e;
      shallow = of_entry (λ c. nat_le (depth c) 100) (λ ds. nat_le (entries_depth ds) 100) (λ m c ds g. both_le (depth c) (entries_depth ds) 100 g) n es d (both_parts 1 (entries_depth es) 100 f.shallow).1 e;
      small = of_entry (λ c. nat_le (nodes c) 10000) (λ ds. nat_le (entries_nodes ds) 10000) (λ m c ds g. both_parts (nodes c) (entries_nodes ds) 10000 g) n es d (both_parts 1 (entries_nodes es) 10000 f.small).1 e;
    }

-- the same of an entry that is named
pub entry_lawful : (name : List ℕ) (d e : Datum) → is_value d ≡ true → entry_named name d ≡ Some e → is_value e ≡ true
entry_lawful name null e h q = cc
entry_lawful name (boolean b) e h q = cc
entry_lawful name (number z) e h q = cc
entry_lawful name (text s) e h q = cc
entry_lawful name (list ds) e h q = cc
entry_lawful name (context es) e h q = entry_is_value name es e h q
