-- The numbers of the rules that make the result, by their outputs alone.
use Rattle.std.proofs.Common.{◌≡◌, ℕ, ℤ, List, [], ◌∷◌, map, length, take, refl, sym, ap, ap₂, ◌∙◌, arith, Bool, true, false, cond, Option, None, Some, option_map}
use Rattle.std.specs.Prelude.{nat_eq, if◌then◌else◌}
use Rattle.std.specs.List.{zip, filter}
use Rattle.std.specs.Option.{is_some}
use Rattle.std.specs.Ordering.{int_eq}
use Rattle.std.proofs.lemmas.List.{length-map}
use Rattle.std.proofs.lemmas.Option.{same_Some}
use Rattle.feel_value.specs.Datum.{Datum, null, boolean, number, text, list, context}
use Rattle.feel_value.specs.Found.{each, ◌>>=◌}
use Rattle.feel_value.specs.Logic.{decided, is_yes}
use Rattle.feel_value.specs.Comparison.{equal}
use Rattle.feel_text.specs.Meaning.{Bindings}
use Rattle.dmn_table.specs.declared.hit_policy.HitPolicy.{HitPolicy}
use Rattle.dmn_table.specs.declared.hit_policy.HitPolicy.TheVariants.{Unique, Any, First, OutputOrder, RuleOrder, Collect, Sum, Least, Greatest, Count}
use Rattle.dmn_table.specs.Deciding.{outputs_in, are_equal, with_output, deciding}
use Rattle.dmn_table.specs.Hits.{hit_of, kept}
use Rattle.dmn_table.specs.Picked.{numbers_with}
use Rattle.dmn_table.specs.Priority.{Hit}
use Rattle.dmn_table.specs.Result.{number_in, numbers_of, least_of, greatest_of}
use Rattle.dmn_table.specs.RuleOutputs.{outputs_of}
use Rattle.dmn_table.specs.Table.{Column, Rule}
use Rattle.dmn_table.proofs.ByOutputs.{output_in, outputs_of_hits}
use Rattle.dmn_table.proofs.Each.{each_length}

-- ---- hits with their numbers

pub numbers_back : (ns : List ℕ) (hs : List Hit) → length ns ≡ length hs → map (λ h. h.0) (zip ns hs) ≡ ns
numbers_back [] hs e = refl
numbers_back (n ∷ ns) [] e = cc
numbers_back (n ∷ ns) (h ∷ hs) e = ap (λ ks. n ∷ ks) (numbers_back ns hs (omega arith))

pub hits_back : (ns : List ℕ) (hs : List Hit) → length ns ≡ length hs → map (λ h. h.1) (zip ns hs) ≡ hs
hits_back [] [] e = refl
hits_back [] (h ∷ hs) e = cc
hits_back (n ∷ ns) [] e = cc
hits_back (n ∷ ns) (h ∷ hs) e = ap (λ ks. h ∷ ks) (hits_back ns hs (omega arith))

outputs_back : (ns : List ℕ) (hs : List Hit) → length ns ≡ length hs → outputs_in (zip ns hs) ≡ map output_in hs
outputs_back [] [] e = refl
outputs_back [] (h ∷ hs) e = cc
outputs_back (n ∷ ns) [] e = cc
outputs_back (n ∷ ns) (h ∷ hs) e = ap (λ ds. h.output ∷ ds) (outputs_back ns hs (omega arith))

count_back : (ns : List ℕ) (hs : List Hit) → length ns ≡ length hs → length (map output_in hs) ≡ length (zip ns hs)
count_back ns hs e = ap length (sym (outputs_back ns hs e)) ∙ length-map (zip ns hs) (λ h. h.1.output)

-- all numbers or none, where the hits are all or none
all_or_none : (ns : List ℕ) (hs : List Hit) → length ns ≡ length hs → (b c : Bool) → b ≡ c → (if b then ns else []) ≡ map (λ h. h.0) (if c then zip ns hs else [])
all_or_none ns hs e b c same = ap (λ d. if d then ns else []) same ∙ go c
  where
    go : (d : Bool) → (if d then ns else []) ≡ map (λ h. h.0) (if d then zip ns hs else [])
    go true = sym (numbers_back ns hs e)
    go false = refl

-- ---- policy by policy

abbrev OfOutputs : (List ℕ → List Datum → List ℕ) → HitPolicy → Type 0
OfOutputs F p = (ns : List ℕ) (hs : List Hit) → length ns ≡ length hs → F ns (map output_in hs) ≡ deciding p ns hs

only_one : OfOutputs (λ ns ds. if nat_eq (length ds) 1 then ns else []) Unique
only_one ns hs e = all_or_none ns hs e _ _ (ap (λ n. nat_eq n 1) (count_back ns hs e))

equal_ones : OfOutputs (λ ns ds. if are_equal ds then ns else []) Any
equal_ones ns hs e = all_or_none ns hs e _ _ (ap are_equal (sym (outputs_back ns hs e)))

summands : OfOutputs (λ ns ds. if is_some (numbers_of ds) then ns else []) Sum
summands ns hs e = all_or_none ns hs e _ _ (ap (λ ds. is_some (numbers_of ds)) (sym (outputs_back ns hs e)))

first_one : OfOutputs (λ ns ds. take 1 ns) First
first_one [] hs e = refl
first_one (n ∷ ns) [] e = cc
first_one (n ∷ ns) (h ∷ hs) e = refl

in_output_order : OfOutputs (λ ns ds. ns) OutputOrder
in_output_order ns hs e = sym (numbers_back ns hs e)

in_rule_order : OfOutputs (λ ns ds. ns) RuleOrder
in_rule_order ns hs e = sym (numbers_back ns hs e)

collected : OfOutputs (λ ns ds. ns) Collect
collected ns hs e = sym (numbers_back ns hs e)

counted : OfOutputs (λ ns ds. ns) Count
counted ns hs e = sym (numbers_back ns hs e)

yes_decided : (b : Bool) → is_yes (decided b) ≡ b
yes_decided true = refl
yes_decided false = refl

one_number : (d : Datum) (z : ℤ) → number_in d ≡ Some z → d ≡ number z
one_number null z e = cc
one_number (boolean b) z e = cc
one_number (number y) z e = ap number (same_Some y z e)
one_number (text s) z e = cc
one_number (list ds) z e = cc
one_number (context es) z e = cc

-- of a hit with this number as its output
hit_with : (z y : ℤ) (n : ℕ) (h : Hit) (ns : List ℕ) (ys : List ℤ) (hs : List (ℕ × Hit)) → h.output ≡ number y → kept ns (map (int_eq z) ys) ≡ map (λ k. k.0) hs
    → kept (n ∷ ns) (map (int_eq z) (y ∷ ys)) ≡ map (λ k. k.0) (cond (is_yes (equal (number z) h.output)) ((n, h) ∷ hs) hs)
hit_with z y n h ns ys hs is rest =
    go (int_eq z y)
    ∙ ap (λ b. map (λ k. k.0) (cond b ((n, h) ∷ hs) hs)) (sym (ap (λ d. is_yes (equal (number z) d)) is ∙ yes_decided (int_eq z y)))
  where
    go : (b : Bool) → kept (n ∷ ns) (b ∷ map (int_eq z) ys) ≡ map (λ k. k.0) (cond b ((n, h) ∷ hs) hs)
    go true = ap (λ ks. n ∷ ks) rest
    go false = rest

with_number : (z : ℤ) (ns : List ℕ) (hs : List Hit) (zs : List ℤ) → length ns ≡ length hs → numbers_of (map output_in hs) ≡ Some zs
    → kept ns (map (int_eq z) zs) ≡ map (λ h. h.0) (filter (λ h. is_yes (equal (number z) h.1.output)) (zip ns hs))
with_number z [] hs zs e f = refl
with_number z (n ∷ ns) [] zs e f = cc
with_number z (n ∷ ns) (h ∷ hs) zs e f = go (number_in h.output) refl (numbers_of (map output_in hs)) (λ ys g. with_number z ns hs ys (omega arith) g) f
  where
    go : (o : Option ℤ) → number_in h.output ≡ o → (p : Option (List ℤ))
        → ((ys : List ℤ) → p ≡ Some ys → kept ns (map (int_eq z) ys) ≡ map (λ h. h.0) (filter (λ h. is_yes (equal (number z) h.1.output)) (zip ns hs)))
        → (o >>= λ y. p >>= λ ys. Some (y ∷ ys)) ≡ Some zs
        → kept (n ∷ ns) (map (int_eq z) zs) ≡ map (λ h. h.0) (filter (λ h. is_yes (equal (number z) h.1.output)) ((n, h) ∷ zip ns hs))
    go None d p rest g = cc
    go (Some y) d None rest g = cc
    go (Some y) d (Some ys) rest g =
        ap (λ xs. kept (n ∷ ns) (map (int_eq z) xs)) (sym (same_Some (y ∷ ys) zs g))
        ∙ hit_with z y n h ns ys (filter (λ h. is_yes (equal (number z) h.1.output)) (zip ns hs)) (one_number h.output y d) (rest ys refl)

picked : (pick : List ℤ → ℤ) (ns : List ℕ) (hs : List Hit) → length ns ≡ length hs
    → numbers_with pick ns (numbers_of (map output_in hs)) ≡ map (λ h. h.0) (with_output (option_map pick (numbers_of (outputs_in (zip ns hs)))) (zip ns hs))
picked pick ns hs e =
    go (numbers_of (map output_in hs)) refl
    ∙ ap (λ ds. map (λ h. h.0) (with_output (option_map pick (numbers_of ds)) (zip ns hs))) (sym (outputs_back ns hs e))
  where
    go : (o : Option (List ℤ)) → numbers_of (map output_in hs) ≡ o → numbers_with pick ns o ≡ map (λ h. h.0) (with_output (option_map pick o) (zip ns hs))
    go None f = refl
    go (Some zs) f = with_number (pick zs) ns hs zs e f

least_ones : OfOutputs (λ ns ds. numbers_with least_of ns (numbers_of ds)) Least
least_ones ns hs e = picked least_of ns hs e

greatest_ones : OfOutputs (λ ns ds. numbers_with greatest_of ns (numbers_of ds)) Greatest
greatest_ones ns hs e = picked greatest_of ns hs e

-- ---- of rules

module _ (cs : List Column) (m : Bindings) (rs : List Rule) (ns : List ℕ) (e : length ns ≡ length rs) where
  of_rules : (F : List ℕ → List Datum → List ℕ) (p : HitPolicy) → OfOutputs F p → option_map (F ns) (outputs_of cs m rs) ≡ option_map (deciding p ns) (each (hit_of cs m) rs)
  of_rules F p same = ap (option_map (F ns)) (sym (outputs_of_hits cs m rs)) ∙ go (each (hit_of cs m) rs) (λ hs g. each_length (hit_of cs m) rs hs g)
    where
      go : (o : Option (List Hit)) → ((hs : List Hit) → o ≡ Some hs → length hs ≡ length rs) → option_map (F ns) (option_map (map output_in) o) ≡ option_map (deciding p ns) o
      go None l = refl
      go (Some hs) l = ap Some (same ns hs (e ∙ sym (l hs refl)))

  pub rules_unique : option_map (λ (ds : List Datum). if nat_eq (length ds) 1 then ns else []) (outputs_of cs m rs) ≡ option_map (deciding Unique ns) (each (hit_of cs m) rs)
  rules_unique = of_rules (λ ns ds. if nat_eq (length ds) 1 then ns else []) Unique only_one

  pub rules_any : option_map (λ (ds : List Datum). if are_equal ds then ns else []) (outputs_of cs m rs) ≡ option_map (deciding Any ns) (each (hit_of cs m) rs)
  rules_any = of_rules (λ ns ds. if are_equal ds then ns else []) Any equal_ones

  pub rules_sum : option_map (λ (ds : List Datum). if is_some (numbers_of ds) then ns else []) (outputs_of cs m rs) ≡ option_map (deciding Sum ns) (each (hit_of cs m) rs)
  rules_sum = of_rules (λ ns ds. if is_some (numbers_of ds) then ns else []) Sum summands

  pub rules_first : option_map (λ (ds : List Datum). take 1 ns) (outputs_of cs m rs) ≡ option_map (deciding First ns) (each (hit_of cs m) rs)
  rules_first = of_rules (λ ns ds. take 1 ns) First first_one

  pub rules_output_order : option_map (λ (ds : List Datum). ns) (outputs_of cs m rs) ≡ option_map (deciding OutputOrder ns) (each (hit_of cs m) rs)
  rules_output_order = of_rules (λ ns ds. ns) OutputOrder in_output_order

  pub rules_rule_order : option_map (λ (ds : List Datum). ns) (outputs_of cs m rs) ≡ option_map (deciding RuleOrder ns) (each (hit_of cs m) rs)
  rules_rule_order = of_rules (λ ns ds. ns) RuleOrder in_rule_order

  pub rules_collect : option_map (λ (ds : List Datum). ns) (outputs_of cs m rs) ≡ option_map (deciding Collect ns) (each (hit_of cs m) rs)
  rules_collect = of_rules (λ ns ds. ns) Collect collected

  pub rules_count : option_map (λ (ds : List Datum). ns) (outputs_of cs m rs) ≡ option_map (deciding Count ns) (each (hit_of cs m) rs)
  rules_count = of_rules (λ ns ds. ns) Count counted

  pub rules_least : option_map (λ (ds : List Datum). numbers_with least_of ns (numbers_of ds)) (outputs_of cs m rs) ≡ option_map (deciding Least ns) (each (hit_of cs m) rs)
  rules_least = of_rules (λ ns ds. numbers_with least_of ns (numbers_of ds)) Least least_ones

  pub rules_greatest : option_map (λ (ds : List Datum). numbers_with greatest_of ns (numbers_of ds)) (outputs_of cs m rs) ≡ option_map (deciding Greatest ns) (each (hit_of cs m) rs)
  rules_greatest = of_rules (λ ns ds. numbers_with greatest_of ns (numbers_of ds)) Greatest greatest_ones
