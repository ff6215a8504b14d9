-- Whether the outputs of hits fit into a list that is a value: it doesn't depend on their order.
use Rattle.std.proofs.Common.{◌≡◌, ℕ, ◌+◌, max, List, [], ◌∷◌, ◌++◌, map, refl, sym, ap, ap₂, ◌∙◌, arith, Bool, true, false, cond, ◌&&◌, nat_le, if◌then◌else◌, Option, None, Some}
use Rattle.feel_value.specs.Datum.{Datum, list, items_of}
use Rattle.feel_value.specs.Limits.{is_value, nodes, depth, numbers_in_range, names_distinct, items_nodes, items_depth, items_in_range, items_distinct}
use Rattle.feel_value.specs.declared.feel.Outcome.TheVariants.{Is, Limit}
use Rattle.feel_value.specs.Found.{outcome_from}
use Rattle.dmn_table.specs.Priority.{Hit, is_higher, put_before, in_priority}
use Rattle.dmn_table.specs.Result.{list_of}
use Rattle.dmn_table.specs.RuleOutputs.{fitting}
use Rattle.dmn_table.proofs.Each.{after}
use Rattle.dmn_table.proofs.Turns.{more_than_fit}

-- a sum over hits, in any order
module _ {Y : Type 0} (plus : Y → Y → Y) (of_hit : Hit → Y) (sum : List Hit → Y) (step : (h : Hit) (hs : List Hit) → sum (h ∷ hs) ≡ plus (of_hit h) (sum hs)) (turned : (x y z : Y) → plus x (plus y z) ≡ plus y (plus x z)) where
  sum_of_put : (h : Hit) (ks : List Hit) → sum (put_before h ks) ≡ sum (h ∷ ks)
  sum_of_put h [] = refl
  sum_of_put h (k ∷ ks) = go (is_higher k.places h.places) (sum_of_put h ks)
    where
      go : (b : Bool) → sum (put_before h ks) ≡ sum (h ∷ ks) → sum (cond b (k ∷ put_before h ks) (h ∷ k ∷ ks)) ≡ sum (h ∷ k ∷ ks)
      go true e =
          step k (put_before h ks) ∙ ap (plus (of_hit k)) (e ∙ step h ks) ∙ turned (of_hit k) (of_hit h) (sum ks)
          ∙ ap (plus (of_hit h)) (sym (step k ks)) ∙ sym (step h (k ∷ ks))
      go false e = refl

  sum_in_priority : (hs : List Hit) → sum (in_priority hs) ≡ sum hs
  sum_in_priority [] = refl
  sum_in_priority (h ∷ hs) = sum_of_put h (in_priority hs) ∙ step h (in_priority hs) ∙ ap (plus (of_hit h)) (sum_in_priority hs) ∙ sym (step h hs)

add_turned : (x y z : ℕ) → x + (y + z) ≡ y + (x + z)
add_turned x y z = omega arith

max_turned : (x y z : ℕ) → max x (max y z) ≡ max y (max x z)
max_turned x y z = omega arith

and_turned : (x y z : Bool) → (x && (y && z)) ≡ (y && (x && z))
and_turned true y z = refl
and_turned false true z = refl
and_turned false false z = refl

abbrev outputs_in : List Hit → List Datum
outputs_in hs = map (λ h. h.output) hs

same_nodes : (hs : List Hit) → items_nodes (items_of (outputs_in (in_priority hs))) ≡ items_nodes (items_of (outputs_in hs))
same_nodes = sum_in_priority ◌+◌ (λ h. nodes h.output) (λ hs. items_nodes (items_of (outputs_in hs))) (λ h hs. refl) add_turned

same_depth : (hs : List Hit) → items_depth (items_of (outputs_in (in_priority hs))) ≡ items_depth (items_of (outputs_in hs))
same_depth = sum_in_priority max (λ h. depth h.output) (λ hs. items_depth (items_of (outputs_in hs))) (λ h hs. refl) max_turned

same_range : (hs : List Hit) → items_in_range (items_of (outputs_in (in_priority hs))) ≡ items_in_range (items_of (outputs_in hs))
same_range = sum_in_priority ◌&&◌ (λ h. numbers_in_range h.output) (λ hs. items_in_range (items_of (outputs_in hs))) (λ h hs. refl) and_turned

same_names : (hs : List Hit) → items_distinct (items_of (outputs_in (in_priority hs))) ≡ items_distinct (items_of (outputs_in hs))
same_names = sum_in_priority ◌&&◌ (λ h. names_distinct h.output) (λ hs. items_distinct (items_of (outputs_in hs))) (λ h hs. refl) and_turned

-- in priority they fit as they do in the order of the rules
same_fit : (hs : List Hit) → is_value (list (items_of (outputs_in (in_priority hs)))) ≡ is_value (list (items_of (outputs_in hs)))
same_fit hs =
    ap₂ (λ a b. a && b)
    (ap₂ (λ a b. a && b) (same_range hs) (ap₂ (λ a b. nat_le (1 + a) 100 && nat_le (1 + b) 10000) (same_depth hs) (same_nodes hs)))
    (same_names hs)

-- the hits that fit are those that are found
pub fitting_found : (hs : List Hit) (o : Option (List Hit)) → Some hs ≡ fitting o → Some hs ≡ o
fitting_found hs None e = cc
fitting_found hs (Some ks) e = go (is_value (list (items_of (outputs_in ks)))) e
  where
    go : (b : Bool) → Some hs ≡ (if b then Some ks else None) → Some hs ≡ Some ks
    go true e = e
    go false e = cc

-- where they don't fit, no list in priority is a value
pub none_in_priority : (o : Option (List Hit)) → None ≡ fitting o → outcome_from (λ hs. list_of (map (λ h. h.output) (in_priority hs))) o ≡ Limit
none_in_priority None e = refl
none_in_priority (Some hs) e = ap (λ b. if b then Is (list (items_of (outputs_in (in_priority hs)))) else Limit) (same_fit hs) ∙ go (is_value (list (items_of (outputs_in hs)))) e
  where
    go : (b : Bool) → None ≡ (if b then Some hs else None) → (if b then Is (list (items_of (outputs_in (in_priority hs)))) else Limit) ≡ Limit
    go true e = cc
    go false e = refl

outputs_append : (hs ks : List Hit) → outputs_in (hs ++ ks) ≡ outputs_in hs ++ outputs_in ks
outputs_append [] ks = refl
outputs_append (h ∷ hs) ks = ap (λ ds. h.output ∷ ds) (outputs_append hs ks)

-- hits that don't fit find no more that do
pub never_fitting : (hs : List Hit) (o : Option (List Hit)) → is_value (list (items_of (outputs_in hs))) ≡ false → fitting (after hs o) ≡ None
never_fitting hs None e = refl
never_fitting hs (Some ks) e =
    ap (λ b. if b then Some (hs ++ ks) else None)
    (ap (λ ds. is_value (list (items_of ds))) (outputs_append hs ks) ∙ more_than_fit (outputs_in hs) (outputs_in ks) e)

-- hits that fit are found to do so
pub all_fitting : (hs : List Hit) → is_value (list (items_of (outputs_in hs))) ≡ true → Some hs ≡ fitting (Some hs)
all_fitting hs e = sym (ap (λ b. if b then Some hs else None) e)

-- one hit more, whose output is counted beside it
pub one_counted : (hs : List Hit) (h : Hit) (ds : List Datum) (d : Datum) → ds ≡ map (λ h. h.output) hs → d ≡ h.output → ds ++ d ∷ [] ≡ map (λ h. h.output) (hs ++ h ∷ [])
one_counted hs h ds d e f = ap₂ (λ xs x. xs ++ x ∷ []) e f ∙ sym (outputs_append hs (h ∷ []))

-- one hit too many
pub one_too_many : (hs : List Hit) (h : Hit) (ds : List Datum) (d : Datum) (whole o : Option (List Hit)) → ds ≡ map (λ h. h.output) hs → d ≡ h.output → whole ≡ after (hs ++ h ∷ []) o
    → is_value (list (items_of (ds ++ d ∷ []))) ≡ false → None ≡ fitting whole
one_too_many hs h ds d whole o e f found refused =
    sym (ap fitting found ∙ never_fitting (hs ++ h ∷ []) o (ap (λ xs. is_value (list (items_of xs))) (sym (one_counted hs h ds d e f)) ∙ refused))
