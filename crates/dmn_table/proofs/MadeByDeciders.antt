-- Where some hits make the result, it is the same without the others.
use Rattle.std.proofs.Common.{◌≡◌, ℕ, zero, suc, ℤ, List, [], ◌∷◌, map, length, replicate, refl, sym, ap, ap₂, ◌∙◌, arith, Bool, true, false, cond, not, ◌&&◌, Option, None, Some, option_map, fold}
use Rattle.std.specs.Prelude.{⊤, if◌then◌else◌, nat_eq}
use Rattle.std.specs.Int.{int_min, int_max}
use Rattle.std.specs.List.{find, filter, cons_option}
use Rattle.std.specs.Option.{is_some}
use Rattle.std.specs.Ordering.{int_eq, is_eq, int_cmp}
use Rattle.std.proofs.lemmas.Bool.Decides.{Decides-int_eq}
use Rattle.feel_value.specs.Datum.{Datum, null, boolean, number, text, list, context}
use Rattle.feel_value.specs.Found.{◌>>=◌}
use Rattle.feel_value.specs.Logic.{decided, is_yes}
use Rattle.feel_value.specs.Comparison.{equal}
use Rattle.feel_value.specs.declared.feel.Outcome.{Outcome}
use Rattle.feel_value.specs.declared.feel.Outcome.TheVariants.{Is}
use Rattle.dmn_table.specs.declared.hit_policy.HitPolicy.{HitPolicy}
use Rattle.dmn_table.specs.declared.hit_policy.HitPolicy.TheVariants.{Unique, Any, Priority, First, OutputOrder, RuleOrder, Collect, Sum, Least, Greatest, Count}
use Rattle.dmn_table.specs.Deciding.{outputs_in, are_equal, is_highest, with_output, deciders, IsMadeByDeciders}
use Rattle.dmn_table.specs.Priority.{Hit}
use Rattle.dmn_table.specs.Result.{number_in, numbers_of, of_numbers, least_of, greatest_of, policy_result}
use Rattle.dmn_table.proofs.FirstInPriority.{better, better_kept, highest_output}
use Rattle.dmn_table.proofs.EqualPlaces.{EachPlaced}
use Rattle.dmn_table.proofs.HighestHit.{AllPlaced, beats, better_one, best_from, best_found, better_placed}

abbrev hits_in : List (ℕ × Hit) → List Hit
hits_in hs = map (λ h. h.1) hs

all_or_none : (p : HitPolicy) (hs : List (ℕ × Hit)) (b : Bool) → ((if b then hs else []) ≡ [] → ⊥) → policy_result p (hits_in (if b then hs else [])) ≡ policy_result p (hits_in hs)
all_or_none p hs true some = refl
all_or_none p hs false some = absurd (some refl)

by_first : (hs : List (ℕ × Hit)) → IsMadeByDeciders First hs
by_first [] some = refl
by_first (h ∷ hs) some = refl

-- ---- priority

placed_hits : (n : ℕ) (hs : List (ℕ × Hit)) → AllPlaced n hs → EachPlaced n (hits_in hs)
placed_hits n [] l = tt
placed_hits n (h ∷ hs) l = (l.0, placed_hits n hs l.1)

better_hit : (g h : ℕ × Hit) → (better_one g h).1 ≡ better g.1 h.1
better_hit g h = go (beats h g)
  where
    go : (b : Bool) → (cond b h g).1 ≡ cond b h.1 g.1
    go true = refl
    go false = refl

highest_is_best : (n : ℕ) (g : ℕ × Hit) (hs : List (ℕ × Hit)) → length g.1.places ≡ n → AllPlaced n hs → highest_output (g.1 ∷ hits_in hs) ≡ (best_from g hs).1.output
highest_is_best n g [] lg l = refl
highest_is_best n g (h ∷ hs) lg l =
    better_kept n g.1 h.1 (hits_in hs) lg l.0 (placed_hits n hs l.1)
    ∙ ap (λ k. highest_output (k ∷ hits_in hs)) (sym (better_hit g h))
    ∙ highest_is_best n (better_one g h) hs (better_placed n g h lg l.0) l.1

by_priority : (n : ℕ) (hs : List (ℕ × Hit)) → AllPlaced n hs → IsMadeByDeciders Priority hs
by_priority n [] l some = refl
by_priority n (g ∷ hs) l some =
    ap (λ (o : Option (ℕ × Hit)). policy_result Priority (hits_in (cons_option o []))) (best_found n g hs l.0 l.1)
    ∙ ap Is (sym (highest_is_best n g hs l.0 l.1))

-- ---- least and greatest

outputs_behind : (hs : List (ℕ × Hit)) → map (λ h. h.output) (hits_in hs) ≡ outputs_in hs
outputs_behind [] = refl
outputs_behind (h ∷ hs) = ap (λ ds. h.1.output ∷ ds) (outputs_behind hs)

the_number : (z : ℤ) (d : Datum) → is_yes (equal (number z) d) ≡ true → d ≡ number z
the_number z null e = cc
the_number z (boolean b) e = cc
the_number z (number y) e = ap number (sym ((Decides-int_eq z y).0 (decided_yes (int_eq z y) e)))
  where
    decided_yes : (b : Bool) → is_yes (decided b) ≡ true → b ≡ true
    decided_yes true f = refl
    decided_yes false f = cc
the_number z (text s) e = cc
the_number z (list ds) e = cc
the_number z (context es) e = cc

-- the outputs of those with this number are so many times the number
same_outputs : (z : ℤ) (hs : List (ℕ × Hit)) → numbers_of (outputs_in (with_output (Some z) hs)) ≡ Some (replicate (length (with_output (Some z) hs)) z)
same_outputs z [] = refl
same_outputs z (h ∷ hs) = go (is_yes (equal (number z) h.1.output)) refl (same_outputs z hs)
  where
    go : (b : Bool) → is_yes (equal (number z) h.1.output) ≡ b → numbers_of (outputs_in (with_output (Some z) hs)) ≡ Some (replicate (length (with_output (Some z) hs)) z)
        → numbers_of (outputs_in (cond b (h ∷ with_output (Some z) hs) (with_output (Some z) hs))) ≡ Some (replicate (length (cond b (h ∷ with_output (Some z) hs) (with_output (Some z) hs))) z)
    go true e rest = ap₂ (λ (d : Datum) (o : Option (List ℤ)). number_in d >>= λ y. o >>= λ ys. Some (y ∷ ys)) (the_number z h.1.output e) rest
    go false e rest = rest

same_cond : (b : Bool) (z : ℤ) → cond b z z ≡ z
same_cond true z = refl
same_cond false z = refl

least_same : (k : ℕ) (z : ℤ) → fold int_min z (replicate k z) ≡ z
least_same zero z = refl
least_same (suc k) z = ap (λ y. fold int_min y (replicate k z)) (same_cond _ z) ∙ least_same k z

greatest_same : (k : ℕ) (z : ℤ) → fold int_max z (replicate k z) ≡ z
greatest_same zero z = refl
greatest_same (suc k) z = ap (λ y. fold int_max y (replicate k z)) (same_cond _ z) ∙ greatest_same k z

module _ (pick : List ℤ → ℤ) (picked : (k : ℕ) (z : ℤ) → pick (replicate (suc k) z) ≡ z) where
  picked_again : (z : ℤ) (hs ks : List (ℕ × Hit)) → with_output (Some z) hs ≡ ks → (ks ≡ [] → ⊥) → numbers_of (outputs_in ks) ≡ Some (replicate (length ks) z)
      → of_numbers pick (numbers_of (outputs_in ks)) ≡ of_numbers pick (Some (z ∷ []))
  picked_again z hs [] is some same = absurd (some refl)
  picked_again z hs (k ∷ ks) is some same = ap (of_numbers pick) same ∙ ap (λ y. of_numbers (λ (zs : List ℤ). y) (Some [])) (picked (length ks) z ∙ sym (picked 0 z))

  by_number : (hs : List (ℕ × Hit)) (o : Option (List ℤ)) → (with_output (option_map pick o) hs ≡ [] → ⊥)
      → of_numbers pick (numbers_of (outputs_in (with_output (option_map pick o) hs))) ≡ of_numbers pick o
  by_number hs None some = absurd (some refl)
  by_number hs (Some zs) some =
      picked_again (pick zs) hs (with_output (Some (pick zs)) hs) refl some (same_outputs (pick zs) hs)
      ∙ ap (λ y. of_numbers (λ (ys : List ℤ). y) (Some [])) (picked 0 (pick zs))

  by_numbers : (hs : List (ℕ × Hit)) → (with_output (option_map pick (numbers_of (outputs_in hs))) hs ≡ [] → ⊥)
      → of_numbers pick (numbers_of (map (λ h. h.output) (hits_in (with_output (option_map pick (numbers_of (outputs_in hs))) hs)))) ≡ of_numbers pick (numbers_of (map (λ h. h.output) (hits_in hs)))
  by_numbers hs some =
      ap (λ ds. of_numbers pick (numbers_of ds)) (outputs_behind (with_output (option_map pick (numbers_of (outputs_in hs))) hs))
      ∙ by_number hs (numbers_of (outputs_in hs)) some
      ∙ ap (λ ds. of_numbers pick (numbers_of ds)) (sym (outputs_behind hs))

-- where each hit has so many places
pub made_by_deciders : (n : ℕ) (p : HitPolicy) (hs : List (ℕ × Hit)) → AllPlaced n hs → IsMadeByDeciders p hs
made_by_deciders n Unique hs l = all_or_none Unique hs (nat_eq (length hs) 1)
made_by_deciders n Any hs l = all_or_none Any hs (are_equal (outputs_in hs))
made_by_deciders n Priority hs l = by_priority n hs l
made_by_deciders n First hs l = by_first hs
made_by_deciders n OutputOrder hs l = λ some. refl
made_by_deciders n RuleOrder hs l = λ some. refl
made_by_deciders n Collect hs l = λ some. refl
made_by_deciders n Sum hs l = all_or_none Sum hs (is_some (numbers_of (outputs_in hs)))
made_by_deciders n Least hs l = by_numbers least_of (λ k z. least_same k z) hs
made_by_deciders n Greatest hs l = by_numbers greatest_of (λ k z. greatest_same k z) hs
made_by_deciders n Count hs l = λ some. refl
