-- Overlaps that are judged one after another.
use Rattle.std.proofs.Common.{◌≡◌, ◌∙◌, ◌+◌, ℕ, suc, List, [], ◌∷◌, ◌++◌, add-zero, append-nil, ap, arith, Bool, true, false, length, Option, None, Some, refl, sym}
use Rattle.std.specs.Option.{option_or}
use Rattle.dmn_table.specs.Table.{Rule}
use Rattle.dmn_table.specs.declared.hit_policy.HitPolicy.{HitPolicy}
use Rattle.dmn_analysis.specs.declared.found.Overlap.{Overlap}
use Rattle.desk_checking.specs.Answering.{AreAgainst, AreJudged, IsJudged, first_open, places_against}
use Rattle.desk_checking.specs.Judged.{with_open, with_place}
use Rattle.desk_checking.specs.declared.answers.Faults.{Faults}

one_each : (p : HitPolicy) (rules : List Rule) (os : List Overlap) (answers : List (Option Bool)) → AreJudged p rules os answers → length answers ≡ length os
one_each p rules [] [] h = refl
one_each p rules [] (a ∷ answers) h = absurd h
one_each p rules (o ∷ os) [] h = absurd h
one_each p rules (o ∷ os) (a ∷ answers) h = ap suc (one_each p rules os answers h.1)

judged_more : (p : HitPolicy) (rules : List Rule) (os : List Overlap) (answers : List (Option Bool)) (o : Overlap) (a : Option Bool) → AreJudged p rules os answers → IsJudged p rules o a → AreJudged p rules (os ++ o ∷ []) (answers ++ a ∷ [])
judged_more p rules [] [] o a h here = (here, tt)
judged_more p rules [] (b ∷ answers) o a h here = absurd h
judged_more p rules (q ∷ os) [] o a h here = absurd h
judged_more p rules (q ∷ os) (b ∷ answers) o a h here = (h.0, judged_more p rules os answers o a h.1 here)

shifted : (k : ℕ) (b : Option Bool) (answers : List (Option Bool)) → (k + 1) + length answers ≡ k + length (b ∷ answers)
shifted k b answers = omega arith

places_more : (k : ℕ) (answers : List (Option Bool)) (a : Option Bool) → places_against k (answers ++ a ∷ []) ≡ places_against k answers ++ places_against (k + length answers) (a ∷ [])
places_more k [] a = ap (λ n. places_against n (a ∷ [])) (sym (add-zero k))
places_more k (Some true ∷ answers) a =
    ap (λ ps. k ∷ ps) (places_more (k + 1) answers a ∙ ap (λ n. places_against (k + 1) answers ++ places_against n (a ∷ [])) (shifted k (Some true) answers))
places_more k (Some false ∷ answers) a = places_more (k + 1) answers a ∙ ap (λ n. places_against (k + 1) answers ++ places_against n (a ∷ [])) (shifted k (Some false) answers)
places_more k (None ∷ answers) a = places_more (k + 1) answers a ∙ ap (λ n. places_against (k + 1) answers ++ places_against n (a ∷ [])) (shifted k None answers)

open_more : (k : ℕ) (answers : List (Option Bool)) (a : Option Bool) → first_open k (answers ++ a ∷ []) ≡ option_or (first_open k answers) (first_open (k + length answers) (a ∷ []))
open_more k [] a = ap (λ n. first_open n (a ∷ [])) (sym (add-zero k))
open_more k (Some b ∷ answers) a = open_more (k + 1) answers a ∙ ap (λ n. option_or (first_open (k + 1) answers) (first_open n (a ∷ []))) (shifted k (Some b) answers)
open_more k (None ∷ answers) a = refl

placed : (ps : List ℕ) (k : ℕ) (a : Option Bool) → with_place ps k a ≡ ps ++ places_against k (a ∷ [])
placed ps k (Some true) = refl
placed ps k (Some false) = sym (append-nil ps)
placed ps k None = sym (append-nil ps)

opened : (o : Option ℕ) (k : ℕ) (a : Option Bool) → with_open o k a ≡ option_or o (first_open k (a ∷ []))
opened None k (Some b) = refl
opened (Some x) k (Some b) = refl
opened o k None = refl

pub none_against : (p : HitPolicy) (rules : List Rule) (faults : Faults) → faults.places.items ≡ [] → faults.«open» ≡ None → AreAgainst p rules [] faults
none_against p rules faults places first = record { answers = []; judged = tt; places = places; first = first }

from_zero : (n : ℕ) → n ≡ 0 + n
from_zero n = omega arith

-- one overlap more, at the place behind the others
pub one_more : (p : HitPolicy) (rules : List Rule) (os : List Overlap) (o : Overlap) (a : Option Bool) (place : ℕ) (old new : Faults) → AreAgainst p rules os old → length os ≡ place → IsJudged p rules o a
    → new.places.items ≡ with_place old.places.items place a → new.«open» ≡ with_open old.«open» place a → AreAgainst p rules (os ++ o ∷ []) new
one_more p rules os o a place old new before count here places first =
    let at : length before.answers ≡ place = one_each p rules os before.answers before.judged ∙ count in
    record {
      answers = before.answers ++ a ∷ [];
      judged = judged_more p rules os before.answers o a before.judged here;
      places =
          places ∙ placed old.places.items place a ∙ ap (λ ps. ps ++ places_against place (a ∷ [])) before.places ∙ ap (λ n. places_against 0 before.answers ++ places_against n (a ∷ [])) (sym at)
          ∙ ap (λ n. places_against 0 before.answers ++ places_against n (a ∷ [])) (from_zero (length before.answers)) ∙ sym (places_more 0 before.answers a);
      first =
          first ∙ opened old.«open» place a ∙ ap (λ x. option_or x (first_open place (a ∷ []))) before.first ∙ ap (λ n. option_or (first_open 0 before.answers) (first_open n (a ∷ []))) (sym at)
          ∙ ap (λ n. option_or (first_open 0 before.answers) (first_open n (a ∷ []))) (from_zero (length before.answers)) ∙ sym (open_more 0 before.answers a);
    }
