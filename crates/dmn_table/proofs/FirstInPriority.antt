-- The first of the hits in priority, where of two hits that follow each other the better one is kept.
use Rattle.std.proofs.Common.{◌≡◌, ℕ, ◌+◌, ◌<◌, List, [], ◌∷◌, map, length, get_or, drop, refl, sym, ap, ◌∙◌, arith, Bool, true, false, cond, ◌&&◌, Option, None, Some}
use Rattle.std.specs.Prelude.{nat_eq, if◌then◌else◌}
use Rattle.std.specs.Ordering.{nat_cmp, is_lt}
use Rattle.std.specs.Cmp.{IsStrictWeakOrder}
use Rattle.std.specs.Cmp.Lexicographic.{slice_cmp}
use Rattle.std.proofs.lemmas.Cmp.{nat_list_cmp_total}
use Rattle.std.proofs.lemmas.List.{at_drop_more}
use Rattle.std.proofs.lemmas.List.Sorted.{ranks_by}
use Rattle.std.proofs.lemmas.Bool.Decides.{nat_tests}
use denote.Ref.{Bor}
use Rattle.feel_value.specs.Datum.{Datum}
use Rattle.feel_value.specs.declared.feel.Outcome.{Outcome}
use Rattle.feel_value.specs.declared.feel.Outcome.TheVariants.{Is}
use Rattle.feel_text.specs.Meaning.{Bindings}
use Rattle.dmn_table.specs.declared.table.Rule.{Rule}
use Rattle.feel_value.specs.Found.{each, ◌>>=◌, outcome_from}
use Rattle.dmn_table.specs.Hits.{hit_of}
use Rattle.dmn_table.specs.Parts.{rule_view}
use Rattle.dmn_table.specs.Priority.{Hit, is_higher, put_before, in_priority}
use Rattle.dmn_table.specs.Result.{first_of}
use Rattle.dmn_table.specs.RuleOutputs.{rules_view, have_entries}
use Rattle.dmn_table.specs.Table.{Column}
use Rattle.dmn_table.proofs.Each.{rest_from}
use Rattle.dmn_table.proofs.EqualPlaces.{EachPlaced, each_placed, have_each, hit_length, and_first, and_second}
use Rattle.dmn_table.proofs.PriorityOrder.{higher_is_first}

-- the output of the first in priority
abbrev pub highest_output : List Hit → Datum
highest_output hs = first_of (map (λ h. h.output) (in_priority hs))

-- of a hit and a later one, the one that stands first
abbrev pub better : Hit → Hit → Hit
better h k = if is_higher k.places h.places then k else h

-- a hit, or the first of the others where that stands before it
abbrev lead : Hit → List Hit → Hit
lead h [] = h
lead h (k ∷ ks) = better h k

output_of_first : (h : Hit) (ks : List Hit) → first_of (map (λ h. h.output) (put_before h ks)) ≡ (lead h ks).output
output_of_first h [] = refl
output_of_first h (k ∷ ks) = go (is_higher k.places h.places)
  where
    go : (b : Bool) → first_of (map (λ h. h.output) (cond b (k ∷ put_before h ks) (h ∷ k ∷ ks))) ≡ (cond b k h).output
    go true = refl
    go false = refl

lead_of_put : (g h : Hit) (ks : List Hit) → lead g (put_before h ks) ≡ better g (lead h ks)
lead_of_put g h [] = refl
lead_of_put g h (k ∷ ks) = go (is_higher k.places h.places)
  where
    go : (b : Bool) → lead g (cond b (k ∷ put_before h ks) (h ∷ k ∷ ks)) ≡ better g (cond b k h)
    go true = refl
    go false = refl

order : IsStrictWeakOrder (λ (ps qs : List ℕ). is_lt (slice_cmp nat_cmp ps qs))
order = ranks_by nat_list_cmp_total (λ ps. ps)

module _ (n : ℕ) where
  pub one_way : (ps qs : List ℕ) → length ps ≡ n → length qs ≡ n → is_higher ps qs ≡ true → is_higher qs ps ≡ false
  one_way ps qs p q e = higher_is_first qs ps (q ∙ sym p) ∙ order.one_way ps qs (sym (higher_is_first ps qs (p ∙ sym q)) ∙ e)

  pub chain : (ps qs rs : List ℕ) → length ps ≡ n → length qs ≡ n → length rs ≡ n → is_higher ps qs ≡ false → is_higher qs rs ≡ false → is_higher ps rs ≡ false
  chain ps qs rs p q r e f =
      higher_is_first ps rs (p ∙ sym r)
      ∙ order.chain ps qs rs (sym (higher_is_first ps qs (p ∙ sym q)) ∙ e) (sym (higher_is_first qs rs (q ∙ sym r)) ∙ f)

  -- the best of three, whichever two are compared first
  in_turn : (g h k : Hit) → length g.places ≡ n → length h.places ≡ n → length k.places ≡ n → better (better g h) k ≡ better g (better h k)
  in_turn g h k lg lh lk = go (is_higher h.places g.places) refl (is_higher k.places h.places) refl (is_higher k.places g.places) refl
    where
      go : (a : Bool) → is_higher h.places g.places ≡ a → (b : Bool) → is_higher k.places h.places ≡ b → (c : Bool) → is_higher k.places g.places ≡ c → better (better g h) k ≡ better g (better h k)
      go true d true e true f = rw (d, e, f) refl
      go true d true e false f =
          let no : is_higher k.places h.places ≡ false = chain k.places g.places h.places lk lg lh f (one_way h.places g.places lh lg d) in
          cc
      go true d false e c f = rw (d, e) (rw d refl)
      go false d true e c f = rw (d, e) refl
      go false d false e true f =
          let no : is_higher k.places g.places ≡ false = chain k.places h.places g.places lk lh lg e d in
          cc
      go false d false e false f = rw (d, e, f) (rw d refl)

  lead_in_turn : (g h : Hit) (ks : List Hit) → length g.places ≡ n → length h.places ≡ n → EachPlaced n ks → lead g (put_before h ks) ≡ lead (better g h) ks
  lead_in_turn g h [] lg lh l = refl
  lead_in_turn g h (k ∷ ks) lg lh l = lead_of_put g h (k ∷ ks) ∙ sym (in_turn g h k lg lh l.0)

  put_placed : (h : Hit) (ks : List Hit) → length h.places ≡ n → EachPlaced n ks → EachPlaced n (put_before h ks)
  put_placed h [] e f = (e, tt)
  put_placed h (k ∷ ks) e f = go (is_higher k.places h.places) (put_placed h ks e f.1)
    where
      go : (b : Bool) → EachPlaced n (put_before h ks) → EachPlaced n (cond b (k ∷ put_before h ks) (h ∷ k ∷ ks))
      go true rest = (f.0, rest)
      go false rest = (e, f)

  in_priority_placed : (hs : List Hit) → EachPlaced n hs → EachPlaced n (in_priority hs)
  in_priority_placed [] f = tt
  in_priority_placed (h ∷ hs) f = put_placed h (in_priority hs) f.0 (in_priority_placed hs f.1)

  -- of the first two hits, only the better one counts
  pub better_kept : (g h : Hit) (hs : List Hit) → length g.places ≡ n → length h.places ≡ n → EachPlaced n hs → highest_output (g ∷ h ∷ hs) ≡ highest_output (better g h ∷ hs)
  better_kept g h hs lg lh l =
      output_of_first g (put_before h (in_priority hs))
      ∙ ap (λ (k : Hit). k.output) (lead_in_turn g h (in_priority hs) lg lh (in_priority_placed hs l))
      ∙ sym (output_of_first (better g h) (in_priority hs))

-- the outcome where this is the best hit so far, and those are found for the rest
abbrev pub from_best : Hit → Option (List Hit) → Outcome
from_best g o = outcome_from (λ hs. Is (highest_output (g ∷ hs))) o

pub better_higher : (g h : Hit) → is_higher h.places g.places ≡ true → better g h ≡ h
better_higher g h e = ap (λ b. if b then h else g) e

pub better_lower : (g h : Hit) → is_higher h.places g.places ≡ false → better g h ≡ g
better_lower g h e = ap (λ b. if b then h else g) e

pub better_places : (n : ℕ) (g h : Hit) → length g.places ≡ n → length h.places ≡ n → length (better g h).places ≡ n
better_places n g h lg lh = go (is_higher h.places g.places)
  where
    go : (b : Bool) → length (cond b h g).places ≡ n
    go true = lh
    go false = lg

module _ (cs : List Column) (m : Bindings) where
  -- the hits from the rule at i on
  abbrev pub hits_from : List (Bor Rule) → ℕ → Option (List Hit)
  hits_from rs i = each (hit_of cs m) (rules_view (drop i rs))

  pub entries_next : (rs : List (Bor Rule)) (i : ℕ) (r : Bor Rule) → r ≡ get_or rs i r → i < length rs → have_entries (length cs) (rules_view (drop i rs)) ≡ true
      → (nat_eq (length (rule_view r.now).gives) (length cs) && have_entries (length cs) (rules_view (drop (i + 1) rs))) ≡ true
  entries_next rs i r here more h =
      ap (λ b. have_entries (length cs) (rules_view (b ∷ drop (i + 1) rs))) here ∙ sym (at_drop_more (λ xs. have_entries (length cs) (rules_view xs)) rs i r more) ∙ h

  pub next_hit : (rs : List (Bor Rule)) (i : ℕ) (r : Bor Rule) (o : Option Hit) → r ≡ get_or rs i r → i < length rs → hit_of cs m (rule_view r.now) ≡ o
      → hits_from rs i ≡ (o >>= λ h. hits_from rs (i + 1) >>= λ hs. Some (h ∷ hs))
  next_hit rs i r o here more e = rest_from (λ (a : Bor Rule). hit_of cs m (rule_view a.now)) (λ xs. each (hit_of cs m) (rules_view xs)) (λ a bs. refl) rs i r o here more e

  places_count : (r : Bor Rule) (h : Hit) → hit_of cs m (rule_view r.now) ≡ Some h → nat_eq (length (rule_view r.now).gives) (length cs) ≡ true → length h.places ≡ length cs
  places_count r h e test =
      let count : length (rule_view r.now).gives ≡ length cs = grind (arith, nat_tests) in
      hit_length cs m (rule_view r.now) h count e

  -- the first hit is the best so far
  pub first_hit : (rs rest : List (Bor Rule)) (r : Bor Rule) (h : Hit) → rs ≡ r ∷ rest → hit_of cs m (rule_view r.now) ≡ Some h → have_entries (length cs) (rules_view rs) ≡ true
      → (outcome_from (λ hs. Is (highest_output hs)) (each (hit_of cs m) (rules_view rs)) ≡ from_best h (hits_from rest 0)) × (length h.places ≡ length cs) × (have_entries (length cs) (rules_view rest) ≡ true)
  first_hit rs rest r h split e fits = (
    ap (λ xs. outcome_from (λ hs. Is (highest_output hs)) (each (hit_of cs m) (rules_view xs))) split
        ∙ ap (λ o. outcome_from (λ hs. Is (highest_output hs)) (o >>= λ y. each (hit_of cs m) (rules_view rest) >>= λ ys. Some (y ∷ ys))) e
        ∙ go (each (hit_of cs m) (rules_view rest)),
    lh,
    later,
  )
    where
      next : (nat_eq (length (rule_view r.now).gives) (length cs) && have_entries (length cs) (rules_view rest)) ≡ true
      next = ap (λ xs. have_entries (length cs) (rules_view xs)) (sym split) ∙ fits

      later : have_entries (length cs) (rules_view rest) ≡ true
      later = and_second (nat_eq (length (rule_view r.now).gives) (length cs)) (have_entries (length cs) (rules_view rest)) next

      lh : length h.places ≡ length cs
      lh = places_count r h e (and_first (nat_eq (length (rule_view r.now).gives) (length cs)) (have_entries (length cs) (rules_view rest)) next)

      go : (o : Option (List Hit)) → outcome_from (λ hs. Is (highest_output hs)) (o >>= λ ys. Some (h ∷ ys)) ≡ from_best h o
      go None = refl
      go (Some hs) = refl

  -- of it and of the next one, the better one is
  pub one_hit : (rs : List (Bor Rule)) (i : ℕ) (r : Bor Rule) (g h : Hit) → r ≡ get_or rs i r → i < length rs → hit_of cs m (rule_view r.now) ≡ Some h
      → length g.places ≡ length cs → have_entries (length cs) (rules_view (drop i rs)) ≡ true
      → (from_best g (hits_from rs i) ≡ from_best (better g h) (hits_from rs (i + 1))) × (length h.places ≡ length cs) × (have_entries (length cs) (rules_view (drop (i + 1) rs)) ≡ true)
  one_hit rs i r g h here more e lg fits = (ap (from_best g) (next_hit rs i r (Some h) here more e) ∙ go (hits_from rs (i + 1)) refl, lh, later)
    where
      next : (nat_eq (length (rule_view r.now).gives) (length cs) && have_entries (length cs) (rules_view (drop (i + 1) rs))) ≡ true
      next = entries_next rs i r here more fits

      later : have_entries (length cs) (rules_view (drop (i + 1) rs)) ≡ true
      later = and_second (nat_eq (length (rule_view r.now).gives) (length cs)) (have_entries (length cs) (rules_view (drop (i + 1) rs))) next

      lh : length h.places ≡ length cs
      lh = places_count r h e (and_first (nat_eq (length (rule_view r.now).gives) (length cs)) (have_entries (length cs) (rules_view (drop (i + 1) rs))) next)

      go : (o : Option (List Hit)) → hits_from rs (i + 1) ≡ o → from_best g (o >>= λ hs. Some (h ∷ hs)) ≡ from_best (better g h) o
      go None f = refl
      go (Some hs) f = ap Is (better_kept (length cs) g h hs lg lh (each_placed cs m (rules_view (drop (i + 1) rs)) hs (have_each (length cs) (rules_view (drop (i + 1) rs)) later) f))
