-- The first hit of the highest priority, where of two hits that follow each other the better one is kept.
use Rattle.std.proofs.Common.{◌≡◌, ℕ, ◌+◌, ◌<◌, ◌≤◌, List, [], ◌∷◌, map, length, get_or, drop, refl, sym, ap, ap₂, ◌∙◌, arith, Bool, true, false, cond, not, ◌&&◌, Option, None, Some, option_map}
use Rattle.std.specs.Prelude.{⊤, if◌then◌else◌}
use Rattle.std.specs.List.{list_all, find, zip, cons_option}
use Rattle.std.proofs.lemmas.List.{at_drop_more, drop_all}
use denote.Ref.{Bor}
use Rattle.feel_text.specs.Meaning.{Bindings}
use Rattle.feel_value.specs.Found.{each, ◌>>=◌}
use Rattle.dmn_table.specs.declared.hit_policy.HitPolicy.TheVariants.{Priority}
use Rattle.dmn_table.specs.declared.table.Rule.{Rule}
use Rattle.dmn_table.specs.Deciding.{is_highest, deciding}
use Rattle.dmn_table.specs.Hits.{hit_of}
use Rattle.dmn_table.specs.Parts.{rule_view, rules_view, have_entries}
use Rattle.dmn_table.specs.Priority.{Hit, is_higher}
use Rattle.dmn_table.specs.Table.{Column}
use Rattle.dmn_table.proofs.EqualPlaces.{EachPlaced, each_placed, have_each}
use Rattle.dmn_table.proofs.FirstInPriority.{one_way, chain, first_hit, hits_from, next_hit}

-- whether the first has the higher priority
abbrev pub beats : ℕ × Hit → ℕ × Hit → Bool
beats k h = is_higher k.1.places h.1.places

-- of a hit and a later one, the one that stands first
abbrev pub better_one : ℕ × Hit → ℕ × Hit → ℕ × Hit
better_one g h = if beats h g then h else g

-- the best of a hit and the others
abbrev pub best_from : ℕ × Hit → List (ℕ × Hit) → ℕ × Hit
best_from g [] = g
best_from g (h ∷ hs) = best_from (better_one g h) hs

abbrev pub AllPlaced : ℕ → List (ℕ × Hit) → Type 0
AllPlaced n [] = ⊤
AllPlaced n (h ∷ hs) = (length h.1.places ≡ n) × AllPlaced n hs

and_none : (a : Bool) → (a && false) ≡ false
and_none true = refl
and_none false = refl

passed_first : (a b r : Bool) → (a ≡ true → b ≡ true) → (not a && (not b && r)) ≡ (not b && r)
passed_first true true r f = refl
passed_first true false r f = let e : false ≡ true = f refl in cc
passed_first false b r f = refl

passed_second : (a b r : Bool) → (b ≡ true → a ≡ true) → (not a && (not b && r)) ≡ (not a && r)
passed_second true b r f = refl
passed_second false true r f = let e : false ≡ true = f refl in cc
passed_second false false r f = refl

module _ (n : ℕ) where
  find_same : (p q : ℕ × Hit → Bool) → ((k : ℕ × Hit) → length k.1.places ≡ n → p k ≡ q k) → (hs : List (ℕ × Hit)) → AllPlaced n hs → find p hs ≡ find q hs
  find_same p q same [] l = refl
  find_same p q same (h ∷ hs) l = ap₂ (λ b o. cond b (Some h) o) (same h l.0) (find_same p q same hs l.1)

  not_itself : (h : ℕ × Hit) → length h.1.places ≡ n → beats h h ≡ false
  not_itself h l = go (beats h h) refl
    where
      go : (b : Bool) → beats h h ≡ b → beats h h ≡ false
      go true e = one_way n h.1.places h.1.places l l e
      go false e = e

  -- what beats a hit beats what that one beats
  through : (h g k : ℕ × Hit) → length h.1.places ≡ n → length g.1.places ≡ n → length k.1.places ≡ n → beats h g ≡ true → beats g k ≡ true → beats h k ≡ true
  through h g k lh lg lk e f = go (beats h k) refl
    where
      go : (b : Bool) → beats h k ≡ b → beats h k ≡ true
      go true d = d
      go false d =
          let no : beats h g ≡ false = chain n h.1.places k.1.places g.1.places lh lk lg d (one_way n g.1.places k.1.places lg lk f) in
          cc

  -- what a hit beats is beaten by one that it doesn't beat
  as_well : (h g k : ℕ × Hit) → length h.1.places ≡ n → length g.1.places ≡ n → length k.1.places ≡ n → beats h g ≡ false → beats h k ≡ true → beats g k ≡ true
  as_well h g k lh lg lk e f = go (beats g k) refl
    where
      go : (b : Bool) → beats g k ≡ b → beats g k ≡ true
      go true d = d
      go false d =
          let no : beats h k ≡ false = chain n h.1.places g.1.places k.1.places lh lg lk e d in
          cc

  all_lower : (g h : ℕ × Hit) (hs : List (ℕ × Hit)) → length g.1.places ≡ n → length h.1.places ≡ n → AllPlaced n hs → beats h g ≡ false
      → is_highest hs h ≡ true → is_highest hs g ≡ true
  all_lower g h [] lg lh l e f = refl
  all_lower g h (k ∷ ks) lg lh l e f = go (beats k h) refl (is_highest ks h) refl (λ rest. all_lower g h ks lg lh l.1 e rest) f
    where
      go : (b : Bool) → beats k h ≡ b → (c : Bool) → is_highest ks h ≡ c → (is_highest ks h ≡ true → is_highest ks g ≡ true) → (not b && c) ≡ true → is_highest (k ∷ ks) g ≡ true
      go true d c f lower w = cc
      go false d false f lower w = cc
      go false d true f lower w =
          ap₂ (λ a b. not a && b) (chain n k.1.places h.1.places g.1.places l.0 lh lg d e) (lower f)

  -- of the first two hits, only the better one counts
  better_found : (g h : ℕ × Hit) (hs : List (ℕ × Hit)) → length g.1.places ≡ n → length h.1.places ≡ n → AllPlaced n hs
      → find (is_highest (g ∷ h ∷ hs)) (g ∷ h ∷ hs) ≡ find (is_highest (better_one g h ∷ hs)) (better_one g h ∷ hs)
  better_found g h hs lg lh l = go (beats h g) refl
    where
      behind_first : (c : Bool) → is_highest (g ∷ hs) g ≡ c
          → beats h g ≡ false → cond c (Some g) (find (is_highest (g ∷ hs)) (h ∷ hs)) ≡ cond c (Some g) (find (is_highest (g ∷ hs)) hs)
      behind_first true d e = refl
      behind_first false d e = skipped (is_highest (g ∷ hs) h) refl
        where
          skipped : (b : Bool) → is_highest (g ∷ hs) h ≡ b → cond b (Some h) (find (is_highest (g ∷ hs)) hs) ≡ find (is_highest (g ∷ hs)) hs
          skipped false f = refl
          skipped true f =
              let rest : is_highest hs h ≡ true = second (beats g h) (is_highest hs h) f in
              let itself : beats g g ≡ false = not_itself g lg in
              let highest : is_highest (g ∷ hs) g ≡ true = ap₂ (λ a b. not a && b) itself (all_lower g h hs lg lh l e rest) in
              cc
            where
              second : (a b : Bool) → (not a && b) ≡ true → b ≡ true
              second true b w = cc
              second false b w = w

      go : (b : Bool) → beats h g ≡ b → find (is_highest (g ∷ h ∷ hs)) (g ∷ h ∷ hs) ≡ find (is_highest (cond b h g ∷ hs)) (cond b h g ∷ hs)
      go true e =
          let beaten : is_highest (g ∷ h ∷ hs) g ≡ false =
          ap (λ b. not (beats g g) && (not b && is_highest hs g)) e ∙ and_none (not (beats g g)) in
          ap (λ b. cond b (Some g) (find (is_highest (g ∷ h ∷ hs)) (h ∷ hs))) beaten
          ∙ find_same (is_highest (g ∷ h ∷ hs)) (is_highest (h ∷ hs)) (λ k lk. passed_first (beats g k) (beats h k) (is_highest hs k) (λ f. through h g k lh lg lk e f)) (h ∷ hs) (lh, l)
      go false e =
          find_same (is_highest (g ∷ h ∷ hs)) (is_highest (g ∷ hs)) (λ k lk. passed_second (beats g k) (beats h k) (is_highest hs k) (λ f. as_well h g k lh lg lk e f)) (g ∷ h ∷ hs) (lg, (lh, l))
          ∙ behind_first (is_highest (g ∷ hs) g) refl e

  pub better_placed : (g h : ℕ × Hit) → length g.1.places ≡ n → length h.1.places ≡ n → length (better_one g h).1.places ≡ n
  better_placed g h lg lh = go (beats h g)
    where
      go : (b : Bool) → length (cond b h g).1.places ≡ n
      go true = lh
      go false = lg

  -- the best of all is the first than which none has a higher priority
  pub best_found : (g : ℕ × Hit) (hs : List (ℕ × Hit)) → length g.1.places ≡ n → AllPlaced n hs → find (is_highest (g ∷ hs)) (g ∷ hs) ≡ Some (best_from g hs)
  best_found g [] lg l = ap (λ b. cond (not b && true) (Some g) None) (not_itself g lg)
  best_found g (h ∷ hs) lg l = better_found g h hs lg l.0 l.1 ∙ best_found (better_one g h) hs (better_placed g h lg l.0) l.1

pub better_one_higher : (g h : ℕ × Hit) → is_higher h.1.places g.1.places ≡ true → better_one g h ≡ h
better_one_higher g h e = ap (λ b. if b then h else g) e

pub better_one_lower : (g h : ℕ × Hit) → is_higher h.1.places g.1.places ≡ false → better_one g h ≡ g
better_one_lower g h e = ap (λ b. if b then h else g) e

pub zip_placed : (n : ℕ) (ns : List ℕ) (hs : List Hit) → EachPlaced n hs → AllPlaced n (zip ns hs)
zip_placed n [] hs l = tt
zip_placed n (k ∷ ns) [] l = tt
zip_placed n (k ∷ ns) (h ∷ hs) l = (l.0, zip_placed n ns hs l.1)

zip_none : (ns : List ℕ) → zip {X = Hit} ns [] ≡ []
zip_none [] = refl
zip_none (n ∷ ns) = refl

-- the number of the best of this hit and those that are found for the rest, which have these numbers
abbrev pub from_number : List ℕ → ℕ × Hit → Option (List Hit) → Option (List ℕ)
from_number ns g o = option_map (λ hs. (best_from g (zip ns hs)).0 ∷ []) o

module _ (cs : List Column) (m : Bindings) where
  -- the first hit is the best so far
  pub first_best : (rs rest : List (Bor Rule)) (r : Bor Rule) (h : Hit) (ns : List ℕ) → rs ≡ r ∷ rest → hit_of cs m (rule_view r.now) ≡ Some h → have_entries (length cs) (rules_view rs) ≡ true → length ns ≡ length rs
      → option_map (deciding Priority ns) (each (hit_of cs m) (rules_view rs)) ≡ from_number (drop 1 ns) (get_or ns 0 0, h) (hits_from cs m rest 0)
  first_best rs rest r h ns split e fits count =
      let begun = first_hit cs m rs rest r h split e fits in
      ap (λ xs. option_map (deciding Priority ns) (each (hit_of cs m) (rules_view xs))) split
      ∙ ap (λ o. option_map (deciding Priority ns) (o >>= λ y. each (hit_of cs m) (rules_view rest) >>= λ ys. Some (y ∷ ys))) e
      ∙ numbered ns (omega (arith, count, ap length split)) (each (hit_of cs m) (rules_view rest))
      (λ hs found. each_placed cs m (rules_view rest) hs (have_each (length cs) (rules_view rest) begun.2) found) begun.1
    where
      numbered : (ks : List ℕ) → 0 < length ks → (o : Option (List Hit)) → ((hs : List Hit) → o ≡ Some hs → EachPlaced (length cs) hs) → length h.places ≡ length cs
          → option_map (deciding Priority ks) (o >>= λ ys. Some (h ∷ ys)) ≡ from_number (drop 1 ks) (get_or ks 0 0, h) o
      numbered [] some o placed l = absurd (omega arith)
      numbered (k ∷ ks) some None placed l = refl
      numbered (k ∷ ks) some (Some hs) placed l =
          ap (λ (o : Option (ℕ × Hit)). Some (map (λ g. g.0) (cons_option o []))) (best_found (length cs) (k, h) (zip ks hs) l (zip_placed (length cs) ks hs (placed hs refl)))

  module _ (rs : List (Bor Rule)) (ns : List ℕ) (i : ℕ) (g : ℕ × Hit) where
    -- of it and of the next one, the better one is
    pub next_best : (r : Bor Rule) (h : Hit) → r ≡ get_or rs i r → i < length rs → hit_of cs m (rule_view r.now) ≡ Some h → i + 1 < length ns
        → from_number (drop (i + 1) ns) g (hits_from cs m rs i) ≡ from_number (drop (i + 1 + 1) ns) (better_one g (get_or ns (i + 1) 0, h)) (hits_from cs m rs (i + 1))
    next_best r h here more e inside = ap (from_number (drop (i + 1) ns) g) (next_hit cs m rs i r (Some h) here more e) ∙ go (hits_from cs m rs (i + 1))
      where
        go : (o : Option (List Hit)) → from_number (drop (i + 1) ns) g (o >>= λ hs. Some (h ∷ hs)) ≡ from_number (drop (i + 1 + 1) ns) (better_one g (get_or ns (i + 1) 0, h)) o
        go None = refl
        go (Some hs) = at_drop_more (λ (ks : List ℕ). Some ((best_from g (zip ks (h ∷ hs))).0 ∷ [])) ns (i + 1) 0 inside

    -- where the next one breaks a limit, nothing is found
    pub none_best : (r : Bor Rule) → r ≡ get_or rs i r → i < length rs → hit_of cs m (rule_view r.now) ≡ None → from_number (drop (i + 1) ns) g (hits_from cs m rs i) ≡ None
    none_best r here more e = ap (from_number (drop (i + 1) ns) g) (next_hit cs m rs i r None here more e)

    -- at the end the best so far is the best of all
    pub last_best : length rs ≤ i → from_number (drop (i + 1) ns) g (hits_from cs m rs i) ≡ Some (g.0 ∷ [])
    last_best h =
        ap (λ (xs : List (Bor Rule)). from_number (drop (i + 1) ns) g (each (hit_of cs m) (rules_view xs))) (drop_all i rs h)
        ∙ ap (λ hs. Some ((best_from g hs).0 ∷ [])) (zip_none (drop (i + 1) ns))
