-- Whether a part of a path is empty, byte by byte.
use Rattle.std.proofs.Common.{◌≡◌, ◌∙◌, refl, sym, ap, ℕ, ◌+◌, ◌<◌, List, [], ◌∷◌, length, get_or, drop, Bool, true, false, ◌&&◌, if◌then◌else◌}
use Rattle.std.specs.Prelude.{nat_eq}
use Rattle.std.specs.List.{list_any}
use Rattle.std.proofs.lemmas.List.{at_drop_more}
use Rattle.dmn_analysis.specs.Kinds.{is_empty}
use Rattle.dmn_told.specs.Parts.{in_first, parts}
use Rattle.desk_checking.specs.Domains.{has_empty_part}

-- the same of what is left of a path, of whose part nothing has come where this is said
abbrev pub empty_along : Bool → List ℕ → Bool
empty_along b [] = b
empty_along b (c ∷ s) = if nat_eq c 46 && b then true else empty_along (nat_eq c 46) s

abbrev behind : List (List ℕ) → List (List ℕ)
behind [] = []
behind (p ∷ ps) = ps

first_is_some : (c : ℕ) (ps : List (List ℕ)) → list_any is_empty (behind ps) ≡ list_any is_empty (in_first c ps)
first_is_some c [] = refl
first_is_some c (p ∷ ps) = refl

behind_first : (c : ℕ) (ps : List (List ℕ)) → list_any is_empty (behind ps) ≡ list_any is_empty (behind (in_first c ps))
behind_first c [] = refl
behind_first c (p ∷ ps) = refl

begun_by : (c : ℕ) (s : List ℕ) (t : Bool) → empty_along false s ≡ list_any is_empty (behind (parts s)) → (if t && true then true else empty_along t s) ≡ list_any is_empty (if t then [] ∷ parts s else in_first c (parts s))
begun_by c s true h = refl
begun_by c s false h = h ∙ first_is_some c (parts s)

inside_by : (c : ℕ) (s : List ℕ) (t : Bool) → empty_along true s ≡ list_any is_empty (parts s) → empty_along false s ≡ list_any is_empty (behind (parts s))
    → (if t && false then true else empty_along t s) ≡ list_any is_empty (behind (if t then [] ∷ parts s else in_first c (parts s)))
inside_by c s true h k = h
inside_by c s false h k = k ∙ behind_first c (parts s)

mutual
  begun_is : (s : List ℕ) → empty_along true s ≡ list_any is_empty (parts s)
  begun_is [] = refl
  begun_is (c ∷ s) = begun_by c s (nat_eq c 46) (inside_is s)

  inside_is : (s : List ℕ) → empty_along false s ≡ list_any is_empty (behind (parts s))
  inside_is [] = refl
  inside_is (c ∷ s) = inside_by c s (nat_eq c 46) (begun_is s) (inside_is s)

pub empty_is : (s : List ℕ) → empty_along true s ≡ has_empty_part s
empty_is s = begun_is s

pub byte_on : (whole b : Bool) (s : List ℕ) (i : ℕ) → whole ≡ empty_along b (drop i s) → i < length s → whole ≡ (if nat_eq (get_or s i 0) 46 && b then true else empty_along (nat_eq (get_or s i 0) 46) (drop (i + 1) s))
byte_on whole b s i before more = before ∙ at_drop_more (empty_along b) s i 0 more

pub ends_here : (whole t s : Bool) → whole ≡ (if t then true else s) → t ≡ true → true ≡ whole
ends_here whole true s e h = sym e
ends_here whole false s e h = cc

pub goes_on : (whole t s : Bool) → whole ≡ (if t then true else s) → t ≡ false → whole ≡ s
goes_on whole true s e h = cc
goes_on whole false s e h = e
