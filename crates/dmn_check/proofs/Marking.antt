-- Texts that are put into a set one after another, each marked by whether it has a fault.
use Rattle.std.proofs.Common.{◌≡◌, ℕ, suc, ◌+◌, ◌<◌, ◌≤◌, List, [], ◌∷◌, ◌++◌, map, drop, length, length-append, arith, get_or, refl, sym, ap, ap₂, ◌∙◌, Bool, true, false, not, ◌||◌, Bor, cond, is_eq, nat_cmp, append_assoc}
use Rattle.std.specs.Prelude.{bytes_eq}
use Rattle.std.specs.List.{list_any}
use Rattle.std.specs.Cmp.Lexicographic.{slice_cmp}
use Rattle.std.specs.BTreeSet.{BTreeSet}
use Rattle.std.proofs.lemmas.List.{at_drop_more}
use Rattle.std.proofs.lemmas.Map.Text.{is_eq-slice_cmp}
use Rattle.dmn_form.specs.Model.{Name}
use Rattle.dmn_names.proofs.Seen.{is_seen, IsPut}
use Rattle.feel_value.specs.Distinct.{is_among}
use Rattle.dmn_check.specs.declared.marks.NameFault.{NameFault}
use Rattle.dmn_check.specs.declared.marks.NameFault.TheVariants.{Unlawful, Repeated}
use Rattle.dmn_check.specs.NameFaults.{is_wrong, marked}
use Rattle.dmn_check.specs.NameMarks.{is_in_text}
use Rattle.dmn_check.proofs.NameLaws.{bytes_eq-sym}

-- the set has the names that stand before, and these are the marks so far
abbrev pub IsMarked : {X : Type 0} → NameFault → (X → Name) → List X → ℕ → BTreeSet (Bor (List ℕ)) → List Bool → Type 0
IsMarked f name xs i seen bs =
    (before : List Name) × ((n : Name) → is_seen seen n ≡ is_among before n) × (marked f [] (map name xs) ≡ bs ++ marked f before (map name (drop i xs)))

nothing_seen : (seen : BTreeSet (Bor (List ℕ))) → seen.keys ≡ [] → (n : Name) → is_seen seen n ≡ false
nothing_seen seen e n = ap (list_any (λ k. is_eq (slice_cmp nat_cmp n k.now))) e

pub at_first : {X : Type 0} (f : NameFault) (name : X → Name) (xs : List X) (seen : BTreeSet (Bor (List ℕ))) (bs : List Bool) → seen.keys ≡ [] → bs ≡ [] → IsMarked f name xs 0 seen bs
at_first f name xs seen bs e none = ([], nothing_seen seen e, ap (λ cs. cs ++ marked f [] (map name xs)) (sym none))

abbrev borrowed : Name → Bor (List ℕ)
borrowed n = record { ref_ptr = (0, 0); now = n }

chosen : (a b : Bool) → cond a true b ≡ (a || b)
chosen true b = refl
chosen false b = refl

twice_not : (b : Bool) → not (not b) ≡ b
twice_not true = refl
twice_not false = refl

found_in : (f : NameFault) (before : List Name) (n : Name) (b : Bool) → b ≡ is_among before n → is_in_text f n (not b) ≡ is_wrong f before n
found_in Unlawful before n b e = refl
found_in Repeated before n b e = twice_not b ∙ e

pub after_turn : {X : Type 0} (f : NameFault) (name : X → Name) (xs : List X) (i : ℕ) (x : X) (key : Bor (List ℕ)) (old new : BTreeSet (Bor (List ℕ))) (bs cs : List Bool) (is_new mark : Bool)
    → IsMarked f name xs i old bs → x ≡ get_or xs i x → i < length xs → key.now ≡ name x → IsPut old new key → is_new ≡ not (is_seen old key.now)
    → mark ≡ is_in_text f key.now is_new → cs ≡ bs ++ mark ∷ [] → IsMarked f name xs (i + 1) new cs
after_turn f name xs i x key old new bs cs is_new mark (before, seen, so_far) here more same put added marks pushed = (
  key.now ∷ before,
  (λ n. put.0 (borrowed n) ∙ ap (λ b. cond b true (is_seen old n)) (is_eq-slice_cmp key.now n) ∙ chosen (bytes_eq key.now n) (is_seen old n)
      ∙ ap₂ (λ a b. a || b) (bytes_eq-sym key.now n) (seen n)),
  so_far ∙ at_drop_more (λ ys. bs ++ marked f before (map name ys)) xs i x more
      ∙ ap (λ n. bs ++ is_wrong f before n ∷ marked f (n ∷ before) (map name (drop (i + 1) xs))) (ap name (sym here) ∙ sym same)
      ∙ ap (λ b. bs ++ b ∷ marked f (key.now ∷ before) (map name (drop (i + 1) xs)))
      (sym (marks ∙ ap (is_in_text f key.now) added ∙ found_in f before key.now (is_seen old key.now) (seen key.now)))
      ∙ sym (append_assoc bs (mark ∷ []) (marked f (key.now ∷ before) (map name (drop (i + 1) xs))))
      ∙ ap (λ ds. ds ++ marked f (key.now ∷ before) (map name (drop (i + 1) xs))) (sym pushed),
)

marked_length : (f : NameFault) (before ns : List Name) → length (marked f before ns) ≡ length ns
marked_length f before [] = refl
marked_length f before (n ∷ ns) = ap suc (marked_length f (n ∷ before) ns)

-- the names have as many marks, so the first ones of them have theirs
pub enough_marks : (f : NameFault) (xs ys : List Name) → length xs ≤ length (marked f [] (xs ++ ys))
enough_marks f xs ys = omega (arith, marked_length f [] (xs ++ ys), length-append xs ys)
