-- Words that tell which rules a class of values misses.
use Rattle.std.proofs.Common.{◌≡◌, ◌∙◌, sym, ap, refl, subst, ℕ, zero, suc, ◌⊎◌, ◌+◌, ◌*◌, ◌^◌, ◌%◌, w64, ◌<◌, List, [], ◌∷◌, ◌++◌, map, length, drop, get_or, true, Option, Some, arith, inl, inr, min, max}
use Rattle.std.specs.List.{slice_get, All}
use Rattle.std.specs.Int.{bit_at}
use denote.Ref.{Bor}
use Rattle.std.specs.Prelude.{bit_or, bit_and, IfSome}
use Rattle.std.proofs.lemmas.Bool.{cases_lt}
use Rattle.std.proofs.lemmas.List.{drop_min, drop-drop, drop-map, get_or-map}
use Rattle.std.proofs.lemmas.List.Elements.{All-get_or}
use Rattle.std.proofs.lemmas.Nat.Bits.{bit_at_set_same, bit_at_set_other, bit_at_and, bit_at_or}
use Rattle.std.proofs.lemmas.Option.{get_or_from_slice_get, same_Some, slice_get-get_or}
use Rattle.feel_value.specs.Datum.{Datum}
use Rattle.feel_value.specs.Limits.{is_value}
use Rattle.feel_text.specs.Tests.{Tests}
use Rattle.feel_text.specs.declared.class.Class.{Class}
use Rattle.table_classes.specs.Classes.{AreRowsOf, IsBlockWord, IsRowOf, IsUnsetIn, MissesAt, TellsBlock, TellsBlocks, TellsBreaking, TellsColumn, TellsColumns, TellsRules, TellsUnset, TellsWord}
use Rattle.table_classes.specs.declared.classes.BlockWords.{BlockWords}
use Rattle.table_classes.specs.declared.classes.ClassRules.{ClassRules}
use Rattle.table_classes.specs.declared.classes.ColumnClasses.{ColumnClasses}
use Rattle.table_classes.specs.Unbroken.{KeepLimits}

-- the input entries of the rule at a place
pub entries_at : {X : Type 0} (f : X → List Tests) (rules : List X) (i : ℕ) (x : X) (rule : List Tests) → i < length rules → x ≡ get_or rules i x → rule ≡ f x → rule ≡ get_or (map f rules) i rule
entries_at f rules i x rule within here is = is ∙ ap f here ∙ sym (get_or-map f rules i x rule within)

-- those of the rules that are left
pub entries_left : {X : Type 0} (f : X → List Tests) (rules rest : List X) (n : ℕ) → rest ≡ drop n rules → map f rest ≡ drop n (map f rules)
entries_left f rules rest n left = ap (map f) left ∙ sym (drop-map f n rules)

-- of the rules before a place, this holds of each whose bit is not set
abbrev pub TellsBefore : (List Tests → Type 0) → ℕ → List (List Tests) → ℕ → Type 0
TellsBefore P n rules word = (j : ℕ) (r : List Tests) → j < n → slice_get rules j ≡ Some r → bit_at word j ≡ 0 → P r

-- one bit more is set
pub bit_set : (P : List Tests → Type 0) (i : ℕ) (rules : List (List Tests)) (old new : ℕ) → TellsBefore P i rules old → new ≡ bit_or old (1 * 2 ^ i % 2 ^ 64) → i < 64 → TellsBefore P (i + 1) rules new
bit_set P i rules old new h set small = λ j r before there unset.
    elim (cases_lt j i) [
      | inl less ↦ h j r less there (sym (ap (λ n. bit_at n j) set ∙ bit_at_set_other w64 old i small j (λ e. absurd (omega (arith, e, less)))) ∙ unset)
      | inr more ↦
          let here : j ≡ i = omega (arith, before, more) in
          let one : bit_at new j ≡ 1 = ap (bit_at new) here ∙ ap (λ n. bit_at n i) set ∙ bit_at_set_same w64 old i small in
          let none : 1 ≡ 0 = sym one ∙ unset in absurd (omega (arith, none))
    ]

-- it holds of one rule more
pub rule_told : (P : List Tests → Type 0) (i : ℕ) (rules : List (List Tests)) (word : ℕ) (x : List Tests) → TellsBefore P i rules word → x ≡ get_or rules i x → P x → TellsBefore P (i + 1) rules word
rule_told P i rules word x h here told = λ j r before there unset.
    elim (cases_lt j i) [
      | inl less ↦ h j r less there unset
      | inr more ↦
          let at : j ≡ i = omega (arith, before, more) in
          let same : r ≡ x = sym (get_or_from_slice_get rules i r x (ap (slice_get rules) (sym at) ∙ there)) ∙ sym here in
          subst P (sym same) told
    ]

pub none_of_max : (a b : ℕ) → max a b ≡ 0 → (a ≡ 0) × (b ≡ 0)
none_of_max a b e = elim (cases_lt a b) [ inl less ↦ absurd (omega (arith, less, e)) | inr more ↦ (omega (arith, more, e), omega (arith, more, e)) ]

-- ---- words of 64 rules

-- the rules behind one word more
pub rest_after : {X : Type 0} (n m k : ℕ) (xs rest others : List X) → rest ≡ drop (64 * n) xs → k ≡ min 64 (length rest) → others ≡ drop k rest → m ≡ n + 1 → others ≡ drop (64 * m) xs
rest_after n m k xs rest others here size behind more =
    behind ∙ ap (λ j. drop j rest) size ∙ drop_min 64 rest ∙ ap (drop 64) here ∙ drop-drop 64 (64 * n) xs ∙ ap (λ j. drop j xs) (omega (arith, more))

pushed : {X : Type 0} (xs : List X) (x y : X) (w : ℕ) → slice_get (xs ++ x ∷ []) w ≡ Some y → (slice_get xs w ≡ Some y) ⊎ ((w ≡ length xs) × (x ≡ y))
pushed [] x y zero e = inr (refl, same_Some x y e)
pushed [] x y (suc w) e = cc
pushed (z ∷ xs) x y zero e = inl e
pushed (z ∷ xs) x y (suc w) e = elim (pushed xs x y w e) [ inl p ↦ inl p | inr q ↦ inr (ap suc q.0, q.1) ]

-- one element more, of each of which something is told by its place
told_more : {X : Type 0} (P : ℕ → X → Type 0) (old new : List X) (last : X) → ((w : ℕ) (x : X) → slice_get old w ≡ Some x → P w x) → new ≡ old ++ last ∷ [] → P (length old) last
    → (w : ℕ) (x : X) → slice_get new w ≡ Some x → P w x
told_more P old new last h more told w x there =
    elim (pushed old last x w (ap (λ xs. slice_get xs w) (sym more) ∙ there)) [
      | inl before ↦ h w x before
      | inr at ↦ subst (λ k. P k x) (sym at.0) (subst (P (length old)) at.1 told)
    ]

-- the words of one block more
pub block_told : (rules : List (List Tests)) (column : ℕ) (classes : List Class) (old new : List BlockWords) (last : BlockWords) (rest : List (List Tests)) → TellsBlocks rules column classes old
    → new ≡ old ++ last ∷ [] → rest ≡ drop (64 * length old) rules → TellsBlock rest column classes last.words.items → TellsBlocks rules column classes new
block_told rules column classes old new last rest h more left told =
    told_more (λ w (block : BlockWords). TellsBlock (drop (64 * w) rules) column classes block.words.items) old new last h more
    (subst (λ rs. TellsBlock rs column classes last.words.items) left told)

-- one word more of the rules that may break a limit
pub breaking_more : (rules : List (List Tests)) (old new : List ℕ) (last : ℕ) (rest : List (List Tests)) → TellsBreaking rules old → new ≡ old ++ last ∷ [] → rest ≡ drop (64 * length old) rules
    → TellsUnset KeepLimits rest last → TellsBreaking rules new
breaking_more rules old new last rest h more left told =
    told_more (λ w word. TellsUnset KeepLimits (drop (64 * w) rules) word) old new last h more (subst (λ rs. TellsUnset KeepLimits rs last) left told)

-- the word of the rules from a place on
pub breaking_at : (rules : List (List Tests)) (words : List ℕ) (n w : ℕ) (rest : List (List Tests)) → TellsBreaking rules words → n ≡ w → rest ≡ drop (64 * n) rules → w < length words → TellsUnset KeepLimits rest (get_or words w 0)
breaking_at rules words n w rest told count left within =
    subst (λ rs. TellsUnset KeepLimits rs (get_or words w 0)) (sym (left ∙ ap (λ k. drop (64 * k) rules) count)) (told w (get_or words w 0) (slice_get-get_or words w 0 within))

-- one word more of a class, from a block
pub from_block_more : (blocks : List BlockWords) (place : ℕ) (old new : List ℕ) (last : ℕ) (block : BlockWords)
    → ((w word : ℕ) → slice_get old w ≡ Some word → (i : ℕ) → i < 64 → bit_at word i ≡ 0 → IsBlockWord blocks place w word) → new ≡ old ++ last ∷ []
    → slice_get blocks (length old) ≡ Some block → ((i : ℕ) → i < 64 → bit_at last i ≡ 0 → slice_get block.words.items place ≡ Some last)
    → (w word : ℕ) → slice_get new w ≡ Some word → (i : ℕ) → i < 64 → bit_at word i ≡ 0 → IsBlockWord blocks place w word
from_block_more blocks place old new last block h more here told =
    told_more (λ w word. (i : ℕ) → i < 64 → bit_at word i ≡ 0 → IsBlockWord blocks place w word) old new last h more
    (λ i small unset. record { block = block; there = here; has = told i small unset })

-- ---- rows

none_of_min : (a b : ℕ) → min a b ≡ 0 → (a ≡ 0) ⊎ (b ≡ 0)
none_of_min a b e = elim (cases_lt a b) [ inl less ↦ inl (omega (arith, less, e)) | inr more ↦ inr (omega (arith, more, e)) ]

-- one row more is looked at
pub unset_after : (rows : List (Option (Bor ClassRules))) (place k : ℕ) (row : Bor ClassRules) (old word new : ℕ) → slice_get rows k ≡ Some (Some row) → slice_get row.now.words.items place ≡ Some word
    → new ≡ bit_and old word → ((i : ℕ) → i < 64 → bit_at old i ≡ 0 → IsUnsetIn rows place i) → (i : ℕ) → i < 64 → bit_at new i ≡ 0 → IsUnsetIn rows place i
unset_after rows place k row old word new there has is before i small unset =
    elim (none_of_min (bit_at old i) (bit_at word i) (sym (ap (λ n. bit_at n i) is ∙ bit_at_and old word i) ∙ unset)) [
      | inl e ↦ before i small e
      | inr e ↦ record { column = k; row = row; word = word; there = there; has = has; unset = e }
    ]

-- one row more
pub rows_more : (rules : List (List Tests)) (values : List Datum) (old new : List (Option (Bor ClassRules))) (o : Option (Bor ClassRules)) (v : Datum) → AreRowsOf rules values old → new ≡ old ++ o ∷ []
    → slice_get values (length old) ≡ Some v → is_value v ≡ true → IfSome o (λ row. IsRowOf rules (length old) v row.now) → AreRowsOf rules values new
rows_more rules values old new o v h more here lawful told = λ k row there.
    elim (pushed old o (Some row) k (ap (λ rs. slice_get rs k) (sym more) ∙ there)) [
      | inl before ↦ h k row before
      | inr at ↦
          let row_told : IsRowOf rules (length old) v row.now = subst (λ (p : Option (Bor ClassRules)). IfSome p (λ row. IsRowOf rules (length old) v row.now)) at.1 told in
          record {
            value = v;
            there = ap (slice_get values) at.0 ∙ here;
            lawful = lawful;
            of_class = subst (λ n. IsRowOf rules n v row.now) (sym at.0) row_told;
          }
    ]

-- a row that was looked up among those of a column
pub row_found : (rules : List (List Tests)) (column : ℕ) (rows seen : List ClassRules) (place : ℕ) (row : ClassRules) → seen ≡ rows → row ≡ get_or seen place row → place < length seen → All (TellsRules rules column) rows
    → TellsRules rules column row
row_found rules column rows seen place row same here within told =
    subst (TellsRules rules column) (sym here) (All-get_or (TellsRules rules column) seen place row within (subst (All (TellsRules rules column)) (sym same) told))

-- one column more
pub column_more : (rules : List (List Tests)) (old new : List ColumnClasses) (last : ColumnClasses) → TellsColumns rules old → new ≡ old ++ last ∷ [] → TellsColumn rules (length old) last → TellsColumns rules new
column_more rules old new last h more told = told_more (λ k classes. TellsColumn rules k classes) old new last h more told
