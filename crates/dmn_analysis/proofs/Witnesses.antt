-- Values of cells.
use Rattle.std.proofs.Common.{◌≡◌, ◌∙◌, sym, ap, refl, subst, inl, inr, ℕ, ◌<◌, ◌≤◌, List, [], ◌∷◌, ◌++◌, length, Bool, true, false, not, ◌&&◌, ◌||◌, Some, arith}
use Rattle.std.specs.Arc.{arc_str_bytes}
use Rattle.std.specs.Prelude.{bytes_eq}
use Rattle.std.specs.List.{slice_get, All}
use Rattle.std.specs.declared.alloc.Global.{Global}
use Rattle.std.specs.declared.sync.ArcStr.{ArcStr}
use Rattle.std.proofs.lemmas.List.Elements.{All-head, All-tail}
use Rattle.std.proofs.lemmas.Option.{same_Some, slice_get_within}
use Rattle.std.proofs.lemmas.Slice.Eq.{bytes_eq-Decides}
use Rattle.feel_value.specs.Datum.{Datum}
use Rattle.feel_value.specs.Limits.{is_value}
use Rattle.dmn_analysis.specs.Cells.{AreIn, is_one_of, is_text_among, is_text_in, words_within}
use Rattle.dmn_analysis.specs.Telling.{IsInAt, IsVoid, IsVoidAt}
use Rattle.dmn_analysis.specs.declared.cell.Cell.{Cell}
use Rattle.dmn_analysis.specs.declared.cell.Words.{Words}
use Rattle.dmn_analysis.proofs.Places.{All-at, element, pushed}

-- ---- texts

-- a text of more bytes than each of these is none of them
pub none_as_long : (ts : List (ArcStr Global)) (s : List ℕ) (n : ℕ) → All (λ t. length (arc_str_bytes t) ≤ n) ts → n < length s → is_text_among ts s ≡ false
none_as_long [] s n all less = refl
none_as_long (t ∷ ts) s n all less = go (bytes_eq s (arc_str_bytes t)) refl (none_as_long ts s n (All-tail (λ t. length (arc_str_bytes t) ≤ n) t ts all) less)
  where
    go : (b : Bool) → bytes_eq s (arc_str_bytes t) ≡ b → is_text_among ts s ≡ false → is_text_among (t ∷ ts) s ≡ false
    go false e rest = ap (λ b. b || is_text_among ts s) e ∙ rest
    go true e rest =
        let same = ap length ((bytes_eq-Decides s (arc_str_bytes t)).0 e) in
        let short = All-head (λ t. length (arc_str_bytes t) ≤ n) t ts all in
        absurd (omega (arith, less, same, short))

pub word_in : (words : List (ArcStr Global)) (c : Cell) (s : List ℕ) → is_text_among (words_within words c.from c.to) s ≡ true → is_text_in words c s ≡ true
word_in words c s e = ap (λ b. b || (is_one_of words c.others s && not (is_text_among words s))) e

-- ---- one value a column

-- values of the first so many cells
abbrev pub AreInFirst : List Words → List Cell → List Datum → Type 0
AreInFirst words cells values = (k : ℕ) (c : Cell) (v : Datum) → slice_get cells k ≡ Some c → slice_get values k ≡ Some v → IsInAt words k c v

pub one_more_in : (words : List Words) (cells : List Cell) (values : List Datum) (c : Cell) (v : Datum) → AreInFirst words cells values → slice_get cells (length values) ≡ Some c → IsInAt words (length values) c v
    → AreInFirst words cells (values ++ v ∷ [])
one_more_in words cells values c v h there inside = λ k d u here has.
    elim (pushed values v u k has) [
      | inl before ↦ h k d u here before
      | inr at ↦ subst (IsInAt words k d) at.1 (subst (λ j. IsInAt words j d v) (sym at.0) (subst (λ e. IsInAt words (length values) e v) (same_Some c d (sym there ∙ ap (slice_get cells) (sym at.0) ∙ here)) inside))
    ]

pub all_in : (words : List Words) (cells : List Cell) (values : List Datum) → AreInFirst words cells values → AreIn words cells values
all_in words cells values h = λ k ws c v of here has. h k c v here has ws of

pub void_at : (words : List Words) (cells : List Cell) (k : ℕ) (c : Cell) → slice_get cells k ≡ Some c → IsVoidAt words k c → IsVoid words cells
void_at words cells k c there void values long lawful inside =
    let v = element values k (omega (arith, long, slice_get_within cells k c there)) in
    let wrong : false ≡ true = sym (void.none v.0 (All-at (λ v. is_value v ≡ true) values k v.0 lawful v.1)) ∙ inside k void.ws c v.0 void.there there v.1 in
    cc
