-- Lists of words, one word after the other.
use Rattle.std.proofs.Common.{◌≡◌, ◌∙◌, ◌+◌, ◌<◌, ℕ, List, [], ◌∷◌, ◌++◌, append_assoc, Bool, true, false, Option, None, Some, drop, get_or, length, refl, sym, ap, subst, if◌then◌else◌}
use Rattle.std.specs.Str.{IsUtf8, is_utf8}
use Rattle.std.proofs.lemmas.List.{at_drop_more}
use Rattle.std.proofs.lemmas.Str.{IsUtf8-from_is_utf8, is_utf8-from_IsUtf8}
use Rattle.json.specs.Print.{quoted}
use Rattle.serde_json.specs.Data.{Items, no_items, item, string}
use Rattle.serde_json.specs.Written.{comma_if, items_text}
use Rattle.dmn_ranges.specs.Ranges.{text_of}
use Rattle.dmn_ranges.specs.declared.texts.Word.{Word}
use Rattle.desk_ranges.specs.Lines.{item_if, text_in, word_items}

pub text_found : (w : Word) (s t : List ℕ) → s ≡ text_of w → t ≡ s → IsUtf8 t → Some s ≡ text_in (Some w)
text_found w s t is bytes utf8 =
    let yes : is_utf8 (text_of w) ≡ true = is_utf8-from_IsUtf8 (text_of w) (subst IsUtf8 (bytes ∙ is) utf8) in
    ap Some is ∙ sym (ap (λ (b : Bool). if b then Some (text_of w) else None) yes)

none_if : (b : Bool) (s : List ℕ) → (b ≡ true → ⊥) → None ≡ (if b then Some s else None)
none_if true s not_so = absurd (not_so refl)
none_if false s not_so = refl

pub no_text : (w : Word) → ¬ IsUtf8 (text_of w) → None ≡ text_in (Some w)
no_text w not_so = none_if (is_utf8 (text_of w)) (text_of w) (λ e. not_so (IsUtf8-from_is_utf8 (text_of w) e))

pub words_begun : (old new : List ℕ) (ds : Items) → new ≡ old ++ 91 ∷ [] → old ++ 91 ∷ items_text false ds ≡ new ++ items_text false ds
words_begun old new ds begun = sym (append_assoc old (91 ∷ []) (items_text false ds)) ∙ ap (λ (xs : List ℕ). xs ++ items_text false ds) (sym begun)

pub word_added : (old between new : List ℕ) (later : Bool) (s : List ℕ) (rest : Items) → between ≡ old ++ comma_if later → new ≡ between ++ quoted s
    → old ++ items_text later (item (string s) rest) ≡ new ++ items_text true rest
word_added old between new later s rest first second =
    sym (append_assoc old (comma_if later) (quoted s ++ items_text true rest)) ∙ sym (append_assoc (old ++ comma_if later) (quoted s) (items_text true rest))
    ∙ ap (λ (xs : List ℕ). (xs ++ quoted s) ++ items_text true rest) (sym first) ∙ ap (λ (xs : List ℕ). xs ++ items_text true rest) (sym second)

pub word_turn : (whole old new : List ℕ) (later next : Bool) (ws : List (Option Word)) (i : ℕ) → whole ≡ old ++ items_text later (word_items (drop i ws)) → i < length ws
    → ((rest : Items) → old ++ items_text later (item_if (text_in (get_or ws i None)) rest) ≡ new ++ items_text next rest) → whole ≡ new ++ items_text next (word_items (drop (i + 1) ws))
word_turn whole old new later next ws i so_far more added =
    so_far ∙ at_drop_more (λ vs. old ++ items_text later (word_items vs)) ws i None more ∙ added (word_items (drop (i + 1) ws))

pub words_ended : (whole old new : List ℕ) (later : Bool) → whole ≡ old ++ items_text later no_items → new ≡ old ++ 93 ∷ [] → new ≡ whole
words_ended whole old new later so_far ended = ended ∙ sym so_far
