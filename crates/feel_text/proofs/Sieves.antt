-- What a sieve stops.
use Rattle.std.proofs.Common.{◌≡◌, ◌≢◌, ◌∙◌, ap, sym, refl, subst, ℕ, ◌<◌, ◌*◌, ◌^◌, ◌%◌, w64, Bool, true, false, ◌||◌, List, [], ◌∷◌, nat_eq, bytes_eq, bit_or}
use Rattle.std.specs.List.{All}
use Rattle.std.specs.Int.{bit_at}
use Rattle.std.proofs.lemmas.List.Elements.{All-head, All-tail, All-weaker}
use Rattle.std.proofs.lemmas.Nat.Bits.{bit_at_set_same, bit_at_set_other}
use Rattle.std.proofs.lemmas.Slice.Eq.{bytes_eq-Decides}
use Rattle.feel_value.specs.Comparison.{equal}
use Rattle.feel_value.specs.Datum.{Datum, null, boolean, number, text, list, context}
use Rattle.feel_value.specs.Logic.{decided, is_yes}
use Rattle.feel_value.specs.View.{datum_of, items_view}
use Rattle.feel_value.specs.declared.value.Value.{Value}
use Rattle.feel_text.specs.Classes.{mark_of}
use Rattle.feel_text.specs.Satisfied.{is_member}
use Rattle.feel_text.specs.Sieves.{IsMarked, lets_through}
use Rattle.feel_text.specs.declared.sieve.Sieve.TheVariants as sieve

-- one mark more
abbrev pub set : ℕ → ℕ → ℕ
set marks k = bit_or marks (1 * 2 ^ k % 2 ^ 64)

-- a text that is stopped has another mark
other : (marks k : ℕ) → k < 64 → (s : List ℕ) → lets_through (sieve.Texts (set marks k)) (text s) ≡ false → mark_of s ≢ k
other marks k small s e same =
    let one : bit_at (set marks k) (mark_of s) ≡ 1 = ap (bit_at (set marks k)) same ∙ bit_at_set_same w64 marks k small in
    let no : true ≡ false = ap (λ n. nat_eq n 1) (sym one) ∙ e in
    cc

-- what is stopped with one mark more was stopped before
stopped_before : (marks k : ℕ) → k < 64 → (v : Datum) → lets_through (sieve.Texts (set marks k)) v ≡ false → lets_through (sieve.Texts marks) v ≡ false
stopped_before marks k small null e = refl
stopped_before marks k small (boolean b) e = refl
stopped_before marks k small (number z) e = refl
stopped_before marks k small (list ds) e = refl
stopped_before marks k small (context es) e = refl
stopped_before marks k small (text s) e = ap (λ n. nat_eq n 1) (sym (bit_at_set_other w64 marks k small (mark_of s) (other marks k small s e))) ∙ e

marked_text : (marks : ℕ) (t : List ℕ) (v : Datum) → mark_of t < 64 → lets_through (sieve.Texts (set marks (mark_of t))) v ≡ false → is_yes (equal v (text t)) ≡ false
marked_text marks t null small e = refl
marked_text marks t (boolean b) small e = refl
marked_text marks t (number z) small e = refl
marked_text marks t (list ds) small e = refl
marked_text marks t (context es) small e = refl
marked_text marks t (text s) small e = go (bytes_eq s t) refl
  where
    go : (b : Bool) → bytes_eq s t ≡ b → is_yes (decided (bytes_eq s t)) ≡ false
    go false f = ap (λ b. is_yes (decided b)) f
    go true f = absurd (other marks (mark_of t) small s e (ap mark_of ((bytes_eq-Decides s t).0 f)))

-- a mark more keeps the others
pub marks_grow : (marks k : ℕ) (ds : List Value) → k < 64 → All (IsMarked marks) ds → All (IsMarked (set marks k)) ds
marks_grow marks k ds small all = All-weaker (IsMarked marks) (IsMarked (set marks k)) (λ d is v e. is v (stopped_before marks k small v e)) ds all

pub text_marked : (marks k : ℕ) (t : List ℕ) (d : Value) → k ≡ mark_of t → k < 64 → datum_of d ≡ text t → IsMarked (set marks k) d
text_marked marks k t d is small shown = λ v e.
    ap (λ x. is_yes (equal v x)) shown
    ∙ marked_text marks t v (subst (λ n. n < 64) is small) (subst (λ n. lets_through (sieve.Texts (set marks n)) v ≡ false) is e)

pub none_marked : (marks : ℕ) (ds : List Value) → All (IsMarked marks) ds → (v : Datum) → lets_through (sieve.Texts marks) v ≡ false → is_member v (items_view ds) ≡ false
none_marked marks [] h v e = refl
none_marked marks (d ∷ ds) h v e =
    ap (λ b. b || is_member v (items_view ds)) (All-head (IsMarked marks) d ds h v e) ∙ none_marked marks ds (All-tail (IsMarked marks) d ds h) v e
