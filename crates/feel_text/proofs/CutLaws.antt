-- The tokens of a whole text: what is scanned is the one cut of the text.
use Rattle.std.proofs.Common.{◌≡◌, ◌≤◌, ℕ, zero, suc, Bool, true, false, List, [], ◌∷◌, length, Option, Some, None, refl, sym, ap, subst, ◌∙◌, arith}
use Rattle.std.specs.Prelude.{IfSome, if◌then◌else◌}
use Rattle.feel_text.specs.Token.{Token}
use Rattle.feel_text.specs.Lexical.{IsCut, is_blank}
use Rattle.feel_value.specs.Found.{◌>>=◌}
use Rattle.feel_text.specs.Scanning.{token_at, cut_at, cut_of}
use Rattle.feel_text.proofs.Cuts.{blank_before, blank_after, token_before, token_after, token_shorter, no_token, end_found, end_only}

-- ---- what is scanned is a cut

-- the same with what is known of an option
if_known : {A B : Type 0} (o : Option A) (f : A → Option B) (Q : B → Type 0) → ((x : A) → o ≡ Some x → IfSome (f x) Q) → IfSome (o >>= f) Q
if_known (Some x) f Q h = h x refl
if_known None f Q h = tt

if_either : {B : Type 0} (b : Bool) (o p : Option B) (Q : B → Type 0) → (b ≡ true → IfSome o Q) → (b ≡ false → IfSome p Q) → IfSome (if b then o else p) Q
if_either true o p Q h g = h refl
if_either false o p Q h g = g refl

if_blank : (b : ℕ) (bs : List ℕ) (o : Option (List Token)) → is_blank b ≡ true → IfSome o (IsCut bs) → IfSome o (IsCut (b ∷ bs))
if_blank b bs (Some ts) e h = blank_before b bs e ts h
if_blank b bs None e h = tt

if_token : (text : List ℕ) (t : Token) (rest : List ℕ) (o : Option (List Token)) → token_at text ≡ Some (t, rest) → IfSome o (IsCut rest) → IfSome (o >>= λ ts. Some (t ∷ ts)) (IsCut text)
if_token text t rest (Some ts) e h = token_before text t rest ts e h
if_token text t rest None e h = tt

cut_sound : (k : ℕ) (text : List ℕ) → IfSome (cut_at k text) (IsCut text)
unfolding cut_at
cut_sound zero [] = end_found [] refl
cut_sound zero (b ∷ bs) = tt
cut_sound (suc k) [] = end_found [] refl
cut_sound (suc k) (b ∷ bs) =
    if_either (is_blank b) (cut_at k bs) _ (IsCut (b ∷ bs)) (λ e. if_blank b bs (cut_at k bs) e (cut_sound k bs)) (λ e.
    if_known (token_at (b ∷ bs)) _ (IsCut (b ∷ bs)) (λ x read. if_token (b ∷ bs) x.0 x.1 (cut_at k x.1) read (cut_sound k x.1)))

-- ---- and a cut is scanned

at_blank : (k b : ℕ) (bs : List ℕ) (ts : List Token) → is_blank b ≡ true → cut_at k bs ≡ Some ts → cut_at (suc k) (b ∷ bs) ≡ Some ts
unfolding cut_at
at_blank k b bs ts e cut = rw (e, cut) refl

at_token : (k b : ℕ) (bs : List ℕ) (t : Token) (rest : List ℕ) (ts : List Token) → is_blank b ≡ false → token_at (b ∷ bs) ≡ Some (t, rest) → cut_at k rest ≡ Some ts → cut_at (suc k) (b ∷ bs) ≡ Some (t ∷ ts)
unfolding cut_at
at_token k b bs t rest ts e read cut = rw (e, read, cut) refl

at_end : (k : ℕ) → cut_at k [] ≡ Some []
unfolding cut_at
at_end zero = refl
at_end (suc k) = refl

-- the texts of at most k bytes
abbrev Again : ℕ → Type 0
Again k = (text : List ℕ) (ts : List Token) → length text ≤ k → IsCut text ts → cut_at k text ≡ Some ts

again_token : (k b : ℕ) (bs : List ℕ) (ts : List Token) (o : Option (Token × List ℕ)) → Again k → is_blank b ≡ false → length (b ∷ bs) ≤ suc k → IsCut (b ∷ bs) ts → token_at (b ∷ bs) ≡ o → cut_at (suc k) (b ∷ bs) ≡ Some ts
again_token k b bs ts None h e le cut read = absurd (no_token b bs e read ts cut)
again_token k b bs ts (Some (t, rest)) h e le cut read =
    let p = token_after b bs t rest e read ts cut in
    let fits : length rest ≤ k = omega (arith, token_shorter (b ∷ bs) t rest read) in
    at_token k b bs t rest p.0 e read (h rest p.0 fits p.2) ∙ ap (λ (us : List Token). Some us) (sym p.1)

again_byte : (k b : ℕ) (bs : List ℕ) (ts : List Token) (p : Bool) → Again k → is_blank b ≡ p → length (b ∷ bs) ≤ suc k → IsCut (b ∷ bs) ts → cut_at (suc k) (b ∷ bs) ≡ Some ts
again_byte k b bs ts true h e le cut = at_blank k b bs ts e (h bs ts (omega arith) (blank_after b bs e ts cut))
again_byte k b bs ts false h e le cut = again_token k b bs ts (token_at (b ∷ bs)) h e le cut refl

cut_again : (k : ℕ) → Again k
cut_again k [] ts le cut = at_end k ∙ ap (λ (us : List Token). Some us) (sym (end_only [] ts refl cut))
cut_again zero (b ∷ bs) ts le cut = absurd (omega arith)
cut_again (suc k) (b ∷ bs) ts le cut = again_byte k b bs ts (is_blank b) (cut_again k) refl le cut

-- ---- the law

pub cut_found : (text : List ℕ) (ts : List Token) → cut_of text ≡ Some ts → IsCut text ts
unfolding cut_of
cut_found text ts e = subst (λ (o : Option (List Token)). IfSome o (IsCut text)) e (cut_sound (length text) text)

pub cut_is : (text : List ℕ) (ts : List Token) → IsCut text ts → cut_of text ≡ Some ts
unfolding cut_of
cut_is text ts cut = cut_again (length text) text ts (omega arith) cut
