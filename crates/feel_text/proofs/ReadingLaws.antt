-- What a text spells is what is read from it: for expressions, unary tests and literals, `expr_of s ≡ Some e` exactly where `Spells s e`, and so on.
use Rattle.std.proofs.Common.{◌≡◌, ◌≤◌, ℕ, Bool, true, false, List, [], ◌∷◌, ◌++◌, Option, Some, None, refl, sym, ap, subst, ◌∙◌, arith}
use Rattle.std.specs.Prelude.{Result, Ok, Err, IfOk, IsErrOf, IfSome, ◌↔◌, nat_le, unsigned_abs, pos, ◌-ℤ◌, ℤ, if◌then◌else◌}
use Rattle.std.proofs.lemmas.List.{append-nil}
use Rattle.std.proofs.lemmas.Bool.{le-leb}
use Rattle.std.proofs.lemmas.Int.{ints}
use Rattle.std.proofs.lemmas.Option.{same_Some}
use Rattle.feel_value.specs.Datum as datum
use Rattle.feel_value.specs.Datum.{Datum}
use Rattle.feel_value.specs.Limits.{is_value}
use Rattle.feel_text.specs.declared.token.Word.TheVariants as word
use Rattle.feel_text.specs.declared.token.Sign.TheVariants as sign
use Rattle.feel_text.specs.declared.line.Line.TheVariants as line
use Rattle.feel_text.specs.declared.fault.ReadFault.{ReadFault}
use Rattle.feel_text.specs.declared.fault.ReadFault.TheVariants.{Syntax, Memory}
use Rattle.feel_text.specs.Gives.{Gives, Fails}
use Rattle.feel_text.specs.Token.{Token, Number, Text, Keyword, Symbol}
use Rattle.feel_text.specs.Expr.{Expr, depth}
use Rattle.feel_text.specs.Lexical.{IsCut}
use Rattle.feel_value.specs.Limits.{greatest_number}
use Rattle.feel_text.specs.Tests.{Test, Tests, Any, OneOf, NoneOf, ReadsExpr, ReadsTests, ReadsList, ReadsNot, ReadsLiteral}
use Rattle.feel_text.specs.Tests as rule
use Rattle.feel_text.specs.Spells.{Spells, SpellsTests, SpellsLiteral}
use Rattle.feel_text.specs.Grammar.{Reads}
use Rattle.feel_text.specs.Reading.{Read, choose, read_at}
use Rattle.feel_value.specs.Found.{◌>>=◌}
use Rattle.feel_text.specs.Scanning.{cut_of}
use Rattle.feel_text.specs.TestReading.{all_read, one_of_at, none_of_at, after_not, is_dash, listed_at, tests_at, number_at, constant_at, negative_at, signed_at, literal_at}
use Rattle.feel_text.specs.Readings.{expression_at, expr_of, tests_of, literal_of}
use Rattle.feel_text.proofs.Found.{IsRead, read_sound, if_bind, if_test}
use Rattle.feel_text.proofs.CutLaws.{cut_found, cut_is}
use Rattle.feel_text.proofs.Spelling.{spelling}
use Rattle.feel_text.proofs.Complete.{read_again}
use Rattle.feel_text.proofs.Rules.{stands_by_rules, is_spelled}
use Rattle.feel_text.proofs.TestsFound.{IsOneOf, IsWholeNot, one_of_sound, not_sound, if_then}
use Rattle.feel_text.proofs.TestsAgain.{one_of_again, not_again, no_dash, dash_is}

-- ---- from tokens to texts

-- some tokens are the cut of the text and have the reading
abbrev SpelledBy : {A : Type 0} → (List Token → A → Type 0) → List ℕ → A → Type 0
SpelledBy R text a = (tokens : List Token) × IsCut text tokens × R tokens a

spelled_from : {A : Type 0} (R : List Token → A → Type 0) (f : List Token → Option A) (s : List ℕ) (a : A) (o : Option (List Token)) → cut_of s ≡ o → ((ts : List Token) → IfSome (f ts) (R ts)) → (o >>= f) ≡ Some a → SpelledBy R s a
spelled_from R f s a None cut sound e = absurd cc
spelled_from R f s a (Some ts) cut sound e = (ts, cut_found s ts cut, subst (λ (o : Option _). IfSome o (R ts)) e (sound ts))

spelled_law : {A : Type 0} (R : List Token → A → Type 0) (f : List Token → Option A) (s : List ℕ) (a : A) → ((ts : List Token) → IfSome (f ts) (R ts)) → ((ts : List Token) → IsCut s ts → R ts a → f ts ≡ Some a)
    → ((cut_of s >>= f) ≡ Some a) ↔ SpelledBy R s a
spelled_law R f s a sound again = (
  (λ e. spelled_from R f s a (cut_of s) refl sound e),
  (λ p. ap (λ (o : Option (List Token)). o >>= f) (cut_is s p.0 p.1) ∙ again p.0 p.1 p.2),
)

-- ---- expressions

-- what is read of all tokens is spelled by them
whole_found : (ts rest : List Token) (e : Expr) (d : ℕ) → read_at 64 line.Whole ts ≡ Some (e, d, rest) → rest ≡ [] → ReadsExpr ts e
whole_found ts rest e d read end =
    let p : IsRead 64 line.Whole ts (e, d, rest) = subst (λ (r : Read). IfSome r (IsRead 64 line.Whole ts)) read (read_sound 64 line.Whole ts) in
    let t : ts ≡ spelling e = p.text ∙ ap (λ (w : List Token). spelling e ++ w) end ∙ append-nil (spelling e) in
    (subst (λ (w : List Token). Reads line.Whole w e) (sym t) (stands_by_rules line.Whole e p.stands), let a = p.deep in let b = p.within in omega arith)

-- and what they spell is read
whole_only : (ts : List Token) (e : Expr) → ReadsExpr ts e → read_at 64 line.Whole ts ≡ Some (e, depth e, [])
whole_only ts e r =
    let p = is_spelled line.Whole ts e r.0 in
    ap (λ (w : List Token). read_at 64 line.Whole w) (p.text ∙ sym (append-nil (spelling e))) ∙ read_again 64 line.Whole e [] p.stands r.1 tt

expression_by : (ts : List Token) (r : Read) → read_at 64 line.Whole ts ≡ r → IfSome (r >>= λ x. all_read x.2 x.0) (ReadsExpr ts)
expression_by ts None read = tt
expression_by ts (Some (e, d, [])) read = whole_found ts [] e d read refl
expression_by ts (Some (e, d, t ∷ us)) read = tt

expression_sound : (ts : List Token) → IfSome (expression_at ts) (ReadsExpr ts)
unfolding expression_at
expression_sound ts = expression_by ts (read_at 64 line.Whole ts) refl

expression_again : (ts : List Token) (e : Expr) → ReadsExpr ts e → expression_at ts ≡ Some e
unfolding expression_at
expression_again ts e r = rw (whole_only ts e r) refl

-- A text is read as an expression exactly where it spells it.
pub expr_of_spells : (s : List ℕ) (e : Expr) → (expr_of s ≡ Some e) ↔ Spells s e
unfolding expr_of
expr_of_spells s e = spelled_law ReadsExpr expression_at s e expression_sound (λ ts cut r. expression_again ts e r)

-- ---- unary tests

if_either : {B : Type 0} (b : Bool) (o p : Option B) (Q : B → Type 0) → (b ≡ true → IfSome o Q) → (b ≡ false → IfSome p Q) → IfSome (if b then o else p) Q
if_either true o p Q h g = h refl
if_either false o p Q h g = g refl

no_not : (ts : List Token) (others : List Test) → (after_not ts >>= none_of_at) ≡ None → ReadsNot ts others → ⊥
no_not ts others none r =
    let f : ◌≡◌ {A = Option Tests} None (Some (NoneOf others)) = sym none ∙ not_again ts others r in
    absurd cc

listed_by : (ts : List Token) (o : Option Tests) → (after_not ts >>= none_of_at) ≡ o → IfSome o (IsWholeNot ts) → IfSome (choose o (one_of_at ts) (λ t. Some t)) (ReadsTests ts)
listed_by ts (Some t) e h = subst (λ (u : Tests). ReadsTests ts u) (sym h.1) h.2
listed_by ts None e h =
    if_then (one_of_at ts) (IsOneOf ts) (ReadsTests ts) (one_of_sound ts) (λ t p. subst (λ (u : Tests). ReadsTests ts u) (sym p.1) (p.2, λ others r. no_not ts others e r))

listed_sound : (ts : List Token) → IfSome (listed_at ts) (ReadsTests ts)
unfolding listed_at
listed_sound ts = listed_by ts (after_not ts >>= none_of_at) refl (not_sound ts)

tests_sound : (ts : List Token) → IfSome (tests_at ts) (ReadsTests ts)
unfolding tests_at
tests_sound ts = if_either (is_dash ts) (Some Any) (listed_at ts) (ReadsTests ts) (λ e. dash_is ts e) (λ e. listed_sound ts)

no_whole_not : (ts : List Token) (o : Option Tests) → (after_not ts >>= none_of_at) ≡ o → IfSome o (IsWholeNot ts) → ((others : List Test) → ReadsNot ts others → ⊥) → (after_not ts >>= none_of_at) ≡ None
no_whole_not ts None e h refuted = e
no_whole_not ts (Some t) e h refuted = absurd (refuted h.0 h.2)

any_again : tests_at (Symbol sign.Minus ∷ []) ≡ Some Any
unfolding tests_at
any_again = refl

tests_again : (ts : List Token) (t : Tests) → ReadsTests ts t → tests_at ts ≡ Some t
unfolding tests_at listed_at
tests_again ts Any r = ap tests_at r ∙ any_again
tests_again ts (NoneOf tests) r =
    let dash : is_dash ts ≡ false = ap is_dash r.2 in
    rw (dash, not_again ts tests r) refl
tests_again ts (OneOf tests) r =
    let none = no_whole_not ts (after_not ts >>= none_of_at) refl (not_sound ts) r.1 in
    rw (no_dash ts tests r.0, none, one_of_again ts tests r.0) refl

-- A text is read as unary tests exactly where it spells them.
pub tests_of_spells : (s : List ℕ) (t : Tests) → (tests_of s ≡ Some t) ↔ SpellsTests s t
unfolding tests_of
tests_of_spells s t = spelled_law ReadsTests tests_at s t tests_sound (λ ts cut r. tests_again ts t r)

-- ---- literals

number_is : (n : ℕ) → IfSome (number_at n) (λ z. z ≡ pos n)
number_is n = if_test (nat_le n greatest_number) (Some (pos n)) (λ z. z ≡ pos n) (λ e. refl)

constant_sound : (t : Token) → IfSome (constant_at t) (ReadsLiteral (t ∷ []))
constant_sound (Number n) =
    if_bind (number_at n) _ (λ z. z ≡ pos n) (ReadsLiteral (Number n ∷ [])) (number_is n) (λ z e. subst (λ (w : ℤ). ReadsLiteral (Number n ∷ []) (datum.number w)) (sym e) (rule.number n))
constant_sound (Text bytes) = rule.text bytes
constant_sound (Keyword word.Null) = rule.null
constant_sound (Keyword word.True) = rule.constant true
constant_sound (Keyword word.False) = rule.constant false
constant_sound t = tt

negative_sound : (t : Token) → IfSome (negative_at t) (ReadsLiteral (Symbol sign.Minus ∷ t ∷ []))
negative_sound (Number n) =
    if_bind (number_at n) _ (λ z. z ≡ pos n) (ReadsLiteral (Symbol sign.Minus ∷ Number n ∷ [])) (number_is n) (λ z e. subst (λ (w : ℤ). ReadsLiteral (Symbol sign.Minus ∷ Number n ∷ []) (datum.number (pos 0 -ℤ w))) (sym e) (rule.negative n))
negative_sound t = tt

signed_sound : (ts : List Token) → IfSome (signed_at ts) (ReadsLiteral ts)
signed_sound [] = tt
signed_sound (t ∷ []) = constant_sound t
signed_sound (Symbol sign.Minus ∷ t ∷ []) = negative_sound t
signed_sound (t ∷ u ∷ []) = tt
signed_sound (t ∷ u ∷ v ∷ ts) = tt

literal_sound : (ts : List Token) → IfSome (literal_at ts) (ReadsLiteral ts)
unfolding literal_at
literal_sound ts = if_bind (signed_at ts) _ (ReadsLiteral ts) _ (signed_sound ts) (λ d r. if_test (is_value d) (Some d) (ReadsLiteral ts) (λ e. r))

abs_less : (n : ℕ) → unsigned_abs (pos 0 -ℤ pos n) ≡ n
abs_less n = omega (arith, ints)

number_value : (n : ℕ) → n ≤ greatest_number → is_value (datum.number (pos n)) ≡ true
number_value n h = rw (le-leb n greatest_number h) refl

negative_value : (n : ℕ) → n ≤ greatest_number → is_value (datum.number (pos 0 -ℤ pos n)) ≡ true
negative_value n h = rw (abs_less n, le-leb n greatest_number h) refl

literal_value : (ts : List Token) (d : Datum) → signed_at ts ≡ Some d → is_value d ≡ true → literal_at ts ≡ Some d
unfolding literal_at
literal_value ts d e v = rw (e, v) refl

number_signed : (n : ℕ) → n ≤ greatest_number → signed_at (Number n ∷ []) ≡ Some (datum.number (pos n))
number_signed n h = rw (le-leb n greatest_number h) refl

negative_signed : (n : ℕ) → n ≤ greatest_number → signed_at (Symbol sign.Minus ∷ Number n ∷ []) ≡ Some (datum.number (pos 0 -ℤ pos n))
negative_signed n h = rw (le-leb n greatest_number h) refl

literal_again : (s : List ℕ) (ts : List Token) (d : Datum) → IsCut s ts → ReadsLiteral ts d → literal_at ts ≡ Some d
literal_again s ts d cut rule.null = literal_value (Keyword word.Null ∷ []) datum.null refl refl
literal_again s ts d cut (rule.constant true) = literal_value (Keyword word.True ∷ []) (datum.boolean true) refl refl
literal_again s ts d cut (rule.constant false) = literal_value (Keyword word.False ∷ []) (datum.boolean false) refl refl
literal_again s ts d cut (rule.number n) = literal_value (Number n ∷ []) (datum.number (pos n)) (number_signed n cut.4.2) (number_value n cut.4.2)
literal_again s ts d cut (rule.negative n) = literal_value (Symbol sign.Minus ∷ Number n ∷ []) (datum.number (pos 0 -ℤ pos n)) (negative_signed n cut.7.4.2) (negative_value n cut.7.4.2)
literal_again s ts d cut (rule.text bytes) = literal_value (Text bytes ∷ []) (datum.text bytes) refl refl

-- A text is read as a literal exactly where it spells it.
pub literal_of_spells : (s : List ℕ) (d : Datum) → (literal_of s ≡ Some d) ↔ SpellsLiteral s d
unfolding literal_of
literal_of_spells s d = spelled_law ReadsLiteral literal_at s d literal_sound (λ ts cut r. literal_again s ts d cut r)

-- ---- what a reader answers

-- what it answers Ok is what the text has
pub answers_found : {A : Type 0} (o : Option A) (R : A → Type 0) (r : Result A ReadFault) → ((a : A) → (o ≡ Some a) ↔ R a) → Gives (λ a. a) r o → IfOk r R
answers_found o R (Ok a) law h = (law a).0 h
answers_found o R (Err f) law h = tt

-- and it is the only one
pub answers_alone : {A : Type 0} (o : Option A) (R : A → Type 0) (r : Result A ReadFault) → ((a : A) → (o ≡ Some a) ↔ R a) → Gives (λ a. a) r o → IfOk r (λ a. (b : A) → R b → b ≡ a)
answers_alone o R (Ok a) law h = λ b q. same_Some b a (sym ((law b).1 q) ∙ h)
answers_alone o R (Err f) law h = tt

-- and Syntax comes only where the text has none
pub answers_none : {A : Type 0} (o : Option A) (R : A → Type 0) (r : Result A ReadFault) → ((a : A) → (o ≡ Some a) ↔ R a) → Gives (λ a. a) r o → IsErrOf r Syntax → (a : A) → R a → ⊥
answers_none o R (Ok a) law h is b q = absurd cc
answers_none o R (Err Memory) law h is b q = absurd cc
answers_none o R (Err Syntax) law h is b q =
    let f : ◌≡◌ {A = Option _} None (Some b) = sym h ∙ (law b).1 q in
    absurd cc

-- what is read is the only one that the text has
pub only_spelled : {A : Type 0} (o : Option A) (R : A → Type 0) (a : A) → ((b : A) → (o ≡ Some b) ↔ R b) → o ≡ Some a → (b : A) → R b → b ≡ a
only_spelled o R a law h b q = same_Some b a (sym ((law b).1 q) ∙ h)

-- ---- from the tokens of a text

pub same_fault : {T : Type 0} {e f : ReadFault} → e ≡ f → ◌≡◌ {A = Result T ReadFault} (Err e) (Err f)
same_fault is = ap Err is

cut_none : (s : List ℕ) (o : Option (List Token)) → cut_of s ≡ o → ((ts : List Token) → IsCut s ts → ⊥) → cut_of s ≡ None
cut_none s None e refuted = e
cut_none s (Some ts) e refuted = absurd (refuted ts (cut_found s ts e))

-- a fault in cutting is a fault in reading
cut_fails : {A : Type 0} (f : ReadFault) (s : List ℕ) (g : List Token → Option A) → (f ≡ Syntax → (ts : List Token) → IsCut s ts → ⊥) → Fails f (cut_of s >>= g)
cut_fails Memory s g refuted = tt
cut_fails Syntax s g refuted = ap (λ (o : Option (List Token)). o >>= g) (cut_none s (cut_of s) refl (refuted refl))

pub expr_fails : (f : ReadFault) (s : List ℕ) → (f ≡ Syntax → (ts : List Token) → IsCut s ts → ⊥) → Fails f (expr_of s)
unfolding expr_of
expr_fails f s refuted = cut_fails f s expression_at refuted

pub tests_fail : (f : ReadFault) (s : List ℕ) → (f ≡ Syntax → (ts : List Token) → IsCut s ts → ⊥) → Fails f (tests_of s)
unfolding tests_of
tests_fail f s refuted = cut_fails f s tests_at refuted

pub literal_fails : (f : ReadFault) (s : List ℕ) → (f ≡ Syntax → (ts : List Token) → IsCut s ts → ⊥) → Fails f (literal_of s)
unfolding literal_of
literal_fails f s refuted = cut_fails f s literal_at refuted

-- what is read from the tokens is read from the text
pub expr_from_cut : (s : List ℕ) (ts : List Token) → IsCut s ts → expression_at ts ≡ expr_of s
unfolding expr_of
expr_from_cut s ts cut = ap (λ (o : Option (List Token)). o >>= expression_at) (sym (cut_is s ts cut))

pub tests_from_cut : (s : List ℕ) (ts : List Token) → IsCut s ts → tests_at ts ≡ tests_of s
unfolding tests_of
tests_from_cut s ts cut = ap (λ (o : Option (List Token)). o >>= tests_at) (sym (cut_is s ts cut))

pub literal_from_cut : (s : List ℕ) (ts : List Token) → IsCut s ts → literal_at ts ≡ literal_of s
unfolding literal_of
literal_from_cut s ts cut = ap (λ (o : Option (List Token)). o >>= literal_at) (sym (cut_is s ts cut))
