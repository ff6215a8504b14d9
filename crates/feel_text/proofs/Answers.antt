-- The answers of several tests.
use Rattle.std.proofs.Common.{◌≡◌, ◌∙◌, sym, ap, refl, ℕ, ◌+◌, ◌<◌, List, length, get_or, drop, Option, Some}
use Rattle.std.specs.Prelude.{unwrap_or}
use Rattle.std.proofs.lemmas.List.{at_drop_more}
use Rattle.feel_value.specs.Datum.{Datum}
use Rattle.feel_value.specs.Logic.{or_of}
use Rattle.feel_value.specs.declared.logic.Truth.{Truth}
use Rattle.feel_value.specs.declared.logic.Truth.TheVariants.{Yes, No, Unknown}
use Rattle.feel_text.specs.declared.unary.Test.{Test}
use Rattle.feel_text.specs.Tests.{Test as View}
use Rattle.feel_text.specs.Meaning.{Bindings}
use Rattle.feel_text.specs.Satisfied.{Answer, Told, Broken, joined, tested, tested_any}
use Rattle.feel_text.specs.TestsView.{test_view, test_views}

or_grouped : (p q r : Truth) → or_of p (or_of q r) ≡ or_of (or_of p q) r
or_grouped Yes q r = refl
or_grouped No Yes r = refl
or_grouped No No Yes = refl
or_grouped No No No = refl
or_grouped No No Unknown = refl
or_grouped No Unknown Yes = refl
or_grouped No Unknown No = refl
or_grouped No Unknown Unknown = refl
or_grouped Unknown Yes r = refl
or_grouped Unknown No Yes = refl
or_grouped Unknown No No = refl
or_grouped Unknown No Unknown = refl
or_grouped Unknown Unknown Yes = refl
or_grouped Unknown Unknown No = refl
or_grouped Unknown Unknown Unknown = refl

or_no : (p : Truth) → or_of p No ≡ p
or_no Yes = refl
or_no No = refl
or_no Unknown = refl

pub joined_grouped : (a b e : Answer) → joined or_of a (joined or_of b e) ≡ joined or_of (joined or_of a b) e
joined_grouped (Told p) (Told q) (Told r) = ap Told (or_grouped p q r)
joined_grouped (Told p) (Told q) Broken = refl
joined_grouped (Told p) Broken e = refl
joined_grouped Broken b e = refl

pub joined_no : (a : Answer) → joined or_of a (Told No) ≡ a
joined_no (Told p) = ap Told (or_no p)
joined_no Broken = refl

-- one more test
pub any_step : (xs : List Test) (i : ℕ) (x : Test) (v : Datum) (m : Bindings) (a b : Answer) → x ≡ get_or xs i x → i < length xs → b ≡ tested (test_view x) v m
    → joined or_of a (tested_any (test_views (drop i xs)) v m) ≡ joined or_of (joined or_of a b) (tested_any (test_views (drop (i + 1) xs)) v m)
any_step xs i x v m a b e h q =
    ap (joined or_of a) (at_drop_more (λ ts. tested_any (test_views ts) v m) xs i x h ∙ ap (λ (y : Test). joined or_of (tested (test_view y) v m) (tested_any (test_views (drop (i + 1) xs)) v m)) (sym e)
    ∙ ap (λ t. joined or_of t (tested_any (test_views (drop (i + 1) xs)) v m)) (sym q))
    ∙ joined_grouped a b (tested_any (test_views (drop (i + 1) xs)) v m)

or_twice : (p q : Truth) → or_of (or_of p q) q ≡ or_of p q
or_twice Yes q = refl
or_twice No Yes = refl
or_twice No No = refl
or_twice No Unknown = refl
or_twice Unknown Yes = refl
or_twice Unknown No = refl
or_twice Unknown Unknown = refl

-- what is joined once more changes nothing
pub joined_twice : (a b : Answer) → joined or_of (joined or_of a b) b ≡ joined or_of a b
joined_twice (Told p) (Told q) = ap Told (or_twice p q)
joined_twice (Told p) Broken = refl
joined_twice Broken b = refl

-- The answer of the last test is joined already.
pub once_more : (x : View) (v : Datum) (m : Bindings) (a b e : Answer) → e ≡ joined or_of a b → b ≡ tested x v m → (t : View) → Some x ≡ Some t → joined or_of e (tested t v m) ≡ e
once_more x v m a b e h q t s =
    ap (λ (o : Option View). joined or_of e (tested (unwrap_or o x) v m)) (sym s) ∙ ap (joined or_of e) (sym q) ∙ ap (λ e. joined or_of e b) h ∙ joined_twice a b ∙ sym h

-- one more test, whose answer is joined already
pub any_step_again : (xs : List Test) (i : ℕ) (x : Test) (v : Datum) (m : Bindings) (a : Answer) → x ≡ get_or xs i x → i < length xs → joined or_of a (tested (test_view x) v m) ≡ a
    → joined or_of a (tested_any (test_views (drop i xs)) v m) ≡ joined or_of a (tested_any (test_views (drop (i + 1) xs)) v m)
any_step_again xs i x v m a e h q =
    any_step xs i x v m a (tested (test_view x) v m) e h refl ∙ ap (λ b. joined or_of b (tested_any (test_views (drop (i + 1) xs)) v m)) q
