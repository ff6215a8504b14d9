-- Rules whose tests break no limit.
use Rattle.std.proofs.Common.{◌≡◌, ◌∙◌, sym, ap, subst, ℕ, List, [], ◌∷◌, ◌++◌, map, Bool, true, false, IsTrue, Some}
use Rattle.std.specs.List.{slice_get, All}
use Rattle.std.specs.Prelude.{◌≢◌}
use Rattle.std.proofs.lemmas.List.Elements.{All-weaker}
use Rattle.feel_value.specs.Datum.{Datum}
use Rattle.feel_text.specs.Meaning.{Bindings}
use Rattle.feel_text.specs.Satisfied.{Broken, satisfied}
use Rattle.dmn_table.specs.Parts.{rule_view}
use Rattle.dmn_table.specs.declared.table.Rule.{Rule}
use Rattle.dmn_analysis.specs.Claims.{KeepLimits}
use Rattle.dmn_analysis.specs.Constant.{AreConstant, is_constant}
use Rattle.dmn_analysis.specs.Nameless.{is_nameless}
use Rattle.dmn_analysis.proofs.Constants as constants
use Rattle.dmn_analysis.proofs.HitRules.{mapped}
use Rattle.dmn_analysis.proofs.Places.{All-at, All-from_places, map_at}
use Rattle.dmn_analysis.proofs.WithoutNames.{never_broken}

-- its tests break no limit for this value, where no name stands for anything
abbrev pub Keeps : Datum → Rule → Type 0
Keeps w r = All (λ ts. satisfied ts w [] ≢ Broken) (rule_view r).tests

-- rules that do for one value keep the limits
pub kept_rules : (rules : List Rule) (w : Datum) → All (Keeps w) rules → KeepLimits (map rule_view rules)
kept_rules rules w all =
    All-from_places (λ r. All (λ ts. is_nameless ts ≡ true → (m : Bindings) (v : Datum) → satisfied ts v m ≢ Broken) r.tests) (map rule_view rules) (λ k r there.
    let one = mapped rule_view rules k r there in
    subst (λ q. All (λ ts. is_nameless ts ≡ true → (m : Bindings) (v : Datum) → satisfied ts v m ≢ Broken) q.tests) one.2
    (All-weaker (λ ts. satisfied ts w [] ≢ Broken) (λ ts. is_nameless ts ≡ true → (m : Bindings) (v : Datum) → satisfied ts v m ≢ Broken) (λ ts kept h. never_broken ts w h kept) (rule_view one.0).tests (All-at (Keeps w) rules k one.0 all one.1)))

-- constant tests do
pub constant_keeps : (rules : List Rule) (w : Datum) (k : ℕ) (r : Rule) → AreConstant (map rule_view rules) → slice_get rules k ≡ Some r → Keeps w r
constant_keeps rules w k r constant there =
    All-weaker (λ ts. is_constant ts ≡ true) (λ ts. satisfied ts w [] ≢ Broken) (λ ts h. constants.never_broken ts w [] h) (rule_view r).tests
    (All-at (λ q. All (λ ts. is_constant ts ≡ true) q.tests) (map rule_view rules) k (rule_view r) constant (map_at rule_view rules k r there))

pub is_true_not : (b : Bool) → IsTrue b → b ≡ false → ⊥
is_true_not true h e = cc
is_true_not false h e = cc

pub some_pushed : (xs : List ℕ) (x : ℕ) → xs ++ x ∷ [] ≡ [] → ⊥
some_pushed [] x e = cc
some_pushed (y ∷ xs) x e = cc
