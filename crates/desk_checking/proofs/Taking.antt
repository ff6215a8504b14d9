-- A table that isn't refused is one that `--strict` takes.
use Rattle.std.proofs.Common.{◌≡◌, ◌∙◌, ◌⊎◌, inl, inr, ℕ, List, [], ◌∷◌, ap, arith, refl, subst, sym, Bool, true, false, not, ◌&&◌, ◌||◌, Option, None, Some, IfSome, unwrap_or, Vec}
use Rattle.std.specs.Prelude.{nat_lt}
use Rattle.std.specs.List.{list_all}
use Rattle.std.specs.Option.{is_none, is_some}
use Rattle.std.specs.declared.alloc.Global.{Global}
use Rattle.std.proofs.lemmas.Bool.Decides.{nat_tests}
use Rattle.dmn_table.specs.Table.{Column, Rule, Table}
use Rattle.dmn_table.specs.declared.hit_policy.HitPolicy.{HitPolicy}
use Rattle.dmn_table.specs.declared.hit_policy.HitPolicy.TheVariants.{Any, Unique}
use Rattle.dmn_analysis.specs.Claims.{IsComplete, IsUniqueAmong, TellsGaps, TellsOverlaps}
use Rattle.dmn_analysis.specs.declared.asked.Asked.{Asked}
use Rattle.dmn_analysis.specs.declared.found.Gaps.{Gaps}
use Rattle.dmn_analysis.specs.declared.found.Overlap.{Overlap}
use Rattle.dmn_analysis.specs.declared.found.Overlaps.{Overlaps}
use Rattle.desk_checking.specs.Answering.{AreFaults, AreJudged, IsFound, counts_overlaps, gaps_of_kinds, idle_fail, is_complete, is_empty, is_faulty, is_refused, is_yes, lacks_rules, masks_fail, none_of, outputs_fail, overlaps_fail, places_against}
use Rattle.desk_checking.specs.Deciding.{EachCanDecide}
use Rattle.desk_checking.specs.Strict.{IsAnswered, IsTaken}
use Rattle.desk_checking.specs.declared.answers.Answers.{Answers}
use Rattle.desk_checking.specs.declared.answers.Faults.{Faults}

neither : (b c : Bool) → (b || c) ≡ false → (b ≡ false) × (c ≡ false)
neither true c e = let wrong : ⊥ = cc in absurd wrong
neither false c e = (refl, e)

not_no : (b : Bool) → not b ≡ false → b ≡ true
not_no true e = refl
not_no false e = let wrong : ⊥ = cc in absurd wrong

yes_of : (b c : Bool) → is_yes (none_of b c) ≡ true → (b ≡ false) × (c ≡ true)
yes_of true c e = let wrong : ⊥ = cc in absurd wrong
yes_of false true e = (refl, refl)
yes_of false false e = let wrong : ⊥ = cc in absurd wrong

is_nothing : {X : Type 0} (xs : List X) → not (is_empty xs) ≡ false → xs ≡ []
is_nothing [] e = refl
is_nothing (x ∷ xs) e = let wrong : ⊥ = cc in absurd wrong

is_zero : (n : ℕ) → nat_lt 0 n ≡ false → n ≡ 0
is_zero n e = grind (arith, nat_tests)

either : (b c : Bool) → (not b && c) ≡ false → (b ≡ true) ⊎ (c ≡ false)
either true c e = inl refl
either false c e = inr e

-- ---- some rule hits

all_hit : (t : Table) (asked : List Asked) (g : Gaps) → TellsGaps t asked g → is_yes (is_complete g) ≡ true → IsComplete t asked
all_hit t asked g tells h =
    let e = yes_of (nat_lt 0 g.more || not (is_empty g.found.items)) g.is_all h in
    let none = neither (nat_lt 0 g.more) (not (is_empty g.found.items)) e.0 in
    tells.complete e.1 (is_zero g.more none.0) (is_nothing g.found.items none.1)

answered_by : (t : Table) (comes : Option (List Asked)) (a : Answers) (o : Option Gaps) → IsFound t comes a → IfSome o (TellsGaps t a.kinds.items) → is_yes (is_complete (unwrap_or o a.every)) ≡ true → IsAnswered t comes
answered_by t comes a None found tells h = record { asked = found.whole; are = inr found.whole_are; complete = all_hit t found.whole a.every found.every h }
answered_by t comes a (Some g) found tells h = record { asked = a.kinds.items; are = inl found.kinds; complete = all_hit t a.kinds.items g tells h }

-- ---- no two rules hit

none_against : (rules : List Rule) (os : List Overlap) (answers : List (Option Bool)) (k : ℕ) → AreJudged Unique rules os answers → places_against k answers ≡ [] → os ≡ []
none_against rules [] [] k h e = refl
none_against rules [] (a ∷ answers) k h e = absurd h
none_against rules (o ∷ os) [] k h e = absurd h
none_against rules (o ∷ os) (Some true ∷ answers) k h e = let wrong : ⊥ = cc in absurd wrong
none_against rules (o ∷ os) (Some false ∷ answers) k h e = let not_so : Some false ≡ Some true = h.0 in let wrong : ⊥ = cc in absurd wrong
none_against rules (o ∷ os) (None ∷ answers) k h e = let not_so : None ≡ Some true = h.0 in let wrong : ⊥ = cc in absurd wrong

one_hit : (t : Table) (all : List Asked) (o : Option Overlaps) (faults : Faults) → t.policy ≡ Unique → is_some o ≡ counts_overlaps t.policy → IfSome o (TellsOverlaps t all) → AreFaults t o faults → overlaps_fail o faults ≡ false
    → IsUniqueAmong t all
one_hit t all None faults is counted tells against taken = let missing : false ≡ true = counted ∙ ap counts_overlaps is in let wrong : ⊥ = cc in absurd wrong
one_hit t all (Some o) faults is counted tells against taken =
    let outer = neither ((is_some faults.«open» || nat_lt 0 o.more) || not o.is_all) (not (is_empty faults.places.items)) taken in
    let inner = neither (is_some faults.«open» || nat_lt 0 o.more) (not o.is_all) outer.0 in
    tells.unique (not_no o.is_all inner.1)
    (none_against t.rules o.found.items against.answers 0 (subst (λ p. AreJudged p t.rules o.found.items against.answers) is against.judged)
    (sym against.places ∙ is_nothing faults.places.items outer.1))

-- ---- under `A` all rules that hit give the same

yes_is : (o : Option Bool) → not (is_yes o) ≡ false → o ≡ Some true
yes_is (Some true) e = refl
yes_is (Some false) e = let wrong : true ≡ false = e in let no : ⊥ = cc in absurd no
yes_is None e = let wrong : true ≡ false = e in let no : ⊥ = cc in absurd no

known_same : (p : HitPolicy) (same : Option Bool) → p ≡ Any → outputs_fail p same ≡ false → same ≡ Some true
known_same p same is passes = yes_is same (ap (λ q. outputs_fail q same) (sym is) ∙ passes)

-- ---- each rule can decide

all_decide : (t : Table) (idle : Option (Vec ℕ Global)) → IfSome idle (λ (is : Vec ℕ Global). is.items ≡ [] → EachCanDecide t) → idle_fail idle ≡ false → EachCanDecide t
all_decide t None h e = let wrong : true ≡ false = e in let no : ⊥ = cc in absurd no
all_decide t (Some is) h e = h (is_nothing is.items e)

-- ---- all of it

pub taken : (t : Table) (comes : Option (List Asked)) (a : Answers) → IsFound t comes a → is_refused t a ≡ false → IsTaken t comes
taken t comes a found passes =
    let both = neither (is_faulty t a) (outputs_fail t.policy a.same || idle_fail a.idle) passes in
    let rest = neither (outputs_fail t.policy a.same) (idle_fail a.idle) both.1 in
    let rules = neither (lacks_rules t a) (overlaps_fail a.overlaps a.faults || (not (is_empty a.never.items) || masks_fail a.masks)) both.0 in
    let overlaps = neither (overlaps_fail a.overlaps a.faults) (not (is_empty a.never.items) || masks_fail a.masks) rules.1 in
    record {
      answered =
          elim (either (is_yes (is_complete (gaps_of_kinds a))) (list_all (λ (c : Column). is_none c.fallback) t.outputs) rules.0) [
            | inl h ↦ inl (answered_by t comes a a.of_kinds found found.of_kinds h)
            | inr h ↦ inr h
          ];
      decide = all_decide t a.idle found.idle rest.1;
      same_hits = λ is. record { asked = found.whole; are = found.whole_are; same = found.same (known_same t.policy a.same is rest.0) };
      one_hit = λ is. record { asked = found.whole; are = found.whole_are; unique = one_hit t found.whole a.overlaps a.faults is found.counted found.overlaps found.faults overlaps.0 };
    }
