use Rattle.std.proofs.Common.{arith, ◌≤◌, ◌<◌, ◌≡◌, ◌∙◌, ◌^◌, max, min, ap, sym, subst, ℕ, Option, Some, None, option_map}
use Rattle.std.proofs.Math.Nat.{le-max_left, max-le, max-eq_right, min-le_right, min-eq_left, lt_of_le_of_lt}
use Rattle.std.proofs.lemmas.Result.{OkIff-at_ok, OkIff-at_err}
use Rattle.std.specs.Str.Parse.{digits_value, without_leading_plus}
use Rattle.clap.specs.Words.{Text, IsUnsignedIn, first_of, found_of, rows_of}
use Rattle.clap.proofs.WalkLemmas.{first_value-rows}
use Rattle.desk_commands.specs.CommandLine.{IsNumberOf}
use Rattle.desk_commands.proofs.options.number_of.Goals as goal

left_out : (top : ℕ) (text : Option Text) → 1 ≤ top → None ≡ text → IsNumberOf top text top
left_out top text least is = subst (λ t. IsNumberOf top t top) is (record { least = least; most = omega arith; said = search })

given : (top number : ℕ) (said : Text) (text : Option Text) → 1 ≤ number → number ≤ top → Some said ≡ text
    → (IsUnsignedIn 1 top said → number ≡ digits_value 10 (without_leading_plus said)) → IsNumberOf top text number
given top number said text least most is reads = subst (λ t. IsNumberOf top t number) is (record { least = least; most = most; said = reads })

within : (n top : ℕ) → 1 ≤ n → n ≤ top → max 1 (min n top) ≡ n
within n top least most = ap (max 1) (min-eq_left most) ∙ max-eq_right least

pub returns-in_default : goal.returns-in_default
returns-in_default c =
    let none : None ≡ first_of c.args.name.now (rows_of (found_of c.args.matches.now)) = ap (option_map (λ s. s.now)) (sym c.in_default.is)
    ∙ c.get_str.ensures ∙ first_value-rows (found_of c.args.matches.now) c.args.name.now in
    left_out _ _ c.requires.some none

pub returns-in-Ok : goal.returns-in-Ok
returns-in-Ok c =
    let some : Some c.in-Some.text.now ≡ first_of c.args.name.now (rows_of (found_of c.args.matches.now)) = ap (option_map (λ s. s.now)) (sym c.in-Some.is)
    ∙ c.get_str.ensures ∙ first_value-rows (found_of c.args.matches.now) c.args.name.now in
    let parsed = OkIff-at_ok _ _ _ _ c.parse.ensures.value.0 c.in-Ok.is in
    rw c.clamp.ensures (given _ _ c.in-Some.text.now _ (le-max_left 1 _) (max-le c.requires.some (min-le_right c.in-Ok.number c.args.most)) some
    (λ is. ap (λ n. max 1 (min n c.args.most)) parsed.1 ∙ within _ _ is.2 is.3))

pub returns-in-Err : goal.returns-in-Err
returns-in-Err c =
    let some : Some c.in-Some.text.now ≡ first_of c.args.name.now (rows_of (found_of c.args.matches.now)) = ap (option_map (λ s. s.now)) (sym c.in-Some.is)
    ∙ c.get_str.ensures ∙ first_value-rows (found_of c.args.matches.now) c.args.name.now in
    let bound : c.args.most < 2 ^ 32 = c.ranges.most.fits in
    given _ _ c.in-Some.text.now _ c.requires.some (omega arith) some (λ is. absurd (OkIff-at_err _ _ _ _ c.parse.ensures.value.0 c.in-Err.is (is.0, lt_of_le_of_lt is.3 bound)))
