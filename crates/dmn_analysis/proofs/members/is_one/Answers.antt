use Rattle.std.proofs.Common.{◌≡◌, true, subst, rules, FitsSigned, to_z, of_z, w64}
use Rattle.std.proofs.lemmas.Int.{to_z-of_z}
use Rattle.feel_value.specs.Comparison.{equal}
use Rattle.feel_value.specs.Datum.{Datum, number}
use Rattle.feel_value.specs.Logic.{is_yes}
use Rattle.dmn_analysis.specs.Classes.{is_of}
use Rattle.dmn_analysis.proofs.members.is_one.Goals as goal

pub returns-in-Some : goal.returns-in-Some
returns-in-Some c =
    let n = c.in-Some.number in
    let fits : FitsSigned w64 n = search rules in
    record {
      value = number n;
      means = c.in-Some.ensures.some;
      plain = c.in-Some.ensures.range;
      each = subst (λ z. (v : Datum) → is_of c.args.class.now v ≡ true → is_yes (equal v (number z)) ≡ c.in_ok-same.same) (to_z-of_z w64 n fits) c.in_ok-same.ensures;
    }
