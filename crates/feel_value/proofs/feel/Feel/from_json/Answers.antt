use Rattle.std.proofs.Common.{◌≡◌, ◌∙◌, sym, ap, ap₂, ◌&&◌, false, if◌then◌else◌, Ok, Err, inr}
use Rattle.serde_json.specs.View.{view}
use Rattle.feel_value.specs.Faults.{reading_of}
use Rattle.feel_value.specs.Limits.{is_value, keeps_size}
use Rattle.feel_value.specs.View.{datum_of}
use Rattle.feel_value.specs.declared.fault.ValueFault.TheVariants.{Size}
use Rattle.feel_value.proofs.Booleans.{and_true}
use Rattle.feel_value.proofs.JsonKeys.{distinct_from_json, range_from_json}
use Rattle.feel_value.proofs.feel.Feel.from_json.Goals as goal

pub returns-then-not-is_lawful : goal.returns-then-not-is_lawful
returns-then-not-is_lawful c =
    let d = datum_of c.in_ok-value.value in
    let in_range = range_from_json (view c.args.json.now) d c.in_ok-value.ensures.due in
    let distinct = distinct_from_json (view c.args.json.now) d c.in_ok-value.ensures.rising c.in_ok-value.ensures.due in
    let by_size : is_value d ≡ keeps_size d = ap₂ (λ a b. a && keeps_size d && b) in_range distinct ∙ and_true (keeps_size d) in
    let too_large : keeps_size d ≡ false = sym by_size ∙ sym c.is_lawful.ensures ∙ c.if-not-is_lawful.true in
    inr (sym (ap reading_of c.in_ok-value.ensures.due ∙ ap (λ b. if b then Ok d else Err Size) too_large))
