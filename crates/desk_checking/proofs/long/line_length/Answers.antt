use Rattle.std.proofs.Common.{◌≡◌, ◌++◌, ℕ, List, arith, ap, length, refl}
use Rattle.std.specs.Prelude.{codes}
use Rattle.std.proofs.lemmas.List.{length-append}
use Rattle.serde_json.specs.Written.{compact_text}
use Rattle.desk_checking.proofs.long.line_length.Goals as goal

pub returns : goal.returns
returns c = λ d is.
    let text : List ℕ = compact_text d in
    let nine : length (codes "{\"model\":") ≡ 9 = refl in
    let one : length (codes "}") ≡ 1 = refl in
    omega (arith, ap length is, nine, one, length-append (codes "{\"model\":" ++ text) (codes "}"), length-append (codes "{\"model\":") text)
