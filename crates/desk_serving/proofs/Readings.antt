-- Every input has an output that is served.
use Rattle.std.proofs.Common.{ℕ, List, reverse, refl}
use Rattle.desk_requests.proofs.Readings.{are_read}
use Rattle.desk_requests.specs.Due.{answers}
use Rattle.desk_serving.specs.Script.{Served, texts_of}

-- every input has an output, however many lanes there are
pub an_output : (lanes : ℕ) (lines : List (List ℕ)) → (written : List (List ℕ)) × Served lanes lines written
an_output lanes lines =
    let r = are_read (reverse lines) in
    (texts_of (answers lanes r.0), record { readings = r.0; read = r.1; said = answers lanes r.0; output = refl; each = λ who. refl })
