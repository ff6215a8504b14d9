-- Laws of what is served.
use Rattle.std.proofs.Common.{◌≡◌, ℕ, List, [], ◌∷◌, Option, refl, ap, ap₂, sym, ◌∙◌}
use Rattle.desk_requests.specs.Line.{Line, object_of, IsLawful, AreRead}
use Rattle.desk_wire.specs.Reading.{Reading}
use Rattle.desk_serving.specs.Script.{Served, of_client}
use Rattle.desk_requests.specs.Due.{answers}
use Rattle.desk_wire.proofs.ReadOnce.{read_once}
use Rattle.desk_requests.proofs.Readings.{one_line}

pub are_read_once : (lines : List (List ℕ)) (x y : List (Reading Line)) → AreRead lines x → AreRead lines y → x ≡ y
are_read_once [] [] [] h k = refl
are_read_once [] (x ∷ xs) y h k = absurd h
are_read_once [] [] (y ∷ ys) h k = absurd k
are_read_once (line ∷ lines) [] y h k = absurd h
are_read_once (line ∷ lines) (x ∷ xs) [] h k = absurd k
are_read_once (line ∷ lines) (x ∷ xs) (y ∷ ys) h k =
    ap₂ (λ reading readings. reading ∷ readings) (read_once object_of IsLawful one_line line x y h.0 k.0) (are_read_once lines xs ys h.1 k.1)

-- two outputs for one input and so many lanes have the same lines of each client, and of none, in the same order
pub one_output : (lanes : ℕ) (lines written other : List (List ℕ)) (output : Served lanes lines written) (again : Served lanes lines other) (who : Option (List ℕ))
    → of_client who output.said ≡ of_client who again.said
one_output lanes lines written other output again who =
    output.each who ∙ ap (λ readings. of_client who (answers lanes readings)) (are_read_once _ _ _ output.read again.read) ∙ sym (again.each who)
