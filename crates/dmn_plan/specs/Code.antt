-- Internal, cited by no public contract: a code of requests, which gives them back.
use Rattle.std.specs.Prelude.{ℕ, List, refl}
use Rattle.std.specs.Coded.{Coded, code_by, coded×, coded_ℕ, coded_list}
use Rattle.feel_value.specs.Code.{datum_code}
use Rattle.feel_value.specs.Datum.{Datum}
use Rattle.dmn_plan.specs.Request.{Request}

abbrev pub request_code : Coded Request
request_code =
    code_by (List ℕ × (List ℕ × List Datum)) (coded× (coded_list coded_ℕ) (coded× (coded_list coded_ℕ) (coded_list datum_code)))
    (λ q. (q.text, (q.service, q.values))) (λ p. record { text = p.0; service = p.1.0; values = p.1.1 }) (λ _. refl)
