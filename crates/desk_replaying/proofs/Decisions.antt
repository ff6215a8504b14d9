-- What can be decided: whether a JSON value is a lawful line, and how a line of an input is read.
use Rattle.std.proofs.Common.{◌≢◌, ◌⊎◌, inr, ℕ, List, codes, refl, sym}
use Rattle.serde_json.specs.Data.{Data, no_members, member}
use Rattle.desk_replaying.specs.Line.{Line, Model, Open, Submit, Take, Answer, AnswerWith, Release, Close, Resize, object_of, IsLawful, Reads}
use Rattle.desk_wire.specs.Reading.{Reading}
use Rattle.desk_wire.proofs.Deciding.{Decision, by_turns, begins, is_object, is_string, is_unsigned, is_end, is_any, any_text, is_name, is_ticket, is_capacity, is_inputs, is_named, is_named_number, is_numbered_name, IsOf, IsSome, IsNone, or_else, reading_of}

is_model : (d : Data) → Decision (IsOf object_of IsLawful Data Model d)
is_model d =
    by_turns
    (λ q. let e = q.1 in let f = q.2.2 in let g = q.2.4 in (q.2.0, cc, tt))
    (λ p. (member (codes "model") p.0 no_members, sym p.1, (p.0, no_members, refl, tt, refl)))
    (is_object (begins (codes "model") is_any is_end) d)

is_submit : (d : Data) → Decision (IsOf object_of IsLawful (List ℕ × List ℕ × Data) (λ a. Submit a.0 a.1 a.2) d)
is_submit d =
    by_turns
    (λ q. let e = q.1 in let f = q.2.2 in let h = q.2.4.2 in let i = q.2.4.3.1 in let j = q.2.4.4.2 in let k = q.2.4.4.3.1 in let l = q.2.4.4.4 in
    ((q.2.4.4.3.0, q.2.4.3.0, q.2.0), cc, (q.2.4.4.3.2, q.2.3)))
    (λ p. (_, sym p.1, (_, _, refl, p.2.1, (_, _, refl, (p.0.1, refl, tt), (_, _, refl, (p.0.0, refl, p.2.0), refl)))))
    (is_object (begins (codes "inputs") is_inputs (begins (codes "service") (is_string any_text) (begins (codes "submit") (is_string is_name) is_end))) d)

abbrev answered : List ℕ × ℕ × List ℕ × Data → Line
answered a = AnswerWith a.0 a.1 a.2 a.3

is_answer_with : (d : Data) → Decision (IsOf object_of IsLawful (List ℕ × ℕ × List ℕ × Data) answered d)
is_answer_with d =
    by_turns
    (λ q. let e = q.1 in let f = q.2.2 in let g = q.2.3.1 in let h = q.2.4.2 in let j = q.2.4.4.2 in let k = q.2.4.4.3.1 in
    let l = q.2.4.4.4.2 in let m = q.2.4.4.4.3.1 in let n = q.2.4.4.4.4 in
    ((q.2.3.0, q.2.4.4.4.3.0, q.2.4.4.3.0, q.2.4.0), cc, (q.2.3.2, q.2.4.4.4.3.2, q.2.4.3)))
    (λ p. (_, sym p.1, (_, _, refl, (p.0.0, refl, p.2.0), (_, _, refl, p.2.2, (_, _, refl, (p.0.2, refl, tt), (_, _, refl, (p.0.1, refl, p.2.1), refl))))))
    (is_object (begins (codes "answer") (is_string is_name) (begins (codes "inputs") is_inputs
    (begins (codes "service") (is_string any_text) (begins (codes "ticket") (is_unsigned is_ticket) is_end)))) d)

-- ---- a value is a lawful line, or none

pub line_or_none : (d : Data) → IsSome object_of IsLawful d ⊎ IsNone object_of IsLawful d
line_or_none d =
    or_else object_of IsLawful Model (is_model d) (λ no_model.
    or_else object_of IsLawful (λ (a : List ℕ × ℕ). Open a.0 a.1) (is_numbered_name (codes "open") (codes "capacity") is_capacity d) (λ no_open.
    or_else object_of IsLawful (λ (a : List ℕ × List ℕ × Data). Submit a.0 a.1 a.2) (is_submit d) (λ no_submit.
    or_else object_of IsLawful (λ (a : List ℕ × ℕ). Take a.0 a.1) (is_named_number (codes "take") (codes "ticket") is_ticket d) (λ no_take.
    or_else object_of IsLawful (λ (a : List ℕ × ℕ). Answer a.0 a.1) (is_named_number (codes "answer") (codes "ticket") is_ticket d) (λ no_answer.
    or_else object_of IsLawful answered (is_answer_with d) (λ no_answer_with.
    or_else object_of IsLawful Release (is_named (codes "release") d) (λ no_release.
    or_else object_of IsLawful Close (is_named (codes "close") d) (λ no_close.
    or_else object_of IsLawful (λ (a : List ℕ × ℕ). Resize a.0 a.1) (is_numbered_name (codes "resize") (codes "capacity") is_capacity d) (λ no_resize.
    inr (none no_model no_open no_submit no_take no_answer no_answer_with no_release no_close no_resize))))))))))
  where
    none : ((a : Data) → IsLawful (Model a) → object_of (Model a) ≢ d)
        → ((a : List ℕ × ℕ) → IsLawful (Open a.0 a.1) → object_of (Open a.0 a.1) ≢ d)
        → ((a : List ℕ × List ℕ × Data) → IsLawful (Submit a.0 a.1 a.2) → object_of (Submit a.0 a.1 a.2) ≢ d)
        → ((a : List ℕ × ℕ) → IsLawful (Take a.0 a.1) → object_of (Take a.0 a.1) ≢ d)
        → ((a : List ℕ × ℕ) → IsLawful (Answer a.0 a.1) → object_of (Answer a.0 a.1) ≢ d)
        → ((a : List ℕ × ℕ × List ℕ × Data) → IsLawful (answered a) → object_of (answered a) ≢ d)
        → ((a : List ℕ) → IsLawful (Release a) → object_of (Release a) ≢ d)
        → ((a : List ℕ) → IsLawful (Close a) → object_of (Close a) ≢ d)
        → ((a : List ℕ × ℕ) → IsLawful (Resize a.0 a.1) → object_of (Resize a.0 a.1) ≢ d)
        → IsNone object_of IsLawful d
    none m o s t a w r c z (Model json) = m json
    none m o s t a w r c z (Open name n) = o (name, n)
    none m o s t a w r c z (Submit name service inputs) = s (name, service, inputs)
    none m o s t a w r c z (Take name n) = t (name, n)
    none m o s t a w r c z (Answer name n) = a (name, n)
    none m o s t a w r c z (AnswerWith name n service inputs) = w (name, n, service, inputs)
    none m o s t a w r c z (Release name) = r name
    none m o s t a w r c z (Close name) = c name
    none m o s t a w r c z (Resize name n) = z (name, n)

-- every text has a reading
pub a_reading : (text : List ℕ) → (reading : Reading Line) × Reads text reading
a_reading text = reading_of object_of IsLawful line_or_none text
